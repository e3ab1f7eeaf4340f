-- Where octets came there is a file.
use Rattle.std.proofs.Common.{refl}
use Rattle.eds_io.specs.Files.{file_named}
use Rattle.eds_io.proofs.Begins.{no-piece}
use Rattle.eds_io.proofs.piece.read_piece.Goals as goal

pub returns-in-Bytes-clause-missing : goal.returns-in-Bytes-clause-missing
returns-in-Bytes-clause-missing g c = λ told known lacks.
    absurd (no-piece (file_named c.args.name.now told) c.args.from c.in-Bytes.n c.read_at.new.room lacks (c.in-Bytes.ensures.octets told c.in-Bytes.n known refl))
