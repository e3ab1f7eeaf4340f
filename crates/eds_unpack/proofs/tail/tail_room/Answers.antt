use Rattle.std.proofs.Common.{refl, sym}
use Rattle.eds_bits.specs.Reader.{bits_left}
use Rattle.eds_unpack.specs.Courses.{progress_of}
use Rattle.eds_unpack.proofs.tail.tail_room.Goals as goal

pub returns-clause-value : goal.returns-clause-value
returns-clause-value c = λ i p. c.tail_octets_left.ensures.value (progress_of c.args.reached.now (bits_left c.args.reader.now)) i p refl (sym c.bits_before-before.ensures)
