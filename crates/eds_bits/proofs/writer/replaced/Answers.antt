use Rattle.eds_bits.proofs.Windows.{replaced_number}
use Rattle.eds_bits.proofs.writer.replaced.Goals as goal

pub returns : goal.returns
returns c = rw (c.from.ensures, c.lowest.ensures) (replaced_number c.args.number c.args.pad c.args.n c.args.v c.requires.size c.requires.pad c.requires.small c.requires.fits)
