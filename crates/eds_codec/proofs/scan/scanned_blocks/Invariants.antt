use Rattle.eds_bits.specs.Reader.{bits_left}
use Rattle.eds_codec.proofs.Blocks.{Scanned}
use Rattle.eds_codec.proofs.scan.scanned_blocks.Given as goal

abbrev pub invariant-loop-left : goal.invariant-loop-left
invariant-loop-left l = Scanned l.form.stop l.form.ascii l.most (bits_left l.fn.reader) (bits_left l.ahead) l.coding l.size l.left

abbrev pub decreases-loop-left : goal.decreases-loop-left
decreases-loop-left l = l.left
