use Rattle.std.proofs.Common.{arith}
use Rattle.eds_unpack.specs.Selectors.{MayBe}
use Rattle.eds_unpack.proofs.Hulls.{all_kept}
use Rattle.eds_unpack.proofs.selector.stretch_of.Goals as goal

pub returns : goal.returns
returns c = λ t x path hulls n h. all_kept (MayBe t x path n) c.args.hulls.now c.loop-hull.hull-index c.loop-hull.members (omega arith) (c.loop-hull.invariant t x path hulls n h)
