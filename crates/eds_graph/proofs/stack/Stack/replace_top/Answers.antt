use Rattle.std.proofs.Common.{ap, ◌∙◌, arith, ◌-◌}
use Rattle.eds_graph.specs.Stacks.{with_top}
use Rattle.eds_graph.proofs.Stacking.{set-last}
use Rattle.eds_graph.proofs.stack.Stack.replace_top.Goals as goal

pub returns-then-items-gt0 : goal.returns-then-items-gt0
returns-then-items-gt0 g c = set-last c.self.inside.inner.items c.args.item (c.len-items.result - 1) (omega arith) ∙ ap (with_top c.args.item) c.self.view_is
