use Rattle.std.proofs.Common.{◌≡◌, drop, reverse}
use Rattle.eds_graph.specs.Stacks.{pushed}
use Rattle.eds_graph.proofs.stack.Stack.push_all.Given as goal

abbrev pub invariant-loop-item : goal.invariant-loop-item
invariant-loop-item g l = pushed (drop l.item-index l.items) (reverse l.self-inside.inner.items) ≡ pushed l.items (reverse l.initial.self-inside.inner.items)
