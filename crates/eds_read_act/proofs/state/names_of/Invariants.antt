use Rattle.std.proofs.Common.{◌≡◌, ◌++◌, map, drop, codes}
use Rattle.eds_read_act.specs.Inside.{text_at}
use Rattle.eds_read_act.proofs.state.names_of.Given as goal

abbrev pub invariant-loop-node : goal.invariant-loop-node
invariant-loop-node l = l.names.items ++ map (λ n. text_at l.tree n (codes "name")) (drop l.node-index l.nodes) ≡ map (λ n. text_at l.tree n (codes "name")) l.nodes
