use Rattle.std.proofs.Common.{◌≡◌, ◌++◌, map, drop}
use Rattle.eds_read_comp.proofs.end.push_ends.Given as goal

abbrev pub invariant-loop-node : goal.invariant-loop-node
invariant-loop-node l = l.ends.items ++ map (λ n. record { node = n; required = l.required }) (drop l.node-index l.node-items) ≡ l.initial.ends.items ++ map (λ n. record { node = n; required = l.required }) l.node-items
