use Rattle.std.proofs.Common.{◌≡◌, ◌≤◌, drop}
use Rattle.eds_read_act.specs.Scopes.{scope_of}
use Rattle.eds_read_act.specs.TypeMismatch.{leaves}
use Rattle.eds_read_act.proofs.type_mismatch.leaves.Given as goal

abbrev pub invariant-loop-at : goal.invariant-loop-at
invariant-loop-at l = record { few : l.left ≤ l.at; rest : leaves (scope_of l.scope) l.left (drop l.at l.items) ≡ leaves (scope_of l.scope) 0 l.items }
