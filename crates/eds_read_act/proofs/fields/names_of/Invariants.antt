use Rattle.std.proofs.Common.{◌≡◌, ◌++◌, map, drop}
use Rattle.eds_read_act.specs.Scopes.{Field}
use Rattle.eds_read_act.proofs.fields.names_of.Given as goal

abbrev pub invariant-loop-name : goal.invariant-loop-name
invariant-loop-name l = l.names.items ++ map (λ (x : Field). x.0) (drop l.name-index l.list) ≡ map (λ (x : Field). x.0) l.list
