use Rattle.std.proofs.Common.{◌≡◌, ◌++◌, filter, drop, is_some}
use Rattle.eds_types.specs.Rows.{base_of}
use Rattle.eds_nesting.proofs.endless.endless.Given as goal

abbrev pub invariant-loop-name : goal.invariant-loop-name
invariant-loop-name l = l.endless.items ++ filter (λ name. is_some (base_of l.rows name)) (drop l.name-index l.families) ≡ filter (λ name. is_some (base_of l.rows name)) l.families
