use Rattle.std.proofs.Common.{◌≡◌, ℕ, length, Some}
use Rattle.std.specs.Prelude.{slice_get}
use Rattle.eds_constraints.specs.declared.left.Left.{Left}
use Rattle.eds_constraints.specs.Lefts.{IsLeftOf}
use Rattle.eds_constraints.proofs.left.all_lefts.Given as goal

abbrev pub invariant-loop-id : goal.invariant-loop-id
invariant-loop-id l = (length l.lefts ≡ l.id) × ((id : ℕ) (left : Left) → slice_get l.lefts id ≡ Some left → IsLeftOf l.rows.rows.now l.rows.lists.now id left)
