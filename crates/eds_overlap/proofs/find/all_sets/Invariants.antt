use Rattle.std.proofs.Common.{◌≡◌, ℕ, List, Some, length}
use Rattle.std.specs.Prelude.{slice_get}
use Rattle.eds_types.specs.declared.sets.PathSet.{PathSet}
use Rattle.eds_types.specs.Fields.{constraints_along}
use Rattle.eds_overlap.specs.Pairs.{AreSets}
use Rattle.eds_overlap.proofs.find.all_sets.Given as goal

abbrev pub invariant-loop-id : goal.invariant-loop-id
invariant-loop-id l = (length l.all ≡ l.id) × ((k : ℕ) (some : List PathSet) → slice_get l.all k ≡ Some some → AreSets l.table (constraints_along l.table k) some)
