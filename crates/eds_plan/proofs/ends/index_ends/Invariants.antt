use Rattle.std.proofs.Common.{◌≡◌, ℕ, List, drop}
use Rattle.std.specs.HashMap.{get_by_text}
use Rattle.eds_types.specs.Rows.{or_else}
use Rattle.eds_plan.specs.Ends.{all_ends, first_called}
use Rattle.eds_plan.proofs.ends.index_ends.Given as goal

abbrev pub invariant-loop-component : goal.invariant-loop-component
invariant-loop-component l = (q : List ℕ) → or_else (get_by_text l.index q) (first_called (all_ends l.comp (drop l.component-index l.component-items)) q) ≡ first_called (all_ends 0 l.plan) q
