use Rattle.std.proofs.Common.{◌≡◌, ℕ, List, drop}
use Rattle.std.specs.HashMap.{get_by_text}
use Rattle.eds_types.specs.Rows.{or_else}
use Rattle.eds_plan.specs.Ends.{ends_from, first_called}
use Rattle.eds_plan.proofs.ends.note_ends.Given as goal

abbrev pub invariant-loop-end : goal.invariant-loop-end
invariant-loop-end l = (q : List ℕ) → or_else (get_by_text l.index q) (first_called (ends_from l.component.name l.initial.comp l.face (drop l.end-index l.end-items)) q) ≡ or_else (get_by_text l.initial.index q) (first_called (ends_from l.component.name l.initial.comp 0 l.component.ends) q)
