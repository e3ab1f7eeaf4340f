use Rattle.std.proofs.Common.{◌≡◌, ◌-◌, length}
use Rattle.std.specs.List.{flat_map, range_with_len}
use Rattle.eds_base.specs.Refusals.{least, first_of}
use Rattle.eds_constraints.specs.Breaks.{posed_of, breaks_over}
use Rattle.eds_constraints.proofs.breaks.least_over.Given as goal

abbrev pub invariant-loop-id : goal.invariant-loop-id
invariant-loop-id g l = first_of l.found (least (flat_map (λ id. flat_map (g.R.ConstraintRule.breaks l.rows.rows.now) (posed_of l.rows.rows.now l.rows.lists.now id)) (range_with_len l.id (length l.rows.rows.now - l.id)))) ≡ least (breaks_over (g.R.ConstraintRule.breaks l.rows.rows.now) l.rows.rows.now l.rows.lists.now)
