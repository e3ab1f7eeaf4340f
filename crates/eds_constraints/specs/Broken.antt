-- Containers of which a constraint breaks a rule.
use Rattle.std.specs.Prelude.{ℕ, List, ◌++◌, Bool, is_some}
use Rattle.std.specs.List.{flat_map}
use Rattle.eds_base.specs.declared.refusal.Refusal.{Refusal}
use Rattle.eds_base.specs.Refusals.{least}
use Rattle.eds_types.specs.Rows.{Table}
use Rattle.eds_constraints.specs.Breaks.{Lists, posed_of, target_at, value_at, empties_of}

-- what breaks ConstraintTarget, ConstraintValue and ConstraintEmpty at the constraints of one container
abbrev pub breaks_of : Table → Lists → ℕ → List Refusal
breaks_of t lists id = flat_map (target_at t) (posed_of t lists id) ++ (flat_map (value_at t) (posed_of t lists id) ++ empties_of t lists id)

-- a constraint of the container breaks one of them
abbrev pub is_broken : Table → Lists → ℕ → Bool
is_broken t lists id = is_some (least (breaks_of t lists id))
