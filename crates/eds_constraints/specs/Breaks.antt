-- What breaks the rules on constraints, over the rows of types without constraints and what their containers ask, each at the
-- number of its type. The place is that of the constraint, and nothing is kept.
use Rattle.std.specs.Prelude.{ℕ, List, [], ◌∷◌, ◌++◌, map, Bool, false, if◌then◌else◌, Option, Some, None, is_some, slice_get}
use Rattle.std.specs.List.{flat_map}
use Rattle.eds_base.specs.Reading.{◌>>=◌, same}
use Rattle.eds_base.specs.declared.refusal.Kept.TheVariants.{Nothing}
use Rattle.eds_base.specs.declared.refusal.Refusal.{Refusal}
use Rattle.eds_base.specs.declared.rule.Rule.{Rule}
use Rattle.eds_base.specs.declared.rule.Rule.TheVariants.{ConstraintTarget, ConstraintValue, ConstraintEmpty}
use Rattle.eds_base.specs.declared.spans.Span.{Span}
use Rattle.eds_types.specs.Rows.{Table, base_of, chain_before, chain_within, numbers}
use Rattle.eds_constraints.specs.declared.asked.Aim.{Aim}
use Rattle.eds_constraints.specs.declared.asked.Asked.{Asked}
use Rattle.eds_domains.specs.Domains.{has_none}
use Rattle.eds_constraints.specs.Paths.{aim_of}
use Rattle.eds_constraints.specs.Sets.{all_numbers, met, set_of}

-- a rule is broken at a constraint
abbrev pub broken : Rule → Asked → Refusal
broken rule asked = record { rule = rule; place = asked.place; kept = Nothing }

-- the lists of all containers
abbrev pub Lists : Type 0
Lists = List (List Asked)

-- a list, where there is one
abbrev pub list_or_none : Option (List Asked) → List Asked
list_or_none None = []
list_or_none (Some asked) = asked

-- what the container of a number asks
abbrev pub asked_of : Lists → ℕ → List Asked
asked_of lists id = list_or_none (slice_get lists id)

-- ---- one constraint

-- a constraint, with the base of the container that has it
pub record Posed : Type 0 where
  pub base : Option ℕ
  pub asked : Asked

-- a constraint of a container with this base
abbrev pub posed_by : Option ℕ → Asked → Posed
posed_by base asked = record { base = base; asked = asked }

-- where it leads
abbrev pub aim_at : Table → Posed → Option Aim
aim_at t c = aim_of t c.base c.asked

-- the numbers that it admits; none where it leads nowhere, or stands for nothing
abbrev pub admitted : Table → Posed → Option (List Span)
admitted t c = aim_at t c >>= λ aim. set_of t aim.target.0 c.asked.test

-- the constraints of a container
abbrev pub posed_of : Table → Lists → ℕ → List Posed
posed_of t lists id = map (posed_by (base_of t id)) (asked_of lists id)

-- ConstraintTarget: it leads nowhere
abbrev pub target_at : Table → Posed → List Refusal
target_at t c = if is_some (aim_at t c) then [] else broken ConstraintTarget c.asked ∷ []

-- ConstraintValue: it leads to an entry, and stands for nothing there
abbrev pub value_at : Table → Posed → List Refusal
value_at t c = if is_some (aim_at t c) then (if is_some (admitted t c) then [] else broken ConstraintValue c.asked ∷ []) else []

-- ---- those on one path

-- the numbers of a set that has some
abbrev pub some_of : List Span → Option (List Span)
some_of [] = None
some_of (s ∷ spans) = Some (s ∷ spans)

-- what is left on a path behind one more constraint. Nothing is judged there any more where one before it was refused, where it is
-- refused itself, or where it leaves no number and is refused for that.
abbrev pub left_by : Option (List Span) → Option (List Span) → Option (List Span)
left_by None set = None
left_by (Some left) None = None
left_by (Some left) (Some set) = some_of (met left set)

-- the same behind a constraint that may be on another path
abbrev pub left_behind : Table → List ℕ → Option (List Span) → Posed → Option (List Span)
left_behind t path left c = if same c.asked.path path then left_by left (admitted t c) else left

-- and behind some constraints, in order
abbrev pub left_after : Table → List ℕ → Option (List Span) → List Posed → Option (List Span)
left_after t path left [] = left
left_after t path left (c ∷ cs) = left_after t path (left_behind t path left c) cs

-- what some constraints leave on a path
abbrev pub left_on : Table → List ℕ → List Posed → Option (List Span)
left_on t path cs = left_after t path (Some all_numbers) cs

-- a set has no number of what is left
abbrev pub is_emptied : Option (List Span) → Option (List Span) → Bool
is_emptied None set = false
is_emptied (Some left) None = false
is_emptied (Some left) (Some set) = has_none (met left set)

-- ConstraintEmpty, by whether a constraint leaves nothing
abbrev pub empty_by : Bool → Asked → List Refusal
empty_by emptied asked = if emptied then broken ConstraintEmpty asked ∷ [] else []

-- ConstraintEmpty: a constraint leaves none of the numbers that those before it leave on its path
abbrev pub empty_at : Table → (before : List Posed) → Posed → List Refusal
empty_at t before c = empty_by (is_emptied (left_on t c.asked.path before) (admitted t c)) c.asked

-- the same of each of some constraints, each with those before it
abbrev pub empties_after : Table → (before : List Posed) → List Posed → List Refusal
empties_after t before [] = []
empties_after t before (c ∷ cs) = empty_at t before c ++ empties_after t (before ++ c ∷ []) cs

-- ---- containers

-- the bases of a type, from the root down
abbrev pub bases_of : Table → ℕ → List ℕ
bases_of t id = chain_before (chain_within 15 t) (base_of t id)

-- the constraints of the bases of a container
abbrev pub posed_above : Table → Lists → ℕ → List Posed
posed_above t lists id = flat_map (posed_of t lists) (bases_of t id)

-- the constraints of a container that leave no number
abbrev pub empties_of : Table → Lists → ℕ → List Refusal
empties_of t lists id = empties_after t (posed_above t lists id) (posed_of t lists id)

-- ---- all of them

-- what breaks a rule that is judged at one constraint at a time
abbrev pub breaks_over : (Posed → List Refusal) → Table → Lists → List Refusal
breaks_over breaks t lists = flat_map (λ id. flat_map breaks (posed_of t lists id)) (numbers t)

-- what breaks ConstraintTarget: no base, a path that doesn't lead to an entry, or one of another kind than such a constraint is on
abbrev pub breaks_target : Table → Lists → List Refusal
breaks_target t lists = breaks_over (target_at t) t lists

-- what breaks ConstraintValue: a text that is no number, label or flag as the entry asks, or a type that is not the entry's and
-- doesn't derive from it
abbrev pub breaks_value : Table → Lists → List Refusal
breaks_value t lists = breaks_over (value_at t) t lists

-- what breaks ConstraintEmpty: the numbers of the entry's domain that all constraints of the chain with the same path admit, down to
-- this one, are none; judged only where no earlier one of them breaks a rule on constraints
abbrev pub breaks_empty : Table → Lists → List Refusal
breaks_empty t lists = flat_map (empties_of t lists) (numbers t)
