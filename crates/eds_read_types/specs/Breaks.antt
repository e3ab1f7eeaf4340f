-- What breaks a rule at a place, at one type of a file, and over all types.
use Rattle.std.specs.Prelude.{ℕ, ◌+◌, List, [], ◌∷◌, ◌++◌, Bool, if◌then◌else◌, Option, Some, None, slice_get}
use Rattle.std.specs.List.{flat_map}
use Rattle.eds_base.specs.declared.ids.Place.{Place}
use Rattle.eds_base.specs.declared.refusal.Refusal.{Refusal}
use Rattle.eds_base.specs.declared.refusal.Kept.TheVariants.{Nothing}
use Rattle.eds_base.specs.declared.rule.Rule.{Rule}
use Rattle.eds_tree.specs.declared.tree.Node.{Node}
use Rattle.eds_tree.specs.Breaks.{refusal_at}
use Rattle.eds_names.specs.LookUp.{Names}
use Rattle.eds_type_rows.specs.Places.{type_places}

-- ---- refusals at a place

-- a rule is broken at a place, and a word is kept
abbrev pub broken_with : Rule → Place → List ℕ → Refusal
broken_with rule at word = refusal_at rule at.file at.node word

-- a rule is broken at a place, and nothing is kept
abbrev pub broken : Rule → Place → Refusal
broken rule at = record { rule = rule; place = at; kept = Nothing }

-- ---- rules at one type of a file

-- the refusal at a place, where a rule is broken there
abbrev pub broken_where : Bool → Rule → Place → List Refusal
broken_where fails rule at = if fails then broken rule at ∷ [] else []

-- what breaks a rule at a place of a file, and nothing where there is no such file
abbrev pub breaks_in : (List Node → Place → List Refusal) → Option (List Node) → Place → List Refusal
breaks_in breaks None at = []
breaks_in breaks (Some t) at = breaks t at

-- a rule that is judged at one type of a file, at a place
abbrev pub breaks_at : (List Node → Place → List Refusal) → List (List Node) → Names → Place → List Refusal
breaks_at breaks trees names at = breaks_in breaks (slice_get trees at.file) at

-- the same over all types
abbrev pub breaks_each : (List Node → Place → List Refusal) → List (List Node) → Names → List Refusal
breaks_each breaks trees names = flat_map (breaks_at breaks trees names) (type_places names)

-- ---- rules on types by their numbers

-- a rule that is judged at a type by its number and place, over some types, of which the first has the number n
abbrev pub breaks_over : (ℕ → Place → List Refusal) → ℕ → List Place → List Refusal
breaks_over breaks n [] = []
breaks_over breaks n (at ∷ ats) = breaks n at ++ breaks_over breaks (n + 1) ats
