-- What a reference finds is a type of the kind that is wanted. The rule is judged where it finds something.
use Rattle.std.specs.Prelude.{ℕ, List, [], ◌∷◌, if◌then◌else◌, Option, Some, None}
use Rattle.eds_base.specs.declared.ids.Place.{Place}
use Rattle.eds_base.specs.declared.refusal.Refusal.{Refusal}
use Rattle.eds_base.specs.declared.rule.Rule.TheVariants.{WrongKind}
use Rattle.eds_tree.specs.declared.tree.Node.{Node}
use Rattle.eds_names.specs.declared.declared.Item.{Item}
use Rattle.eds_names.specs.LookUp.{Names, look_up}
use Rattle.eds_read_types.specs.declared.reference_row.Wanted.{Wanted}
use Rattle.eds_read_types.specs.References.{ReferenceJudgement, at_references, type_of, admits}
use Rattle.eds_read_types.specs.Breaks.{broken_with}

-- what breaks WrongKind at one reference, by the element of the type that it finds; what it finds besides is no type
abbrev pub kind_by : List (List Node) → Place → List ℕ → Wanted → Option Place → List Refusal
kind_by trees at text wanted None = broken_with WrongKind at text ∷ []
kind_by trees at text wanted (Some found) = if admits trees wanted found then [] else broken_with WrongKind at text ∷ []

-- what breaks WrongKind at one reference, by the item that it finds; where it finds nothing, Unresolved is broken instead
abbrev pub wrong_kind_by : List (List Node) → Names → Place → List ℕ → Wanted → Option Item → List Refusal
wrong_kind_by trees names at text wanted None = []
wrong_kind_by trees names at text wanted (Some found) = kind_by trees at text wanted (type_of names found)

-- at one reference
abbrev pub wrong_kind_at : List (List Node) → Names → ReferenceJudgement
wrong_kind_at trees names at text wanted = wrong_kind_by trees names at text wanted (look_up names at text)

-- at all references
abbrev pub breaks_kind : List (List Node) → Names → (word : Option (List ℕ)) → List Refusal
breaks_kind trees names word = at_references (wrong_kind_at trees names) trees word
