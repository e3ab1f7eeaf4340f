-- A reference to a type finds something.
use Rattle.std.specs.Prelude.{ℕ, List, [], ◌∷◌, Option, Some, None}
use Rattle.eds_base.specs.declared.ids.Place.{Place}
use Rattle.eds_base.specs.declared.refusal.Refusal.{Refusal}
use Rattle.eds_base.specs.declared.rule.Rule.TheVariants.{Unresolved}
use Rattle.eds_tree.specs.declared.tree.Node.{Node}
use Rattle.eds_names.specs.declared.declared.Item.{Item}
use Rattle.eds_names.specs.LookUp.{Names, look_up}
use Rattle.eds_read_types.specs.References.{ReferenceJudgement, at_references}
use Rattle.eds_read_types.specs.Breaks.{broken_with}

-- what breaks Unresolved at one reference, by the item that it finds, if it finds one
abbrev pub unresolved_by : Place → List ℕ → Option Item → List Refusal
unresolved_by at text None = broken_with Unresolved at text ∷ []
unresolved_by at text (Some found) = []

-- at one reference
abbrev pub unresolved_at : List (List Node) → Names → ReferenceJudgement
unresolved_at trees names at text wanted = unresolved_by at text (look_up names at text)

-- at all references
abbrev pub breaks_unresolved : List (List Node) → Names → (word : Option (List ℕ)) → List Refusal
breaks_unresolved trees names word = at_references (unresolved_at trees names) trees word
