-- All rules on the types of a sheet.
use Rattle.std.specs.Prelude.{ℕ, List, [], ◌∷◌, Option}
use Rattle.eds_base.specs.declared.refusal.Refusal.{Refusal}
use Rattle.eds_tree.specs.declared.tree.Node.{Node}
use Rattle.eds_names.specs.LookUp.{Names}
use Rattle.eds_read_types.specs.Judging.{breaks_by_phase}
use Rattle.eds_read_types.specs.Unresolved.{breaks_unresolved}
use Rattle.eds_read_types.specs.WrongKind.{breaks_kind}
use Rattle.eds_read_types.specs.FaceRules.{breaks_face_unresolved, breaks_face_kind, breaks_face_open}
use Rattle.eds_read_types.specs.BaseCycle.{breaks_cycle}
use Rattle.eds_read_types.specs.LimitChain.{breaks_chain}
use Rattle.eds_read_types.specs.TypeCycle.{breaks_type_cycle}
use Rattle.eds_read_types.specs.LimitFamily.{breaks_family}
use Rattle.eds_read_types.specs.LimitNesting.{breaks_nesting}
use Rattle.eds_read_types.specs.LimitItems.{breaks_items}
use Rattle.eds_read_types.specs.BadEncoding.{breaks_encoding}
use Rattle.eds_read_types.specs.EmptyRange.{breaks_range, breaks_sub_range}
use Rattle.eds_read_types.specs.BadEnumeration.{breaks_enumeration}
use Rattle.eds_read_types.specs.EmptyType.{breaks_empty}
use Rattle.eds_read_types.specs.DuplicateEntry.{breaks_duplicate}
use Rattle.eds_read_types.specs.ListField.{breaks_list_field}
use Rattle.eds_read_types.specs.LengthField.{breaks_length}
use Rattle.eds_read_types.specs.FixedValue.{breaks_fixed}
use Rattle.eds_read_types.specs.ErrorControl.{breaks_check}
use Rattle.eds_read_types.specs.ConstraintRules.{breaks_constraints}
use Rattle.eds_read_types.specs.OpenConstraint.{breaks_open_constraint}

-- what breaks each rule, in the phases in which they are judged
abbrev pub rules : List (List Node) → Names → (word : Option (List ℕ)) → List (List (List Refusal))
rules trees names word =
    (breaks_unresolved trees names word ∷ breaks_kind trees names word ∷ breaks_face_unresolved trees names ∷ breaks_face_kind trees names ∷ [])
    ∷ (breaks_cycle trees names ∷ breaks_chain trees names ∷ breaks_type_cycle trees names ∷ breaks_family trees names ∷ breaks_nesting trees names ∷ breaks_items trees names ∷ [])
    ∷ (breaks_encoding trees names ∷ breaks_range trees names ∷ breaks_sub_range trees names ∷ breaks_enumeration trees names ∷ [])
    ∷ (breaks_empty trees names word ∷ breaks_duplicate trees names ∷ breaks_list_field trees names ∷ breaks_length trees names ∷ breaks_fixed trees names ∷ breaks_check trees names ∷ breaks_constraints trees names ∷ breaks_face_open trees names ∷ breaks_open_constraint trees names ∷ [])
    ∷ []

-- All breaks of these rules, each phase judged only where no phase before it is broken.
abbrev pub table_breaks : List (List Node) → Names → (word : Option (List ℕ)) → List Refusal
table_breaks trees names word = breaks_by_phase (rules trees names word)
