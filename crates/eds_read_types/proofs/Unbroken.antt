-- What each rule says of a sheet that breaks none.
use Rattle.std.proofs.Common.{◌≡◌, ℕ, List, [], ◌∷◌, Option, refl}
use Rattle.std.specs.List.{AllByRecursion, flat_map}
use Rattle.eds_base.specs.declared.refusal.Refusal.{Refusal}
use Rattle.eds_tree.specs.declared.tree.Node.{Node}
use Rattle.eds_names.specs.LookUp.{Names}
use Rattle.eds_constraints.specs.Breaks.{breaks_target, breaks_value, breaks_empty}
use Rattle.eds_read_types.specs.declared.reference_row.Wanted.TheVariants.{AnyType}
use Rattle.eds_type_rows.specs.Places.{elements, word_place}
use Rattle.eds_read_types.specs.Judging.{judged_first, breaks_in_phase, breaks_by_phase}
use Rattle.eds_read_types.specs.References.{judged_text, judged_at}
use Rattle.eds_read_types.specs.Unresolved.{unresolved_at}
use Rattle.eds_read_types.specs.WrongKind.{wrong_kind_at}
use Rattle.eds_read_types.specs.BaseCycle.{breaks_cycle}
use Rattle.eds_read_types.specs.LimitChain.{breaks_chain}
use Rattle.eds_read_types.specs.TypeCycle.{breaks_type_cycle}
use Rattle.eds_read_types.specs.LimitFamily.{breaks_family}
use Rattle.eds_read_types.specs.LimitNesting.{breaks_nesting}
use Rattle.eds_read_types.specs.LimitItems.{items_limit_at}
use Rattle.eds_read_types.specs.BadEncoding.{breaks_encoding}
use Rattle.eds_read_types.specs.EmptyRange.{breaks_range, breaks_sub_range}
use Rattle.eds_read_types.specs.BadEnumeration.{breaks_enumeration}
use Rattle.eds_read_types.specs.Faults.{is_judged}
use Rattle.eds_read_types.specs.EmptyType.{empty_part_at, empty_item_at, empty_word}
use Rattle.eds_read_types.specs.Parts.{at_rows, at_parts}
use Rattle.eds_read_types.specs.DuplicateEntry.{breaks_duplicate}
use Rattle.eds_read_types.specs.ListField.{breaks_list_field}
use Rattle.eds_read_types.specs.PartElements.{at_part_elements}
use Rattle.eds_read_types.specs.LengthField.{length_field_at, scale_at, second_length_at}
use Rattle.eds_read_types.specs.FixedValue.{fixed_value_at}
use Rattle.eds_read_types.specs.ErrorControl.{error_control_at}
use Rattle.eds_read_types.specs.ConstraintElements.{asked_lists}
use Rattle.eds_type_rows.specs.TableRows.{table_rows}
use Rattle.eds_read_types.specs.TableBreaks.{rules, table_breaks}
use Rattle.eds_type_rows.proofs.ListFacts.{append-none}

-- ---- phases

no_first : (rs others : List Refusal) → judged_first rs others ≡ [] → (rs ≡ []) × (others ≡ [])
no_first [] others h = (refl, h)
no_first (r ∷ rs) others h = cc

abbrev IsNone : List Refusal → Type 0
IsNone rs = rs ≡ []

no_phase : (phase : List (List Refusal)) → breaks_in_phase phase ≡ [] → AllByRecursion IsNone phase
no_phase [] h = tt
no_phase (rule ∷ phase) h = let p = append-none rule (breaks_in_phase phase) h in (p.0, no_phase phase p.1)

no_phases : (phases : List (List (List Refusal))) → breaks_by_phase phases ≡ [] → AllByRecursion (AllByRecursion IsNone) phases
no_phases [] h = tt
no_phases (phase ∷ phases) h = let p = no_first (breaks_in_phase phase) (breaks_by_phase phases) h in (no_phase phase p.0, no_phases phases p.1)

-- ---- the rules

-- the breaks of each rule are none
pub record IsUnbroken (trees : List (List Node)) (names : Names) (word : Option (List ℕ)) : Type 0 where
  pub resolved : judged_text (unresolved_at trees names) (word_place trees) AnyType word ≡ []
  pub sort : judged_text (wrong_kind_at trees names) (word_place trees) AnyType word ≡ []
  pub kinds : flat_map (judged_at (wrong_kind_at trees names) trees) (elements trees) ≡ []
  pub cycles : breaks_cycle trees names ≡ []
  pub chains : breaks_chain trees names ≡ []
  pub type_cycles : breaks_type_cycle trees names ≡ []
  pub families : breaks_family trees names ≡ []
  pub nestings : breaks_nesting trees names ≡ []
  pub items : at_rows items_limit_at trees names ≡ []
  pub encodings : breaks_encoding trees names ≡ []
  pub ranges : breaks_range trees names ≡ []
  pub subs : breaks_sub_range trees names ≡ []
  pub enumerations : breaks_enumeration trees names ≡ []
  pub empty_parts : at_parts (empty_part_at (is_judged trees names)) trees names ≡ []
  pub empty_items : at_rows (empty_item_at (is_judged trees names)) trees names ≡ []
  pub empties : empty_word (is_judged trees names) trees names word ≡ []
  pub duplicates : breaks_duplicate trees names ≡ []
  pub list_fields : breaks_list_field trees names ≡ []
  pub lengths : at_parts length_field_at trees names ≡ []
  pub scales : at_part_elements scale_at trees names ≡ []
  pub one_lengths : at_rows second_length_at trees names ≡ []
  pub fixed : at_part_elements fixed_value_at trees names ≡ []
  pub checks : at_part_elements error_control_at trees names ≡ []
  pub constraint_targets : breaks_target (table_rows trees names) (asked_lists trees names) ≡ []
  pub constraint_values : breaks_value (table_rows trees names) (asked_lists trees names) ≡ []
  pub constraint_empties : breaks_empty (table_rows trees names) (asked_lists trees names) ≡ []

pub unbroken : (trees : List (List Node)) (names : Names) (word : Option (List ℕ)) → table_breaks trees names word ≡ [] → IsUnbroken trees names word
unbroken trees names word h =
    let all = no_phases (rules trees names word) h in
    let found = append-none (flat_map (judged_at (unresolved_at trees names) trees) (elements trees)) _ all.0.0 in
    let fitting = append-none (flat_map (judged_at (wrong_kind_at trees names) trees) (elements trees)) _ all.0.1.0 in
    let bases = all.1.0 in
    let scalars = all.1.1.0 in
    let containers = all.1.1.1.0 in
    let with_bits = append-none (at_parts (empty_part_at (is_judged trees names)) trees names) _ containers.0 in
    let further = append-none (at_rows (empty_item_at (is_judged trees names)) trees names) _ with_bits.1 in
    let lengths = append-none (at_parts length_field_at trees names) _ containers.1.1.1.0 in
    let scales = append-none (at_part_elements scale_at trees names) _ lengths.1 in
    let targets = append-none (breaks_target (table_rows trees names) (asked_lists trees names)) _ containers.1.1.1.1.1.1.0 in
    let values = append-none (breaks_value (table_rows trees names) (asked_lists trees names)) _ targets.1 in
    record {
      resolved = found.1;
      sort = fitting.1;
      kinds = fitting.0;
      cycles = bases.0;
      chains = bases.1.0;
      type_cycles = bases.1.1.0;
      families = bases.1.1.1.0;
      nestings = bases.1.1.1.1.0;
      items = bases.1.1.1.1.1.0;
      encodings = scalars.0;
      ranges = scalars.1.0;
      subs = scalars.1.1.0;
      enumerations = scalars.1.1.1.0;
      empty_parts = with_bits.0;
      empty_items = further.0;
      empties = further.1;
      duplicates = containers.1.0;
      list_fields = containers.1.1.0;
      lengths = lengths.0;
      scales = scales.0;
      one_lengths = scales.1;
      fixed = containers.1.1.1.1.0;
      checks = containers.1.1.1.1.1.0;
      constraint_targets = targets.0;
      constraint_values = values.0;
      constraint_empties = values.1;
    }
