-- Marks of the types of which a constraint breaks a rule.
use Rattle.std.proofs.Common.{◌≡◌, ℕ, ◌<◌, Bool, false, List, [], length, map, get_or, slice_get, Some, refl, ap, ◌∙◌, arith}
use Rattle.std.specs.Option.{unwrap_or}
use Rattle.std.specs.List.{flat_map, range_with_len}
use Rattle.std.proofs.lemmas.List.FromFn.{get_or-range_with_len, length-range_with_len, get_or-map-range_with_len, length-map-range_with_len}
use Rattle.std.proofs.lemmas.Option.{slice_get-get_or}
use Rattle.eds_tree.specs.declared.tree.Node.{Node}
use Rattle.eds_names.specs.LookUp.{Names}
use Rattle.eds_types.specs.Rows.{Table, numbers}
use Rattle.eds_constraints.specs.Breaks.{Lists, posed_of, target_at, value_at, empties_of, breaks_target, breaks_value, breaks_empty}
use Rattle.eds_constraints.specs.Broken.{is_broken}
use Rattle.eds_read_types.specs.ConstraintElements.{asked_lists}
use Rattle.eds_type_rows.specs.TableRows.{table_rows}
use Rattle.eds_read_types.specs.Kin.{AreMarks}
use Rattle.eds_read_types.specs.Faults.{is_constraint_broken}
use Rattle.eds_read_types.proofs.ChainFacts.{each-none}

-- what is told of each number are marks
marks-mapped : (f : ℕ → Bool) (n : ℕ) (marks : List Bool) → marks ≡ map f (range_with_len 0 n) → AreMarks n f marks
marks-mapped f n marks e = record {
  long = long;
  told = λ k lt. ap (λ o. unwrap_or o false) (slice_get-get_or marks k false (omega (arith, long, lt))) ∙ (ap (λ ms. get_or ms k false) e ∙ get_or-map-range_with_len f 0 n k k false lt (omega arith));
}
  where
    long : length marks ≡ n
    long = ap length e ∙ length-map-range_with_len f 0 n

pub broken-marks : (trees : List (List Node)) (names : Names) (rows asked : Table) (lists : Lists) (marks : List Bool) → rows ≡ table_rows trees names → asked ≡ rows → lists ≡ asked_lists trees names
    → marks ≡ map (is_broken asked lists) (numbers asked) → AreMarks (length rows) (is_constraint_broken trees names) marks
broken-marks trees names rows asked lists marks read same all is =
    rw read (marks-mapped (is_constraint_broken trees names) (length (table_rows trees names)) marks (is ∙ rw (same, read, all) refl))

-- where the rules on constraints are broken nowhere, they are broken at no type
pub none-broken : (t : Table) (lists : Lists) → breaks_target t lists ≡ [] → breaks_value t lists ≡ [] → breaks_empty t lists ≡ [] → (id : ℕ) → id < length t → is_broken t lists id ≡ false
none-broken t lists targets values empties id lt =
    let long = length-range_with_len 0 (length t) in
    let there : slice_get (numbers t) id ≡ Some id = slice_get-get_or (numbers t) id id (omega (arith, long, lt)) ∙ ap Some (get_or-range_with_len 0 (length t) id id lt ∙ omega arith) in
    let no_target : flat_map (target_at t) (posed_of t lists id) ≡ [] = each-none (λ k. flat_map (target_at t) (posed_of t lists k)) (numbers t) targets id id there in
    let no_value : flat_map (value_at t) (posed_of t lists id) ≡ [] = each-none (λ k. flat_map (value_at t) (posed_of t lists k)) (numbers t) values id id there in
    let no_empty : empties_of t lists id ≡ [] = each-none (empties_of t lists) (numbers t) empties id id there in
    rw (no_target, no_value, no_empty) refl
