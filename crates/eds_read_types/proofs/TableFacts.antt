-- What a sheet has that breaks no rule on the types of its table.
use Rattle.std.proofs.Common.{◌≡◌, ℕ, ◌+◌, ◌<◌, Bool, true, false, ◌&&◌, List, [], ◌∷◌, length, Option, Some, None, Result, Ok, Err, refl, sym, ap, subst, ◌∙◌, is_some, suc}
use Rattle.std.specs.Prelude.{IfSome, IfOk}
use Rattle.eds_base.specs.declared.fail.Fail.{Fail}
use Rattle.eds_base.specs.declared.ids.TypeId.{TypeId}
use Rattle.eds_base.specs.declared.refusal.Refusal.{Refusal}
use Rattle.eds_base.specs.Answering.{Answers}
use Rattle.eds_base.specs.Refusals.{least}
use Rattle.eds_tree.specs.declared.tree.Node.{Node}
use Rattle.eds_names.specs.declared.declared.Declared.{Declared}
use Rattle.eds_names.specs.LookUp.{Names, names_in}
use Rattle.eds_types.specs.Rules.{IsHollow}
use Rattle.eds_types.specs.Sizes.{open_of}
use Rattle.eds_constraints.proofs.ConstrainedKeeps.{hollow_kept}
use Rattle.eds_read_types.specs.declared.table.SheetTypes.{SheetTypes}
use Rattle.eds_type_rows.specs.Places.{types, word_place}
use Rattle.eds_type_rows.specs.ReadTypes.{word_type}
use Rattle.eds_read_types.specs.Emptiness.{may_be_empty}
use Rattle.eds_read_types.specs.Faults.{is_judged}
use Rattle.eds_read_types.specs.EmptyType.{empty_by}
use Rattle.eds_read_types.specs.Hollow.{is_hollow}
use Rattle.eds_read_types.specs.ConstraintElements.{asked_lists}
use Rattle.eds_read_types.specs.SheetTable.{sheet_table}
use Rattle.eds_type_rows.specs.TableRows.{rows_from, table_rows}
use Rattle.eds_read_types.specs.TableBreaks.{table_breaks}
use Rattle.eds_read_types.specs.TableRead.{typed_of, unless, table_read}
use Rattle.eds_read_types.proofs.ChainFacts.{unmet}
use Rattle.eds_read_types.proofs.EmptyFacts.{has_bits, closed}
use Rattle.eds_read_types.proofs.HollowFacts.{solid}
use Rattle.eds_read_types.proofs.NoBreaks.{least-none, known}
use Rattle.eds_read_types.proofs.SheetTableFacts.{length-table, open-table}
use Rattle.eds_read_types.proofs.TableRules.{all_judged}
use Rattle.eds_read_types.proofs.Unbroken.{IsUnbroken, unbroken}

-- the table is read where no rule is broken
pub table_unbroken : (trees : List (List Node)) (names : Names) (word : Option (List ℕ)) (t : SheetTypes) → table_read trees names word ≡ Ok t → (least (table_breaks trees names word) ≡ None) × (typed_of trees names word ≡ t)
unfolding table_read
table_unbroken trees names word t h = go (least (table_breaks trees names word)) refl h
  where
    go : (o : Option Refusal) → least (table_breaks trees names word) ≡ o → unless o (typed_of trees names word) ≡ Ok t → (least (table_breaks trees names word) ≡ None) × (typed_of trees names word ≡ t)
    go None e k = (e, cc)
    go (Some r) e k = cc

length-rows_from : (trees : List (List Node)) (names : Names) (n : ℕ) (ds : List Declared) → length (rows_from trees names n ds) ≡ length ds
length-rows_from trees names n [] = refl
length-rows_from trees names n (d ∷ ds) = ap suc (length-rows_from trees names (n + 1) ds)

pub table_word : (trees : List (List Node)) (names : Names) (word : Option (List ℕ)) (t : SheetTypes) → table_read trees names word ≡ Ok t → IfSome t.asked_type (λ id. id.0 < length t.table) × (is_some t.asked_type ≡ is_some word)
table_word trees names word t h =
    let parts = table_unbroken trees names word t h in
    let all = unbroken trees names word (least-none (table_breaks trees names word) parts.0) in
    let both = known trees names word all.resolved all.sort in
    subst (λ (u : SheetTypes). IfSome u.asked_type (λ id. id.0 < length u.table) × (is_some u.asked_type ≡ is_some word)) parts.1
    (subst (λ n. IfSome (word_type trees names word) (λ id. id.0 < n)) (sym (length-table trees names ∙ length-rows_from trees names 0 (types names))) both.0, both.1)

-- where the rule is judged for a type, its breaks are those of an empty type
judged_bits : (a b : Bool) → a ≡ true → (a && b) ≡ false → b ≡ false
judged_bits true b e h = h
judged_bits false b e h = cc

-- a type that the TYPE word names has bits
word_bits : (trees : List (List Node)) (names : Names) (word : Option (List ℕ)) → names_in trees ≡ Ok names → IsUnbroken trees names word → (id : TypeId) → empty_by (is_judged trees names) (table_rows trees names) (word_place trees) (Some id) ≡ []
    → (is_hollow (table_rows trees names) id.0 ≡ false) × (is_some (open_of (table_rows trees names) id.0) ≡ false)
word_bits trees names word named all id e =
    let none = unmet (is_judged trees names id.0 && may_be_empty (table_rows trees names) id.0) _ e in
    has_bits (table_rows trees names) id.0 (judged_bits (is_judged trees names id.0) (may_be_empty (table_rows trees names) id.0) (all_judged trees names word named all id.0) none)

-- the type that the TYPE word names is no open binary
pub table_closed : (trees : List (List Node)) (names : Names) (word : Option (List ℕ)) → names_in trees ≡ Ok names → (t : SheetTypes) → table_read trees names word ≡ Ok t → IfSome t.asked_type (λ id. open_of t.table id.0 ≡ None)
table_closed trees names word named t h =
    let parts = table_unbroken trees names word t h in
    let all = unbroken trees names word (least-none (table_breaks trees names word) parts.0) in
    subst (λ (u : SheetTypes). IfSome u.asked_type (λ id. open_of u.table id.0 ≡ None)) parts.1 (go all (word_type trees names word) all.empties)
  where
    go : IsUnbroken trees names word → (o : Option TypeId) → empty_by (is_judged trees names) (table_rows trees names) (word_place trees) o ≡ [] → IfSome o (λ id. open_of (sheet_table trees names) id.0 ≡ None)
    go all None e = tt
    go all (Some id) e = open-table trees names id.0 ∙ closed (open_of (table_rows trees names) id.0) (word_bits trees names word named all id e).1

-- and it has no spelling of no bits
pub table_solid : (trees : List (List Node)) (names : Names) (word : Option (List ℕ)) → names_in trees ≡ Ok names → (t : SheetTypes) → table_read trees names word ≡ Ok t → IfSome t.asked_type (λ id. IsHollow t.table id.0 → ⊥)
table_solid trees names word named t h =
    let parts = table_unbroken trees names word t h in
    let all = unbroken trees names word (least-none (table_breaks trees names word) parts.0) in
    let there = subst (λ n. IfSome (word_type trees names word) (λ id. id.0 < n)) (sym (length-rows_from trees names 0 (types names))) (known trees names word all.resolved all.sort).0 in
    subst (λ (u : SheetTypes). IfSome u.asked_type (λ id. IsHollow u.table id.0 → ⊥)) parts.1 (go all (word_type trees names word) there all.empties)
  where
    go : IsUnbroken trees names word → (o : Option TypeId) → IfSome o (λ id. id.0 < length (table_rows trees names)) → empty_by (is_judged trees names) (table_rows trees names) (word_place trees) o ≡ [] → IfSome o (λ id. IsHollow (sheet_table trees names) id.0 → ⊥)
    go all None there e = tt
    go all (Some id) there e = λ h. solid (table_rows trees names) id.0 there (word_bits trees names word named all id e).0 (hollow_kept (table_rows trees names) (asked_lists trees names) id.0 h)

-- what holds of the table that is read holds of the one that is answered
pub table_answered : (P : SheetTypes → Type 0) (r : Result SheetTypes (Fail Refusal)) (read : Result SheetTypes Refusal) → ((t : SheetTypes) → read ≡ Ok t → P t) → Answers (λ t. t) r read → IfOk r P
table_answered P (Ok t) read h a = h t a
table_answered P (Err e) read h a = tt
