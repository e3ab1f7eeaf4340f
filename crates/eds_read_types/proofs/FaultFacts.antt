-- Breaks of EmptyType by the types for which it is judged, and what types reach.
use Rattle.std.proofs.Common.{◌≡◌, ℕ, zero, suc, ◌+◌, ◌≤◌, ◌||◌, ◌&&◌, not, Bool, true, false, List, [], ◌∷◌, length, drop, slice_get, Option, Some, None, Result, Ok, Err, refl, sym, ap, subst, ◌∙◌, inl, inr, arith}
use Rattle.std.specs.Prelude.{nat_lt, option_to_list, IfOk}
use Rattle.std.specs.List.{list_any}
use Rattle.std.proofs.lemmas.List.Folds.{list_any-append}
use Rattle.std.proofs.lemmas.List.{length-map}
use Rattle.std.proofs.lemmas.Option.{slice_get_past}
use Rattle.eds_base.specs.declared.ids.Place.{Place}
use Rattle.eds_base.specs.declared.ids.TypeId.{TypeId}
use Rattle.eds_base.specs.declared.refusal.Refusal.{Refusal}
use Rattle.eds_base.specs.Refusals.{first_of, least}
use Rattle.eds_tree.specs.declared.tree.Node.{Node}
use Rattle.eds_names.specs.LookUp.{Names}
use Rattle.eds_types.specs.declared.row.Part.{Part}
use Rattle.eds_types.specs.Fields.{type_by}
use Rattle.eds_types.specs.Rows.{Table, container_of}
use Rattle.eds_graph.specs.Reaching.{mark}
use Rattle.eds_graph.proofs.Tests.{split}
use Rattle.eds_nesting.specs.Families.{types_of}
use Rattle.eds_type_rows.specs.Places.{types, type_places, word_place}
use Rattle.eds_type_rows.specs.Entries.{own_parts_at}
use Rattle.eds_type_rows.specs.ReadTypes.{word_type}
use Rattle.eds_read_types.specs.Breaks.{breaks_over}
use Rattle.eds_type_rows.specs.TableRows.{table_rows}
use Rattle.eds_read_types.specs.Parts.{parts_in, judged_part_by, judged_part, judged_parts, at_parts, at_rows}
use Rattle.eds_read_types.specs.Kin.{AreMarks, passes_near}
use Rattle.eds_read_types.specs.Emptiness.{item_of, may_be_empty, is_empty_part}
use Rattle.eds_read_types.specs.Faults.{is_faulty_if, is_faulty, types_at, passes_there, reaches_fault, is_judged, is_unmarked, passes_type}
use Rattle.eds_read_types.specs.EmptyType.{empty_where, empty_part_at, empty_item_by, empty_item_at, empty_by, empty_word, empties, breaks_empty}
use Rattle.eds_type_rows.proofs.ListFacts.{append-none}
use Rattle.eds_type_rows.proofs.Limits.{length-rows}
use Rattle.eds_read_types.proofs.KinFacts.{marks-as, marks-there, marks-past, any-same}

-- ---- breaks over types

over-same : (f g : ℕ → Place → List Refusal) → ((n : ℕ) (at : Place) → f n at ≡ g n at) → (n : ℕ) (ats : List Place) → breaks_over f n ats ≡ breaks_over g n ats
over-same f g h n [] = refl
over-same f g h n (at ∷ ats) = rw (h n at, over-same f g h (n + 1) ats) refl

over-fewer : (f g : ℕ → Place → List Refusal) → ((n : ℕ) (at : Place) → f n at ≡ [] → g n at ≡ []) → (n : ℕ) (ats : List Place) → breaks_over f n ats ≡ [] → breaks_over g n ats ≡ []
over-fewer f g h n [] e = refl
over-fewer f g h n (at ∷ ats) e = let both = append-none (f n at) (breaks_over f (n + 1) ats) e in rw (h n at both.0, over-fewer f g h (n + 1) ats both.1) refl

-- ---- the same test

module _ (j k : ℕ → Bool) (same : (id : ℕ) → j id ≡ k id) where
  type-same : (o : Option ℕ) → passes_type j o ≡ passes_type k o
  type-same None = refl
  type-same (Some id) = same id

  part-same : (t : Table) (container i : ℕ) (at : Place) → judged_part (empty_part_at j) t container i at ≡ judged_part (empty_part_at k) t container i at
  part-same t container i at = go (slice_get (parts_in (container_of t container)) i)
    where
      go : (o : Option Part) → judged_part_by (empty_part_at j) t container i at o ≡ judged_part_by (empty_part_at k) t container i at o
      go None = refl
      go (Some p) = ap (λ b. empty_where (b && is_empty_part t p) at) (type-same (type_by (Some p)))

  item-same : (t : Table) (at : Place) (o : Option ℕ) → empty_item_by j t at o ≡ empty_item_by k t at o
  item-same t at None = refl
  item-same t at (Some item) = ap (λ b. empty_where (b && may_be_empty t item) at) (same item)

  word-same : (t : Table) (at : Place) (o : Option TypeId) → empty_by j t at o ≡ empty_by k t at o
  word-same t at None = refl
  word-same t at (Some id) = ap (λ b. empty_where (b && may_be_empty t id.0) at) (same id.0)

  pub parts-same : (trees : List (List Node)) (names : Names) → at_parts (empty_part_at j) trees names ≡ at_parts (empty_part_at k) trees names
  parts-same trees names =
      over-same (judged_parts (empty_part_at j) trees (table_rows trees names)) (judged_parts (empty_part_at k) trees (table_rows trees names))
      (λ n at. over-same (judged_part (empty_part_at j) (table_rows trees names) n) (judged_part (empty_part_at k) (table_rows trees names) n) (part-same (table_rows trees names) n) 0 (own_parts_at trees at)) 0 (type_places names)

  pub items-same : (trees : List (List Node)) (names : Names) → at_rows (empty_item_at j) trees names ≡ at_rows (empty_item_at k) trees names
  items-same trees names =
      over-same (empty_item_at j trees (table_rows trees names)) (empty_item_at k trees (table_rows trees names)) (λ n at. item-same (table_rows trees names) at (item_of (table_rows trees names) n)) 0 (type_places names)

  pub words-same : (trees : List (List Node)) (names : Names) (word : Option (List ℕ)) → empty_word j trees names word ≡ empty_word k trees names word
  words-same trees names word = word-same (table_rows trees names) (word_place trees) (word_type trees names word)

  pub empties-same : (trees : List (List Node)) (names : Names) (word : Option (List ℕ)) → empties j trees names word ≡ empties k trees names word
  empties-same trees names word = rw (parts-same trees names, items-same trees names, words-same trees names word) refl

-- ---- fewer types

-- where there is no break whatever type is judged, there is none of those that are
module _ (all : ℕ → Bool) (each : (id : ℕ) → all id ≡ true) (judged : ℕ → Bool) where
  fewer : (o : Option ℕ) (empty : Bool) (at : Place) → empty_where (passes_type all o && empty) at ≡ [] → empty_where (passes_type judged o && empty) at ≡ []
  fewer None empty at h = refl
  fewer (Some id) empty at h = go empty (sym (ap (λ b. empty_where (b && empty) at) (each id)) ∙ h)
    where
      go : (b : Bool) → empty_where (true && b) at ≡ [] → empty_where (judged id && b) at ≡ []
      go true e = cc
      go false e = none (judged id)
        where
          none : (c : Bool) → empty_where (c && false) at ≡ []
          none true = refl
          none false = refl

  part-fewer : (t : Table) (container i : ℕ) (at : Place) → judged_part (empty_part_at all) t container i at ≡ [] → judged_part (empty_part_at judged) t container i at ≡ []
  part-fewer t container i at h = go (slice_get (parts_in (container_of t container)) i) h
    where
      go : (o : Option Part) → judged_part_by (empty_part_at all) t container i at o ≡ [] → judged_part_by (empty_part_at judged) t container i at o ≡ []
      go None e = refl
      go (Some p) e = fewer (type_by (Some p)) (is_empty_part t p) at e

  item-fewer : (t : Table) (at : Place) (o : Option ℕ) → empty_item_by all t at o ≡ [] → empty_item_by judged t at o ≡ []
  item-fewer t at None h = refl
  item-fewer t at (Some item) h = fewer (Some item) (may_be_empty t item) at h

  word-fewer : (t : Table) (at : Place) (o : Option TypeId) → empty_by all t at o ≡ [] → empty_by judged t at o ≡ []
  word-fewer t at None h = refl
  word-fewer t at (Some id) h = fewer (Some id.0) (may_be_empty t id.0) at h

  pub empties-fewer : (trees : List (List Node)) (names : Names) (word : Option (List ℕ)) → empties all trees names word ≡ [] → empties judged trees names word ≡ []
  empties-fewer trees names word h =
      let rows = table_rows trees names in
      let first = append-none (at_parts (empty_part_at all) trees names) _ h in
      let second = append-none (at_rows (empty_item_at all) trees names) _ first.1 in
      let parts : at_parts (empty_part_at judged) trees names ≡ [] = over-fewer (judged_parts (empty_part_at all) trees rows) (judged_parts (empty_part_at judged) trees rows)
      (λ n at. over-fewer (judged_part (empty_part_at all) rows n) (judged_part (empty_part_at judged) rows n) (part-fewer rows n) 0 (own_parts_at trees at)) 0 (type_places names) first.0 in
      let items : at_rows (empty_item_at judged) trees names ≡ [] = over-fewer (empty_item_at all trees rows) (empty_item_at judged trees rows) (λ n at. item-fewer rows at (item_of rows n)) 0 (type_places names) second.0 in
      let words : empty_word judged trees names word ≡ [] = word-fewer rows (word_place trees) (word_type trees names word) second.1 in
      rw (parts, items, words) refl

pub none-unmarked : (id : ℕ) → is_unmarked [] id ≡ true
none-unmarked id = refl

-- ---- types of parts

pub types-on : (f : ℕ → Bool) (p : Part) (ps : List Part) → list_any f (types_of (p ∷ ps)) ≡ (list_any f (option_to_list (type_by (Some p))) || list_any f (types_of ps))
types-on f p ps = list_any-append f (option_to_list (type_by (Some p))) (types_of ps)

-- ---- what is reached over one type more

module _ (t : Table) (n : ℕ) (test : ℕ → Bool) (faulty marks : List Bool) (given : AreMarks (length t) test faulty) (past : (k : ℕ) → length t ≤ k → test k ≡ false) (reached : AreMarks (length t) (reaches_fault n t test) marks) where
  known : (k : ℕ) → mark faulty k ≡ test k
  known k = elim (split k (length t)) [
    | inl lt ↦ given.told k lt
    | inr le ↦ marks-past (length t) test faulty given k le ∙ sym (past k le)
  ]

  pub next-as : (next : List Bool) → AreMarks (length t) (λ k. mark faulty k || list_any (mark marks) (types_at t k)) next
      → AreMarks (length t) (λ k. test k || list_any (passes_there t (reaches_fault n t test)) (types_at t k)) next
  next-as next h = marks-as (length t) (λ k. mark faulty k || list_any (mark marks) (types_at t k)) (λ k. test k || list_any (passes_there t (reaches_fault n t test)) (types_at t k)) next h
      (λ k lt. rw (known k, any-same (mark marks) (passes_there t (reaches_fault n t test)) (types_at t k) (marks-there (length t) (reaches_fault n t test) marks reached)) refl)

  pub next-past : (k : ℕ) → length t ≤ k → (test k || list_any (passes_there t (reaches_fault n t test)) (types_at t k)) ≡ false
  next-past k le = rw (past k le, slice_get_past t k le) refl

pub reach-as : (t : Table) (n : ℕ) (test : ℕ → Bool) (marks : List Bool) → AreMarks (length t) (passes_near t (λ k. test k || list_any (passes_there t (reaches_fault n t test)) (types_at t k))) marks → AreMarks (length t) (reaches_fault (suc n) t test) marks
unfolding reaches_fault
reach-as t n test marks h = record { long = h.long; told = h.told }

pub reach-none : (t : Table) (test : ℕ → Bool) (marks : List Bool) → length marks ≡ length t → ((k : ℕ) → mark marks k ≡ false) → AreMarks (length t) (reaches_fault 0 t test) marks
unfolding reaches_fault
reach-none t test marks long none = record { long = long; told = λ k lt. none k }

-- ---- at a sheet

-- the types for which no mark is set are those for which the rule is judged
pub judged-as : (trees : List (List Node)) (names : Names) (rows : Table) → rows ≡ table_rows trees names → (marks : List Bool) → AreMarks (length rows) (reaches_fault 32 rows (is_faulty trees names)) marks → (id : ℕ) → is_unmarked marks id ≡ is_judged trees names id
judged-as trees names rows is marks h id = ap not (marks-there (length rows) (reaches_fault 32 rows (is_faulty trees names)) marks h id ∙ ap (λ t. nat_lt id (length t) && reaches_fault 32 t (is_faulty trees names) id) is)

-- past the table there is no faulty type
pub faulty-past : (trees : List (List Node)) (names : Names) (rows : Table) → rows ≡ table_rows trees names → (k : ℕ) → length rows ≤ k → is_faulty trees names k ≡ false
faulty-past trees names rows is k le =
    let many : length rows ≡ length (types names) = ap length is ∙ length-rows trees names 0 (types names) in
    let places : length (type_places names) ≡ length (types names) = length-map (types names) (λ d. d.place) in
    ap (is_faulty_if trees names k) (slice_get_past (type_places names) k (omega (arith, many, places, le)))

pub ok-weaker : {A E : Type 0} (r : Result A E) (P Q : A → Type 0) → ((x : A) → P x → Q x) → IfOk r P → IfOk r Q
ok-weaker (Ok x) P Q h p = h x p
ok-weaker (Err e) P Q h p = p

-- what is judged by such marks are the breaks of the rule
pub judged-breaks : {E : Type 0} (trees : List (List Node)) (names : Names) (word : Option (List ℕ)) (marks : List Bool) → ((id : ℕ) → is_unmarked marks id ≡ is_judged trees names id)
    → (r : Result (Option Refusal) E) → IfOk r (λ o. o ≡ least (empties (is_unmarked marks) trees names word)) → IfOk r (λ o. o ≡ least (breaks_empty trees names word))
judged-breaks trees names word marks same r h = subst (λ rs. IfOk r (λ o. o ≡ least rs)) (empties-same (is_unmarked marks) (is_judged trees names) same trees names word) h

-- behind the last type
pub least-end : (f : ℕ → Place → List Refusal) (ats : List Place) (i : ℕ) (found r : Option Refusal) → length ats ≤ i → first_of found (least (breaks_over f i (drop i ats))) ≡ r → found ≡ r
least-end f ats i found r past h = sym (alone found) ∙ (ap (λ xs. first_of found (least (breaks_over f i xs))) (sym (dropped ats i past)) ∙ h)
  where
    alone : (o : Option Refusal) → first_of o None ≡ o
    alone None = refl
    alone (Some x) = refl

    dropped : (xs : List Place) (n : ℕ) → length xs ≤ n → drop n xs ≡ []
    dropped [] zero e = refl
    dropped [] (suc n) e = refl
    dropped (x ∷ xs) zero e = absurd (omega (arith, e))
    dropped (x ∷ xs) (suc n) e = dropped xs n (omega (arith, e))
