-- The tests of reading, as facts.
use Rattle.eds_base.specs.declared.spans.Span.{Span}
use Rattle.std.proofs.Common.{◌≡◌, ℕ, zero, suc, ◌+◌, ◌<◌, ◌≤◌, ℤ, Bool, true, false, cond, List, [], ◌∷◌, ◌++◌, length, Option, Some, None, refl, sym, ap, ◌∙◌, arith, ◌⊎◌, inl, inr, int_le, T, IsTrue}
use Rattle.std.specs.Prelude.{◌≤ℤ◌, ◌↔◌, slice_get, nat_lt, not, ◌&&◌, ◌==◌}
use Rattle.std.specs.List.{AllByRecursion, list_all}
use Rattle.std.proofs.lemmas.Bool.{and_parts, and_from, eqb-true, eq-eqb, ne_eqb, ltb-true, lt-ltb, cases_lt, cases_Bool, not-true, both_ways, false_from_ne_true}
use Rattle.std.proofs.lemmas.Option.{slice_get_past}
use lib.Signed.{le_z_yes}
use Rattle.eds_base.specs.declared.ids.TypeId.{TypeId}
use Rattle.eds_types.specs.declared.row.Constraint.{Constraint as Condition}
use Rattle.eds_base.specs.Spans.{IsWithin}
use Rattle.eds_bits.specs.Lists.{Has}
use Rattle.eds_types.specs.Fields.{Field, number_on, Holds, StartsInEntries, constraints_along, IsCandidate}
use Rattle.eds_types.specs.Reading.{in_span, is_within, number_within, holds, starts_above, is_candidate, first_from, candidate_under}
use Rattle.eds_types.specs.Rows.{Table, chain, entries_of, is_concrete, concrete_in, container_in, list_has}

T_from : (b : Bool) → b ≡ true → T b
T_from true e = tt
T_from false e = absurd cc

T_to : (b : Bool) → T b → b ≡ true
T_to true e = refl
T_to false e = absurd e

pub is_at_most : (m n : ℤ) → m ≤ℤ n → int_le m n ≡ true
is_at_most m n h = T_to (int_le m n) h.le

pub within_from : (spans : List Span) (n : ℤ) → is_within spans n ≡ true → IsWithin spans n
within_from [] n e = absurd cc
within_from (s ∷ spans) n e = elim (cases_Bool (in_span n s)) [
  | inl t ↦ let p = and_parts (int_le s.low n) (int_le n s.high) t in inl (le_z_yes (T_from (int_le s.low n) p.0), le_z_yes (T_from (int_le n s.high) p.1))
  | inr f ↦ inr (within_from spans n (sym (ap (λ b. cond b true (is_within spans n)) f) ∙ e))
]

or_later : (t u : Bool) → u ≡ true → cond t true u ≡ true
or_later true u h = refl
or_later false u h = h

pub within_in : (spans : List Span) (n : ℤ) → IsWithin spans n → is_within spans n ≡ true
within_in [] n h = absurd h
within_in (s ∷ spans) n (inl h) = ap (λ b. cond b true (is_within spans n)) (and_from (int_le s.low n) (int_le n s.high) (T_to (int_le s.low n) (h.0).le) (T_to (int_le n s.high) (h.1).le))
within_in (s ∷ spans) n (inr h) = or_later (in_span n s) (is_within spans n) (within_in spans n h)

pub has_from : (xs : List ℕ) (x : ℕ) → list_has xs x ≡ true → Has xs x
has_from [] x e = absurd cc
has_from (y ∷ ys) x e = elim (cases_Bool (y == x)) [
  | inl t ↦ record { before = []; after = ys; is = ap (λ z. z ∷ ys) (eqb-true y x t) }
  | inr f ↦ let e' : list_has ys x ≡ true = sym (ap (λ b. cond b true (list_has ys x)) f) ∙ e in let h = has_from ys x e' in record { before = y ∷ h.before; after = h.after; is = ap (λ zs. y ∷ zs) h.is }
]

pub has_in : (xs : List ℕ) (x : ℕ) (b c : List ℕ) → xs ≡ b ++ x ∷ c → list_has xs x ≡ true
has_in [] x [] c e = absurd cc
has_in [] x (z ∷ b) c e = absurd cc
has_in (y ∷ ys) x [] c e = let p : y ≡ x = cc in rw (eq-eqb y x p) refl
has_in (y ∷ ys) x (z ∷ b) c e = let q : ys ≡ b ++ x ∷ c = cc in or_later (y == x) (list_has ys x) (has_in ys x b c q)

pub cases_has : (xs : List ℕ) (x : ℕ) → Has xs x ⊎ (Has xs x → ⊥)
cases_has xs x = elim (cases_Bool (list_has xs x)) [ inl t ↦ inl (has_from xs x t) | inr f ↦ inr (λ h. both_ways (list_has xs x) f (has_in xs x h.before h.after h.is)) ]

pub holds_from : (t : Table) (fs : List Field) (c : Condition) → holds t fs c ≡ true → Holds t fs c
holds_from t fs c e = go (number_on t fs c.path) refl e
  where
    go : (o : Option ℤ) → number_on t fs c.path ≡ o → number_within c.set o ≡ true → Holds t fs c
    go None h e = absurd cc
    go (Some n) h e = record { number = n; is = h; within = within_from c.set n e }

pub holds_in : (t : Table) (fs : List Field) (c : Condition) → Holds t fs c → holds t fs c ≡ true
holds_in t fs c h = ap (number_within c.set) h.is ∙ within_in c.set h.number h.within

pub starts_from : (t : Table) (x : ℕ) (path : List (TypeId × ℕ)) → starts_above t x path ≡ true → StartsInEntries t x path
starts_from t x [] e = absurd cc
starts_from t x (p ∷ path) e = let q = and_parts (list_has (chain t x) (p.0).0) (nat_lt p.1 (length (entries_of t (p.0).0))) e in (has_from (chain t x) (p.0).0 q.0, ltb-true p.1 (length (entries_of t (p.0).0)) q.1)

pub starts_in : (t : Table) (x : ℕ) (path : List (TypeId × ℕ)) → StartsInEntries t x path → starts_above t x path ≡ true
starts_in t x [] h = absurd h
starts_in t x (p ∷ path) h = and_from (list_has (chain t x) (p.0).0) (nat_lt p.1 (length (entries_of t (p.0).0))) (has_in (chain t x) (p.0).0 (h.0).before (h.0).after (h.0).is) (lt-ltb p.1 (length (entries_of t (p.0).0)) h.1)

abbrev pub Applies : Table → ℕ → List Field → Condition → Type 0
Applies t x fs c = StartsInEntries t x c.path → Holds t fs c

all_from : (t : Table) (x : ℕ) (fs : List Field) (cs : List Condition) → list_all (λ (c : Condition). cond (starts_above t x c.path) (holds t fs c) true) cs ≡ true → AllByRecursion (Applies t x fs) cs
all_from t x fs [] e = tt
all_from t x fs (c ∷ cs) e =
    let p = and_parts (cond (starts_above t x c.path) (holds t fs c) true) (list_all (λ (c : Condition). cond (starts_above t x c.path) (holds t fs c) true) cs) e in
    (λ s. holds_from t fs c (sym (ap (λ b. cond b (holds t fs c) true) (starts_in t x c.path s)) ∙ p.0), all_from t x fs cs p.1)

all_in : (t : Table) (x : ℕ) (fs : List Field) (cs : List Condition) → AllByRecursion (Applies t x fs) cs → list_all (λ (c : Condition). cond (starts_above t x c.path) (holds t fs c) true) cs ≡ true
all_in t x fs [] h = refl
all_in t x fs (c ∷ cs) h = and_from (cond (starts_above t x c.path) (holds t fs c) true) (list_all (λ (c : Condition). cond (starts_above t x c.path) (holds t fs c) true) cs) (one (cases_Bool (starts_above t x c.path))) (all_in t x fs cs h.1)
  where
    one : (starts_above t x c.path ≡ true) ⊎ (starts_above t x c.path ≡ false) → cond (starts_above t x c.path) (holds t fs c) true ≡ true
    one (inl y) = ap (λ b. cond b (holds t fs c) true) y ∙ holds_in t fs c (h.0 (starts_from t x c.path y))
    one (inr n) = ap (λ b. cond b (holds t fs c) true) n

pub candidate_from : (t : Table) (x l : ℕ) (fs : List Field) → is_candidate t x l fs ≡ true → IsCandidate t x l fs
candidate_from t x l fs e =
    let p = and_parts (is_concrete t l) (list_has (chain t l) x && list_all (λ (c : Condition). cond (starts_above t x c.path) (holds t fs c) true) (constraints_along t l)) e in
    let q = and_parts (list_has (chain t l) x) (list_all (λ (c : Condition). cond (starts_above t x c.path) (holds t fs c) true) (constraints_along t l)) p.1 in
    record { concrete = p.0; under = has_from (chain t l) x q.0; holds = all_from t x fs (constraints_along t l) q.1 }

pub candidate_is : (t : Table) (x l : ℕ) (fs : List Field) → IsCandidate t x l fs → is_candidate t x l fs ≡ true
candidate_is t x l fs h = and_from (is_concrete t l) _ h.concrete (and_from (list_has (chain t l) x) _ (has_in (chain t l) x h.under.before h.under.after h.under.is) (all_in t x fs (constraints_along t l) h.holds))

first_passes : (p : ℕ → Bool) (n i l : ℕ) → first_from p n i ≡ Some l → p l ≡ true
unfolding first_from
first_passes p zero i l e = absurd cc
first_passes p (suc n) i l e = elim (cases_Bool (p i)) [
  | inl t ↦ let q : Some i ≡ Some l = sym (ap (λ b. cond b (Some i) (first_from p n (i + 1))) t) ∙ e in let r : i ≡ l = cc in rw (← r) t
  | inr f ↦ first_passes p n (i + 1) l (sym (ap (λ b. cond b (Some i) (first_from p n (i + 1))) f) ∙ e)
]

none_passes : (p : ℕ → Bool) (n i : ℕ) → first_from p n i ≡ None → (j : ℕ) → i ≤ j → j < i + n → p j ≡ false
unfolding first_from
none_passes p zero i e j le lt = absurd (omega arith)
none_passes p (suc n) i e j le lt = elim (cases_Bool (p i)) [
  | inl t ↦ let q : Some i ≡ None = sym (ap (λ b. cond b (Some i) (first_from p n (i + 1))) t) ∙ e in absurd cc
  | inr f ↦ later (none_passes p n (i + 1) (sym (ap (λ b. cond b (Some i) (first_from p n (i + 1))) f) ∙ e)) f (cases_lt i j)
]
  where
    later : ((k : ℕ) → i + 1 ≤ k → k < i + 1 + n → p k ≡ false) → p i ≡ false → (i < j) ⊎ (j ≤ i) → p j ≡ false
    later ih f (inl h) = ih j (omega arith) (omega arith)
    later ih f (inr h) = let q : i ≡ j = omega arith in rw (← q) f

pub found_is : (t : Table) (x : ℕ) (fs : List Field) (l : ℕ) → candidate_under t x fs ≡ Some l → (l ≡ x → ⊥) × IsCandidate t x l fs
found_is t x fs l e =
    let p = and_parts (not (l == x)) (is_candidate t x l fs) (first_passes (λ l. not (l == x) && is_candidate t x l fs) (length t) 0 l e) in
    (λ q. both_ways (l == x) (not-true (l == x) p.0) (eq-eqb l x q), candidate_from t x l fs p.1)

pub none_is : (t : Table) (x : ℕ) (fs : List Field) → candidate_under t x fs ≡ None → (l : ℕ) → (l ≡ x → ⊥) → IsCandidate t x l fs → ⊥
none_is t x fs e l ne h = elim (cases_lt l (length t)) [
  | inl lt ↦ both_ways (not (l == x) && is_candidate t x l fs) (none_passes (λ l. not (l == x) && is_candidate t x l fs) (length t) 0 e l (omega arith) (omega arith)) (and_from (not (l == x)) (is_candidate t x l fs) (ap not (ne_eqb l x ne)) (candidate_is t x l fs h))
  | inr le ↦ let q : concrete_in (container_in (slice_get t l)) ≡ false = ap (λ o. concrete_in (container_in o)) (slice_get_past t l le) in both_ways (is_concrete t l) q h.concrete
]

-- whether a domain has the number
pub within_is : (spans : List Span) (n : ℤ) (b : Bool) → (IsTrue b ↔ IsWithin spans n) → is_within spans n ≡ b
within_is spans n true h = within_in spans n (h.0 refl)
within_is spans n false h = false_from_ne_true (is_within spans n) (λ k. let p : false ≡ true = h.1 (within_from spans n k) in absurd cc)
