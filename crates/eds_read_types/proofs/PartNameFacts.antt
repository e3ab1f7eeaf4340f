-- The names of parts of the types that others derive from.
use Rattle.std.proofs.Common.{◌≡◌, ℕ, zero, suc, ◌+◌, ◌-◌, ◌<◌, ◌≤◌, ◌==◌, Bool, true, false, ◌||◌, List, [], ◌∷◌, ◌++◌, length, map, Option, Some, None, String, string_bytes, Global, refl, sym, ap, subst, ◌∙◌, inl, inr, ◌⊎◌, arith}
use Rattle.std.specs.BTreeSet.{BTreeSet}
use Rattle.std.specs.List.{list_any}
use Rattle.std.proofs.lemmas.Bool.{eq-eqb}
use Rattle.std.proofs.lemmas.List.{length-append}
use Rattle.std.proofs.lemmas.List.Folds.{list_any-append}
use Rattle.std.proofs.lemmas.Option.{slice_get_past}
use Rattle.eds_base.specs.Reading.{same}
use Rattle.eds_graph.specs.Reaching.{mark}
use Rattle.eds_graph.proofs.Tests.{split}
use Rattle.eds_names.specs.Repeats.{is_among}
use Rattle.eds_types.specs.Rows.{Table, base_in, base_of, container_in, container_of}
use Rattle.eds_read_types.specs.DuplicateEntry.{names_in, names_above}
use Rattle.eds_read_types.specs.PartNames.{AreBases, AreNames, names_at, names_held}
use Rattle.eds_read_types.proofs.KinFacts.{unlike}

abbrev Sets : Type 0
Sets = List (BTreeSet (String Global))

or_true : (b : Bool) → (b || true) ≡ true
or_true true = refl
or_true false = refl

-- ---- marks of bases

pub bases_none : (t : Table) (marks : List Bool) → length marks ≡ length t → AreBases t 0 marks
bases_none t marks e = record { long = e; marked = λ id base lt there is. absurd (omega arith) }

-- the next type has no base
pub bases_same : (t : Table) (n : ℕ) (marks : List Bool) → AreBases t n marks → base_of t n ≡ None → AreBases t (n + 1) marks
bases_same t n marks h none = record {
  long = h.long;
  marked = λ id base lt there is. elim (split id n) [
    | inl less ↦ h.marked id base less there is
    | inr more ↦ (let last : id ≡ n = omega arith in absurd (let both : None ≡ Some base = sym none ∙ (sym (ap (base_of t) last) ∙ is) in cc))
  ];
}

-- its base is marked
pub bases_next : (t : Table) (n base : ℕ) (marks new : List Bool) → AreBases t n marks → base_of t n ≡ Some base → length new ≡ length marks → ((k : ℕ) → k < length marks → mark new k ≡ (mark marks k || base == k)) → AreBases t (n + 1) new
bases_next t n base marks new h some long set = record {
  long = long ∙ h.long;
  marked = λ id other lt there is. (let within : other < length marks = (let same_length = h.long in omega (arith, there, same_length)) in elim (split id n) [
    | inl less ↦ set other within ∙ ap (λ b. b || base == other) (h.marked id other less there is)
    | inr more ↦ (let last : id ≡ n = omega arith in let one : base ≡ other = (let both : Some base ≡ Some other = sym some ∙ (sym (ap (base_of t) last) ∙ is) in cc) in set other within ∙ (ap (λ b. mark marks other || b) (eq-eqb base other one) ∙ or_true (mark marks other)))
  ]);
}

-- ---- names of all types

names_front : (sets : Sets) (s : BTreeSet (String Global)) (k : ℕ) → k < length sets → names_at (sets ++ s ∷ []) k ≡ names_at sets k
names_front [] s k h = absurd (omega arith)
names_front (x ∷ xs) s zero h = refl
names_front (x ∷ xs) s (suc k) h = names_front xs s k (omega arith)

names_last : (sets : Sets) (s : BTreeSet (String Global)) (k : ℕ) → k ≡ length sets → names_at (sets ++ s ∷ []) k ≡ map string_bytes s.keys
names_last [] s zero h = refl
names_last [] s (suc k) h = cc
names_last (x ∷ xs) s zero h = cc
names_last (x ∷ xs) s (suc k) h = names_last xs s k (omega (arith, h))

-- there are n sets, and each that is marked has the names of its type
abbrev pub AreMarkedNames : Table → (marks : List Bool) → (n : ℕ) → Sets → Type 0
AreMarkedNames t marks n sets = (length sets ≡ n) × ((k : ℕ) → k < n → mark marks k ≡ true → (q : List ℕ) → is_among (names_at sets k) q ≡ is_among (names_in (container_of t k)) q)

pub names_none : (t : Table) (marks : List Bool) (sets : Sets) → sets ≡ [] → AreMarkedNames t marks 0 sets
names_none t marks sets e = (ap length e, λ k lt. absurd (omega arith))

pub names_next : (t : Table) (marks : List Bool) (n : ℕ) (wanted : Bool) (s : BTreeSet (String Global)) (sets new : Sets) → AreMarkedNames t marks n sets → new ≡ sets ++ s ∷ [] → wanted ≡ mark marks n
    → (wanted ≡ true → (q : List ℕ) → is_among (map string_bytes s.keys) q ≡ is_among (names_in (container_of t n)) q) → AreMarkedNames t marks (n + 1) new
names_next t marks n wanted s sets new h e is told = (
  ap length e ∙ (let many = length-append sets (s ∷ []) in let long = h.0 in omega (arith, many, long)),
  λ k lt m q. elim (split k n) [
    | inl less ↦ ap (λ xs. is_among (names_at xs k) q) e ∙ ap (λ ns. is_among ns q) (names_front sets s k (let long = h.0 in omega (arith, long))) ∙ h.1 k less m q
    | inr more ↦ (let last : k ≡ n = omega arith in
        ap (λ xs. is_among (names_at xs k) q) e ∙ ap (λ ns. is_among ns q) (names_last sets s k (let long = h.0 in omega (arith, long, last))) ∙ told (is ∙ (sym (ap (mark marks) last) ∙ m)) q ∙ ap (λ i. is_among (names_in (container_of t i)) q) (sym last))
  ],
)

pub names_all : (t : Table) (marks : List Bool) (n : ℕ) (sets : Sets) → n ≡ length t → AreBases t (length t) marks → AreMarkedNames t marks n sets → AreNames t sets
names_all t marks n sets all bases h id base is q = elim (split base (length t)) [
  | inl there ↦ h.1 base (omega (arith, all)) (bases.marked id base (within (split id (length t))) there is) q
  | inr past ↦ ap (λ o. is_among (names_held o) q) (slice_get_past sets base (let long = h.0 in omega (arith, long, all))) ∙ sym (ap (λ r. is_among (names_in (container_in r)) q) (slice_get_past t base past))
]
  where
    within : (id < length t) ⊎ (length t ≤ id) → id < length t
    within (inl lt) = lt
    within (inr le) = absurd (let both : None ≡ Some base = sym (ap base_in (slice_get_past t id le)) ∙ is in cc)

-- ---- names above a type

above_of : (n : ℕ) (t : Table) (at base : ℕ) (name : List ℕ) → 0 < n → base_of t at ≡ Some base → is_among (names_above n t (base_of t at)) name ≡ (is_among (names_in (container_of t base)) name || is_among (names_above (n - 1) t (base_of t base)) name)
above_of zero t at base name lt e = absurd (omega arith)
above_of (suc n) t at base name lt e =
    let back : suc n - 1 ≡ n = omega arith in
    ap (λ o. is_among (names_above (suc n) t o) name) e ∙ (list_any-append (same name) (names_in (container_of t base)) (names_above n t (base_of t base)) ∙ rw back refl)

pub above_hit : (n : ℕ) (t : Table) (at base : ℕ) (name : List ℕ) (whole : Bool) → 0 < n → base_of t at ≡ Some base → is_among (names_in (container_of t base)) name ≡ true → is_among (names_above n t (base_of t at)) name ≡ whole → true ≡ whole
above_hit n t at base name whole lt e hit all = sym (above_of n t at base name lt e ∙ ap (λ b. b || is_among (names_above (n - 1) t (base_of t base)) name) hit) ∙ all

pub above_on : (n : ℕ) (t : Table) (at base : ℕ) (name : List ℕ) (whole : Bool) → 0 < n → base_of t at ≡ Some base → is_among (names_in (container_of t base)) name ≡ false → is_among (names_above n t (base_of t at)) name ≡ whole
    → is_among (names_above (n - 1) t (base_of t base)) name ≡ whole
above_on n t at base name whole lt e missed all = sym (above_of n t at base name lt e ∙ ap (λ b. b || is_among (names_above (n - 1) t (base_of t base)) name) missed) ∙ all

pub above_end : (n : ℕ) (t : Table) (at : ℕ) (name : List ℕ) (whole : Bool) → base_of t at ≡ None → is_among (names_above n t (base_of t at)) name ≡ whole → false ≡ whole
above_end zero t at name whole e all = all
above_end (suc n) t at name whole e all = sym (ap (λ o. is_among (names_above (suc n) t o) name) e) ∙ all

pub above_none : (n : ℕ) (t : Table) (at : ℕ) (name : List ℕ) (whole : Bool) → n ≡ 0 → is_among (names_above n t (base_of t at)) name ≡ whole → false ≡ whole
above_none zero t at name whole e all = all
above_none (suc n) t at name whole e all = absurd cc
