-- Types of containers that may be spelled by no bits.
use Rattle.std.proofs.Common.{◌≡◌, ℕ, zero, suc, ◌+◌, ◌-◌, ◌<◌, ◌≤◌, ◌==◌, ◌||◌, ◌&&◌, not, cond, Bool, true, false, List, [], ◌∷◌, ◌++◌, length, reverse, slice_get, Option, Some, None, refl, sym, ap, subst, ◌∙◌, inl, inr, arith}
use Rattle.std.specs.Prelude.{nat_lt}
use Rattle.std.specs.List.{list_all, list_any, flat_map, range_with_len}
use Rattle.std.proofs.lemmas.Bool.{and_parts, eq-eqb, eqb-true}
use Rattle.std.proofs.lemmas.Bool.Decides.{nat_tests}
use Rattle.std.proofs.lemmas.List.{reverse-append}
use Rattle.std.proofs.lemmas.Option.{slice_get_within}
use Rattle.eds_bits.specs.Lists.{Has}
use Rattle.eds_types.specs.declared.row.TypeRow.{TypeRow}
use Rattle.eds_types.specs.declared.row.Part.{Part}
use Rattle.eds_types.specs.Rows.{Table, entries_of, trailers_of, container_in, concrete_in, is_concrete, base_of, chain, chain_before, chain_within, list_has, Placed, placed_from, placed_entries, placed_trailers}
use Rattle.eds_types.specs.Rules.{IsHollow}
use Rattle.eds_graph.proofs.Tests.{split}
use Rattle.eds_read_types.specs.Kin.{is_over, passes_under}
use Rattle.eds_read_types.specs.Hollow.{is_empty, is_bare, is_void, is_hollow}
use Rattle.eds_read_types.proofs.KinFacts.{any-none}
use Rattle.eds_type_rows.proofs.SequenceFacts.{has-front, has-back, has-first, has-cases}

or_true : (b : Bool) → (b || true) ≡ true
or_true true = refl
or_true false = refl

pub not_true : (b : Bool) → not b ≡ true → b ≡ false
not_true true h = cc
not_true false h = refl

pub not_false : (b : Bool) → not b ≡ false → b ≡ true
not_false true h = refl
not_false false h = cc

-- ---- chains

has-last : (p : ℕ → Bool) (xs : List ℕ) (id : ℕ) → list_all p (xs ++ id ∷ []) ≡ (p id && list_all p xs)
has-last p [] id = refl
has-last p (x ∷ xs) id = ap (λ b. p x && b) (has-last p xs id) ∙ turned (p x) (p id) (list_all p xs)
  where
    turned : (a b c : Bool) → (a && (b && c)) ≡ (b && (a && c))
    turned true b c = refl
    turned false true c = refl
    turned false false c = refl

pub all_none : (p : ℕ → Bool) (n : ℕ) (t : Table) (id : ℕ) → n ≡ 0 → true ≡ list_all p (chain_within n t id)
unfolding chain_within
all_none p zero t id e = refl
all_none p (suc n) t id e = absurd cc

pub all_missed : (p : ℕ → Bool) (n : ℕ) (t : Table) (id : ℕ) → 0 < n → p id ≡ false → false ≡ list_all p (chain_within n t id)
unfolding chain_within
all_missed p zero t id some e = absurd (omega arith)
all_missed p (suc n) t id some e = sym (has-last p (chain_before (chain_within n t) (base_of t id)) id ∙ ap (λ b. b && list_all p (chain_before (chain_within n t) (base_of t id))) e)

pub all_ended : (p : ℕ → Bool) (n : ℕ) (t : Table) (id : ℕ) → 0 < n → p id ≡ true → base_of t id ≡ None → true ≡ list_all p (chain_within n t id)
unfolding chain_within
all_ended p zero t id some e h = absurd (omega arith)
all_ended p (suc n) t id some e h = sym (has-last p (chain_before (chain_within n t) (base_of t id)) id ∙ ap (λ b. b && list_all p (chain_before (chain_within n t) (base_of t id))) e ∙ ap (λ o. list_all p (chain_before (chain_within n t) o)) h)

pub all_on : (p : ℕ → Bool) (n : ℕ) (t : Table) (id base : ℕ) → 0 < n → p id ≡ true → base_of t id ≡ Some base → list_all p (chain_within (n - 1) t base) ≡ list_all p (chain_within n t id)
unfolding chain_within
all_on p zero t id base some e h = absurd (omega arith)
all_on p (suc n) t id base some e h =
    let back : suc n - 1 ≡ n = omega arith in
    rw back (sym (has-last p (chain_before (chain_within n t) (base_of t id)) id ∙ ap (λ b. b && list_all p (chain_before (chain_within n t) (base_of t id))) e ∙ ap (λ o. list_all p (chain_before (chain_within n t) o)) h))

-- ---- what a table calls hollow is found

listed : (before after : List ℕ) (y : ℕ) → list_has (before ++ y ∷ after) y ≡ true
listed [] after y = ap (λ b. cond b true (list_has after y)) (eq-eqb y y refl)
listed (x ∷ before) after y = go (x == y) (listed before after y)
  where
    go : (b : Bool) → list_has (before ++ y ∷ after) y ≡ true → cond b true (list_has (before ++ y ∷ after) y) ≡ true
    go true h = refl
    go false h = h

has_listed : (xs : List ℕ) (y : ℕ) → Has xs y → list_has xs y ≡ true
has_listed xs y h = ap (λ zs. list_has zs y) h.is ∙ listed h.before h.after y

listed_has : (xs : List ℕ) (y : ℕ) → list_has xs y ≡ true → Has xs y
listed_has [] y h = absurd cc
listed_has (x ∷ xs) y h = go (x == y) refl h (listed_has xs y)
  where
    go : (b : Bool) → (x == y) ≡ b → cond b true (list_has xs y) ≡ true → (list_has xs y ≡ true → Has xs y) → Has (x ∷ xs) y
    go true e k later = subst (λ z. Has (x ∷ xs) z) (eqb-true x y e) (has-first x xs)
    go false e k later = let l = later k in record { before = x ∷ l.before; after = l.after; is = ap (λ zs. x ∷ zs) l.is }

first_nil : {A : Type 0} (xs ys : List A) → xs ++ ys ≡ [] → (xs ≡ []) × (ys ≡ [])
first_nil [] ys h = (refl, h)
first_nil (x ∷ xs) ys h = absurd cc

none_held : (f : ℕ → List Placed) (ys : List ℕ) (y : ℕ) → flat_map f ys ≡ [] → Has ys y → f y ≡ []
none_held f [] y e h = absurd (go h.before h.is)
  where
    go : (before : List ℕ) → [] ≡ before ++ y ∷ h.after → ⊥
    go [] e = cc
    go (b ∷ before) e = cc
none_held f (z ∷ ys) y e h = let both = first_nil (f z) (flat_map f ys) e in elim (has-cases z y ys h) [
  | inl s ↦ subst (λ m. f m ≡ []) s both.0
  | inr l ↦ none_held f ys y both.1 l
]

unplaced : (y i : ℕ) (ps : List Part) → placed_from y i ps ≡ [] → is_empty ps ≡ true
unplaced y i [] e = refl
unplaced y i (p ∷ ps) e = absurd cc

reversed : (xs : List ℕ) (y : ℕ) → Has xs y → Has (reverse xs) y
reversed xs y h = subst (λ zs. Has zs y) (sym (ap reverse h.is ∙ reverse-append h.before (y ∷ h.after)))
    (has-front (reverse (y ∷ h.after)) (reverse h.before) y (subst (λ zs. Has zs y) (sym (reverse-append (y ∷ []) h.after)) (has-back (reverse h.after) (y ∷ []) y (has-first y []))))

all_from : (p : ℕ → Bool) (xs : List ℕ) → ((x : ℕ) → Has xs x → p x ≡ true) → list_all p xs ≡ true
all_from p [] h = refl
all_from p (x ∷ xs) h = rw (h x (has-first x xs), all_from p xs (λ y k. h y (record { before = x ∷ k.before; after = k.after; is = ap (λ zs. x ∷ zs) k.is }))) refl

any_from : (f : ℕ → Bool) (a n i : ℕ) → a ≤ i → i < a + n → f i ≡ true → list_any f (range_with_len a n) ≡ true
any_from f a zero i le lt e = absurd (omega arith)
any_from f a (suc n) i le lt e = elim (split a i) [
  | inl less ↦ rw (any_from f (a + 1) n i (omega arith) (omega arith) e) (or_true (f a))
  | inr more ↦ (let same : a ≡ i = omega arith in rw (ap f same ∙ e) refl)
]

module _ (t : Table) (id : ℕ) (h : IsHollow t id) where
  within : (k : ℕ) → is_concrete t k ≡ true → k < length t
  within k e = go (slice_get t k) refl e
    where
      go : (o : Option TypeRow) → slice_get t k ≡ o → concrete_in (container_in o) ≡ true → k < length t
      go None q f = absurd cc
      go (Some row) q f = slice_get_within t k row q

  bare : list_all (is_bare t) (chain t h.hollow) ≡ true
  bare =
      let both = first_nil (flat_map (placed_entries t) (chain t h.hollow)) (flat_map (placed_trailers t) (reverse (chain t h.hollow))) h.no_parts in
      all_from (is_bare t) (chain t h.hollow) (λ y k. rw (unplaced y 0 (entries_of t y) (none_held (placed_entries t) (chain t h.hollow) y both.0 k), unplaced y (length (entries_of t y)) (trailers_of t y) (none_held (placed_trailers t) (reverse (chain t h.hollow)) y both.1 (reversed (chain t h.hollow) y k))) refl)

  not_further : (l : ℕ) → (is_concrete t l && is_over t false l h.hollow) ≡ false
  not_further l = go (is_concrete t l && is_over t false l h.hollow) refl
    where
      unequal : (b : Bool) → not b ≡ true → b ≡ true → ⊥
      unequal true e f = cc
      unequal false e f = cc

      go : (b : Bool) → (is_concrete t l && is_over t false l h.hollow) ≡ b → b ≡ false
      go false e = refl
      go true e =
          let first = and_parts (is_concrete t l) (is_over t false l h.hollow) e in
          let second = and_parts (list_has (chain t l) h.hollow) (not (l == h.hollow)) first.1 in
          let same = h.last l first.0 (listed_has (chain t l) h.hollow second.0) in
          absurd (unequal (l == h.hollow) second.1 (eq-eqb l h.hollow same))

  void : is_void t h.hollow ≡ true
  void = rw (h.concrete, bare, any-none (λ k. is_concrete t k && is_over t false k h.hollow) 0 (length t) (λ l lt. not_further l)) refl

  over : is_over t true h.hollow id ≡ true
  over = rw (has_listed (chain t h.hollow) id h.under) refl

  pub hollow_has_void : passes_under t true (is_void t) id ≡ true
  hollow_has_void = any_from (λ k. is_void t k && is_over t true k id) 0 (length t) h.hollow (omega arith) (omega (arith, within h.hollow h.concrete)) (rw (void, over) refl)

-- where the rule finds a type to have bits, it has
pub solid : (t : Table) (id : ℕ) → id < length t → is_hollow t id ≡ false → IsHollow t id → ⊥
solid t id lt full h = let both : true ≡ false = sym (rw (less id (length t) lt, hollow_has_void t id h) refl) ∙ full in cc
  where
    less : (a b : ℕ) → a < b → nat_lt a b ≡ true
    less a b h = grind (arith, nat_tests)
