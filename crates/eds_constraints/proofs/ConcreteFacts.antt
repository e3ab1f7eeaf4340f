-- The concrete containers at or under a type, gathered by their numbers.
use Rattle.std.proofs.Common.{◌≡◌, ℕ, zero, suc, ◌+◌, ◌-◌, ◌<◌, ◌≤◌, ℤ, pos, ◌≤ℤ◌, ◌<ℤ◌, ◌↔◌, ◌⊎◌, inl, inr, List, [], ◌∷◌, ◌++◌, map, filter, length, Bool, true, false, Option, refl, sym, ap, subst, ◌∙◌, arith, append_assoc}
use Rattle.std.specs.Prelude.{◌==◌, ◌&&◌, if◌then◌else◌, cond}
use Rattle.std.specs.List.{range_with_len}
use Rattle.std.proofs.lemmas.Int.{ints}
use Rattle.eds_base.specs.declared.spans.Span.{Span}
use Rattle.eds_base.specs.Spans.{IsWithin, Rises, bottom}
use Rattle.eds_base.proofs.SpansLemmas.{rises_lower}
use Rattle.eds_types.specs.Rows.{Table, base_of, is_concrete, chain, chain_before, chain_within, list_has, derived}
use Rattle.eds_constraints.specs.Sets.{concrete_under}
use Rattle.eds_constraints.proofs.SetFacts.{same_set, Among, RiseTo, numbers_rise, numbers_within}

-- a concrete container at or under a type
abbrev pub is_concrete_at : Table → (id k : ℕ) → Bool
is_concrete_at t id k = is_concrete t k && list_has (chain t k) id

-- the set has the concrete containers at or under the type whose numbers are below k, and no others
abbrev pub UpTo : Table → (id k : ℕ) → List Span → Type 0
UpTo t id k set = (n : ℤ) → IsWithin set n ↔ ((j : ℕ) × (n ≡ pos j) × (j < k) × (is_concrete_at t id j ≡ true))

pub none_yet : (t : Table) (id : ℕ) → UpTo t id 0 []
none_yet t id n = (λ h. absurd h, λ h. absurd (below h.0 h.2))
  where
    below : (j : ℕ) → j < 0 → ⊥
    below j h = omega arith

-- one more, that is such a container
pub one_more : (t : Table) (id k : ℕ) (old new : List Span) → is_concrete_at t id k ≡ true → UpTo t id k old → ((n : ℤ) → pos k ≤ℤ n → n ≤ℤ pos k → IsWithin new n) → ((n : ℤ) → IsWithin old n → IsWithin new n) → ((n : ℤ) → IsWithin new n → IsWithin old n ⊎ ((pos k ≤ℤ n) × (n ≤ℤ pos k))) → UpTo t id (k + 1) new
one_more t id k old new is h added kept others n = (
  λ w. elim (others n w) [ inl o ↦ let p = (h n).0 o in (p.0, p.1, later p.0 p.2, p.3) | inr q ↦ let low = q.0 in let high = q.1 in (k, omega (arith, ints), omega arith, is) ],
  λ p. at p.0 p.1 p.2 p.3,
)
  where
    later : (j : ℕ) → j < k → j < k + 1
    later j l = omega arith

    at : (j : ℕ) → n ≡ pos j → j < k + 1 → is_concrete_at t id j ≡ true → IsWithin new n
    at j e l c = elim (cases j l) [ inl b ↦ kept n ((h n).1 (j, e, b, c)) | inr q ↦ let f : n ≡ pos k = e ∙ ap pos q in added n (omega (arith, ints)) (omega (arith, ints)) ]
      where
        cases : (j : ℕ) → j < k + 1 → (j < k) ⊎ (j ≡ k)
        cases j l = grind arith

-- one more, that is none
pub one_other : (t : Table) (id k : ℕ) (set : List Span) → is_concrete_at t id k ≡ false → UpTo t id k set → UpTo t id (k + 1) set
one_other t id k set is h n = (
  λ w. let p = (h n).0 w in (p.0, p.1, later p.0 p.2, p.3),
  λ p. at p.0 p.1 p.2 p.3,
)
  where
    later : (j : ℕ) → j < k → j < k + 1
    later j l = omega arith

    at : (j : ℕ) → n ≡ pos j → j < k + 1 → is_concrete_at t id j ≡ true → IsWithin set n
    at j e l c = elim (cases j l) [ inl b ↦ (h n).1 (j, e, b, c) | inr q ↦ absurd (clash (subst (λ m. is_concrete_at t id m ≡ true) q c)) ]
      where
        cases : (j : ℕ) → j < k + 1 → (j < k) ⊎ (j ≡ k)
        cases j l = grind arith

        clash : is_concrete_at t id k ≡ true → ⊥
        clash c = let f : true ≡ false = sym c ∙ is in cc

-- the next number lies above all before it
pub above_all : (t : Table) (id k : ℕ) (set : List Span) → UpTo t id k set → (n : ℤ) → IsWithin set n → n <ℤ pos k
above_all t id k set h n w = let p = (h n).0 w in below p.0 p.1 p.2
  where
    below : (j : ℕ) → n ≡ pos j → j < k → n <ℤ pos k
    below j e l = omega (arith, ints)

-- ---- the numbers of a list

filter_both : (t : Table) (id k : ℕ) (ks : List ℕ) → filter (is_concrete t) (filter (λ k. list_has (chain t k) id) (k ∷ ks)) ≡ (if is_concrete_at t id k then k ∷ filter (is_concrete t) (filter (λ k. list_has (chain t k) id) ks) else filter (is_concrete t) (filter (λ k. list_has (chain t k) id) ks))
filter_both t id k ks = go (list_has (chain t k) id) (is_concrete t k) refl refl
  where
    go : (a b : Bool) → list_has (chain t k) id ≡ a → is_concrete t k ≡ b → filter (is_concrete t) (filter (λ k. list_has (chain t k) id) (k ∷ ks)) ≡ (if is_concrete_at t id k then k ∷ filter (is_concrete t) (filter (λ k. list_has (chain t k) id) ks) else filter (is_concrete t) (filter (λ k. list_has (chain t k) id) ks))
    go true true e f = rw (e, f) refl
    go true false e f = rw (e, f) refl
    go false true e f = rw (e, f) refl
    go false false e f = rw (e, f) refl

rise : (t : Table) (id a n : ℕ) → RiseTo a (a + n) (filter (is_concrete t) (filter (λ k. list_has (chain t k) id) (range_with_len a n)))
rise t id a zero = tt
rise t id a (suc n) = go (is_concrete_at t id a) refl (up (a + 1) (a + 1 + n) (a + suc n) (filter (is_concrete t) (filter (λ k. list_has (chain t k) id) (range_with_len (a + 1) n))) (rise t id (a + 1) n) (omega arith))
  where
    up : (f m most : ℕ) (ks : List ℕ) → RiseTo f m ks → m ≡ most → RiseTo f most ks
    up f m most ks r e = rw (← e) r

    lower : (f g most : ℕ) (ks : List ℕ) → g ≤ f → RiseTo f most ks → RiseTo g most ks
    lower f g most [] l r = tt
    lower f g most (k ∷ ks) l r = let h = r.0 in (omega arith, r.1, r.2)

    go : (b : Bool) → is_concrete_at t id a ≡ b → RiseTo (a + 1) (a + suc n) (filter (is_concrete t) (filter (λ k. list_has (chain t k) id) (range_with_len (a + 1) n))) → RiseTo a (a + suc n) (filter (is_concrete t) (filter (λ k. list_has (chain t k) id) (range_with_len a (suc n))))
    go true e r = subst (RiseTo a (a + suc n)) {x = a ∷ (filter (is_concrete t) (filter (λ k. list_has (chain t k) id) (range_with_len (a + 1) n)))} (sym (filter_both t id a (range_with_len (a + 1) n) ∙ rw e refl)) (omega arith, omega arith, r)
    go false e r = subst (RiseTo a (a + suc n)) {x = (filter (is_concrete t) (filter (λ k. list_has (chain t k) id) (range_with_len (a + 1) n)))} (sym (filter_both t id a (range_with_len (a + 1) n) ∙ rw e refl)) (lower (a + 1) a (a + suc n) (filter (is_concrete t) (filter (λ k. list_has (chain t k) id) (range_with_len (a + 1) n))) (omega arith) r)

among : (t : Table) (id a n : ℕ) (m : ℤ) → Among (filter (is_concrete t) (filter (λ k. list_has (chain t k) id) (range_with_len a n))) m ↔ ((j : ℕ) × (m ≡ pos j) × (a ≤ j) × (j < a + n) × (is_concrete_at t id j ≡ true))
among t id a zero m = (λ h. absurd h, λ h. absurd (none h.0 h.2 h.3))
  where
    none : (j : ℕ) → a ≤ j → j < a + 0 → ⊥
    none j l h = omega arith
among t id a (suc n) m = go (is_concrete_at t id a) refl (among t id (a + 1) n m)
  where
    split : (j : ℕ) → a ≤ j → (j ≡ a) ⊎ (a + 1 ≤ j)
    split j l = grind arith

    go : (b : Bool) → is_concrete_at t id a ≡ b → Among (filter (is_concrete t) (filter (λ k. list_has (chain t k) id) (range_with_len (a + 1) n))) m ↔ ((j : ℕ) × (m ≡ pos j) × (a + 1 ≤ j) × (j < a + 1 + n) × (is_concrete_at t id j ≡ true))
        → Among (filter (is_concrete t) (filter (λ k. list_has (chain t k) id) (range_with_len a (suc n)))) m ↔ ((j : ℕ) × (m ≡ pos j) × (a ≤ j) × (j < a + suc n) × (is_concrete_at t id j ≡ true))
    go true e more = subst (λ ks. Among ks m ↔ ((j : ℕ) × (m ≡ pos j) × (a ≤ j) × (j < a + suc n) × (is_concrete_at t id j ≡ true))) {x = a ∷ (filter (is_concrete t) (filter (λ k. list_has (chain t k) id) (range_with_len (a + 1) n)))} (sym (filter_both t id a (range_with_len (a + 1) n) ∙ rw e refl)) (
      λ h. elim h [ inl q ↦ (a, q, omega arith, omega arith, e) | inr r ↦ let p = more.0 r in let low = p.2 in let high = p.3 in (p.0, p.1, omega arith, omega arith, p.4) ],
      λ p. let low = p.2 in let high = p.3 in elim (split p.0 low) [ inl q ↦ inl (p.1 ∙ ap pos q) | inr l ↦ inr (more.1 (p.0, p.1, l, omega arith, p.4)) ],
    )
    go false e more = subst (λ ks. Among ks m ↔ ((j : ℕ) × (m ≡ pos j) × (a ≤ j) × (j < a + suc n) × (is_concrete_at t id j ≡ true))) {x = (filter (is_concrete t) (filter (λ k. list_has (chain t k) id) (range_with_len (a + 1) n)))} (sym (filter_both t id a (range_with_len (a + 1) n) ∙ rw e refl)) (
      λ r. let p = more.0 r in let low = p.2 in let high = p.3 in (p.0, p.1, omega arith, omega arith, p.4),
      λ p. let low = p.2 in let high = p.3 in elim (split p.0 low) [ inl q ↦ absurd (clash (subst (λ j. is_concrete_at t id j ≡ true) q p.4)) | inr l ↦ more.1 (p.0, p.1, l, omega arith, p.4) ],
    )
      where
        clash : is_concrete_at t id a ≡ true → ⊥
        clash c = let f : true ≡ false = sym c ∙ e in cc

pub concrete_rises : (t : Table) (id : ℕ) → length t ≤ 4096 → Rises (concrete_under t id)
concrete_rises t id few = rises_lower bottom (pos 0) (concrete_under t id) (omega (arith, ints)) (numbers_rise 0 (0 + length t) (filter (is_concrete t) (derived t id)) (omega arith) (rise t id 0 (length t)))

pub concrete_within : (t : Table) (id : ℕ) → length t ≤ 4096 → (n : ℤ) → IsWithin (concrete_under t id) n ↔ ((j : ℕ) × (n ≡ pos j) × (j < length t) × (is_concrete_at t id j ≡ true))
concrete_within t id few n =
    let is = numbers_within 0 (0 + length t) (filter (is_concrete t) (derived t id)) (omega arith) (rise t id 0 (length t)) n in
    let among = among t id 0 (length t) n in (
      λ h. let p = among.0 (is.0 h) in let high = p.3 in (p.0, p.1, omega arith, p.4),
      λ p. let high = p.2 in is.1 (among.1 (p.0, p.1, omega arith, omega arith, p.3)),
    )

pub concrete-is : (t : Table) (id : ℕ) (set : List Span) → length t ≤ 4096 → Rises set → UpTo t id (length t) set → set ≡ concrete_under t id
concrete-is t id set few r h = same_set set (concrete_under t id) r (concrete_rises t id few) (λ n w. (concrete_within t id few n).1 ((h n).0 w)) (λ n w. (h n).1 ((concrete_within t id few n).0 w))

-- ---- chains

has_both : (xs : List ℕ) (y x : ℕ) → list_has (xs ++ y ∷ []) x ≡ cond (list_has xs x) true (y == x)
has_both [] y x = go (y == x) refl
  where
    go : (b : Bool) → (y == x) ≡ b → list_has (y ∷ []) x ≡ (y == x)
    go true e = rw e refl
    go false e = rw e refl
has_both (z ∷ xs) y x = go (z == x) refl (has_both xs y x)
  where
    go : (b : Bool) → (z == x) ≡ b → list_has (xs ++ y ∷ []) x ≡ cond (list_has xs x) true (y == x) → list_has (z ∷ xs ++ y ∷ []) x ≡ cond (list_has (z ∷ xs) x) true (y == x)
    go true e more = rw e refl
    go false e more = rw e more

or_true : (b : Bool) → cond b true true ≡ true
or_true true = refl
or_true false = refl

or_false : (b : Bool) → cond b true false ≡ b
or_false true = refl
or_false false = refl

equal : (y x : ℕ) → y ≡ x → (y == x) ≡ true
equal y x e = grind arith

unequal : (y x : ℕ) → (y ≡ x → ⊥) → (y == x) ≡ false
unequal y x e = grind arith

number_is : (n : ℕ) → 0 < n → n ≡ suc (n - 1)
number_is n h = omega arith

pub within_zero : (t : Table) (n id x : ℕ) → n ≡ 0 → false ≡ list_has (chain_within n t id) x
unfolding chain_within
within_zero t n id x e = rw e refl

pub within_own : (t : Table) (n id x : ℕ) → 0 < n → id ≡ x → true ≡ list_has (chain_within n t id) x
unfolding chain_within
within_own t n id x h e = sym (ap (λ m. list_has (chain_within m t id) x) (number_is n h) ∙ has_both (chain_before (chain_within (n - 1) t) (base_of t id)) id x ∙ ap (cond (list_has (chain_before (chain_within (n - 1) t) (base_of t id)) x) true) (equal id x e) ∙ or_true (list_has (chain_before (chain_within (n - 1) t) (base_of t id)) x))

pub within_above : (t : Table) (n id x : ℕ) (o : Option ℕ) → 0 < n → (id ≡ x → ⊥) → base_of t id ≡ o → list_has (chain_before (chain_within (n - 1) t) o) x ≡ list_has (chain_within n t id) x
unfolding chain_within
within_above t n id x o h e is = ap (λ p. list_has (chain_before (chain_within (n - 1) t) p) x) (sym is) ∙ sym (ap (λ m. list_has (chain_within m t id) x) (number_is n h) ∙ has_both (chain_before (chain_within (n - 1) t) (base_of t id)) id x ∙ ap (cond (list_has (chain_before (chain_within (n - 1) t) (base_of t id)) x) true) (unequal id x e) ∙ or_false (list_has (chain_before (chain_within (n - 1) t) (base_of t id)) x))

-- ---- over all numbers

pub sets-next : {A : Type 0} (f : ℕ → A) (old new whole : List A) (i n : ℕ) → i < n → new ≡ old ++ f i ∷ [] → old ++ map f (range_with_len i (n - i)) ≡ whole → new ++ map f (range_with_len (i + 1) (n - (i + 1))) ≡ whole
sets-next f old new whole i n lt e is =
    let step : n - i ≡ suc (n - (i + 1)) = omega arith in
    rw e (append_assoc old (f i ∷ []) (map f (range_with_len (i + 1) (n - (i + 1)))) ∙ ap (λ m. old ++ map f (range_with_len i m)) (sym step) ∙ is)
