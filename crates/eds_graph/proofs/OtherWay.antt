-- Ways the other way round.
use Rattle.std.proofs.Common.{◌≡◌, ℕ, zero, suc, ◌+◌, ◌<◌, ◌==◌, length, map, filter, Bool, true, false, List, [], ◌∷◌, ◌++◌, refl, sym, ap, ◌∙◌, subst, arith, inl, inr, ◌⊎◌}
use Rattle.std.specs.Prelude.{unwrap_or}
use Rattle.std.specs.List.{range_with_len}
use Rattle.std.proofs.lemmas.Bool.{eq-eqb, eqb-true}
use Rattle.std.proofs.lemmas.List.FromFn.{map-range_with_len_more, get_or-map-range_with_len, length-map-range_with_len}
use Rattle.std.proofs.lemmas.List.Elements.{filter-append}
use Rattle.std.proofs.lemmas.Option.{slice_get-get_or}
use Rattle.eds_graph.specs.Search.{Has}
use Rattle.eds_graph.specs.Ways.{children, leads, is_met, is_child, parents, reversed}
use Rattle.eds_graph.specs.Laws.{IsMetBackwards}
use Rattle.eds_graph.proofs.Tests.{alike, any-has, has-any, has-range, split}
use Rattle.eds_graph.proofs.Leading.{no-children, leads-step, leads-within, leads-all, leads-on, met-leads, met-same, met-or}

-- ---- lists that grow by one

range-more : (a n k : ℕ) → a + n ≡ k → range_with_len a (suc n) ≡ range_with_len a n ++ k ∷ []
range-more a zero k e = let is : a ≡ k = omega (arith, e) in ap (λ x. x ∷ []) is
range-more a (suc n) k e = ap (λ xs. a ∷ xs) (range-more (a + 1) n k (omega (arith, e)))

pub kept-more : (p : ℕ → Bool) (n : ℕ) (before after : List ℕ) → before ≡ filter p (range_with_len 0 n) → after ≡ before ++ filter p (n ∷ []) → after ≡ filter p (range_with_len 0 (n + 1))
kept-more p n before after b e = let next : suc n ≡ n + 1 = omega arith in subst (λ m. after ≡ filter p (range_with_len 0 m)) next (e ∙ ap (λ xs. xs ++ filter p (n ∷ [])) b ∙ sym (filter-append p (range_with_len 0 n) (n ∷ [])) ∙ ap (filter p) (sym (range-more 0 n n (omega arith))))

pub one-more : {A : Type 0} (f : ℕ → A) (n : ℕ) (x : A) (before after : List A) → before ≡ map f (range_with_len 0 n) → after ≡ before ++ x ∷ [] → x ≡ f n → after ≡ map f (range_with_len 0 (n + 1))
one-more f n x before after b a e =
    a ∙ ap (λ xs. xs ++ x ∷ []) b ∙ ap (λ y. map f (range_with_len 0 n) ++ y ∷ []) e ∙ sym (map-range_with_len_more f 0 n n (omega arith))

-- ---- what is kept of a list

has-kept : (p : ℕ → Bool) (xs : List ℕ) (a : ℕ) → Has xs a → p a ≡ true → Has (filter p xs) a
has-kept p [] a h e = absurd h
has-kept p (x ∷ xs) a h e = go (p x) refl h (λ r. has-kept p xs a r e)
  where
    go : (b : Bool) → p x ≡ b → (x ≡ a) ⊎ Has xs a → (Has xs a → Has (filter p xs) a) → Has (filter p (x ∷ xs)) a
    go true q (inl s) rest = rw q (inl s)
    go true q (inr r) rest = rw q (inr (rest r))
    go false q (inl s) rest = let both : true ≡ false = sym e ∙ (ap p (sym s) ∙ q) in cc
    go false q (inr r) rest = rw q (rest r)

kept-has : (p : ℕ → Bool) (xs : List ℕ) (a : ℕ) → Has (filter p xs) a → Has xs a × (p a ≡ true)
kept-has p [] a h = absurd h
kept-has p (x ∷ xs) a h = go (p x) refl h (λ r. kept-has p xs a r)
  where
    go : (b : Bool) → p x ≡ b → Has (filter p (x ∷ xs)) a → (Has (filter p xs) a → Has xs a × (p a ≡ true)) → Has (x ∷ xs) a × (p a ≡ true)
    go true q k rest = first (rw q at k)
      where
        first : (x ≡ a) ⊎ Has (filter p xs) a → Has (x ∷ xs) a × (p a ≡ true)
        first (inl s) = (inl s, ap p (sym s) ∙ q)
        first (inr r) = let f = rest r in (inr f.0, f.1)
    go false q k rest = let f = rest (rw q at k) in (inr f.0, f.1)

-- ---- one step

module _ (g : List (List ℕ)) where
  children-back : (b : ℕ) → b < length g → children (reversed g) b ≡ parents g b
  children-back b h =
      let long : length (reversed g) ≡ length g = length-map-range_with_len (parents g) 0 (length g) in
      ap (λ o. unwrap_or o []) (slice_get-get_or (reversed g) b [] (omega arith)) ∙ get_or-map-range_with_len (parents g) 0 (length g) b b [] (omega arith) (omega arith)

  child-within : (a b : ℕ) → Has (children g a) b → a < length g
  child-within a b h = leads-within g a b (leads-step g a b h)

  step-back : (a b : ℕ) → b < length g → Has (children g a) b → Has (children (reversed g) b) a
  step-back a b lt h =
      subst (λ xs. Has xs a) (sym (children-back b lt))
      (has-kept (is_child g b) (range_with_len 0 (length g)) a (let in_range = child-within a b h in has-range 0 (length g) a (omega arith) (omega arith)) (any-has (λ c. c == b) (children g a) b h (eq-eqb b b refl)))

  step-forth : (b a : ℕ) → Has (children (reversed g) b) a → Has (children g a) b
  step-forth b a h = elim (split b (length g)) [
    | inl lt ↦ let f = kept-has (is_child g b) (range_with_len 0 (length g)) a (subst (λ xs. Has xs a) (children-back b lt) h) in
        let p = has-any (λ c. c == b) (children g a) f.1 in
        subst (Has (children g a)) (eqb-true p.one b p.test) p.there
    | inr le ↦ let long : length (reversed g) ≡ length g = length-map-range_with_len (parents g) 0 (length g) in
        absurd (subst (λ xs. Has xs a) (no-children (reversed g) b (omega arith)) h)
  ]

  -- ---- all steps

  abbrev Backwards : ℕ → ℕ → Type 0
  Backwards a c = c < length g → (c ≡ a) ⊎ (leads (reversed g) c a ≡ true)

  abbrev Forwards : ℕ → ℕ → Type 0
  Forwards b c = (c ≡ b) ⊎ (leads g c b ≡ true)

  led-back : (a b : ℕ) → b < length g → leads g a b ≡ true → is_met (reversed g) b a ≡ true
  led-back a b lt e = met (leads-all g (Backwards a) on a b (λ own. inl refl) e lt)
    where
      on : (x c : ℕ) → Backwards a x → Has (children g x) c → Backwards a c
      on x c p h here = from (p (child-within x c h))
        where
          one : leads (reversed g) c x ≡ true
          one = leads-step (reversed g) c x (step-back x c here h)

          from : (x ≡ a) ⊎ (leads (reversed g) x a ≡ true) → (c ≡ a) ⊎ (leads (reversed g) c a ≡ true)
          from (inl s) = inr (subst (λ n. leads (reversed g) c n ≡ true) s one)
          from (inr r) = inr (leads-on (reversed g) c x a one r)

      met : (b ≡ a) ⊎ (leads (reversed g) b a ≡ true) → is_met (reversed g) b a ≡ true
      met (inl s) = met-same (reversed g) b a s
      met (inr r) = met-leads (reversed g) b a r

  led-forth : (b a : ℕ) → leads (reversed g) b a ≡ true → is_met g a b ≡ true
  led-forth b a e = met (leads-all (reversed g) (Forwards b) on b a (inl refl) e)
    where
      on : (x c : ℕ) → Forwards b x → Has (children (reversed g) x) c → Forwards b c
      on x c p h = from p
        where
          one : leads g c x ≡ true
          one = leads-step g c x (step-forth x c h)

          from : (x ≡ b) ⊎ (leads g x b ≡ true) → (c ≡ b) ⊎ (leads g c b ≡ true)
          from (inl s) = inr (subst (λ n. leads g c n ≡ true) s one)
          from (inr r) = inr (leads-on g c x b one r)

      met : (a ≡ b) ⊎ (leads g a b ≡ true) → is_met g a b ≡ true
      met (inl s) = met-same g a b s
      met (inr r) = met-leads g a b r

pub met-backwards : IsMetBackwards
met-backwards g a b lt = alike (is_met (reversed g) b a) (is_met g a b)
    (λ e. forth (met-or (reversed g) b a e))
    (λ e. over (met-or g a b e))
  where
    forth : (b ≡ a) ⊎ (leads (reversed g) b a ≡ true) → is_met g a b ≡ true
    forth (inl s) = met-same g a b (sym s)
    forth (inr r) = led-forth g b a r

    over : (a ≡ b) ⊎ (leads g a b ≡ true) → is_met (reversed g) b a ≡ true
    over (inl s) = met-same (reversed g) b a (sym s)
    over (inr r) = led-back g a b lt r
