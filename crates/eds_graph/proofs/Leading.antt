-- One number leads to another over any number of steps.
use Rattle.std.proofs.Common.{◌≡◌, ℕ, zero, suc, ◌<◌, ◌≤◌, ◌==◌, ◌||◌, length, map, Bool, true, false, List, [], ◌∷◌, refl, sym, ap, ◌∙◌, subst, arith, inl, inr, ◌⊎◌}
use Rattle.std.specs.Prelude.{slice_get, unwrap_or}
use Rattle.std.specs.List.{list_any, range_with_len}
use Rattle.std.proofs.lemmas.Bool.{eq-eqb, eqb-true}
use Rattle.std.proofs.lemmas.List.FromFn.{get_or-map-range_with_len, length-map-range_with_len}
use Rattle.std.proofs.lemmas.Option.{slice_get-get_or, slice_get_past}
use Rattle.eds_graph.specs.Search.{Has}
use Rattle.eds_graph.specs.Ways.{children, reaches, leads, is_met}
use Rattle.eds_graph.proofs.Tests.{or-left, or-right, either, split, any-has, has-any, any-alike, any-implied, no-both}

-- ---- flags

abbrev pub flag : List Bool → ℕ → Bool
flag bs i = unwrap_or (slice_get bs i) false

abbrev pub trues : List Bool → ℕ
trues [] = 0
trues (true ∷ bs) = suc (trues bs)
trues (false ∷ bs) = trues bs

abbrev AreUnder : List Bool → List Bool → Type 0
AreUnder [] [] = Unit {0}
AreUnder [] (b ∷ bs) = ⊥
AreUnder (a ∷ xs) [] = ⊥
AreUnder (a ∷ xs) (b ∷ ys) = (a ≡ true → b ≡ true) × AreUnder xs ys

pub trues-length : (bs : List Bool) → trues bs ≤ length bs
trues-length [] = omega arith
trues-length (true ∷ bs) = let rest = trues-length bs in omega arith
trues-length (false ∷ bs) = let rest = trues-length bs in omega arith

more-or-equal : (xs ys : List Bool) → AreUnder xs ys → trues xs ≤ trues ys
more-or-equal [] [] h = omega arith
more-or-equal [] (b ∷ ys) h = absurd h
more-or-equal (a ∷ xs) [] h = absurd h
more-or-equal (true ∷ xs) (true ∷ ys) h = let rest = more-or-equal xs ys h.1 in omega arith
more-or-equal (true ∷ xs) (false ∷ ys) h = let wrong : false ≡ true = h.0 refl in cc
more-or-equal (false ∷ xs) (true ∷ ys) h = let rest = more-or-equal xs ys h.1 in omega arith
more-or-equal (false ∷ xs) (false ∷ ys) h = more-or-equal xs ys h.1

fewer : (xs ys : List Bool) → AreUnder xs ys → (xs ≡ ys) ⊎ (trues xs < trues ys)
fewer [] [] h = inl refl
fewer [] (b ∷ ys) h = absurd h
fewer (a ∷ xs) [] h = absurd h
fewer (true ∷ xs) (true ∷ ys) h = elim (fewer xs ys h.1) [ inl e ↦ inl (ap (λ zs. true ∷ zs) e) | inr lt ↦ inr (omega arith) ]
fewer (true ∷ xs) (false ∷ ys) h = let wrong : false ≡ true = h.0 refl in cc
fewer (false ∷ xs) (true ∷ ys) h = let rest = more-or-equal xs ys h.1 in inr (omega arith)
fewer (false ∷ xs) (false ∷ ys) h = elim (fewer xs ys h.1) [ inl e ↦ inl (ap (λ zs. false ∷ zs) e) | inr lt ↦ inr lt ]

under-map : (f g : ℕ → Bool) → ((n : ℕ) → f n ≡ true → g n ≡ true) → (ns : List ℕ) → AreUnder (map f ns) (map g ns)
under-map f g h [] = tt
under-map f g h (n ∷ ns) = (h n, under-map f g h ns)

flag-in : (f : ℕ → Bool) (n i : ℕ) → i < n → flag (map f (range_with_len 0 n)) i ≡ f i
flag-in f n i h =
    let long : length (map f (range_with_len 0 n)) ≡ n = length-map-range_with_len f 0 n in
    ap (λ o. unwrap_or o false) (slice_get-get_or (map f (range_with_len 0 n)) i true (omega arith)) ∙ get_or-map-range_with_len f 0 n i i true (omega arith) (omega arith)

-- ---- steps

pub no-children : (g : List (List ℕ)) (a : ℕ) → length g ≤ a → children g a ≡ []
no-children g a h = ap (λ o. unwrap_or o []) (slice_get_past g a h)

reaches-grow : (k : ℕ) (g : List (List ℕ)) (a b : ℕ) → reaches k g a b ≡ true → reaches (suc k) g a b ≡ true
unfolding reaches
reaches-grow zero g a b e = cc
reaches-grow (suc k) g a b e =
    any-implied (λ c. (c == b) || reaches k g c b) (λ c. (c == b) || reaches (suc k) g c b)
    (λ c h. elim (either (c == b) (reaches k g c b) h) [ inl l ↦ or-left (c == b) (reaches (suc k) g c b) l | inr r ↦ or-right (c == b) (reaches (suc k) g c b) (reaches-grow k g c b r) ]) (children g a) e

reaches-past : (k : ℕ) (g : List (List ℕ)) (a b : ℕ) → length g ≤ a → reaches k g a b ≡ false
unfolding reaches
reaches-past zero g a b h = refl
reaches-past (suc k) g a b h = ap (list_any (λ c. (c == b) || reaches k g c b)) (no-children g a h)

module _ (g : List (List ℕ)) (b : ℕ) where
  -- one step more reaches no more
  abbrev IsStable : ℕ → Type 0
  IsStable k = (a : ℕ) → reaches k g a b ≡ reaches (suc k) g a b

  abbrev flags : ℕ → List Bool
  flags k = map (λ a. reaches k g a b) (range_with_len 0 (length g))

  stable-from : (k : ℕ) → flags k ≡ flags (suc k) → IsStable k
  stable-from k e a = elim (split a (length g)) [
    | inl lt ↦ sym (flag-in (λ v. reaches k g v b) (length g) a lt) ∙ ap (λ bs. flag bs a) e ∙ flag-in (λ v. reaches (suc k) g v b) (length g) a lt
    | inr le ↦ reaches-past k g a b le ∙ sym (reaches-past (suc k) g a b le)
  ]

  stable-next : (k : ℕ) → IsStable k → IsStable (suc k)
  unfolding reaches
  stable-next k h a = any-alike (λ c. (c == b) || reaches k g c b) (λ c. (c == b) || reaches (suc k) g c b) (λ c. ap (λ r. (c == b) || r) (h c)) (children g a)

  grow : (k : ℕ) → (flags k ≡ flags (suc k)) ⊎ (trues (flags k) < trues (flags (suc k)))
  grow k = fewer (flags k) (flags (suc k)) (under-map (λ a. reaches k g a b) (λ a. reaches (suc k) g a b) (λ a. reaches-grow k g a b) (range_with_len 0 (length g)))

  stable-or : (k : ℕ) → IsStable k ⊎ (suc k ≤ trues (flags (suc k)))
  stable-or zero = elim (grow 0) [ inl e ↦ inl (stable-from 0 e) | inr lt ↦ inr (omega arith) ]
  stable-or (suc k) = elim (stable-or k) [ inl s ↦ inl (stable-next k s) | inr le ↦ elim (grow (suc k)) [ inl e ↦ inl (stable-from (suc k) e) | inr lt ↦ inr (omega arith) ] ]

  -- as many steps as there are numbers reach all that is reached
  stable : IsStable (length g)
  stable = elim (stable-or (length g)) [ inl s ↦ s | inr le ↦ let most_true = trues-length (flags (suc (length g))) in let long : length (flags (suc (length g))) ≡ length g = length-map-range_with_len (λ a. reaches (suc (length g)) g a b) 0 (length g) in absurd (omega arith) ]

module _ (g : List (List ℕ)) where
  -- a number leads to what one of its children is or leads to
  pub leads-is : (a b : ℕ) → leads g a b ≡ list_any (λ c. is_met g c b) (children g a)
  unfolding reaches
  leads-is a b = stable g b a

  pub leads-past : (a b : ℕ) → length g ≤ a → leads g a b ≡ false
  leads-past a b h = reaches-past (length g) g a b h

  pub leads-within : (a b : ℕ) → leads g a b ≡ true → a < length g
  leads-within a b e = elim (split a (length g)) [ inl lt ↦ lt | inr le ↦ absurd (no-both (leads g a b) e (leads-past a b le)) ]

  pub leads-child : (a b c : ℕ) → Has (children g a) c → is_met g c b ≡ true → leads g a b ≡ true
  leads-child a b c h e = leads-is a b ∙ any-has (λ d. is_met g d b) (children g a) c h e

  pub met-itself : (a : ℕ) → is_met g a a ≡ true
  met-itself a = or-left (a == a) (leads g a a) (eq-eqb a a refl)

  pub met-same : (a b : ℕ) → a ≡ b → is_met g a b ≡ true
  met-same a b e = or-left (a == b) (leads g a b) (eq-eqb a b e)

  pub met-leads : (a b : ℕ) → leads g a b ≡ true → is_met g a b ≡ true
  met-leads a b e = or-right (a == b) (leads g a b) e

  pub leads-step : (a b : ℕ) → Has (children g a) b → leads g a b ≡ true
  leads-step a b h = leads-child a b b h (met-itself b)

  pub met-or : (a b : ℕ) → is_met g a b ≡ true → (a ≡ b) ⊎ (leads g a b ≡ true)
  met-or a b e = elim (either (a == b) (leads g a b) e) [ inl l ↦ inl (eqb-true a b l) | inr r ↦ inr r ]

  -- what holds of all that some number leads to, where it goes on from each number to what that leads to
  pub reaches-all : (P : ℕ → Type 0) → ((a c : ℕ) → P a → Has (children g a) c → P c) → (k a b : ℕ) → P a → reaches k g a b ≡ true → P b
  unfolding reaches
  reaches-all P on zero a b p e = cc
  reaches-all P on (suc k) a b p e =
      let f = has-any (λ c. (c == b) || reaches k g c b) (children g a) e in
      go f.one (on a f.one p f.there) (λ q r. reaches-all P on k f.one b q r) (either (f.one == b) (reaches k g f.one b) f.test)
    where
      go : (c : ℕ) → P c → (P c → reaches k g c b ≡ true → P b) → ((c == b) ≡ true) ⊎ (reaches k g c b ≡ true) → P b
      go c q rest (inl s) = subst P (eqb-true c b s) q
      go c q rest (inr r) = rest q r

  pub leads-all : (P : ℕ → Type 0) → ((a c : ℕ) → P a → Has (children g a) c → P c) → (a b : ℕ) → P a → leads g a b ≡ true → P b
  leads-all P on a b p e = reaches-all P on (length g) a b p e

  -- over further steps
  reaches-on : (k a b c : ℕ) → reaches k g a b ≡ true → leads g b c ≡ true → leads g a c ≡ true
  unfolding reaches
  reaches-on zero a b c e h = cc
  reaches-on (suc k) a b c e h =
      let f = has-any (λ d. (d == b) || reaches k g d b) (children g a) e in
      leads-child a c f.one f.there (met-leads f.one c (go f.one (λ r. reaches-on k f.one b c r h) (either (f.one == b) (reaches k g f.one b) f.test)))
    where
      go : (d : ℕ) → (reaches k g d b ≡ true → leads g d c ≡ true) → ((d == b) ≡ true) ⊎ (reaches k g d b ≡ true) → leads g d c ≡ true
      go d rest (inl s) = subst (λ n. leads g n c ≡ true) (sym (eqb-true d b s)) h
      go d rest (inr r) = rest r

  pub leads-on : (a b c : ℕ) → leads g a b ≡ true → leads g b c ≡ true → leads g a c ≡ true
  leads-on a b c e h = reaches-on (length g) a b c e h

  pub leads-met : (a b c : ℕ) → leads g a b ≡ true → (b ≡ c) ⊎ (leads g b c ≡ true) → leads g a c ≡ true
  leads-met a b c e (inl s) = subst (λ n. leads g a n ≡ true) s e
  leads-met a b c e (inr h) = leads-on a b c e h

  pub met-on : (a b c : ℕ) → (a ≡ b) ⊎ (leads g a b ≡ true) → leads g b c ≡ true → leads g a c ≡ true
  met-on a b c (inl s) h = subst (λ n. leads g n c ≡ true) (sym s) h
  met-on a b c (inr e) h = leads-on a b c e h

  -- fewer numbers are reached from what a number on no circle leads to
  abbrev pub above : ℕ → List Bool
  above a = map (λ b. leads g a b) (range_with_len 0 (length g))

  pub above-few : (a : ℕ) → trues (above a) ≤ length g
  above-few a = let few = trues-length (above a) in let long : length (above a) ≡ length g = length-map-range_with_len (λ b. leads g a b) 0 (length g) in omega arith

  pub above-fewer : (a c : ℕ) → Has (children g a) c → leads g c c ≡ false → c < length g → trues (above c) < trues (above a)
  above-fewer a c h not_own lt =
      let here : leads g a c ≡ true = leads-step a c h in
      elim (fewer (above c) (above a) (under-map (λ b. leads g c b) (λ b. leads g a b) (λ b e. leads-child a b c h (met-leads c b e)) (range_with_len 0 (length g)))) [
        | inl e ↦ let same_flag : leads g c c ≡ leads g a c = sym (flag-in (λ b. leads g c b) (length g) c lt) ∙ ap (λ bs. flag bs c) e ∙ flag-in (λ b. leads g a b) (length g) c lt in
            absurd (no-both (leads g c c) (same_flag ∙ here) not_own)
        | inr less ↦ less
      ]
