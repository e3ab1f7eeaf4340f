-- The chain of a type begins with the chains of its bases.
use Rattle.std.proofs.Common.{◌≡◌, ℕ, zero, suc, ◌+◌, ◌<◌, ◌≤◌, List, [], ◌∷◌, ◌++◌, length, Option, Some, None, refl, sym, ap, ◌∙◌, append_assoc, append-nil, arith, ◌⊎◌, inl, inr}
use Rattle.std.proofs.lemmas.List.{length-append}
use Rattle.eds_bits.specs.Lists.{Has}
use Rattle.eds_types.specs.Rows.{Table, base_of, chain_before, chain_within, chain}
use Rattle.eds_types.proofs.Tables.{IsTable}

-- a list with a last element, cut at some element
pub split_last : (cs : List ℕ) (x : ℕ) (xs : List ℕ) (z : ℕ) (ys : List ℕ) → cs ++ x ∷ [] ≡ xs ++ z ∷ ys → ((xs ≡ cs) × (z ≡ x) × (ys ≡ [])) ⊎ ((ws : List ℕ) × (ys ≡ ws ++ x ∷ []) × (cs ≡ xs ++ z ∷ ws))
split_last [] x [] z [] e = inl (refl, cc, refl)
split_last [] x [] z (y ∷ ys) e = absurd cc
split_last [] x (a ∷ []) z ys e = absurd cc
split_last [] x (a ∷ b ∷ xs) z ys e = absurd cc
split_last (a ∷ cs) x [] z ys e = let p : a ≡ z = cc in let q : cs ++ x ∷ [] ≡ ys = cc in inr (cs, sym q, ap (λ c. c ∷ cs) p)
split_last (a ∷ cs) x (b ∷ xs) z ys e =
    let p : a ≡ b = cc in let q : cs ++ x ∷ [] ≡ xs ++ z ∷ ys = cc in
    elim (split_last cs x xs z ys q) [
      | inl h ↦ inl (let r = h.0 in cc, h.1, h.2)
      | inr h ↦ inr (h.0, h.1, let r = h.2 in cc)
    ]

-- lists that are equal with their last elements
pub front_same : (a c : List ℕ) (y z : ℕ) → a ++ y ∷ [] ≡ c ++ z ∷ [] → a ≡ c
front_same a c y z e = elim (split_last a y c z [] e) [ inl h ↦ sym h.0 | inr h ↦ absurd (no_end h.0 y h.1) ]
  where
    no_end : (ws : List ℕ) (x : ℕ) → [] ≡ ws ++ x ∷ [] → ⊥
    no_end [] x e = cc
    no_end (w ∷ ws) x e = cc

module _ (t : Table) (is : IsTable t) where
  -- the number of steps doesn't matter, where there are enough
  same_before : (n m : ℕ) (id : ℕ) (o : Option ℕ) → base_of t id ≡ o → ((base : ℕ) → is.level base < n → is.level base < m → chain_within n t base ≡ chain_within m t base) → is.level id < suc n → is.level id < suc m → chain_before (chain_within n t) o ≡ chain_before (chain_within m t) o
  same_before n m id None e ih h k = refl
  same_before n m id (Some base) e ih h k = let l = is.base id base e in ih base (omega arith) (omega arith)

  chain_same : (n m id : ℕ) → is.level id < n → is.level id < m → chain_within n t id ≡ chain_within m t id
  unfolding chain_within
  chain_same zero m id h k = absurd (omega arith)
  chain_same (suc n) zero id h k = absurd (omega arith)
  chain_same (suc n) (suc m) id h k = ap (λ c. c ++ id ∷ []) (same_before n m id (base_of t id) refl (chain_same n m) h k)

  pub chain_step : (id : ℕ) (o : Option ℕ) → base_of t id ≡ o → chain t id ≡ chain_before (chain t) o ++ id ∷ []
  unfolding chain_within
  chain_step id None e = ap (λ p. chain_before (chain_within 15 t) p ++ id ∷ []) e
  chain_step id (Some base) e =
      let l = is.base id base e in let low = is.low id in
      ap (λ p. chain_before (chain_within 15 t) p ++ id ∷ []) e ∙ ap (λ c. c ++ id ∷ []) (chain_same 15 16 base (omega arith) (omega arith))

  -- what stands in a chain, stands at the end of its own
  pub chain_front : (n k : ℕ) → is.level k < n → (o : Option ℕ) → base_of t k ≡ o → (xs : List ℕ) (z : ℕ) (ys : List ℕ) → chain t k ≡ xs ++ z ∷ ys → chain t z ≡ xs ++ z ∷ []
  chain_front zero k h o e xs z ys c = absurd (omega arith)
  chain_front (suc n) k h None e xs z ys c =
      elim (split_last [] k xs z ys (sym (chain_step k None e) ∙ c)) [
        | inl p ↦ ap (chain t) p.1 ∙ chain_step k None e ∙ rw (p.0, p.1) refl
        | inr p ↦ let q = p.2 in absurd (nil_is xs z p.0 q)
      ]
    where
      nil_is : (xs : List ℕ) (z : ℕ) (ws : List ℕ) → [] ≡ xs ++ z ∷ ws → ⊥
      nil_is [] z ws e = cc
      nil_is (x ∷ xs) z ws e = cc
  chain_front (suc n) k h (Some base) e xs z ys c =
      let l = is.base k base e in
      elim (split_last (chain t base) k xs z ys (sym (chain_step k (Some base) e) ∙ c)) [
        | inl p ↦ ap (chain t) p.1 ∙ chain_step k (Some base) e ∙ rw (p.0, p.1) refl
        | inr p ↦ chain_front n base (omega arith) (base_of t base) refl xs z p.0 p.2
      ]

  -- a chain ends with its own type
  pub chain_end : (id : ℕ) → (front : List ℕ) × (chain t id ≡ front ++ id ∷ [])
  chain_end id = (chain_before (chain t) (base_of t id), chain_step id (base_of t id) refl)

  pub same_chain : (a b : ℕ) → chain t a ≡ chain t b → a ≡ b
  same_chain a b e =
      let p = chain_end a in let q = chain_end b in
      elim (split_last p.0 a q.0 b [] (sym p.1 ∙ e ∙ q.1)) [ inl h ↦ sym h.1 | inr h ↦ absurd (no_last h.0 a h.1) ]
    where
      no_last : (ws : List ℕ) (x : ℕ) → [] ≡ ws ++ x ∷ [] → ⊥
      no_last [] x e = cc
      no_last (w ∷ ws) x e = cc

  -- the type above in the chain is the base
  pub base_is : (z x : ℕ) → chain t z ≡ chain t x ++ z ∷ [] → base_of t z ≡ Some x
  base_is z x e = go (base_of t z) refl
    where
      no_chain : (front : List ℕ) (x : ℕ) (c : List ℕ) → c ≡ front ++ x ∷ [] → [] ≡ c → ⊥
      no_chain [] x c p q = cc
      no_chain (y ∷ ys) x c p q = cc

      ends : (a c : List ℕ) (y z : ℕ) → a ++ y ∷ [] ≡ c ++ z ∷ [] → c ≡ a
      ends a c y z e = elim (split_last a y c z [] e) [ inl h ↦ h.0 | inr h ↦ absurd (no_chain h.0 y [] h.1 refl) ]

      go : (o : Option ℕ) → base_of t z ≡ o → base_of t z ≡ Some x
      go None h = absurd (no_chain (chain_end x).0 x (chain t x) (chain_end x).1 (sym (ends [] (chain t x) z z (sym (chain_step z None h) ∙ e))))
      go (Some b) h = h ∙ ap Some (same_chain b x (sym (ends (chain t b) (chain t x) z z (sym (chain_step z (Some b) h) ∙ e))))

  -- where a type stands in another one's chain, the chain goes on from its own
  pub under_is : (x l : ℕ) (before after : List ℕ) → chain t l ≡ before ++ x ∷ after → (chain t x ≡ before ++ x ∷ []) × (chain t l ≡ chain t x ++ after)
  under_is x l before after e =
      let p = chain_front 16 l (is.low l) (base_of t l) refl before x after e in
      (p, e ∙ sym (append_assoc before (x ∷ []) after) ∙ ap (λ c. c ++ after) (sym p))

  -- the next type of the chain
  pub child_is : (x z l : ℕ) (more : List ℕ) → chain t l ≡ chain t x ++ z ∷ more → (chain t z ≡ chain t x ++ z ∷ []) × (base_of t z ≡ Some x)
  child_is x z l more e =
      let p = chain_front 16 l (is.low l) (base_of t l) refl (chain t x) z more e in (p, base_is z x p)

  pub child_of : (x l : ℕ) (before after : List ℕ) → chain t l ≡ before ++ x ∷ after → (l ≡ x → ⊥) → (z : ℕ) × (more : List ℕ) × (chain t l ≡ chain t x ++ z ∷ more)
  child_of x l before after e ne = go after (under_is x l before after e).1
    where
      go : (ys : List ℕ) → chain t l ≡ chain t x ++ ys → (z : ℕ) × (more : List ℕ) × (chain t l ≡ chain t x ++ z ∷ more)
      go [] h = absurd (ne (same_chain l x (h ∙ append-nil (chain t x))))
      go (z ∷ more) h = (z, more, h)

chain_before_length : (n : ℕ) (t : Table) (o : Option ℕ) → ((id : ℕ) → length (chain_within n t id) ≤ n) → length (chain_before (chain_within n t) o) ≤ n
chain_before_length n t None h = omega arith
chain_before_length n t (Some x) h = h x

pub chain_length : (n : ℕ) (t : Table) (id : ℕ) → length (chain_within n t id) ≤ n
unfolding chain_within
chain_length zero t id = omega arith
chain_length (suc n) t id = let h = chain_before_length n t (base_of t id) (chain_length n t) in omega (arith, length-append (chain_before (chain_within n t) (base_of t id)) (id ∷ []))

module _ (t : Table) (is : IsTable t) where
  pub longer : (x k z : ℕ) (zs : List ℕ) → chain t k ≡ chain t x ++ z ∷ zs → k ≡ x → ⊥
  longer x k z zs e h =
      let a : length (chain t k) ≡ length (chain t x) + suc (length zs) = ap length e ∙ length-append (chain t x) (z ∷ zs) in
      let b : length (chain t k) ≡ length (chain t x) = ap (λ y. length (chain t y)) h in
      omega arith

  pub under_in : (x k : ℕ) (zs : List ℕ) → chain t k ≡ chain t x ++ zs → Has (chain t k) x
  under_in x k zs e = let end = chain_end t is x in record { before = end.0; after = zs; is = e ∙ ap (λ c. c ++ zs) end.1 ∙ append_assoc end.0 (x ∷ []) zs }

  pub itself_in : (k : ℕ) → Has (chain t k) k
  itself_in k = under_in k k [] (sym (append-nil (chain t k)))

  pub short_chain : (x k : ℕ) (zs : List ℕ) → chain t k ≡ chain t x ++ zs → length zs < 16
  short_chain x k zs e = omega (arith, chain_length 16 t k, ap length e, length-append (chain t x) zs, ap length (chain_end t is x).1, length-append (chain_end t is x).0 (x ∷ []))
