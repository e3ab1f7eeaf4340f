-- What maps say of the positions of generic names.
use Rattle.std.proofs.Common.{◌≡◌, ◌≢◌, ℕ, ◌+◌, ◌<◌, ◌≤◌, length, get_or, drop, drop-cons, add-one, map, set, replicate, Bool, true, false, List, [], ◌∷◌, Option, Some, None, refl, sym, ap, ◌∙◌, arith, inl, inr, ◌⊎◌}
use Rattle.std.specs.Prelude.{nat_lt, ◌==◌}
use Rattle.std.specs.List.{range_with_len}
use Rattle.std.proofs.lemmas.List.{get_or-set_same, get_or-set_other, ext_get_or}
use Rattle.std.proofs.lemmas.List.FromFn.{get_or-map-range_with_len, length-map-range_with_len}
use Rattle.std.proofs.lemmas.Bool.{eq-eqb, eqb-true}
use Rattle.std.proofs.lemmas.Bool.Decides.{nat_tests}
use Rattle.eds_generic.specs.declared.face.Mapped.{Mapped}
use Rattle.eds_generic.specs.declared.pair.Bound.{Bound}
use Rattle.eds_generic.specs.declared.pair.Bound.TheVariants as bound
use Rattle.eds_generic.specs.Faces.{is_at, mapped}
use Rattle.eds_base.specs.declared.ids.FaceId.{FaceId}
use Rattle.eds_generic.specs.Pairs.{meant, meant_by, set_at, noted as noted_in}

map-ranged : {A : Type 0} (f g : ℕ → A) (n : ℕ) → ((k : ℕ) → f k ≡ g k) → map f (range_with_len 0 n) ≡ map g (range_with_len 0 n)
map-ranged f g n h = each (range_with_len 0 n)
  where
    each : (ks : List ℕ) → map f ks ≡ map g ks
    each [] = refl
    each (k ∷ ks) = rw (h k, each ks) refl

split : (a b : ℕ) → (a < b) ⊎ (b ≤ a)
split a b = go (nat_lt a b) refl
  where
    go : (t : Bool) → nat_lt a b ≡ t → (a < b) ⊎ (b ≤ a)
    go true e = inl (grind (arith, nat_tests))
    go false e = inr (grind (arith, nat_tests))

length-set : (bs : List Bound) (k : ℕ) (b : Bound) → length (set bs k b) ≡ length bs
length-set [] k b = refl
length-set (x ∷ bs) ℕ.zero b = refl
length-set (x ∷ bs) (ℕ.suc k) b = ap ℕ.suc (length-set bs k b)

pub set-past : (bs : List Bound) (k : ℕ) (b : Bound) → length bs ≤ k → set bs k b ≡ bs
set-past [] k b h = refl
set-past (x ∷ bs) ℕ.zero b h = absurd (omega arith)
set-past (x ∷ bs) (ℕ.suc k) b h = ap (λ xs. x ∷ xs) (set-past bs k b (omega arith))

module _ (face : FaceId) (types : List Bound) (m : Mapped) (rest : List Mapped) (n : ℕ) where
  abbrev before : ℕ → Bound
  before k = meant_by face types (mapped rest k)

  abbrev after : ℕ → Bound
  after k = meant_by face types (mapped (m ∷ rest) k)

  at-other : (g : Option ℕ) (k : ℕ) → m.generic ≡ g → is_at g k ≡ false → after k ≡ before k
  at-other g k e h = let no : is_at m.generic k ≡ false = ap (λ o. is_at o k) e ∙ h in rw no refl

  at-same : (k : ℕ) → m.generic ≡ Some k → after k ≡ meant face types m.source
  at-same k e = let yes : is_at m.generic k ≡ true = ap (λ o. is_at o k) e ∙ eq-eqb k k refl in rw yes refl

  ranged-set : (g : ℕ) → m.generic ≡ Some g → set (map before (range_with_len 0 n)) g (meant face types m.source) ≡ map after (range_with_len 0 n)
  ranged-set g e =
      let long : length (map before (range_with_len 0 n)) ≡ n = length-map-range_with_len before 0 n in
      let longer : length (map after (range_with_len 0 n)) ≡ n = length-map-range_with_len after 0 n in
      let kept_length = length-set (map before (range_with_len 0 n)) g (meant face types m.source) in
      ext_get_or bound.Unmapped (set (map before (range_with_len 0 n)) g (meant face types m.source)) (map after (range_with_len 0 n)) (kept_length ∙ long ∙ sym longer) (λ k lt. each k (omega (arith, lt, kept_length, long)) (k == g) refl)
    where
      each : (k : ℕ) → k < n → (b : Bool) → (k == g) ≡ b → get_or (set (map before (range_with_len 0 n)) g (meant face types m.source)) k bound.Unmapped ≡ get_or (map after (range_with_len 0 n)) k bound.Unmapped
      each k lt true h =
          let is : k ≡ g = eqb-true k g h in
          let long : length (map before (range_with_len 0 n)) ≡ n = length-map-range_with_len before 0 n in
          rw is (get_or-set_same (map before (range_with_len 0 n)) g (meant face types m.source) bound.Unmapped (omega (arith, lt, is, long)) ∙ sym (at-same g e) ∙ sym (get_or-map-range_with_len after 0 n g g bound.Unmapped (omega (arith, lt, is)) (omega arith)))
      each k lt false h =
          let other : k ≢ g = λ is. let wrong : (k == g) ≡ true = eq-eqb k g is in cc in
          let apart : is_at (Some g) k ≡ false = not-at k g other (g == k) refl in
          get_or-set_other (map before (range_with_len 0 n)) g k (meant face types m.source) bound.Unmapped other
          ∙ get_or-map-range_with_len before 0 n k k bound.Unmapped lt (omega arith) ∙ sym (at-other (Some g) k e apart)
          ∙ sym (get_or-map-range_with_len after 0 n k k bound.Unmapped lt (omega arith))
        where
          not-at : (k g : ℕ) → k ≢ g → (b : Bool) → (g == k) ≡ b → (g == k) ≡ false
          not-at k g o true e = absurd (o (sym (eqb-true g k e)))
          not-at k g o false e = e

  -- one name of a map more, from the last to the first
  pub noted-next : noted_in face types m (map before (range_with_len 0 n)) ≡ map after (range_with_len 0 n)
  noted-next = go m.generic refl
    where
      go : (g : Option ℕ) → m.generic ≡ g → set_at m.generic (meant face types m.source) (map before (range_with_len 0 n)) ≡ map after (range_with_len 0 n)
      go None e = ap (λ o. set_at o (meant face types m.source) (map before (range_with_len 0 n))) e ∙ map-ranged before after n (λ k. sym (at-other None k e refl))
      go (Some g) e = ap (λ o. set_at o (meant face types m.source) (map before (range_with_len 0 n))) e ∙ ranged-set g e

pub bound-next : (face : FaceId) (types : List Bound) (maps : List Mapped) (i j n : ℕ) (m d : Mapped) (old new : List Bound) → i < length maps → j ≡ i + 1 → m ≡ get_or maps i d
    → old ≡ map (λ k. meant_by face types (mapped (drop j maps) k)) (range_with_len 0 n) → new ≡ noted_in face types m old
    → new ≡ map (λ k. meant_by face types (mapped (drop i maps) k)) (range_with_len 0 n)
bound-next face types maps i j n m d old new lt next is inv e =
    let opened : drop i maps ≡ m ∷ drop (i + 1) maps = drop-cons maps i d lt ∙ rw (add-one, ← is) refl in
    e ∙ ap (noted_in face types m) (inv ∙ ap (λ l. map (λ k. meant_by face types (mapped (drop l maps) k)) (range_with_len 0 n)) next) ∙ noted-next face types m (drop (i + 1) maps) n
    ∙ ap (λ ms. map (λ k. meant_by face types (mapped ms k)) (range_with_len 0 n)) (sym opened)

drop-whole : {A : Type 0} (xs : List A) → drop (length xs) xs ≡ []
drop-whole [] = refl
drop-whole (x ∷ xs) = drop-whole xs

bound-none : (a n : ℕ) → replicate n bound.Unmapped ≡ map (λ k. bound.Unmapped) (range_with_len a n)
bound-none a ℕ.zero = refl
bound-none a (ℕ.suc n) = ap (λ bs. bound.Unmapped ∷ bs) (bound-none (a + 1) n)

-- before any name of a map nothing is said
pub bound-start : (face : FaceId) (types : List Bound) (maps : List Mapped) (n : ℕ) (items : List Bound) → items ≡ replicate n bound.Unmapped
    → items ≡ map (λ k. meant_by face types (mapped (drop (length maps) maps) k)) (range_with_len 0 n)
bound-start face types maps n items e = e ∙ bound-none 0 n ∙ ap (λ ms. map (λ k. meant_by face types (mapped ms k)) (range_with_len 0 n)) (sym (drop-whole maps))
