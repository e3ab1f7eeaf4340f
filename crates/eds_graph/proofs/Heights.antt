-- How many numbers the longest way has, where no circle is reached.
use Rattle.std.proofs.Common.{◌≡◌, ℕ, zero, suc, ◌<◌, ◌≤◌, ◌+◌, ◌||◌, length, Bool, true, false, List, [], ◌∷◌, refl, sym, ap, ◌∙◌, subst, arith, inl, inr, ◌⊎◌}
use Rattle.std.specs.Prelude.{nat_lt}
use Rattle.std.specs.List.{list_any}
use Rattle.std.proofs.lemmas.Bool.Decides.{nat_tests}
use Rattle.eds_graph.specs.declared.course.Course.TheVariants.{ToCircle, Ends}
use Rattle.eds_graph.specs.declared.search.State.{State}
use Rattle.eds_graph.specs.declared.search.State.TheVariants.{Done}
use Rattle.eds_graph.specs.Search.{Has, state, course_in, join, join_all}
use Rattle.eds_graph.specs.Ways.{children, is_on_circle, reaches_circle, tall, larger, largest, height, course}
use Rattle.eds_graph.proofs.Tests.{split}
use Rattle.eds_graph.proofs.Leading.{no-children, trues, above, above-few, above-fewer}
use Rattle.eds_graph.proofs.Circles.{clear-child, clear-own, reaches-is}

largest-same : (f h : ℕ → ℕ) (xs : List ℕ) → ((a : ℕ) → Has xs a → f a ≡ h a) → largest f xs ≡ largest h xs
largest-same f h [] e = refl
largest-same f h (x ∷ xs) e = rw (e x (inl refl), largest-same f h xs (λ a k. e a (inr k))) refl

module _ (g : List (List ℕ)) where
  tall-past : (n a : ℕ) → 0 < n → length g ≤ a → tall n g a ≡ 1
  unfolding tall
  tall-past zero a h le = absurd (omega arith)
  tall-past (suc n) a h le = ap (λ cs. suc (largest (tall n g) cs)) (no-children g a le)

  tall-same : (n m a : ℕ) → ((c : ℕ) → Has (children g a) c → tall n g c ≡ tall m g c) → tall (suc n) g a ≡ tall (suc m) g a
  unfolding tall
  tall-same n m a h = ap suc (largest-same (tall n g) (tall m g) (children g a) h)

  tall-stable : (n a : ℕ) → trues (above g a) + 1 < n → reaches_circle g a ≡ false → tall n g a ≡ tall (suc n) g a
  tall-stable zero a h e = absurd (omega arith)
  tall-stable (suc n) a h e = tall-same n (suc n) a (λ c k. go c k (λ lt. let less = above-fewer g a c k (clear-own g c (clear-child g a c k e)) lt in tall-stable n c (omega arith) (clear-child g a c k e)) (split c (length g)))
    where
      go : (c : ℕ) → Has (children g a) c → (c < length g → tall n g c ≡ tall (suc n) g c) → (c < length g) ⊎ (length g ≤ c) → tall n g c ≡ tall (suc n) g c
      go c k rest (inl lt) = rest lt
      go c k rest (inr le) = tall-past n c (omega arith) le ∙ sym (tall-past (suc n) c (omega arith) le)

  tall-next : (n a : ℕ) → tall (suc n) g a ≡ suc (largest (tall n g) (children g a))
  unfolding tall
  tall-next n a = refl

  -- a number more than the longest way from a child
  pub height-is : (a : ℕ) → reaches_circle g a ≡ false → height g a ≡ suc (largest (height g) (children g a))
  height-is a e =
      tall-next (suc (length g)) a
      ∙ ap suc (largest-same (tall (suc (length g)) g) (height g) (children g a) (λ c k. go c k (split c (length g))))
    where
      go : (c : ℕ) → Has (children g a) c → (c < length g) ⊎ (length g ≤ c) → tall (suc (length g)) g c ≡ height g c
      go c k (inl lt) =
          let less = above-fewer g a c k (clear-own g c (clear-child g a c k e)) lt in
          let few = above-few g a in
          tall-stable (suc (length g)) c (omega arith) (clear-child g a c k e)
      go c k (inr le) = tall-past (suc (length g)) c (omega arith) le ∙ sym (tall-past (suc (suc (length g))) c (omega arith) le)

  pub height-past : (a : ℕ) → length g ≤ a → height g a ≡ 1
  height-past a le = tall-past (suc (suc (length g))) a (omega arith) le

-- ---- the course of a number, from those that it leads to

pub larger-less : (a b : ℕ) → a < b → larger a b ≡ b
larger-less a b h = let e : nat_lt a b ≡ true = grind (arith, nat_tests) in rw e refl

pub larger-not : (a b : ℕ) → b ≤ a → larger a b ≡ a
larger-not a b h = let e : nat_lt a b ≡ false = grind (arith, nat_tests) in rw e refl

larger-on : (n h l : ℕ) → larger (larger n (suc h)) (suc l) ≡ larger n (suc (larger h l))
larger-on n h l = elim (split h l) [
  | inl a ↦ elim (split n (suc h)) [
    | inl b ↦ ap (λ m. larger m (suc l)) (larger-less n (suc h) b) ∙ larger-less (suc h) (suc l) (omega arith) ∙ sym (ap (λ m. larger n (suc m)) (larger-less h l a) ∙ larger-less n (suc l) (omega arith))
    | inr b ↦ ap (λ m. larger m (suc l)) (larger-not n (suc h) b) ∙ sym (ap (λ m. larger n (suc m)) (larger-less h l a))
  ]
  | inr a ↦ elim (split n (suc h)) [
    | inl b ↦ ap (λ m. larger m (suc l)) (larger-less n (suc h) b) ∙ larger-not (suc h) (suc l) (omega arith) ∙ sym (ap (λ m. larger n (suc m)) (larger-not h l a) ∙ larger-less n (suc h) b)
    | inr b ↦ ap (λ m. larger m (suc l)) (larger-not n (suc h) b) ∙ larger-not n (suc l) (omega arith) ∙ sym (ap (λ m. larger n (suc m)) (larger-not h l a) ∙ larger-not n (suc h) b)
  ]
]

module _ (g : List (List ℕ)) (states : List State) where
  to-circle : (cs : List ℕ) → join_all states ToCircle cs ≡ ToCircle
  to-circle [] = refl
  to-circle (c ∷ cs) = to-circle cs

  course-endless : (a : ℕ) → reaches_circle g a ≡ true → (n : ℕ) → join (Ends n) (course g a) ≡ ToCircle
  course-endless a e n = go (is_on_circle g a) refl
    where
      go : (t : Bool) → is_on_circle g a ≡ t → join (Ends n) (course g a) ≡ ToCircle
      go true k = rw k refl
      go false k = rw (k, e) refl

  pub course-ends : (a : ℕ) → reaches_circle g a ≡ false → course g a ≡ Ends (height g a)
  course-ends a e = let none = clear-own g a e in rw (none, e) refl

  joined-one : (c n : ℕ) → state states c ≡ Done (course g c) → join (Ends n) (course_in (state states c)) ≡ join (Ends n) (course g c)
  joined-one c n e = ap (λ s. join (Ends n) (course_in s)) e

  -- where one of them reaches a circle
  join-endless : (cs : List ℕ) (n : ℕ) → ((c : ℕ) → Has cs c → state states c ≡ Done (course g c)) → list_any (reaches_circle g) cs ≡ true → join_all states (Ends n) cs ≡ ToCircle
  join-endless [] n known e = cc
  join-endless (c ∷ cs) n known e = go (reaches_circle g c) refl (λ m k. join-endless cs m (λ d h. known d (inr h)) k)
    where
      go : (t : Bool) → reaches_circle g c ≡ t → ((m : ℕ) → list_any (reaches_circle g) cs ≡ true → join_all states (Ends m) cs ≡ ToCircle) → join_all states (Ends n) (c ∷ cs) ≡ ToCircle
      go true k rest = ap (λ d. join_all states d cs) (joined-one c n (known c (inl refl)) ∙ course-endless c k n) ∙ to-circle cs
      go false k rest = ap (λ d. join_all states d cs) (joined-one c n (known c (inl refl)) ∙ ap (join (Ends n)) (course-ends c k)) ∙ rest _ (let e = rw k at e in e)

  -- where none of them does
  join-ends : (cs : List ℕ) (n : ℕ) → 0 < n → ((c : ℕ) → Has cs c → state states c ≡ Done (course g c)) → list_any (reaches_circle g) cs ≡ false → join_all states (Ends n) cs ≡ Ends (larger n (suc (largest (height g) cs)))
  join-ends [] n h known e = ap Ends (sym (larger-not n 1 (omega arith)))
  join-ends (c ∷ cs) n h known e =
      let first = false-left (reaches_circle g c) (list_any (reaches_circle g) cs) e in
      ap (λ d. join_all states d cs) (joined-one c n (known c (inl refl)) ∙ ap (join (Ends n)) (course-ends c first))
      ∙ join-ends cs (larger n (suc (height g c))) (some n (height g c) h) (λ d k. known d (inr k)) (false-right (reaches_circle g c) (list_any (reaches_circle g) cs) e)
      ∙ ap Ends (larger-on n (height g c) (largest (height g) cs))
    where
      false-left : (a b : Bool) → (a || b) ≡ false → a ≡ false
      false-left true b k = cc
      false-left false b k = refl

      false-right : (a b : Bool) → (a || b) ≡ false → b ≡ false
      false-right true b k = cc
      false-right false b k = k

      some : (a b : ℕ) → 0 < a → 0 < larger a (suc b)
      some a b k = elim (split a (suc b)) [ inl l ↦ subst (λ m. 0 < m) (sym (larger-less a (suc b) l)) (omega arith) | inr l ↦ subst (λ m. 0 < m) (sym (larger-not a (suc b) l)) k ]

  pub course-after : (a : ℕ) → is_on_circle g a ≡ false → ((c : ℕ) → Has (children g a) c → state states c ≡ Done (course g c)) → join_all states (Ends 1) (children g a) ≡ course g a
  course-after a none known = go (reaches_circle g a) refl
    where
      go : (t : Bool) → reaches_circle g a ≡ t → join_all states (Ends 1) (children g a) ≡ course g a
      go true k = join-endless (children g a) 1 known (sym (reaches-is g a none) ∙ k) ∙ sym (rw (none, k) refl)
      go false k =
          join-ends (children g a) 1 (omega arith) known (sym (reaches-is g a none) ∙ k)
          ∙ ap Ends (one-more (largest (height g) (children g a)) ∙ sym (height-is g a k))
          ∙ sym (course-ends a k)
        where
          one-more : (l : ℕ) → larger 1 (suc l) ≡ suc l
          one-more zero = larger-not 1 1 (omega arith)
          one-more (suc l) = larger-less 1 (suc (suc l)) (omega arith)
