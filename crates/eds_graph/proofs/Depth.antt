-- How long the ways from a number are.
use Rattle.std.proofs.Common.{◌≡◌, ℕ, zero, suc, ◌<◌, ◌≤◌, ◌||◌, length, Bool, true, false, List, [], ◌∷◌, refl, sym, ap, ◌∙◌, subst, arith, inl, inr, ◌⊎◌}
use Rattle.std.specs.Prelude.{nat_lt}
use Rattle.std.specs.List.{list_any, range_with_len}
use Rattle.eds_graph.specs.declared.course.Course.TheVariants.{OnCircle, ToCircle, Ends}
use Rattle.std.proofs.lemmas.Bool.Decides.{nat_tests}
use Rattle.eds_graph.specs.Search.{Has}
use Rattle.eds_graph.specs.Laws.{HeightIsLongest, WaysEnd, CirclesAreEndless, CourseTellsDepth}
use Rattle.eds_graph.specs.Ways.{children, leads, is_on_circle, is_circle_met, reaches_circle, is_met, has_way, largest, larger, height, course, is_deeper}
use Rattle.eds_graph.proofs.Tests.{any-has, has-any, and-left, and-right, split}
use Rattle.eds_graph.proofs.Leading.{leads-is, met-or, met-itself}
use Rattle.eds_graph.proofs.Circles.{clear-child}
use Rattle.eds_graph.proofs.Heights.{height-is, larger-less, larger-not}

less : (c d : ℕ) → c < d → nat_lt c d ≡ true
less c d h = grind (arith, nat_tests)

not-less : (c d : ℕ) → d ≤ c → nat_lt c d ≡ false
not-less c d h = grind (arith, nat_tests)

less-suc : (a b : ℕ) → nat_lt (suc a) (suc b) ≡ nat_lt a b
less-suc a b = elim (split a b) [
  | inl lt ↦ less (suc a) (suc b) (omega arith) ∙ sym (less a b lt)
  | inr le ↦ not-less (suc a) (suc b) (omega arith) ∙ sym (not-less a b le)
]

less-larger : (n a b : ℕ) → nat_lt n (larger a b) ≡ (nat_lt n a || nat_lt n b)
less-larger n a b = elim (split a b) [
  | inl lt ↦ ap (nat_lt n) (larger-less a b lt) ∙ elim (split n a) [
    | inl l ↦ less n b (omega arith) ∙ sym (ap (λ t. t || nat_lt n b) (less n a l))
    | inr l ↦ sym (ap (λ t. t || nat_lt n b) (not-less n a l))
  ]
  | inr le ↦ ap (nat_lt n) (larger-not a b le) ∙ elim (split n a) [
    | inl l ↦ less n a l ∙ sym (ap (λ t. t || nat_lt n b) (less n a l))
    | inr l ↦ not-less n a l ∙ sym (ap (λ t. t || nat_lt n b) (not-less n a l) ∙ not-less n b (omega arith))
  ]
]

less-largest : (f : ℕ → ℕ) (n : ℕ) (xs : List ℕ) → nat_lt n (largest f xs) ≡ list_any (λ a. nat_lt n (f a)) xs
less-largest f n [] = not-less n 0 (omega arith)
less-largest f n (x ∷ xs) = less-larger n (f x) (largest f xs) ∙ ap (λ t. nat_lt n (f x) || t) (less-largest f n xs)

any-same : (f h : ℕ → Bool) (xs : List ℕ) → ((a : ℕ) → Has xs a → f a ≡ h a) → list_any f xs ≡ list_any h xs
any-same f h [] e = refl
any-same f h (x ∷ xs) e = rw (e x (inl refl), any-same f h xs (λ a k. e a (inr k))) refl

module _ (g : List (List ℕ)) where
  way-zero : (a : ℕ) → has_way zero g a ≡ true
  unfolding has_way
  way-zero a = refl

  way-next : (n a : ℕ) → has_way (suc n) g a ≡ list_any (has_way n g) (children g a)
  unfolding has_way
  way-next n a = refl

  longest : (a n : ℕ) → reaches_circle g a ≡ false → has_way n g a ≡ nat_lt n (height g a)
  longest a zero e = way-zero a ∙ sym (ap (nat_lt 0) (height-is g a e) ∙ less 0 (suc (largest (height g) (children g a))) (omega arith))
  longest a (suc n) e =
      way-next n a
      ∙ any-same (has_way n g) (λ c. nat_lt n (height g c)) (children g a) (λ c k. longest c n (clear-child g a c k e))
      ∙ sym (ap (nat_lt (suc n)) (height-is g a e) ∙ less-suc n (largest (height g) (children g a)) ∙ less-largest (height g) n (children g a))

  on-way : (n a b : ℕ) → is_met g a b ≡ true → is_on_circle g b ≡ true → has_way n g a ≡ true
  on-way zero a b m e = way-zero a
  on-way (suc n) a b m e = go (met-or g a b m) (λ c k. on-way n c b k e)
    where
      from : (c : ℕ) → leads g c b ≡ true → ((d : ℕ) → is_met g d b ≡ true → has_way n g d ≡ true) → has_way (suc n) g c ≡ true
      from c l rest =
          let p = has-any (λ d. is_met g d b) (children g c) (sym (leads-is g c b) ∙ l) in
          way-next n c ∙ any-has (has_way n g) (children g c) p.one p.there (rest p.one p.test)

      go : (a ≡ b) ⊎ (leads g a b ≡ true) → ((d : ℕ) → is_met g d b ≡ true → has_way n g d ≡ true) → has_way (suc n) g a ≡ true
      go (inl s) rest = subst (λ c. has_way (suc n) g c ≡ true) (sym s) (from b e rest)
      go (inr l) rest = from a l rest

pub height-longest : HeightIsLongest
height-longest g a n e = longest g a n e

pub ways-end : WaysEnd
ways-end g a n e le = longest g a n e ∙ not-less n (height g a) le

pub circles-endless : CirclesAreEndless
circles-endless g a n e =
    let p = has-any (is_circle_met g a) (range_with_len 0 (length g)) e in
    on-way g n a p.one (and-left (is_met g a p.one) (is_on_circle g p.one) p.test) (and-right (is_met g a p.one) (is_on_circle g p.one) p.test)

pub course-depth : CourseTellsDepth
course-depth g a n = go (is_on_circle g a) (reaches_circle g a) refl refl
  where
    go : (s t : Bool) → is_on_circle g a ≡ s → reaches_circle g a ≡ t → is_deeper n (course g a) ≡ has_way n g a
    go true t e f = let is : course g a ≡ OnCircle = rw e refl in ap (is_deeper n) is ∙ sym (on-way g n a a (met-itself g a) e)
    go false true e f = let is : course g a ≡ ToCircle = rw (e, f) refl in ap (is_deeper n) is ∙ sym (circles-endless g a n f)
    go false false e f = let is : course g a ≡ Ends (height g a) = rw (e, f) refl in ap (is_deeper n) is ∙ sym (longest g a n f)
