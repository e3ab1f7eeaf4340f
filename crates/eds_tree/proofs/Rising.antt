-- Rows whose names rise, and where a name stands among them.
use Rattle.std.proofs.Common.{Ordering, Less, Equal, Greater, ◌≡◌, ℕ, zero, suc, ◌+◌, ◌<◌, ◌≤◌, Bool, true, false, ◌&&◌, nat_lt, nat_eq, List, [], ◌∷◌, length, Some, None, refl, sym, ap, ◌∙◌, subst, arith}
use Rattle.std.specs.Prelude.{slice_get}
use Rattle.std.specs.List.{position_or_len}
use Rattle.std.specs.Ordering.{nat_cmp, is_lt, ordering_then}
use Rattle.std.specs.Cmp.Lexicographic.{slice_cmp}
use Rattle.std.proofs.lemmas.Cmp.{nat_list_cmp_total}
use Rattle.std.proofs.lemmas.Bool.{and_parts}
use Rattle.std.proofs.lemmas.Bool.Decides.{nat_tests}
use lib.Pointwise.{bytes_decides}
use Rattle.eds_base.specs.Reading.{same}
use Rattle.eds_tree.specs.ByteOrder.{precedes}
use Rattle.eds_tree.specs.Rows.{ElementRow, rises_from, rising, has_name, find_row}

-- ---- the byte order of names

less : (o : Ordering) → is_lt o ≡ true → o ≡ Less
less Less h = refl
less Equal h = absurd (cc)
less Greater h = absurd (cc)

precedes_trans : (a b c : List ℕ) → precedes a b ≡ true → precedes b c ≡ true → precedes a c ≡ true
precedes_trans a b c h k = ap is_lt (nat_list_cmp_total.trans a b c (less (slice_cmp nat_cmp a b) h) (less (slice_cmp nat_cmp b c) k))

step_not_same : (x y : ℕ) (o : Ordering) (b : Bool) → (is_lt o ≡ true → b ≡ false) → is_lt (ordering_then (nat_cmp x y) o) ≡ true → (nat_eq x y && b) ≡ false
step_not_same x y o b h k = grind (arith, nat_tests)

precedes-same : (a b : List ℕ) → precedes a b ≡ true → same a b ≡ false
precedes-same [] [] h = absurd (cc)
precedes-same [] (y ∷ ys) h = refl
precedes-same (x ∷ xs) [] h = absurd (cc)
precedes-same (x ∷ xs) (y ∷ ys) h = step_not_same x y (slice_cmp nat_cmp xs ys) (same xs ys) (precedes-same xs ys) h

step_not_after : (x y : ℕ) (o : Ordering) (b : Bool) → (is_lt o ≡ true → b ≡ false) → is_lt (ordering_then (nat_cmp x y) o) ≡ true → (nat_eq y x && b) ≡ false
step_not_after x y o b h k = grind (arith, nat_tests)

precedes-same_back : (a b : List ℕ) → precedes a b ≡ true → same b a ≡ false
precedes-same_back [] [] h = absurd (cc)
precedes-same_back [] (y ∷ ys) h = refl
precedes-same_back (x ∷ xs) [] h = absurd (cc)
precedes-same_back (x ∷ xs) (y ∷ ys) h = step_not_after x y (slice_cmp nat_cmp xs ys) (same ys xs) (precedes-same_back xs ys) h

step_three : (x y : ℕ) (o p : Ordering) (b : Bool) → (b ≡ false → is_lt o ≡ false → is_lt p ≡ true) → (nat_eq x y && b) ≡ false → is_lt (ordering_then (nat_cmp x y) o) ≡ false
    → is_lt (ordering_then (nat_cmp y x) p) ≡ true
step_three x y o p b h k l = grind (arith, nat_tests)

one_of_three : (a b : List ℕ) → same a b ≡ false → precedes a b ≡ false → precedes b a ≡ true
one_of_three [] [] h k = absurd (cc)
one_of_three [] (y ∷ ys) h k = absurd (cc)
one_of_three (x ∷ xs) [] h k = refl
one_of_three (x ∷ xs) (y ∷ ys) h k = step_three x y (slice_cmp nat_cmp xs ys) (slice_cmp nat_cmp ys xs) (same xs ys) (one_of_three xs ys) h k

same-is : (a b : List ℕ) → same a b ≡ true → a ≡ b
same-is a b h = (bytes_decides a b).0 h

within_true : (i n : ℕ) → i < n → nat_lt i n ≡ true
within_true i n h = grind (arith, nat_tests)

not_below_itself : (n : ℕ) → nat_lt n n ≡ false
not_below_itself n = grind (arith, nat_tests)

-- ---- rows whose names rise

rises-at : (low : List ℕ) (rs : List ElementRow) (i : ℕ) (r : ElementRow) → rises_from low rs ≡ true → slice_get rs i ≡ Some r → precedes low r.name ≡ true
rises-at low [] i r h e = absurd (cc)
rises-at low (q ∷ rs) zero r h e =
    let here = and_parts (precedes low q.name) (rises_from q.name rs) h in
    let same_row : q ≡ r = cc in
    subst (λ (x : ElementRow). precedes low x.name ≡ true) same_row here.0
rises-at low (q ∷ rs) (suc i) r h e =
    let here = and_parts (precedes low q.name) (rises_from q.name rs) h in
    precedes_trans low q.name r.name here.0 (rises-at q.name rs i r here.1 e)

rising-tail : (q : ElementRow) (rs : List ElementRow) → rises_from q.name rs ≡ true → rising rs ≡ true
rising-tail q [] h = refl
rising-tail q (r ∷ rs) h = (and_parts (precedes q.name r.name) (rises_from r.name rs) h).1

-- of two rows the one that stands first has the name that comes first
pub rising-pair : (rs : List ElementRow) (i j : ℕ) (r s : ElementRow) → rising rs ≡ true → i < j → slice_get rs i ≡ Some r → slice_get rs j ≡ Some s → precedes r.name s.name ≡ true
rising-pair [] i j r s h lt e f = absurd (cc)
rising-pair (q ∷ rs) i zero r s h lt e f = absurd (omega arith)
rising-pair (q ∷ rs) zero (suc j) r s h lt e f =
    let same_row : q ≡ r = cc in
    subst (λ (x : ElementRow). precedes x.name s.name ≡ true) same_row (rises-at q.name rs j s h f)
rising-pair (q ∷ rs) (suc i) (suc j) r s h lt e f = rising-pair rs i j r s (rising-tail q rs h) (omega arith) e f

-- ---- where a name stands

-- before the place none has it
abbrev NoneBelow : List ℕ → List ElementRow → ℕ → Type 0
NoneBelow name rows i = (k : ℕ) (r : ElementRow) → k < i → slice_get rows k ≡ Some r → same r.name name ≡ false

first-place : (name : List ℕ) (rows : List ElementRow) (i : ℕ) (r : ElementRow) → slice_get rows i ≡ Some r → same r.name name ≡ true → NoneBelow name rows i
    → (position_or_len (has_name name) rows ≡ i) × (i < length rows)
first-place name [] i r e s h = absurd (cc)
first-place name (q ∷ rows) zero r e s h =
    let same_row : q ≡ r = cc in
    let here : same q.name name ≡ true = rw same_row s in
    (rw here refl, omega arith)
first-place name (q ∷ rows) (suc i) r e s h =
    let here : same q.name name ≡ false = h 0 q (omega arith) refl in
    let rest = first-place name rows i r e s (λ k p lt f. h (suc k) p (omega arith) f) in
    (rw here (omega (arith, rest.0)), omega (arith, rest.1))

no-place : (name : List ℕ) (rows : List ElementRow) → NoneBelow name rows (length rows) → position_or_len (has_name name) rows ≡ length rows
no-place name [] h = refl
no-place name (q ∷ rows) h =
    let here : same q.name name ≡ false = h 0 q (omega arith) refl in
    rw here (omega (arith, no-place name rows (λ k p lt f. h (suc k) p (omega arith) f)))

-- on one side of a number or on the other
on_side : (k n : ℕ) (P : Type 0) → (k < n → P) → (n ≤ k → P) → P
on_side k n P below above = go (nat_lt k n) refl
  where
    go : (b : Bool) → nat_lt k n ≡ b → P
    go true e = below (grind (arith, nat_tests))
    go false e = above (grind (arith, nat_tests))

pub found-row : (name : List ℕ) (rows : List ElementRow) (i : ℕ) (r : ElementRow) → rising rows ≡ true → slice_get rows i ≡ Some r → same r.name name ≡ true → find_row rows name ≡ Some i
found-row name rows i r h e s =
    let is : r.name ≡ name = same-is r.name name s in
    let below : NoneBelow name rows i = λ k p lt f. precedes-same p.name name (subst (λ (n : List ℕ). precedes p.name n ≡ true) is (rising-pair rows k i p r h lt f e)) in
    let place : (position_or_len (has_name name) rows ≡ i) × (i < length rows) = first-place name rows i r e s below in
    let within : i < length rows = place.1 in
    let test : nat_lt i (length rows) ≡ true = within_true i (length rows) within in
    rw (place.0, test) refl

pub no-row : (name : List ℕ) (rows : List ElementRow) (low : ℕ) → ((k : ℕ) (r : ElementRow) → k < low → slice_get rows k ≡ Some r → precedes r.name name ≡ true)
    → ((k : ℕ) (r : ElementRow) → low ≤ k → slice_get rows k ≡ Some r → precedes name r.name ≡ true) → find_row rows name ≡ None
no-row name rows low before after =
    let none : NoneBelow name rows (length rows) = λ k p lt f.
    on_side k low (same p.name name ≡ false) (λ below. precedes-same p.name name (before k p below f)) (λ above. precedes-same_back name p.name (after k p above f)) in
    rw (no-place name rows none, not_below_itself (length rows)) refl

-- ---- one step of the halves

-- what stands at the middle comes before the name
pub upper-half : (name : List ℕ) (rows : List ElementRow) (middle : ℕ) (r : ElementRow) → rising rows ≡ true → slice_get rows middle ≡ Some r → precedes r.name name ≡ true
    → (k : ℕ) (p : ElementRow) → k < middle + 1 → slice_get rows k ≡ Some p → precedes p.name name ≡ true
upper-half name rows middle r h e b k p lt f =
    on_side k middle (precedes p.name name ≡ true)
    (λ below. precedes_trans p.name r.name name (rising-pair rows k middle p r h below f e) b)
    (λ above. let at : k ≡ middle = omega arith in let one : Some p ≡ Some r = sym f ∙ ap (slice_get rows) at ∙ e in let same_row : r ≡ p = cc in subst (λ (x : ElementRow). precedes x.name name ≡ true) same_row b)

-- it comes after the name
pub lower-half : (name : List ℕ) (rows : List ElementRow) (middle : ℕ) (r : ElementRow) → rising rows ≡ true → slice_get rows middle ≡ Some r → same r.name name ≡ false → precedes r.name name ≡ false
    → (k : ℕ) (p : ElementRow) → middle ≤ k → slice_get rows k ≡ Some p → precedes name p.name ≡ true
lower-half name rows middle r h e s b k p le f =
    let here : precedes name r.name ≡ true = one_of_three r.name name s b in
    on_side middle k (precedes name p.name ≡ true)
    (λ below. precedes_trans name r.name p.name here (rising-pair rows middle k r p h below e f))
    (λ above. let at : k ≡ middle = omega arith in let one : Some p ≡ Some r = sym f ∙ ap (slice_get rows) at ∙ e in let same_row : r ≡ p = cc in subst (λ (x : ElementRow). precedes name x.name ≡ true) same_row here)
