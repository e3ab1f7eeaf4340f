-- How many values types have, and how many items arrays have.
use Rattle.std.proofs.Common.{◌≡◌, ℕ, zero, suc, ◌+◌, ◌-◌, ◌*◌, ◌<◌, ◌≤◌, Bool, true, false, List, [], ◌∷◌, ◌++◌, length, map, take, drop, get_or, slice_get, option_map, Option, Some, None, refl, sym, ap, ap₂, subst, ◌∙◌, arith, inl, inr, ◌⊎◌, add-one, drop-cons, lit≤}
use Rattle.std.specs.Prelude.{not, IfSome, ℤ, if◌then◌else◌, max}
use Rattle.std.specs.List.{list_any}
use Rattle.std.specs.Ordering.{int_eq}
use Rattle.std.proofs.Math.Nat.{mul-le-mul_left, le-max_left}
use Rattle.std.proofs.Math.Seq.{take-suc}
use Rattle.std.proofs.lemmas.Bool.{le-leb, lt-leb}
use Rattle.std.proofs.lemmas.Bool.Decides.{leb_tells, Decides-int_eq}
use Rattle.std.proofs.lemmas.List.{append-nil, append_assoc, length-append}
use Rattle.eds_base.specs.declared.ids.Place.{Place}
use Rattle.eds_base.specs.declared.ids.TypeId.{TypeId}
use Rattle.eds_tree.specs.declared.tree.Node.{Node}
use Rattle.eds_type_rows.specs.declared.numbers.FormAndDomain.{FormAndDomain}
use Rattle.eds_type_rows.specs.Bases.{base_at, bases_within}
use Rattle.eds_type_rows.specs.Numbers.{own_numbers_at, range_at, narrowed_numbers, numbers_within}
use Rattle.eds_type_rows.specs.Items.{different_after, few, product_with, row_items, values_of, AreKnown}
use Rattle.eds_type_rows.proofs.BaseSteps.{bases-end, bases-next, bases-none}
use Rattle.eds_type_rows.proofs.NumberSteps.{up-own, up-base}

-- ---- numbers, or one more than 65,536

few-low : (n : ℕ) → n ≤ 65536 → few n ≡ n
few-low n h = ap (λ b. if b then n else 65537) (le-leb n 65536 h)

few-high : (n : ℕ) → 65536 < n → few n ≡ 65537
few-high n h = ap (λ b. if b then n else 65537) (lt-leb n 65536 h)

few-cases : (n : ℕ) → ((n ≤ 65536) × (few n ≡ n)) ⊎ ((65536 < n) × (few n ≡ 65537))
few-cases n = elim (leb_tells n 65536) [ inl h ↦ inl (h.1, few-low n h.1) | inr h ↦ inr (h.1, few-high n h.1) ]

pub few-few : (n : ℕ) → few (few n) ≡ few n
few-few n = elim (few-cases n) [ inl h ↦ ap few h.1 | inr h ↦ ap few h.1 ∙ (few-high 65537 (omega arith) ∙ sym h.1) ]

few-sum : (a b : ℕ) → few (few a + few b) ≡ few (a + b)
few-sum a b = elim (few-cases a) [
  | inl h ↦ elim (few-cases b) [
    | inl k ↦ ap₂ (λ x y. few (x + y)) h.1 k.1
    | inr k ↦ let e = k.1 in let m = k.0 in few-high (few a + few b) (omega (arith, e)) ∙ sym (few-high (a + b) (omega (arith, m)))
  ]
  | inr h ↦ let e = h.1 in let m = h.0 in few-high (few a + few b) (omega (arith, e)) ∙ sym (few-high (a + b) (omega (arith, m)))
]

zero_or : (n : ℕ) → (n ≡ 0) ⊎ (1 ≤ n)
zero_or zero = inl refl
zero_or (suc n) = inr (omega arith)

high-times : (a b : ℕ) → 1 ≤ a → 65536 < b → 65536 < a * b
high-times a b some many = let h : b * 1 ≤ b * a = mul-le-mul_left b some in omega (arith, h, many)

swapped : (a b : ℕ) → a * b ≡ b * a
swapped a b = omega arith

none-times : (b : ℕ) → 0 * b ≡ 0
none-times b = omega arith

-- where the second is great
few-times-high : (a b : ℕ) → 65536 < b → few (few a * few b) ≡ few (a * b)
few-times-high a b many = elim (zero_or a) [
  | inl e ↦
      let left : few a * few b ≡ 0 = ap (λ x. few x * few b) e ∙ none-times (few b) in
      let right : a * b ≡ 0 = ap (λ x. x * b) e ∙ none-times b in
      ap few (left ∙ sym right)
  | inr some ↦
      let big = few-high b many in
      few-high (few a * few b) (high-times (few a) (few b) (some_few a some) (omega (arith, big))) ∙ sym (few-high (a * b) (high-times a b some many))
]
  where
    some_few : (n : ℕ) → 1 ≤ n → 1 ≤ few n
    some_few n h = elim (few-cases n) [ inl k ↦ let e = k.1 in omega (arith, e) | inr k ↦ let e = k.1 in omega (arith, e) ]

few-times : (a b : ℕ) → few (few a * few b) ≡ few (a * b)
few-times a b = elim (few-cases b) [
  | inl k ↦ elim (few-cases a) [
    | inl h ↦ ap₂ (λ x y. few (x * y)) h.1 k.1
    | inr h ↦ ap few (swapped (few a) (few b)) ∙ (few-times-high b a h.0 ∙ ap few (swapped b a))
  ]
  | inr k ↦ few-times-high a b k.0
]

few-left : (a b : ℕ) → few (few a + b) ≡ few (a + b)
few-left a b = sym (few-sum (few a) b) ∙ (ap (λ x. few (x + few b)) (few-few a) ∙ few-sum a b)

few-times-right : (a b : ℕ) → few (a * few b) ≡ few (a * b)
few-times-right a b = sym (few-times a (few b)) ∙ (ap (λ x. few (few a * x)) (few-few b) ∙ few-times a b)

-- ---- sums

pub none-before : (a b : ℕ) → a ≡ b → few (0 + a) ≡ few b
none-before a b e = ap few (behind a b e)
  where
    behind : (a b : ℕ) → a ≡ b → 0 + a ≡ b
    behind a b e = omega (arith, e)

-- ---- different numbers

abbrev pub SameNumbers : List ℤ → List ℤ → Type 0
SameNumbers xs ys = (q : ℤ) → list_any (int_eq q) xs ≡ list_any (int_eq q) ys

different-same : (before others xs : List ℤ) → SameNumbers before others → different_after before xs ≡ different_after others xs
different-same before others [] s = refl
different-same before others (x ∷ xs) s = rw (s x, different-same before others xs s, different-same (x ∷ before) (x ∷ others) xs more) refl
  where
    more : SameNumbers (x ∷ before) (x ∷ others)
    more q = rw (s q) refl

-- a number that is there adds nothing
present : (before : List ℤ) (x : ℤ) → list_any (int_eq x) before ≡ true → SameNumbers (x ∷ before) before
present before x h q = go (int_eq q x) refl
  where
    go : (b : Bool) → int_eq q x ≡ b → list_any (int_eq q) (x ∷ before) ≡ list_any (int_eq q) before
    go true e = let is : q ≡ x = (Decides-int_eq q x).0 e in rw e (sym (ap (λ y. list_any (int_eq y) before) is ∙ h))
    go false e = rw e refl

pub different-old : (x : ℤ) (before next xs : List ℤ) → list_any (int_eq x) before ≡ true → SameNumbers next (x ∷ before) → different_after next xs ≡ different_after before (x ∷ xs)
different-old x before next xs h s = different-same next before xs (λ q. s q ∙ present before x h q) ∙ sym (ap (λ b. if b then different_after before xs else suc (different_after (x ∷ before) xs)) h)

pub different-new : (x : ℤ) (before next xs : List ℤ) → list_any (int_eq x) before ≡ false → SameNumbers next (x ∷ before) → suc (different_after next xs) ≡ different_after before (x ∷ xs)
different-new x before next xs h s = ap suc (different-same next (x ∷ before) xs s) ∙ sym (ap (λ b. if b then different_after before xs else suc (different_after (x ∷ before) xs)) h)

-- one value more, which stands before or does not
pub different-next : {B : Type 0} (f : B → ℤ) (xs : List B) (i : ℕ) (x d : B) (key : ℤ) (before next : List ℤ) (fresh : Bool) (count more whole : ℕ)
    → i < length xs → x ≡ get_or xs i d → key ≡ f x → fresh ≡ not (list_any (int_eq key) before) → SameNumbers next (key ∷ before)
    → more ≡ (if fresh then few (count + 1) else count)
    → few (count + different_after before (map f (drop i xs))) ≡ whole
    → few (more + different_after next (map f (drop (i + 1) xs))) ≡ whole
different-next {B} f xs i x d key before next fresh count more whole lt is k new same_numbers m inv = go (list_any (int_eq key) before) refl
  where
    rest : List ℤ
    rest = map f (drop (i + 1) xs)

    cut : drop i xs ≡ x ∷ drop (i + 1) xs
    cut = drop-cons xs i d lt ∙ rw (add-one, ← is) refl

    opened : map f (drop i xs) ≡ key ∷ rest
    opened = ap (map f) cut ∙ ap (λ y. y ∷ rest) (sym k)

    inv_here : few (count + different_after before (key ∷ rest)) ≡ whole
    inv_here = subst (λ ys. few (count + different_after before ys) ≡ whole) opened inv

    moved : (a b : ℕ) → (a + 1) + b ≡ a + suc b
    moved a b = omega arith

    go : (b : Bool) → list_any (int_eq key) before ≡ b → few (more + different_after next rest) ≡ whole
    go true e =
        let old : fresh ≡ false = new ∙ ap not e in
        let stays : more ≡ count = m ∙ ap (λ b. if b then few (count + 1) else count) old in
        ap₂ (λ a b. few (a + b)) stays (different-old key before next rest e same_numbers) ∙ inv_here
    go false e =
        let added : fresh ≡ true = new ∙ ap not e in
        let grows : more ≡ few (count + 1) = m ∙ ap (λ b. if b then few (count + 1) else count) added in
        ap (λ a. few (a + different_after next rest)) grows ∙ (few-left (count + 1) (different_after next rest) ∙ (ap few (moved count (different_after next rest)) ∙ (ap (λ n. few (count + n)) (different-new key before next rest e same_numbers) ∙ inv_here)))

-- what is counted stays one of such numbers
pub counted-few : (count : ℕ) (fresh : Bool) (more : ℕ) → more ≡ (if fresh then few (count + 1) else count) → few count ≡ count → few more ≡ more
counted-few count true more m e = ap few m ∙ (few-few (count + 1) ∙ sym m)
counted-few count false more m e = ap few m ∙ (e ∙ sym m)

-- ---- a type and its bases

module _ (n : ℕ) (bases : List (Option TypeId)) (at : ℕ) where
  pub chain-end : (chain whole : List ℕ) → base_at bases at ≡ None → chain ++ bases_within n bases at ≡ whole → chain ≡ whole
  chain-end chain whole e h = sym (append-nil chain) ∙ (ap (λ ks. chain ++ ks) (sym (bases-end n bases at e)) ∙ h)

  pub chain-none : (chain whole : List ℕ) → n ≡ 0 → chain ++ bases_within n bases at ≡ whole → chain ≡ whole
  chain-none chain whole e h = sym (append-nil chain) ∙ (ap (λ ks. chain ++ ks) (sym (bases-none n bases at e)) ∙ h)

  pub chain-next : (base : TypeId) (chain next whole : List ℕ) → 0 < n → base_at bases at ≡ Some base → next ≡ chain ++ base.0 ∷ [] → chain ++ bases_within n bases at ≡ whole → next ++ bases_within (n - 1) bases base.0 ≡ whole
  chain-next base chain next whole lt e p h = ap (λ ks. ks ++ bases_within (n - 1) bases base.0) p ∙ (append_assoc chain (base.0 ∷ []) (bases_within (n - 1) bases base.0) ∙ (ap (λ ks. chain ++ ks) (sym (bases-next n bases at base lt e)) ∙ h))

-- ---- products

product-alike : (a b : ℕ) → few a ≡ few b → (ns : List (Option ℕ)) → option_map few (product_with a ns) ≡ option_map few (product_with b ns)
product-alike a b e [] = ap Some e
product-alike a b e (None ∷ ns) = refl
product-alike a b e (Some n ∷ ns) = product-alike (a * n) (b * n) (sym (few-times a n) ∙ (ap (λ x. few (x * few n)) e ∙ few-times b n)) ns

module _ {A : Type 0} (f : A → Option ℕ) (xs : List A) (i : ℕ) (x d : A) (items : ℕ) (whole : Option ℕ) (lt : i < length xs) (is : x ≡ get_or xs i d) (inv : option_map few (product_with items (map f (drop i xs))) ≡ whole) where
  cut : drop i xs ≡ x ∷ drop (i + 1) xs
  cut = drop-cons xs i d lt ∙ rw (add-one, ← is) refl

  opened : map f (drop i xs) ≡ f x ∷ map f (drop (i + 1) xs)
  opened = ap (map f) cut

  here : option_map few (product_with items (f x ∷ map f (drop (i + 1) xs))) ≡ whole
  here = subst (λ ys. option_map few (product_with items ys) ≡ whole) opened inv

  -- one dimension more
  pub items-next : (size next : ℕ) → Some size ≡ option_map few (f x) → next ≡ few (items * size) → option_map few (product_with next (map f (drop (i + 1) xs))) ≡ whole
  items-next size next e m = go (f x) refl e
    where
      go : (o : Option ℕ) → f x ≡ o → Some size ≡ option_map few o → option_map few (product_with next (map f (drop (i + 1) xs))) ≡ whole
      go None q h = absurd cc
      go (Some n) q h =
          let sized : size ≡ few n = cc in
          let alike : few next ≡ few (items * n) = ap few m ∙ (few-few (items * size) ∙ (ap (λ z. few (items * z)) sized ∙ few-times-right items n)) in
          product-alike next (items * n) alike (map f (drop (i + 1) xs)) ∙ subst (λ o. option_map few (product_with items (o ∷ map f (drop (i + 1) xs))) ≡ whole) q here

-- ---- all types

-- nothing is kept of no types
pub known-none : (trees : List (List Node)) (places : List Place) (bases : List (Option TypeId)) (known : List (Option (Option ℕ))) → known ≡ [] → AreKnown trees places bases known
known-none trees places bases known none id n e = let past : slice_get [] id ≡ Some (Some n) = sym (ap (λ ks. slice_get ks id) none) ∙ e in absurd (nothing id n past)
  where
    nothing : (id : ℕ) (n : Option ℕ) → slice_get {X = Option (Option ℕ)} [] id ≡ Some (Some n) → ⊥
    nothing id n e = cc

last_or : {A : Type 0} (ks : List A) (x y : A) (k : ℕ) → slice_get (ks ++ x ∷ []) k ≡ Some y → (slice_get ks k ≡ Some y) ⊎ ((k ≡ length ks) × (x ≡ y))
last_or [] x y zero e = inr (refl, cc)
last_or [] x y (suc k) e = absurd cc
last_or (z ∷ ks) x y zero e = inl e
last_or (z ∷ ks) x y (suc k) e = elim (last_or ks x y k e) [ inl h ↦ inl h | inr h ↦ inr (ap suc h.0, h.1) ]

-- what is kept of one type more
pub known-next : (trees : List (List Node)) (places : List Place) (bases : List (Option TypeId)) (i : ℕ) (x : Option (Option ℕ)) (known new : List (Option (Option ℕ))) → length known ≡ i → new ≡ known ++ x ∷ []
    → IfSome x (λ n. n ≡ option_map few (values_of trees places bases i)) → AreKnown trees places bases known → AreKnown trees places bases new
known-next trees places bases i x known new len p h old id n e =
    elim (last_or known x (Some n) id (sym (ap (λ ks. slice_get ks id) p) ∙ e)) [
      | inl g ↦ old id n g
      | inr g ↦ subst (λ j. n ≡ option_map few (values_of trees places bases j)) (sym (g.0 ∙ len)) (here x h g.1)
    ]
  where
    here : (x : Option (Option ℕ)) → IfSome x (λ n. n ≡ option_map few (values_of trees places bases i)) → x ≡ Some n → n ≡ option_map few (values_of trees places bases i)
    here None h e = absurd cc
    here (Some m) h e = let is : m ≡ n = cc in sym is ∙ h

pub one-longer : {A : Type 0} (xs new : List A) (x : A) (i : ℕ) → new ≡ xs ++ x ∷ [] → length xs ≡ i → length new ≡ i + 1
one-longer xs new x i p len = ap length p ∙ (length-append xs (x ∷ []) ∙ ap (λ n. n + 1) len)

-- ---- the row

-- an array's row has items, and no more than an array may have, unless it has too many
pub row_some : (o : Option ℕ) → 1 ≤ row_items o
row_some None = lit≤ tt
row_some (Some n) = le-max_left 1 (few n)

pub row_few : (o : Option ℕ) → row_items (option_map few o) ≡ row_items o
row_few None = refl
row_few (Some n) = ap (max 1) (few-few n)

-- ---- numbers over all bases

module _ (trees : List (List Node)) (places : List Place) (bases : List (Option TypeId)) where
  abbrev pub down : List ℕ → FormAndDomain → FormAndDomain
  down [] m = m
  down (k ∷ ks) m = narrowed_numbers (range_at trees (slice_get places k)) (down ks m)

  down-last : (ks : List ℕ) (k : ℕ) (m : FormAndDomain) → down (ks ++ k ∷ []) m ≡ down ks (narrowed_numbers (range_at trees (slice_get places k)) m)
  down-last [] k m = refl
  down-last (j ∷ ks) k m = ap (narrowed_numbers (range_at trees (slice_get places j))) (down-last ks k m)

  pub down-next : (ids : List ℕ) (left i d : ℕ) (m next whole : FormAndDomain) → i + 1 ≡ left → i < length ids → next ≡ narrowed_numbers (range_at trees (slice_get places (get_or ids i d))) m → down (take left ids) m ≡ whole → down (take i ids) next ≡ whole
  down-next ids left i d m next whole e lt n h =
      let more : take left ids ≡ take i ids ++ get_or ids i d ∷ [] = ap (λ j. take j ids) (one_more i left e) ∙ take-suc ids i d lt in
      ap (down (take i ids)) n ∙ (sym (down-last (take i ids) (get_or ids i d) m) ∙ (ap (λ ks. down ks m) (sym more) ∙ h))
    where
      one_more : (i left : ℕ) → i + 1 ≡ left → left ≡ suc i
      one_more i left e = omega (arith, e)

  abbrev IsDown : ℕ → ℕ → ℕ → Type 0
  IsDown n id d = down (take (length (bases_within n bases id)) (id ∷ bases_within n bases id)) (own_numbers_at trees (slice_get places (get_or (id ∷ bases_within n bases id) (length (bases_within n bases id)) d))) ≡ numbers_within n trees places bases id

  own_zero : (id : ℕ) → own_numbers_at trees (slice_get places id) ≡ numbers_within zero trees places bases id
  unfolding numbers_within
  own_zero id = refl

  alone_there : (n id d : ℕ) → bases_within n bases id ≡ [] → down (take (length (bases_within n bases id)) (id ∷ bases_within n bases id)) (own_numbers_at trees (slice_get places (get_or (id ∷ bases_within n bases id) (length (bases_within n bases id)) d))) ≡ own_numbers_at trees (slice_get places id)
  alone_there n id d e = subst (λ ks. down (take (length ks) (id ∷ ks)) (own_numbers_at trees (slice_get places (get_or (id ∷ ks) (length ks) d))) ≡ own_numbers_at trees (slice_get places id)) (sym e) refl

  -- from the last base down to the type
  down-all : (n id d : ℕ) → IsDown n id d
  down-all zero id d = alone_there zero id d (bases-none 0 bases id refl) ∙ own_zero id
  down-all (suc m) id d = go (λ b. down-all m b d) (base_at bases id) refl
    where
      go : ((b : ℕ) → IsDown m b d) → (o : Option TypeId) → base_at bases id ≡ o → IsDown (suc m) id d
      go up None e = alone_there (suc m) id d (bases-end (suc m) bases id e) ∙ up-own (suc m) trees places bases id e
      go up (Some base) e =
          let back : suc m - 1 ≡ m = omega arith in
          let ids : bases_within (suc m) bases id ≡ base.0 ∷ bases_within m bases base.0 = bases-next (suc m) bases id base (omega arith) e ∙ ap (λ j. base.0 ∷ bases_within j bases base.0) back in
          subst (λ ks. down (take (length ks) (id ∷ ks)) (own_numbers_at trees (slice_get places (get_or (id ∷ ks) (length ks) d))) ≡ numbers_within (suc m) trees places bases id) (sym ids)
          (ap (narrowed_numbers (range_at trees (slice_get places id))) (up base.0 ∙ ap (λ j. numbers_within j trees places bases base.0) (sym back)) ∙ up-base (suc m) trees places bases id base _ (omega arith) e refl)

  pub down-first : (n id d left : ℕ) (ids : List ℕ) (m : FormAndDomain) → ids ≡ id ∷ bases_within n bases id → left ≡ length ids - 1 → m ≡ own_numbers_at trees (slice_get places (get_or ids left d)) → down (take left ids) m ≡ numbers_within n trees places bases id
  down-first n id d left ids m e l is =
      let count : left ≡ length (bases_within n bases id) = l ∙ less (length ids) (length (bases_within n bases id)) (ap length e) in
      ap (down (take left ids)) is ∙ (ap₂ (λ j ks. down (take j ks) (own_numbers_at trees (slice_get places (get_or ks j d)))) count e ∙ down-all n id d)
    where
      less : (a b : ℕ) → a ≡ suc b → a - 1 ≡ b
      less a b e = omega (arith, e)
