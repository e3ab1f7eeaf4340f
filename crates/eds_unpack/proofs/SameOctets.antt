-- Octets that are compared with those of bits.
use Rattle.std.proofs.Common.{◌≡◌, ℕ, zero, suc, ◌+◌, ◌-◌, ◌*◌, ◌/◌, ◌^◌, ◌<◌, ◌≤◌, Bool, false, ◌==◌, min, List, [], ◌∷◌, ◌++◌, length, map, get_or, take, drop, replicate, refl, sym, ap, ap₂, ◌∙◌, arith, inl, inr}
use Rattle.std.specs.Prelude.{◌&&◌}
use Rattle.std.proofs.lemmas.Bool.{cases_lt, eq-eqb, ne_eqb}
use Rattle.std.proofs.lemmas.List.{take_all, drop_all, take-append-le, drop-append-le, drop-take, take-take, length-take, length-drop, length-replicate, drop_more}
use Rattle.eds_base.specs.Reading.{same as same_octets}
use Rattle.eds_bits.specs.Bits.{Bits, octets_of, unsigned_of, first_pieces, filled, oct}
use Rattle.eds_bits.proofs.BitLaws.{unsigned-append}
use Rattle.eds_bits.proofs.OctetLaws.{length-filled}

-- ---- one octet after the other

number_zero : (k : ℕ) → unsigned_of (replicate k false) ≡ 0
number_zero zero = refl
number_zero (suc k) = omega (arith, number_zero k)

of_filled : (k : ℕ) (bs : Bits) → oct bs ≡ k → octets_of bs ≡ map unsigned_of (first_pieces k 8 (filled bs))
of_filled k bs e = let n : (length (filled bs) + 7) / 8 ≡ k = omega (arith, length-filled bs) in ap (λ m. map unsigned_of (first_pieces m 8 (filled bs))) n

first_of : (m : ℕ) (c : Bits) → map unsigned_of (first_pieces (suc m) 8 c) ≡ unsigned_of (take 8 c) ∷ map unsigned_of (first_pieces m 8 (drop 8 c))
unfolding first_pieces
first_of m c = refl

none_of : (c : Bits) → map unsigned_of (first_pieces 0 8 c) ≡ []
unfolding first_pieces
none_of c = refl

none_left : octets_of [] ≡ []
none_left = of_filled 0 [] refl ∙ none_of (filled [])

-- at least eight bits
long : (m : ℕ) (bs : Bits) → oct bs ≡ suc m → 8 ≤ length bs → octets_of bs ≡ unsigned_of (take 8 bs) ∷ octets_of (drop 8 bs)
long m bs e h =
    let zeros : List Bool = replicate (8 * oct bs - length bs) false in
    let front : take 8 (filled bs) ≡ take 8 bs = take-append-le 8 bs zeros h in
    let n : 8 * oct bs - length bs ≡ 8 * oct (drop 8 bs) - length (drop 8 bs) = omega (arith, length-drop 8 bs) in
    let rest : drop 8 (filled bs) ≡ filled (drop 8 bs) = drop-append-le 8 bs zeros h ∙ ap (λ k. drop 8 bs ++ replicate k false) n in
    let k : oct (drop 8 bs) ≡ m = omega (arith, length-drop 8 bs) in
    of_filled (suc m) bs e ∙ first_of m (filled bs)
    ∙ ap₂ (λ c d. unsigned_of c ∷ map unsigned_of (first_pieces m 8 d)) front rest
    ∙ ap (λ os. unsigned_of (take 8 bs) ∷ os) (sym (of_filled m (drop 8 bs) k))

-- fewer, with zeros behind them
short : (bs : Bits) → 0 < length bs → length bs < 8 → octets_of bs ≡ unsigned_of bs * 2 ^ (8 - length bs) ∷ []
short bs some few =
    let e : oct bs ≡ 1 = omega arith in
    let n : 8 * oct bs - length bs ≡ 8 - length bs = omega arith in
    let f : filled bs ≡ bs ++ replicate (8 - length bs) false = ap (λ k. bs ++ replicate k false) n in
    let l : length (filled bs) ≤ 8 = omega (arith, length-filled bs) in
    let v = unsigned-append bs (replicate (8 - length bs) false) in
    let w : unsigned_of (filled bs) ≡ unsigned_of bs * 2 ^ (8 - length bs) = ap unsigned_of f ∙ v ∙ ap₂ (λ i j. unsigned_of bs * 2 ^ i + j) (length-replicate (8 - length bs) false) (number_zero (8 - length bs)) ∙ omega arith in
    of_filled 1 bs e ∙ first_of 0 (filled bs)
    ∙ ap₂ (λ o os. o ∷ os) (ap unsigned_of (take_all 8 (filled bs) l) ∙ w) (none_of (drop 8 (filled bs)))

-- the first octet of some bits, and those of the rest
pub octets_step : (n : ℕ) (bs : Bits) → 0 < length bs → n ≡ min (length bs) 8 → octets_of bs ≡ unsigned_of (take n bs) * 2 ^ (8 - n) ∷ octets_of (drop n bs)
octets_step n bs some e = elim (cases_lt (length bs) 8) [
  | inl few ↦
      let k : n ≡ length bs = omega arith in
      let t : take n bs ≡ bs = take_all n bs (omega arith) in
      let d : drop n bs ≡ [] = drop_all n bs (omega arith) in
      short bs some few ∙ ap₂ (λ c m. unsigned_of c * 2 ^ (8 - m) ∷ []) (sym t) (sym k) ∙ ap (λ os. unsigned_of (take n bs) * 2 ^ (8 - n) ∷ os) (sym (ap octets_of d ∙ none_left))
  | inr many ↦
      let k : n ≡ 8 = omega arith in
      let v : unsigned_of (take 8 bs) ≡ unsigned_of (take 8 bs) * 2 ^ (8 - 8) = omega arith in
      let m : oct bs ≡ suc (oct bs - 1) = omega arith in
      long (oct bs - 1) bs m many ∙ ap (λ o. o ∷ octets_of (drop 8 bs)) v ∙ ap (λ j. unsigned_of (take j bs) * 2 ^ (8 - j) ∷ octets_of (drop j bs)) (sym k)
]

next_same : (n left : ℕ) (b : Bits) (o : ℕ) (os : List ℕ) → left ≤ length b → 0 < left → n ≡ min left 8
    → same_octets (octets_of (take left b)) (o ∷ os) ≡ ((unsigned_of (take n b) * 2 ^ (8 - n) == o) && same_octets (octets_of (take (left - n) (drop n b))) os)
next_same n left b o os h some e =
    let l : length (take left b) ≡ left = omega (arith, length-take left b) in
    let k : left ≡ n + (left - n) = omega arith in
    let m : n ≡ min (length (take left b)) 8 = omega arith in
    let t : take n (take left b) ≡ take n b = take-take n left b (omega arith) in
    let r : drop n (take left b) ≡ take (left - n) (drop n b) = ap (λ j. drop n (take j b)) k ∙ drop-take n (left - n) b in
    ap (λ xs. same_octets xs (o ∷ os)) (octets_step n (take left b) (omega arith) m ∙ ap₂ (λ c d. unsigned_of c * 2 ^ (8 - n) ∷ octets_of d) t r)

-- the first octet is another one
pub first_differs : (n left v : ℕ) (b : Bits) (os : List ℕ) (i : ℕ) → left ≤ length b → (left ≡ 0 → ⊥) → n ≡ min left 8 → v ≡ unsigned_of (take n b) * 2 ^ (8 - n) → i < length os → (v ≡ get_or os i 0 → ⊥)
    → same_octets (octets_of (take left b)) (drop i os) ≡ false
first_differs n left v b os i h some e f more ne =
    ap (same_octets (octets_of (take left b))) (drop_more os i 0 more) ∙ next_same n left b (get_or os i 0) (drop (i + 1) os) h (omega arith) e
    ∙ ap (λ x. x && same_octets (octets_of (take (left - n) (drop n b))) (drop (i + 1) os)) (ap (λ w. w == get_or os i 0) (sym f) ∙ ne_eqb v (get_or os i 0) ne)

-- it is the same, and the others are compared
pub first_same : (n left v : ℕ) (b : Bits) (os : List ℕ) (i : ℕ) → left ≤ length b → (left ≡ 0 → ⊥) → n ≡ min left 8 → v ≡ unsigned_of (take n b) * 2 ^ (8 - n) → i < length os → v ≡ get_or os i 0
    → same_octets (octets_of (take (left - n) (drop n b))) (drop (i + 1) os) ≡ same_octets (octets_of (take left b)) (drop i os)
first_same n left v b os i h some e f more is =
    sym (
    ap (same_octets (octets_of (take left b))) (drop_more os i 0 more) ∙ next_same n left b (get_or os i 0) (drop (i + 1) os) h (omega arith) e
    ∙ ap (λ x. x && same_octets (octets_of (take (left - n) (drop n b))) (drop (i + 1) os)) (ap (λ w. w == get_or os i 0) (sym f) ∙ eq-eqb v (get_or os i 0) is))

-- no bits are left
pub bits_end : (left : ℕ) (b : Bits) (os : List ℕ) (i : ℕ) → left ≡ 0 → i < length os → same_octets (octets_of (take left b)) (drop i os) ≡ false
bits_end left b os i e more =
    ap (λ n. same_octets (octets_of (take n b)) (drop i os)) e ∙ ap (same_octets (octets_of [])) (drop_more os i 0 more) ∙ ap (λ xs. same_octets xs (get_or os i 0 ∷ drop (i + 1) os)) none_left

no_octets : (left : ℕ) (b : Bits) → left ≤ length b → same_octets (octets_of (take left b)) [] ≡ (left == 0)
no_octets zero b h = ap (λ xs. same_octets xs []) none_left
no_octets (suc k) b h =
    let some : 0 < length (take (suc k) b) = omega (arith, length-take (suc k) b) in
    ap (λ xs. same_octets xs []) (octets_step (min (length (take (suc k) b)) 8) (take (suc k) b) some refl) ∙ sym (ne_eqb (suc k) 0 (λ e. omega arith))

-- no octets are left
pub octets_end : (left : ℕ) (b : Bits) (os : List ℕ) (i : ℕ) → left ≤ length b → length os ≤ i → same_octets (octets_of (take left b)) (drop i os) ≡ (left == 0)
octets_end left b os i h past = ap (same_octets (octets_of (take left b))) (drop_all i os past) ∙ no_octets left b h
