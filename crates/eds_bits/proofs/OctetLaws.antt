-- Laws of octets and their bits.
use Rattle.std.proofs.Common.{◌≡◌, ℕ, zero, suc, ◌+◌, ◌-◌, ◌*◌, ◌/◌, ◌^◌, ◌<◌, ◌≤◌, false, List, [], ◌∷◌, ◌++◌, length, take, drop, map, replicate, All, refl, sym, ◌∙◌, ap, arith, length-append, length-drop, length-take}
use Rattle.std.proofs.lemmas.List.{take_at, drop_at, append-nil, take_all, drop_all, nil_from_length, take-append-drop, length-replicate, length-map}
use Rattle.std.proofs.Math.Nat.{pow-le-pow_right}
use Rattle.std.proofs.lemmas.List.Concat.{flat_map-append}
use Rattle.std.proofs.lemmas.List.Elements.{All-head, All-tail, All-cons, All-nil}
use Rattle.std.proofs.Math.Seq.{take-append-add, drop-append-add}
use Rattle.eds_bits.specs.Bits.{Bits, low_bits, bits_of, unsigned_of, first_pieces, oct, filled, octets_of}
use Rattle.eds_bits.proofs.BitLaws.{length-low, length-with_piece, unsigned_small, low-unsigned, unsigned-append, unsigned-lt}

pub length-bits_of : (octets : List ℕ) → length (bits_of octets) ≡ 8 * length octets
length-bits_of [] = refl
length-bits_of (o ∷ os) = omega (arith, length-append (low_bits 8 o) (bits_of os), length-low 8 o, length-bits_of os)

pub bits_of-append : (xs ys : List ℕ) → bits_of (xs ++ ys) ≡ bits_of xs ++ bits_of ys
bits_of-append xs ys = flat_map-append (low_bits 8) xs ys

-- the bits of the first k octets
pub take-bits_of : (k : ℕ) (os : List ℕ) → take (8 * k) (bits_of os) ≡ bits_of (take k os)
take-bits_of zero os = refl
take-bits_of (suc k) [] = take_all (8 * suc k) [] (omega arith)
take-bits_of (suc k) (o ∷ os) =
    let e : 8 * suc k ≡ length (low_bits 8 o) + 8 * k = omega (arith, length-low 8 o) in
    ap (λ n. take n (low_bits 8 o ++ bits_of os)) e ∙ take-append-add (low_bits 8 o) (bits_of os) (8 * k) ∙ ap (λ r. low_bits 8 o ++ r) (take-bits_of k os)

-- the bits without those of the first k octets
pub drop-bits_of : (k : ℕ) (os : List ℕ) → drop (8 * k) (bits_of os) ≡ bits_of (drop k os)
drop-bits_of zero os = refl
drop-bits_of (suc k) [] = drop_all (8 * suc k) [] (omega arith)
drop-bits_of (suc k) (o ∷ os) =
    let e : 8 * suc k ≡ length (low_bits 8 o) + 8 * k = omega (arith, length-low 8 o) in
    ap (λ n. drop n (low_bits 8 o ++ bits_of os)) e ∙ drop-append-add (low_bits 8 o) (bits_of os) (8 * k) ∙ drop-bits_of k os

-- one octet more at the end
pub unsigned-bits_of_push : (os : List ℕ) (o : ℕ) → o < 256 → unsigned_of (bits_of (os ++ o ∷ [])) ≡ 256 * unsigned_of (bits_of os) + o
unsigned-bits_of_push os o h =
    let l : 2 ^ length (low_bits 8 o ++ []) ≡ 256 = ap (λ r. 2 ^ length r) (append-nil (low_bits 8 o)) ∙ ap (λ n. 2 ^ n) (length-low 8 o) in
    let u : unsigned_of (low_bits 8 o ++ []) ≡ o = ap unsigned_of (append-nil (low_bits 8 o)) ∙ unsigned_small 8 o h in
    let s = unsigned-append (bits_of os) (low_bits 8 o ++ []) in
    ap unsigned_of (bits_of-append os (o ∷ [])) ∙ s ∙ rw (l, u) (omega arith)

-- ---- whole octets

pub oct_whole : (k : ℕ) (bs : Bits) → length bs ≡ 8 * k → oct bs ≡ k
oct_whole k bs l = omega arith

pub filled_whole : (k : ℕ) (bs : Bits) → length bs ≡ 8 * k → filled bs ≡ bs
filled_whole k bs l =
    let z : 8 * oct bs - length bs ≡ 0 = omega (arith, oct_whole k bs l) in
    ap (λ n. bs ++ replicate n false) z ∙ append-nil bs

pub length-filled : (bs : Bits) → length (filled bs) ≡ 8 * oct bs
length-filled bs = omega (arith, length-append bs (replicate (8 * oct bs - length bs) false), length-replicate (8 * oct bs - length bs) false)

pieces_filled : (bs : Bits) → (length (filled bs) + 7) / 8 ≡ oct bs
pieces_filled bs = omega (arith, length-filled bs)

-- the octets of whole octets: the numbers of their pieces of eight
pub octets_whole : (k : ℕ) (bs : Bits) → length bs ≡ 8 * k → octets_of bs ≡ map unsigned_of (first_pieces k 8 bs)
octets_whole k bs l =
    let f = filled_whole k bs l in
    let c : (length (filled bs) + 7) / 8 ≡ k = omega (arith, length-filled bs, oct_whole k bs l) in
    ap (λ n. map unsigned_of (first_pieces n 8 (filled bs))) c ∙ ap (λ r. map unsigned_of (first_pieces k 8 r)) f

numbers_back : (os : List ℕ) → All (λ o. o < 256) os → map unsigned_of (first_pieces (length os) 8 (bits_of os)) ≡ os
unfolding first_pieces
numbers_back [] h = refl
numbers_back (o ∷ os) h =
    let front : take 8 (low_bits 8 o ++ bits_of os) ≡ low_bits 8 o = take_at (low_bits 8 o) (bits_of os) 8 (length-low 8 o) in
    let rest : drop 8 (low_bits 8 o ++ bits_of os) ≡ bits_of os = drop_at (low_bits 8 o) (bits_of os) 8 (length-low 8 o) in
    let head : o < 256 = All-head (λ x. x < 256) o os h in
    rw (front, rest, unsigned_small 8 o head, numbers_back os (All-tail (λ x. x < 256) o os h)) refl

-- octets have their own bits
pub octets_of-bits_of : (os : List ℕ) → All (λ o. o < 256) os → octets_of (bits_of os) ≡ os
octets_of-bits_of os h = octets_whole (length os) (bits_of os) (length-bits_of os) ∙ numbers_back os h

-- different octets have different bits
pub bits_of_same : (xs ys : List ℕ) → All (λ o. o < 256) xs → All (λ o. o < 256) ys → bits_of xs ≡ bits_of ys → xs ≡ ys
bits_of_same xs ys h k e = sym (octets_of-bits_of xs h) ∙ ap octets_of e ∙ octets_of-bits_of ys k

-- ---- the octets of bits

bits_back : (k : ℕ) (bs : Bits) → length bs ≡ 8 * k → bits_of (map unsigned_of (first_pieces k 8 bs)) ≡ bs
unfolding first_pieces
bits_back zero bs l = sym (nil_from_length bs (omega arith))
bits_back (suc k) bs l =
    let n : length (take 8 bs) ≡ 8 = omega (arith, length-take 8 bs) in
    let front : low_bits 8 (unsigned_of (take 8 bs)) ≡ take 8 bs = ap (λ m. low_bits m (unsigned_of (take 8 bs))) (sym n) ∙ low-unsigned (take 8 bs) in
    rw (front, bits_back k (drop 8 bs) (omega (arith, length-drop 8 bs))) (take-append-drop 8 bs)

-- the bits of the octets of bits: themselves, and then the zeros that fill
pub bits_of-octets_of : (bs : Bits) → bits_of (octets_of bs) ≡ filled bs
bits_of-octets_of bs = ap (λ n. bits_of (map unsigned_of (first_pieces n 8 (filled bs)))) (pieces_filled bs) ∙ bits_back (oct bs) (filled bs) (length-filled bs)

pub length-first_pieces : (n k : ℕ) (bs : Bits) → length (first_pieces n k bs) ≡ n
unfolding first_pieces
length-first_pieces zero k bs = refl
length-first_pieces (suc n) k bs = ap suc (length-first_pieces n k (drop k bs))

pub length-octets_of : (bs : Bits) → length (octets_of bs) ≡ oct bs
length-octets_of bs = length-map (first_pieces ((length (filled bs) + 7) / 8) 8 (filled bs)) unsigned_of ∙ length-first_pieces ((length (filled bs) + 7) / 8) 8 (filled bs) ∙ pieces_filled bs

octet_below : (bs : Bits) → length bs ≤ 8 → unsigned_of bs < 256
octet_below bs l = let pos : 0 < 2 = omega arith in let p : 2 ^ length bs ≤ 2 ^ 8 = pow-le-pow_right pos l in omega (arith, unsigned-lt bs)

octets_below : (k : ℕ) (bs : Bits) → All (λ o. o < 256) (map unsigned_of (first_pieces k 8 bs))
unfolding first_pieces
octets_below zero bs = All-nil (λ o. o < 256)
octets_below (suc k) bs = All-cons (λ o. o < 256) (unsigned_of (take 8 bs)) (map unsigned_of (first_pieces k 8 (drop 8 bs))) (octet_below (take 8 bs) (omega (arith, length-take 8 bs))) (octets_below k (drop 8 bs))

pub octets_of_below : (bs : Bits) → All (λ o. o < 256) (octets_of bs)
octets_of_below bs = octets_below ((length (filled bs) + 7) / 8) (filled bs)

-- how many bits follow the first `at`
pub length_after : (at : ℕ) (os : List ℕ) → length (drop at (bits_of os)) ≡ 8 * length os - at
length_after at os = omega (arith, length-drop at (bits_of os), length-bits_of os)

-- how many bits there are
pub ruleset bit_counts = (length-bits_of, length_after, length-low, length-with_piece)
