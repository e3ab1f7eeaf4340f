-- The octets of a binary.
use Rattle.std.proofs.Common.{◌≡◌, ℕ, zero, suc, ◌+◌, ◌-◌, ◌*◌, ◌/◌, ◌%◌, ◌^◌, ◌<◌, ◌≤◌, false, List, [], ◌∷◌, ◌++◌, length, get_or, set, take, drop, replicate, refl, sym, ap, ◌∙◌, append_assoc, All, arith}
use Rattle.std.proofs.lemmas.List.Elements.{All-append, All-cons, All-nil}
use Rattle.std.proofs.lemmas.List.{take_at, take_all, drop_all, take_more_set, take-append-drop, append-nil, get_or-drop, length-take, length-drop, length-append, length-replicate, length-set}
use Rattle.std.proofs.lemmas.Nat.{shl_below, shl_whole, shl-shr}
use Rattle.std.proofs.Math.Nat.{mul-mod_left}
use Rattle.std.proofs.Math.Seq.{take-add}
use borrow.Rule.Slice.PartMut.{put_mid}
use Rattle.eds_bits.specs.Bits.{Bits, bits_of, low_bits, unsigned_of, octets_of, octets_for, oct, filled, with_piece}
use Rattle.eds_bits.specs.Texts.{IsBinary, front_octets}
use Rattle.eds_bits.proofs.TextLaws.{length-front_octets, bits_of-front_octets, front_octets_below}
use Rattle.eds_bits.proofs.BitLaws.{length-low, low-append, low-unsigned, unsigned_same, unsigned-low, with_piece-append}
use Rattle.eds_bits.proofs.OctetLaws.{length-bits_of, take-bits_of, drop-bits_of, bits_of-octets_of, length-octets_of, bits_of-append, bits_of_same, octets_of_below}
use Rattle.eds_bits.proofs.Shifts.{first_bits, part_put}
use Rattle.eds_codec.specs.Writing.{Written}
use Rattle.eds_codec.specs.Reading.{BeginsWith}

-- ---- writing

-- whole octets, and the first bits of the next
pub last_put : (os room one two : List ℕ) (at bits whole last x : ℕ) → bits ≡ 8 * whole + last → last < 8 → whole < length os → at + bits ≤ 8 * length room → x ≡ get_or os whole 0 / 2 ^ (8 - last)
    → bits_of one ≡ with_piece at (bits_of (take whole os)) (bits_of room) → bits_of two ≡ with_piece (at + 8 * whole) (low_bits last x) (bits_of one)
    → bits_of two ≡ with_piece at (take bits (bits_of os)) (bits_of room)
last_put os room one two at bits whole last x e few more within is first second =
    let rest : List ℕ = drop whole os in
    let head : get_or rest 0 0 ≡ get_or os whole 0 = get_or-drop whole os 0 0 ∙ ap (λ i. get_or os i 0) (omega arith) in
    let piece : low_bits last x ≡ take last (drop (8 * whole) (bits_of os)) =
    ap (low_bits last) (is ∙ ap (λ o. o / 2 ^ (8 - last)) (sym head)) ∙ first_bits rest last (8 - last) (omega arith) (omega (arith, length-drop whole os))
    ∙ ap (take last) (sym (drop-bits_of whole os)) in
    let size : 8 * whole ≡ length (bits_of (take whole os)) = omega (arith, length-bits_of (take whole os), length-take whole os) in
    let place : at + 8 * whole ≡ at + length (bits_of (take whole os)) = ap (λ k. at + k) size in
    let fits : at + length (bits_of (take whole os)) + length (low_bits last x) ≤ length (bits_of room) = omega (arith, length-low last x, length-bits_of room) in
    let parts : bits_of (take whole os) ++ low_bits last x ≡ take bits (bits_of os) =
    rw (← take-bits_of whole os, piece) (sym (ap (λ k. take k (bits_of os)) e ∙ take-add (8 * whole) last (bits_of os))) in
    second ∙ ap (with_piece (at + 8 * whole) (low_bits last x)) first ∙ ap (λ k. with_piece k (low_bits last x) (with_piece at (bits_of (take whole os)) (bits_of room))) place
    ∙ with_piece-append at (bits_of (take whole os)) (low_bits last x) (bits_of room) fits ∙ ap (λ p. with_piece at p (bits_of room)) parts

-- whole octets alone
pub whole_put : (os room : List ℕ) (one : Bits) (at bits whole : ℕ) → bits ≡ 8 * whole → one ≡ with_piece at (bits_of (take whole os)) (bits_of room) → one ≡ with_piece at (take bits (bits_of os)) (bits_of room)
whole_put os room one at bits whole e h =
    h ∙ ap (λ p. with_piece at p (bits_of room)) (sym (take-bits_of whole os) ∙ ap (λ k. take k (bits_of os)) (sym e))

-- the first bits of the octets that some bits fill are these bits
pub binary_bits : (n : ℕ) (os : List ℕ) (bs : Bits) → IsBinary n os bs → take n (bits_of os) ≡ bs
binary_bits n os bs h =
    ap (λ r. take n (bits_of r)) h.value ∙ ap (take n) (bits_of-octets_of bs) ∙ take_at bs (replicate (8 * oct bs - length bs) false) n h.size

pub binary_size : (n : ℕ) (os : List ℕ) (bs : Bits) → IsBinary n os bs → length os ≡ octets_for n
binary_size n os bs h = ap length h.value ∙ length-octets_of bs ∙ ap octets_for h.size

pub binary_written : (n at first count skip : ℕ) (os room new : List ℕ) (bs : Bits) → IsBinary n os bs → first + count ≤ length room → skip + n ≤ 8 * count → 8 * first + skip ≡ at
    → bits_of new ≡ with_piece skip (take n (bits_of os)) (bits_of (take count (drop first room))) → Written (IsBinary n os) at room (put_mid first count room new)
binary_written n at first count skip os room new bs is h fits place e =
    let same = binary_bits n os bs is in
    let put : bits_of new ≡ with_piece skip bs (bits_of (take count (drop first room))) = e ∙ ap (λ p. with_piece skip p (bits_of (take count (drop first room)))) same in
    record { piece = bs; spelled = is; placed = part_put first count skip room new bs h (omega (arith, is.size)) put ∙ ap (λ k. with_piece k bs (bits_of room)) place }

-- ---- reading

-- a number of n bits, moved to the front of an octet
pub high_octet : (n v : ℕ) (bs : Bits) → n ≤ 7 → n ≤ length bs → v ≡ unsigned_of (take n bs) → low_bits 8 (v * 2 ^ (8 - n)) ≡ take n bs ++ replicate (8 - n) false
high_octet n v bs few h is =
    let all : 8 ≡ n + (8 - n) = omega arith in
    let l : length (take n bs) ≡ n = omega (arith, length-take n bs) in
    let number : low_bits n v ≡ take n bs = ap (low_bits n) is ∙ ap (λ k. low_bits k (unsigned_of (take n bs))) (sym l) ∙ low-unsigned (take n bs) in
    let high : low_bits n (v * 2 ^ (8 - n) / 2 ^ (8 - n)) ≡ take n bs = ap (low_bits n) (shl-shr v (8 - n)) ∙ number in
    let low : low_bits (8 - n) (v * 2 ^ (8 - n)) ≡ replicate (8 - n) false = zeros (8 - n) (v * 2 ^ (8 - n)) (mul-mod_left v (2 ^ (8 - n))) in
    ap (λ k. low_bits k (v * 2 ^ (8 - n))) all ∙ low-append n (8 - n) (v * 2 ^ (8 - n)) ∙ rw (high, low) refl
  where
    number_zero : (k : ℕ) → unsigned_of (replicate k false) ≡ 0
    number_zero zero = refl
    number_zero (suc k) = omega (arith, number_zero k)

    zeros : (k x : ℕ) → x % 2 ^ k ≡ 0 → low_bits k x ≡ replicate k false
    zeros k x e = unsigned_same (low_bits k x) (replicate k false) (length-low k x ∙ sym (length-replicate k false)) (unsigned-low k x ∙ e ∙ sym (number_zero k))

-- that shift loses no bit
pub high_fits : (n v : ℕ) → n ≤ 7 → v < 2 ^ n → v * 2 ^ (8 - n) % 2 ^ 64 ≡ v * 2 ^ (8 - n)
high_fits n v few h = shl_whole v n (8 - n) 64 h (omega arith)

pub high_below : (n v : ℕ) → n ≤ 7 → v < 2 ^ n → v * 2 ^ (8 - n) < 256
high_below n v few h =
    let all : n + (8 - n) ≡ 8 = omega arith in
    let fits : v * 2 ^ (8 - n) < 2 ^ (n + (8 - n)) = shl_below v n (8 - n) h in
    let two : 2 ^ (n + (8 - n)) ≡ 2 ^ 8 = ap (λ k. 2 ^ k) all in
    omega arith

-- octets are those that some bits fill where their bits say so
pub octets_filled : (os : List ℕ) (bs : Bits) → All (λ o. o < 256) os → bits_of os ≡ filled bs → os ≡ octets_of bs
octets_filled os bs all e = bits_of_same os (octets_of bs) all (octets_of_below bs) (e ∙ sym (bits_of-octets_of bs))

-- whole octets, and one more for the last bits
pub octets_last : (bs : Bits) (bits whole last y : ℕ) → bits ≡ 8 * whole + last → 1 ≤ last → last ≤ 7 → bits ≤ length bs → y < 256 → low_bits 8 y ≡ take last (drop (8 * whole) bs) ++ replicate (8 - last) false
    → front_octets whole bs ++ y ∷ [] ≡ octets_of (take bits bs)
octets_last bs bits whole last y e some few h below piece =
    let zeros : 8 * oct (take bits bs) - length (take bits bs) ≡ 8 - last = omega (arith, length-take bits bs) in
    let octets : bits_of (front_octets whole bs ++ y ∷ []) ≡ filled (take bits bs) =
    bits_of-append (front_octets whole bs) (y ∷ []) ∙ ap (λ r. bits_of (front_octets whole bs) ++ r) (append-nil (low_bits 8 y))
    ∙ ap (λ r. r ++ low_bits 8 y) (bits_of-front_octets whole bs (omega arith)) ∙ ap (λ r. take (8 * whole) bs ++ r) piece
    ∙ sym (append_assoc (take (8 * whole) bs) (take last (drop (8 * whole) bs)) (replicate (8 - last) false))
    ∙ ap (λ r. r ++ replicate (8 - last) false) (sym (take-add (8 * whole) last bs) ∙ ap (λ k. take k bs) (sym e))
    ∙ ap (λ k. take bits bs ++ replicate k false) (sym zeros) in
    let small : All (λ o. o < 256) (front_octets whole bs ++ y ∷ []) =
    All-append (λ o. o < 256) (front_octets whole bs) (y ∷ []) (front_octets_below whole bs) (All-cons (λ o. o < 256) y [] below (All-nil (λ o. o < 256))) in
    octets_filled (front_octets whole bs ++ y ∷ []) (take bits bs) small octets

-- these octets where they were put
pub last_taken : (new os : List ℕ) (bs mid : Bits) (bits whole wide last y : ℕ) → bits ≡ 8 * whole + last → 1 ≤ last → last ≤ 7 → bits ≤ length bs → wide ≡ whole → length os ≡ whole + 1
    → new ≡ front_octets wide bs → mid ≡ drop (8 * wide) bs → y < 256 → low_bits 8 y ≡ take last mid ++ replicate (8 - last) false
    → set (new ++ drop whole os) whole y ≡ octets_of (take bits bs)
last_taken new os bs mid bits whole wide last y e some few h same lo is rest below end =
    let front : new ≡ front_octets whole bs = is ∙ ap (λ k. front_octets k bs) same in
    let ln : length new ≡ whole = ap length front ∙ length-front_octets whole bs (omega arith) in
    let all : List ℕ = new ++ drop whole os in
    let size : length all ≡ whole + 1 = omega (arith, length-append new (drop whole os), length-drop whole os) in
    let whole_list : set all whole y ≡ front_octets whole bs ++ y ∷ [] =
    sym (take_all (whole + 1) (set all whole y) (omega (arith, length-set all whole y))) ∙ take_more_set all whole y (omega arith) ∙ ap (λ r. r ++ y ∷ []) (take_at new (drop whole os) whole ln ∙ front) in
    let piece : low_bits 8 y ≡ take last (drop (8 * whole) bs) ++ replicate (8 - last) false =
    end ∙ ap (λ r. take last r ++ replicate (8 - last) false) (rest ∙ ap (λ k. drop (8 * k) bs) same) in
    whole_list ∙ octets_last bs bits whole last y e some few h below piece

-- whole octets alone
pub whole_taken : (new os : List ℕ) (bs : Bits) (bits whole wide : ℕ) → bits ≡ 8 * whole → wide ≡ whole → length os ≡ whole → new ≡ front_octets wide bs → new ++ drop whole os ≡ octets_of (take bits bs)
whole_taken new os bs bits whole wide e same lo is =
    ap (λ r. new ++ r) (drop_all whole os (omega arith)) ∙ append-nil new ∙ is ∙ ap (λ k. front_octets k bs) same ∙ ap (λ k. octets_of (take k bs)) (sym e)

pub binary_front : (n : ℕ) (os : List ℕ) (bs rest : Bits) → n ≤ length bs → os ≡ octets_of (take n bs) → rest ≡ drop n bs → BeginsWith (IsBinary n os) bs rest
binary_front n os bs rest h is e = record {
  piece = take n bs;
  spelled = record { size = omega (arith, length-take n bs); value = is };
  is = sym (take-append-drop n bs) ∙ ap (λ r. take n bs ++ r) (sym e);
}
