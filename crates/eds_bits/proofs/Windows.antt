-- The octets around some bits.
use Rattle.std.proofs.Common.{◌≡◌, ℕ, ◌+◌, ◌-◌, ◌*◌, ◌/◌, ◌%◌, ◌^◌, ◌<◌, ◌≤◌, List, [], ◌∷◌, ◌++◌, length, get_or, set, take, drop, bit_or, refl, sym, ◌∙◌, ap, arith, length-drop, length-take}
use Rattle.std.proofs.lemmas.List.{take_more, take_more_set, take-take, drop-drop, drop-take, append-nil, take_all, take-append-drop}
use Rattle.std.proofs.lemmas.Nat.{or_shifted, shr-shr, shr_split, shr_le, shl_whole, mod_below, pow_pos}
use borrow.Rule.Slice.PartMut.{put_mid}
use Rattle.std.proofs.Math.Nat.{pow-le-pow_right, mod-eq_of_lt}
use Rattle.std.specs.Int.{from_be_bytes, w64}
use Rattle.eds_bits.specs.Bits.{Bits, low_bits, bits_of, unsigned_of, with_piece}
use Rattle.eds_bits.proofs.BitLaws.{length-low, unsigned-lt, unsigned-part, low-unsigned, low-append, low_same, low-replaced, with_piece-within}
use Rattle.eds_bits.proofs.OctetLaws.{length-bits_of, bits_of-append, take-bits_of, drop-bits_of, unsigned-bits_of_push}

-- the number of octets is below a power of 2
pub octets_bound : (os : List ℕ) (k : ℕ) → length os ≤ k → unsigned_of (bits_of os) < 2 ^ (8 * k)
octets_bound os k h =
    let two : 0 < 2 = omega arith in
    let few : length (bits_of os) ≤ 8 * k = omega (arith, length-bits_of os) in
    let p : 2 ^ length (bits_of os) ≤ 2 ^ (8 * k) = pow-le-pow_right two few in
    omega (arith, unsigned-lt (bits_of os))

-- one octet more of a few
pub octet_step : (os : List ℕ) (i o : ℕ) → i < length os → length os ≤ 9 → o ≡ get_or os i 0 → o < 256 → bit_or (unsigned_of (bits_of (take i os)) * 2 ^ 8 % 2 ^ 128) o ≡ unsigned_of (bits_of (take (i + 1) os))
octet_step os i o h few e small =
    let low : unsigned_of (bits_of (take i os)) < 2 ^ 64 = octets_bound (take i os) 8 (omega (arith, length-take i os)) in
    let fits : unsigned_of (bits_of (take i os)) * 2 ^ 8 < 2 ^ 128 = omega arith in
    let more : take (i + 1) os ≡ take i os ++ o ∷ [] = take_more os i 0 h ∙ ap (λ x. take i os ++ x ∷ []) (sym e) in
    ap (λ x. bit_or x o) (mod-eq_of_lt fits) ∙ or_shifted (unsigned_of (bits_of (take i os))) 8 o small ∙ omega (arith, unsigned-bits_of_push (take i os) o small) ∙ ap (λ r. unsigned_of (bits_of r)) (sym more)

-- one octet more
octet_more : (os : List ℕ) (i : ℕ) → i < length os → get_or os i 0 < 256 → unsigned_of (bits_of (take (i + 1) os)) ≡ 256 * unsigned_of (bits_of (take i os)) + get_or os i 0
octet_more os i h small = ap (λ r. unsigned_of (bits_of r)) (take_more os i 0 h) ∙ unsigned-bits_of_push (take i os) (get_or os i 0) small

-- the number of eight octets, as a word is made of them
pub word_number : (os : List ℕ) → length os ≡ 8 → ((i : ℕ) → get_or os i 0 < 256) → from_be_bytes w64 os ≡ unsigned_of (bits_of os)
word_number os l small =
    let whole : unsigned_of (bits_of (take 8 os)) ≡ unsigned_of (bits_of os) = ap (λ r. unsigned_of (bits_of r)) (take_all 8 os (omega arith)) in
    omega (
      arith,
      whole,
      octet_more os 0 (omega arith) (small 0),
      octet_more os 1 (omega arith) (small 1),
      octet_more os 2 (omega arith) (small 2),
      octet_more os 3 (omega arith) (small 3),
      octet_more os 4 (omega arith) (small 4),
      octet_more os 5 (omega arith) (small 5),
      octet_more os 6 (omega arith) (small 6),
      octet_more os 7 (omega arith) (small 7),
    )

-- the bits of a window are those of its octets
pub window_bits : (os : List ℕ) (first last : ℕ) → bits_of (take (last - first) (drop first os)) ≡ take (8 * (last - first)) (drop (8 * first) (bits_of os))
window_bits os first last = sym (take-bits_of (last - first) (drop first os)) ∙ ap (take (8 * (last - first))) (sym (drop-bits_of first os))

-- n bits from bit `at` on are in the window around them
pub window_same : (os : List ℕ) (at n first last pad : ℕ) → 8 * first ≤ at → at + n + pad ≡ 8 * last → take n (drop (at - 8 * first) (bits_of (take (last - first) (drop first os)))) ≡ take n (drop at (bits_of os))
window_same os at n first last pad start end =
    let skip : ℕ = at - 8 * first in
    let bits : Bits = bits_of os in
    let size : 8 * (last - first) ≡ skip + (n + pad) = omega arith in
    let place : 8 * first + skip ≡ at = omega arith in
    ap (λ r. take n (drop skip r)) (window_bits os first last ∙ ap (λ k. take k (drop (8 * first) bits)) size)
    ∙ ap (take n) (drop-take skip (n + pad) (drop (8 * first) bits))
    ∙ take-take n (n + pad) (drop skip (drop (8 * first) bits)) (omega arith)
    ∙ ap (take n) (drop-drop skip (8 * first) bits ∙ ap (λ k. drop k bits) place)

-- their number, out of that of the window
pub window_part : (os : List ℕ) (at n first last pad w : ℕ) → 8 * first ≤ at → at + n + pad ≡ 8 * last → last ≤ length os → w ≡ unsigned_of (bits_of (take (last - first) (drop first os))) → w / 2 ^ pad % 2 ^ n ≡ unsigned_of (take n (drop at (bits_of os)))
window_part os at n first last pad w start end within e =
    let skip : ℕ = at - 8 * first in
    let octets : List ℕ = take (last - first) (drop first os) in
    let l : length (bits_of octets) ≡ skip + n + pad = omega (arith, length-bits_of octets, length-take (last - first) (drop first os), length-drop first os) in
    ap (λ x. x / 2 ^ pad % 2 ^ n) e ∙ unsigned-part skip n pad (bits_of octets) l ∙ ap unsigned_of (window_same os at n first last pad start end)

-- from a whole octet on the bits are those of the octets
pub rest_octets : (os : List ℕ) (at : ℕ) → at % 8 ≡ 0 → drop at (bits_of os) ≡ bits_of (take (length os - at / 8) (drop (at / 8) os))
rest_octets os at e =
    let place : at ≡ 8 * (at / 8) = omega arith in
    ap (λ k. drop k (bits_of os)) place ∙ drop-bits_of (at / 8) os
    ∙ ap bits_of (sym (take_all (length os - at / 8) (drop (at / 8) os) (omega (arith, length-drop (at / 8) os))))

-- the octets from a whole one on
pub whole_part : (os : List ℕ) (at count : ℕ) → at % 8 ≡ 0 → bits_of (take (at / 8 + count - at / 8) (drop (at / 8) os)) ≡ take (8 * count) (drop at (bits_of os))
whole_part os at count e =
    let place : 8 * (at / 8) ≡ at = omega arith in
    let size : 8 * (at / 8 + count - at / 8) ≡ 8 * count = omega arith in
    window_bits os (at / 8) (at / 8 + count) ∙ ap (λ k. take k (drop (8 * (at / 8)) (bits_of os))) size ∙ ap (λ k. take (8 * count) (drop k (bits_of os))) place

-- ---- the octets of a number, one after the other

pub low_none : (x : ℕ) → [] ≡ low_bits 0 x
unfolding low_bits
low_none x = refl

-- octet i of a number, where r octets follow it
pub written_more : (os : List ℕ) (i r w y : ℕ) → i < length os → y ≡ w / 2 ^ (8 * r) % 256 → bits_of (take i os) ≡ low_bits (8 * i) (w / 2 ^ (8 * (r + 1))) → bits_of (take (i + 1) (set os i y)) ≡ low_bits (8 * (i + 1)) (w / 2 ^ (8 * r))
written_more os i r w y h e before =
    let x : ℕ = w / 2 ^ (8 * r) in
    let next : 8 * (r + 1) ≡ 8 * r + 8 = omega arith in
    let front : low_bits (8 * i) (w / 2 ^ (8 * (r + 1))) ≡ low_bits (8 * i) (x / 2 ^ 8) = ap (λ k. low_bits (8 * i) (w / 2 ^ k)) next ∙ ap (low_bits (8 * i)) (sym (shr-shr w (8 * r) 8)) in
    let end : low_bits 8 y ≡ low_bits 8 x = low_same 8 y x (omega arith) in
    let size : 8 * (i + 1) ≡ 8 * i + 8 = omega arith in
    ap bits_of (take_more_set os i y h) ∙ bits_of-append (take i os) (y ∷ []) ∙ ap (λ r. bits_of (take i os) ++ r) (append-nil (low_bits 8 y)) ∙ rw (before, front, end, size) (sym (low-append (8 * i) 8 x))

-- ---- bits put into octets

-- the shifts and ors that replace n bits of a number, none of which loses a bit
pub replaced_number : (w pad n v : ℕ) → w < 2 ^ 72 → pad < 8 → n ≤ 64 → v < 2 ^ n → bit_or (bit_or (w / 2 ^ pad / 2 ^ n * 2 ^ n % 2 ^ 128) v * 2 ^ pad % 2 ^ 128) (w % 2 ^ pad) ≡ (w / 2 ^ pad / 2 ^ n * 2 ^ n + v) * 2 ^ pad + w % 2 ^ pad
replaced_number w pad n v size near small fits =
    let high : ℕ = w / 2 ^ pad / 2 ^ n in
    let two : 0 < 2 = omega arith in
    let whole : high * 2 ^ n < 2 ^ 72 = omega (arith, shr_split (w / 2 ^ pad) n, shr_le w pad) in
    let value : v < 2 ^ 64 = (let p : 2 ^ n ≤ 2 ^ 64 = pow-le-pow_right two small in omega arith) in
    let above : bit_or (high * 2 ^ n % 2 ^ 128) v ≡ high * 2 ^ n + v =
    (let f : high * 2 ^ n < 2 ^ 128 = omega arith in ap (λ x. bit_or x v) (mod-eq_of_lt f) ∙ or_shifted high n v fits) in
    let inner : high * 2 ^ n + v < 2 ^ 73 = omega arith in
    let shifted : (high * 2 ^ n + v) * 2 ^ pad % 2 ^ 128 ≡ (high * 2 ^ n + v) * 2 ^ pad = shl_whole (high * 2 ^ n + v) 73 pad 128 inner (omega arith) in
    ap (λ x. bit_or (x * 2 ^ pad % 2 ^ 128) (w % 2 ^ pad)) above ∙ ap (λ x. bit_or x (w % 2 ^ pad)) shifted
    ∙ or_shifted (high * 2 ^ n + v) pad (w % 2 ^ pad) (mod_below w (2 ^ pad) (pow_pos pad))

-- the octets of a window written anew, with n bits from bit `at` on replaced
pub window_put : (os new : List ℕ) (at n first last pad w v : ℕ) → 8 * first ≤ at → at + n + pad ≡ 8 * last → last ≤ length os → first ≤ last → v < 2 ^ n → w ≡ unsigned_of (bits_of (take (last - first) (drop first os)))
    → bits_of new ≡ low_bits (8 * length (take (last - first) (drop first os))) ((w / 2 ^ pad / 2 ^ n * 2 ^ n + v) * 2 ^ pad + w % 2 ^ pad)
    → bits_of (put_mid first (last - first) os new) ≡ with_piece at (low_bits n v) (bits_of os)
window_put os new at n first last pad w v start end within order fits e written =
    let skip : ℕ = at - 8 * first in
    let octets : List ℕ = take (last - first) (drop first os) in
    let rest : List ℕ = drop (last - first) (drop first os) in
    let front : Bits = bits_of (take first os) in
    let l : length (bits_of octets) ≡ skip + n + pad = omega (arith, length-bits_of octets, length-take (last - first) (drop first os), length-drop first os) in
    let size : 8 * length octets ≡ skip + n + pad = omega (arith, length-bits_of octets) in
    let old : low_bits (skip + n + pad) w ≡ bits_of octets = ap (low_bits (skip + n + pad)) e ∙ ap (λ k. low_bits k (unsigned_of (bits_of octets))) (sym l) ∙ low-unsigned (bits_of octets) in
    let part : bits_of new ≡ with_piece skip (low_bits n v) (bits_of octets) =
    written ∙ ap (λ k. low_bits k ((w / 2 ^ pad / 2 ^ n * 2 ^ n + v) * 2 ^ pad + w % 2 ^ pad)) size ∙ low-replaced skip n pad w v fits ∙ ap (with_piece skip (low_bits n v)) old in
    let whole : bits_of os ≡ front ++ (bits_of octets ++ bits_of rest) =
    ap bits_of (sym (ap (λ r. take first os ++ r) (take-append-drop (last - first) (drop first os)) ∙ take-append-drop first os))
    ∙ bits_of-append (take first os) (octets ++ rest) ∙ ap (λ r. front ++ r) (bits_of-append octets rest) in
    let place : at ≡ length front + skip = omega (arith, length-bits_of (take first os), length-take first os) in
    let inside : skip + length (low_bits n v) ≤ length (bits_of octets) = omega (arith, length-low n v) in
    bits_of-append (take first os) (new ++ rest) ∙ ap (λ r. front ++ r) (bits_of-append new rest ∙ ap (λ r. r ++ bits_of rest) part)
    ∙ sym (with_piece-within at skip front (bits_of octets) (bits_of rest) (low_bits n v) place inside) ∙ ap (with_piece at (low_bits n v)) (sym whole)

-- whole octets from any bit on, in the window around them
pub shifted_window : (os : List ℕ) (at count skip first last : ℕ) → at ≡ 8 * first + skip → skip ≤ 8 → last ≡ first + count + 1 → take (8 * count) (drop skip (bits_of (take (last - first) (drop first os)))) ≡ take (8 * count) (drop at (bits_of os))
shifted_window os at count skip first last place small e =
    let same : skip ≡ at - 8 * first = omega arith in
    ap (λ k. take (8 * count) (drop k (bits_of (take (last - first) (drop first os))))) same ∙ window_same os at (8 * count) first last (8 - skip) (omega arith) (omega arith)
