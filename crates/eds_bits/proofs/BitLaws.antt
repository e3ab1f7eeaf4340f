-- Laws of lists of bits and of their numbers.
use Rattle.std.proofs.Common.{◌≡◌, ℕ, zero, suc, ◌+◌, ◌*◌, ◌/◌, ◌%◌, ◌^◌, ◌<◌, ◌≤◌, Bool, true, false, eqb, [], ◌∷◌, ◌++◌, length, take, drop, refl, sym, ◌∙◌, ap, arith, length-append}
use Rattle.std.proofs.Math.Nat.{pow-suc, mod-eq_of_lt}
use Rattle.std.proofs.lemmas.Nat.{pow-add, pow_pos, mod-pow-add, mod_below, mod_low, shr_high}
use Rattle.std.proofs.lemmas.Bool.Decides.{nat_tests}
use Rattle.std.proofs.lemmas.List.{take_at, drop_at, drop-drop, take-append-drop, append_assoc, length-take, length-drop, take-append-le, drop-append-le}
use Rattle.std.proofs.Math.Seq.{take-append-add, drop-append-add}
use Rattle.eds_bits.specs.Bits.{Bits, bit_value, low_bits, unsigned_of, with_piece}

pub length-low : (n x : ℕ) → length (low_bits n x) ≡ n
unfolding low_bits
length-low zero x = refl
length-low (suc n) x = omega (arith, length-low n x)

-- ---- the number of a list

pub unsigned-append : (xs ys : Bits) → unsigned_of (xs ++ ys) ≡ unsigned_of xs * 2 ^ length ys + unsigned_of ys
unsigned-append [] ys = omega arith
unsigned-append (x ∷ xs) ys =
    let e : 2 ^ length (xs ++ ys) ≡ 2 ^ length xs * 2 ^ length ys = rw (length-append, pow-add) refl in
    omega (arith, ap (λ n. bit_value x * n) e, unsigned-append xs ys)

-- one bit more at the end, which doubles the number before it
pub unsigned-push : (xs : Bits) (b : Bool) → unsigned_of (xs ++ b ∷ []) ≡ 2 * unsigned_of xs + bit_value b
unsigned-push xs b = omega (arith, unsigned-append xs (b ∷ []))

-- the number as a reader of bits gathers it: each bit doubles what came before
abbrev pub number_onto : ℕ → Bits → ℕ
number_onto n [] = n
number_onto n (b ∷ bs) = number_onto (2 * n + bit_value b) bs

pub number_onto_is : (n : ℕ) (bs : Bits) → number_onto n bs ≡ n * 2 ^ length bs + unsigned_of bs
number_onto_is n [] = omega arith
number_onto_is n (b ∷ bs) = rw pow-suc (omega (arith, number_onto_is (2 * n + bit_value b) bs))

pub unsigned-number_onto : (bs : Bits) → unsigned_of bs ≡ number_onto 0 bs
unsigned-number_onto bs = omega (arith, number_onto_is 0 bs)

pub unsigned-lt : (bs : Bits) → unsigned_of bs < 2 ^ length bs
unsigned-lt [] = omega arith
unsigned-lt (true ∷ bs) = rw pow-suc (omega (arith, unsigned-lt bs))
unsigned-lt (false ∷ bs) = rw pow-suc (omega (arith, unsigned-lt bs))

-- as many bits with one number are the same bits
pub unsigned_same : (bs cs : Bits) → length bs ≡ length cs → unsigned_of bs ≡ unsigned_of cs → bs ≡ cs
unsigned_same [] [] l e = refl
unsigned_same [] (c ∷ cs) l e = absurd (omega arith)
unsigned_same (b ∷ bs) [] l e = absurd (omega arith)
unsigned_same (true ∷ bs) (true ∷ cs) l e =
    let k : length bs ≡ length cs = omega arith in
    let p : 2 ^ length bs ≡ 2 ^ length cs = ap (λ n. 2 ^ n) k in
    ap (λ r. true ∷ r) (unsigned_same bs cs k (omega arith))
unsigned_same (false ∷ bs) (false ∷ cs) l e = ap (λ r. false ∷ r) (unsigned_same bs cs (omega arith) (omega arith))
unsigned_same (true ∷ bs) (false ∷ cs) l e =
    let k : length bs ≡ length cs = omega arith in
    let p : 2 ^ length bs ≡ 2 ^ length cs = ap (λ n. 2 ^ n) k in
    absurd (omega (arith, unsigned-lt cs))
unsigned_same (false ∷ bs) (true ∷ cs) l e =
    let k : length bs ≡ length cs = omega arith in
    let p : 2 ^ length bs ≡ 2 ^ length cs = ap (λ n. 2 ^ n) k in
    absurd (omega (arith, unsigned-lt bs))

-- ---- the lowest bits of a number

odd_bit : (x : ℕ) → bit_value (eqb (x % 2) 1) ≡ x % 2
odd_bit x = grind (arith, nat_tests)

pub unsigned-low : (n x : ℕ) → unsigned_of (low_bits n x) ≡ x % 2 ^ n
unfolding low_bits
unsigned-low zero x = omega arith
unsigned-low (suc n) x =
    let l : 2 ^ length (low_bits n x) ≡ 2 ^ n = ap (λ m. 2 ^ m) (length-low n x) in
    let more : suc n ≡ 1 + n = omega arith in
    let split : x % 2 ^ suc n ≡ (x / 2 ^ n % 2) * 2 ^ n + x % 2 ^ n = rw more (mod-pow-add x 1 n) in
    rw (l, odd_bit, unsigned-low n x) (sym split)

-- a number below 2^n is that of its n lowest bits
pub unsigned_small : (n x : ℕ) → x < 2 ^ n → unsigned_of (low_bits n x) ≡ x
unsigned_small n x h = unsigned-low n x ∙ mod-eq_of_lt h

-- a list of bits is the lowest bits of its number
pub low-unsigned : (bs : Bits) → low_bits (length bs) (unsigned_of bs) ≡ bs
low-unsigned bs = unsigned_same (low_bits (length bs) (unsigned_of bs)) bs (length-low (length bs) (unsigned_of bs)) (unsigned_small (length bs) (unsigned_of bs) (unsigned-lt bs))

-- two numbers with the same remainder have the same lowest bits
pub low_same : (n x y : ℕ) → x % 2 ^ n ≡ y % 2 ^ n → low_bits n x ≡ low_bits n y
low_same n x y e = unsigned_same (low_bits n x) (low_bits n y) (length-low n x ∙ sym (length-low n y)) (unsigned-low n x ∙ e ∙ sym (unsigned-low n y))

-- the lowest m + n bits are m bits of the number without its n lowest, and then these
pub low-append : (m n x : ℕ) → low_bits (m + n) x ≡ low_bits m (x / 2 ^ n) ++ low_bits n x
low-append m n x =
    unsigned_same (low_bits (m + n) x) (low_bits m (x / 2 ^ n) ++ low_bits n x)
    (omega (arith, length-append (low_bits m (x / 2 ^ n)) (low_bits n x), length-low (m + n) x, length-low m (x / 2 ^ n), length-low n x))
    (let l : 2 ^ length (low_bits n x) ≡ 2 ^ n = ap (λ k. 2 ^ k) (length-low n x) in
    unsigned-low (m + n) x ∙ mod-pow-add x m n ∙ rw (l, unsigned-low m (x / 2 ^ n), unsigned-low n x) refl ∙ sym (unsigned-append (low_bits m (x / 2 ^ n)) (low_bits n x)))

-- ---- a part of a list, by its number

pub unsigned-middle : (front part end : Bits) → unsigned_of (front ++ (part ++ end)) / 2 ^ length end % 2 ^ length part ≡ unsigned_of part
unsigned-middle front part end =
    let e : unsigned_of (front ++ (part ++ end)) ≡ unsigned_of (front ++ part) * 2 ^ length end + unsigned_of end = ap unsigned_of (sym (append_assoc front part end)) ∙ unsigned-append (front ++ part) end in
    let below = unsigned-lt end in
    let high = shr_high (unsigned_of (front ++ part)) (length end) (unsigned_of end) below in
    ap (λ x. x / 2 ^ length end % 2 ^ length part) e ∙ ap (λ x. x % 2 ^ length part) (high ∙ unsigned-append front part) ∙ mod_low (unsigned_of front) (length part) (unsigned_of part) (unsigned-lt part)

-- n bits after the first `skip`, where `pad` bits follow them
pub unsigned-part : (skip n pad : ℕ) (bs : Bits) → length bs ≡ skip + n + pad → unsigned_of bs / 2 ^ pad % 2 ^ n ≡ unsigned_of (take n (drop skip bs))
unsigned-part skip n pad bs l =
    let part : length (take n (drop skip bs)) ≡ n = omega (arith, length-take n (drop skip bs), length-drop skip bs) in
    let end : length (drop n (drop skip bs)) ≡ pad = omega (arith, length-drop n (drop skip bs), length-drop skip bs) in
    let whole : take skip bs ++ (take n (drop skip bs) ++ drop n (drop skip bs)) ≡ bs = ap (λ r. take skip bs ++ r) (take-append-drop n (drop skip bs)) ∙ take-append-drop skip bs in
    ap (λ r. unsigned_of r / 2 ^ pad % 2 ^ n) (sym whole) ∙ ap (λ k. unsigned_of (take skip bs ++ (take n (drop skip bs) ++ drop n (drop skip bs))) / 2 ^ k % 2 ^ n) (sym end) ∙ ap (λ k. unsigned_of (take skip bs ++ (take n (drop skip bs) ++ drop n (drop skip bs))) / 2 ^ length (drop n (drop skip bs)) % 2 ^ k) (sym part) ∙ unsigned-middle (take skip bs) (take n (drop skip bs)) (drop n (drop skip bs))

-- ---- a piece put into a list

pub length-with_piece : (at : ℕ) (piece bs : Bits) → at + length piece ≤ length bs → length (with_piece at piece bs) ≡ length bs
length-with_piece at piece bs h =
    omega (arith, length-append (take at bs) (piece ++ drop (at + length piece) bs), length-append piece (drop (at + length piece) bs), length-take at bs, length-drop (at + length piece) bs)

-- an empty piece changes nothing
pub with_piece-nil : (at : ℕ) (bs : Bits) → with_piece at [] bs ≡ bs
with_piece-nil at bs = let e : at + 0 ≡ at = omega arith in rw e (take-append-drop at bs)

-- before the piece, in it and after it
pub take-with_piece : (at : ℕ) (piece bs : Bits) → at ≤ length bs → take at (with_piece at piece bs) ≡ take at bs
take-with_piece at piece bs h = take_at (take at bs) (piece ++ drop (at + length piece) bs) at (omega (arith, length-take at bs))

pub part-with_piece : (at : ℕ) (piece bs : Bits) → at ≤ length bs → take (length piece) (drop at (with_piece at piece bs)) ≡ piece
part-with_piece at piece bs h =
    ap (take (length piece)) (drop_at (take at bs) (piece ++ drop (at + length piece) bs) at (omega (arith, length-take at bs)))
    ∙ take_at piece (drop (at + length piece) bs) (length piece) refl

pub drop-with_piece : (at : ℕ) (piece bs : Bits) → at + length piece ≤ length bs → drop (at + length piece) (with_piece at piece bs) ≡ drop (at + length piece) bs
drop-with_piece at piece bs h =
    ap (λ k. drop (k + length piece) (with_piece at piece bs)) at_front ∙ drop-append-add (take at bs) (piece ++ drop (at + length piece) bs) (length piece)
    ∙ drop_at piece (drop (at + length piece) bs) (length piece) refl
  where
    at_front : at ≡ length (take at bs)
    at_front = omega (arith, length-take at bs)

-- what is read where a number was put is that number
pub unsigned-with_piece : (at n v : ℕ) (bs : Bits) → at ≤ length bs → v < 2 ^ n → unsigned_of (take n (drop at (with_piece at (low_bits n v) bs))) ≡ v
unsigned-with_piece at n v bs h fits =
    ap (λ k. unsigned_of (take k (drop at (with_piece at (low_bits n v) bs)))) (sym (length-low n v))
    ∙ ap unsigned_of (part-with_piece at (low_bits n v) bs h) ∙ unsigned_small n v fits

-- a piece between a front and an end
pub with_piece-within : (at skip : ℕ) (front middle end piece : Bits) → at ≡ length front + skip → skip + length piece ≤ length middle → with_piece at piece (front ++ (middle ++ end)) ≡ front ++ (with_piece skip piece middle ++ end)
with_piece-within at skip front middle end piece e h =
    let before : take at (front ++ (middle ++ end)) ≡ front ++ take skip middle = ap (λ k. take k (front ++ (middle ++ end))) e ∙ take-append-add front (middle ++ end) skip ∙ ap (λ r. front ++ r) (take-append-le skip middle end (omega arith)) in
    let far : at + length piece ≡ length front + (skip + length piece) = omega arith in
    let after : drop (at + length piece) (front ++ (middle ++ end)) ≡ drop (skip + length piece) middle ++ end = ap (λ k. drop k (front ++ (middle ++ end))) far ∙ drop-append-add front (middle ++ end) (skip + length piece) ∙ drop-append-le (skip + length piece) middle end h in
    rw (before, after) (simp append_assoc)

-- two pieces, one right after the other, are one
pub with_piece-append : (at : ℕ) (one other bs : Bits) → at + length one + length other ≤ length bs → with_piece (at + length one) other (with_piece at one bs) ≡ with_piece at (one ++ other) bs
with_piece-append at one other bs h =
    let rest : Bits = drop (at + length one) bs in
    let l : length (take at bs ++ one) ≡ at + length one = omega (arith, length-append (take at bs) one, length-take at bs) in
    let same : with_piece at one bs ≡ (take at bs ++ one) ++ rest = sym (append_assoc (take at bs) one rest) in
    let before : take (at + length one) (with_piece at one bs) ≡ take at bs ++ one = ap (λ r. take (at + length one) r) same ∙ take_at (take at bs ++ one) rest (at + length one) l in
    let after : drop (at + length one + length other) (with_piece at one bs) ≡ drop (at + length one + length other) bs =
    ap (λ r. drop (at + length one + length other) r) same ∙ ap (λ k. drop (k + length other) ((take at bs ++ one) ++ rest)) (sym l)
    ∙ drop-append-add (take at bs ++ one) rest (length other) ∙ drop-drop (length other) (at + length one) bs in
    let far : at + length (one ++ other) ≡ at + length one + length other = omega (arith, length-append one other) in
    rw (before, after, far) (simp append_assoc)

-- a piece in place of as many bits
pub with_piece-middle : (at : ℕ) (front middle end piece : Bits) → length front ≡ at → length middle ≡ length piece → with_piece at piece (front ++ (middle ++ end)) ≡ front ++ (piece ++ end)
with_piece-middle at front middle end piece l m =
    let far : at + length piece ≡ length front + length piece = omega arith in
    let after : drop (at + length piece) (front ++ (middle ++ end)) ≡ end = ap (λ k. drop k (front ++ (middle ++ end))) far ∙ drop-append-add front (middle ++ end) (length piece) ∙ drop_at middle end (length piece) m in
    rw (take_at front (middle ++ end) at l, after) refl

-- ---- the lowest bits in three parts

pub low-parts : (skip n pad x : ℕ) → low_bits (skip + n + pad) x ≡ low_bits skip (x / 2 ^ pad / 2 ^ n) ++ (low_bits n (x / 2 ^ pad) ++ low_bits pad x)
low-parts skip n pad x =
    low-append (skip + n) pad x ∙ ap (λ r. r ++ low_bits pad x) (low-append skip n (x / 2 ^ pad))
    ∙ append_assoc (low_bits skip (x / 2 ^ pad / 2 ^ n)) (low_bits n (x / 2 ^ pad)) (low_bits pad x)

-- a number with some of its bits replaced: those before the last `pad`, n of them, by a number below 2^n
pub low-replaced : (skip n pad w v : ℕ) → v < 2 ^ n → low_bits (skip + n + pad) ((w / 2 ^ pad / 2 ^ n * 2 ^ n + v) * 2 ^ pad + w % 2 ^ pad) ≡ with_piece skip (low_bits n v) (low_bits (skip + n + pad) w)
low-replaced skip n pad w v h =
    let high : ℕ = w / 2 ^ pad / 2 ^ n in
    let inner : ℕ = high * 2 ^ n + v in
    let outer : ℕ = inner * 2 ^ pad + w % 2 ^ pad in
    let least : w % 2 ^ pad < 2 ^ pad = mod_below w (2 ^ pad) (pow_pos pad) in
    let outer_high : outer / 2 ^ pad ≡ inner = shr_high inner pad (w % 2 ^ pad) least in
    let outer_low : outer % 2 ^ pad ≡ w % 2 ^ pad = mod_low inner pad (w % 2 ^ pad) least in
    let inner_low : inner % 2 ^ n ≡ v % 2 ^ n = mod_low high n v h ∙ sym (mod-eq_of_lt h) in
    let first : low_bits skip (outer / 2 ^ pad / 2 ^ n) ≡ low_bits skip high = ap (λ x. low_bits skip (x / 2 ^ n)) outer_high ∙ ap (low_bits skip) (shr_high high n v h) in
    let second : low_bits n (outer / 2 ^ pad) ≡ low_bits n v = ap (low_bits n) outer_high ∙ low_same n inner v inner_low in
    let third : low_bits pad outer ≡ low_bits pad w = low_same pad outer w outer_low in
    let new : low_bits (skip + n + pad) outer ≡ low_bits skip high ++ (low_bits n v ++ low_bits pad w) = low-parts skip n pad outer ∙ rw (first, second, third) refl in
    let kept = with_piece-middle skip (low_bits skip high) (low_bits n (w / 2 ^ pad)) (low_bits pad w) (low_bits n v) (length-low skip high) (length-low n (w / 2 ^ pad) ∙ sym (length-low n v)) in
    new ∙ sym kept ∙ ap (with_piece skip (low_bits n v)) (sym (low-parts skip n pad w))
