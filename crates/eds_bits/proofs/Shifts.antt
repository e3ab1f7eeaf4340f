-- Octets shifted by less than an octet, and octets put into others.
use Rattle.std.proofs.Common.{◌≡◌, ℕ, ◌+◌, ◌-◌, ◌*◌, ◌/◌, ◌%◌, ◌^◌, ◌<◌, ◌≤◌, List, [], ◌∷◌, ◌++◌, length, get_or, set, take, drop, bit_and, bit_or, refl, sym, ◌∙◌, ap, arith, length-drop, length-take, length-append}
use Rattle.std.proofs.lemmas.List.{take_more_set, take_at, drop_at, drop_all, drop_more, drop-drop, append-nil, append_assoc, take-append-drop}
use Rattle.std.proofs.lemmas.Nat.{or_shifted, shl-shr, shr_high, shr_below, mod_low, mod_below, mod-pow-add, pow_pos, one_shl, and_mask}
use Rattle.std.proofs.Math.Nat.{mod-eq_of_lt, mul-mod_left}
use Rattle.std.proofs.Math.Seq.{take-add}
use borrow.Rule.Slice.PartMut.{put_mid}
use Rattle.eds_bits.specs.Bits.{Bits, low_bits, bits_of, with_piece}
use Rattle.eds_bits.proofs.BitLaws.{length-low, low-append, low_same, with_piece-within, with_piece-append}
use Rattle.eds_bits.proofs.OctetLaws.{length-bits_of, bits_of-append, drop-bits_of}

-- ---- an octet out of two

-- the m lowest bits of one octet and the k highest of the next
shifted_octet : (a b k m y : ℕ) → k + m ≡ 8 → b < 2 ^ 8 → y ≡ bit_or (a * 2 ^ k % 2 ^ 8) (b / 2 ^ m) → low_bits 8 y ≡ low_bits m a ++ low_bits k (b / 2 ^ m)
shifted_octet a b k m y e h is =
    let all : 8 ≡ m + k = omega arith in
    let fits : b < 2 ^ (k + m) = rw e h in
    let small : b / 2 ^ m < 2 ^ k = shr_below b k m fits in
    let none : a * 2 ^ k % 2 ^ k ≡ 0 = mul-mod_left a (2 ^ k) in
    let high : a * 2 ^ k % 2 ^ 8 ≡ a % 2 ^ m * 2 ^ k =
    ap (λ w. a * 2 ^ k % 2 ^ w) all ∙ mod-pow-add (a * 2 ^ k) m k ∙ ap (λ x. x % 2 ^ m * 2 ^ k + a * 2 ^ k % 2 ^ k) (shl-shr a k) ∙ omega arith in
    let number : y ≡ a % 2 ^ m * 2 ^ k + b / 2 ^ m = is ∙ ap (λ x. bit_or x (b / 2 ^ m)) high ∙ or_shifted (a % 2 ^ m) k (b / 2 ^ m) small in
    let front : low_bits m (y / 2 ^ k) ≡ low_bits m a =
    ap (λ x. low_bits m (x / 2 ^ k)) number ∙ ap (low_bits m) (shr_high (a % 2 ^ m) k (b / 2 ^ m) small)
    ∙ low_same m (a % 2 ^ m) a (mod-eq_of_lt (mod_below a (2 ^ m) (pow_pos m))) in
    let end : low_bits k y ≡ low_bits k (b / 2 ^ m) =
    low_same k y (b / 2 ^ m) (ap (λ x. x % 2 ^ k) number ∙ mod_low (a % 2 ^ m) k (b / 2 ^ m) small ∙ sym (mod-eq_of_lt small)) in
    ap (λ w. low_bits w y) all ∙ low-append m k y ∙ rw (front, end) refl

-- eight bits from bit k of two octets on
two_octets : (a b k m : ℕ) (rest : Bits) → k + m ≡ 8 → take 8 (drop k (low_bits 8 a ++ (low_bits 8 b ++ rest))) ≡ low_bits m a ++ low_bits k (b / 2 ^ m)
two_octets a b k m rest e =
    let all : 8 ≡ k + m = sym e in
    let first : low_bits 8 a ≡ low_bits k (a / 2 ^ m) ++ low_bits m a = ap (λ w. low_bits w a) all ∙ low-append k m a in
    let second : low_bits 8 b ≡ low_bits k (b / 2 ^ m) ++ low_bits m b = ap (λ w. low_bits w b) all ∙ low-append k m b in
    let behind : Bits = low_bits 8 b ++ rest in
    let later : Bits = low_bits m b ++ rest in
    let dropped : drop k (low_bits 8 a ++ behind) ≡ low_bits m a ++ behind =
    ap (λ r. drop k (r ++ behind)) first ∙ ap (drop k) (append_assoc (low_bits k (a / 2 ^ m)) (low_bits m a) behind)
    ∙ drop_at (low_bits k (a / 2 ^ m)) (low_bits m a ++ behind) k (length-low k (a / 2 ^ m)) in
    let shown : behind ≡ low_bits k (b / 2 ^ m) ++ later = ap (λ r. r ++ rest) second ∙ append_assoc (low_bits k (b / 2 ^ m)) (low_bits m b) rest in
    let joined : low_bits m a ++ behind ≡ (low_bits m a ++ low_bits k (b / 2 ^ m)) ++ later =
    ap (λ r. low_bits m a ++ r) shown ∙ sym (append_assoc (low_bits m a) (low_bits k (b / 2 ^ m)) later) in
    ap (take 8) (dropped ∙ joined)
    ∙ take_at (low_bits m a ++ low_bits k (b / 2 ^ m)) later 8 (omega (arith, length-append (low_bits m a) (low_bits k (b / 2 ^ m)), length-low m a, length-low k (b / 2 ^ m)))

-- one octet more
pub shift_more : (os into : List ℕ) (i k m y : ℕ) → k + m ≡ 8 → i < length into → i + 1 < length os → get_or os (i + 1) 0 < 2 ^ 8
    → y ≡ bit_or (get_or os i 0 * 2 ^ k % 2 ^ 8) (get_or os (i + 1) 0 / 2 ^ m)
    → bits_of (take i into) ≡ take (8 * i) (drop k (bits_of os)) → bits_of (take (i + 1) (set into i y)) ≡ take (8 * (i + 1)) (drop k (bits_of os))
shift_more os into i k m y e h more small is before =
    let a : ℕ = get_or os i 0 in
    let b : ℕ = get_or os (i + 1) 0 in
    let tail : List ℕ = drop (i + 1 + 1) os in
    let here : i < length os = omega arith in
    let two : drop i os ≡ a ∷ b ∷ tail = drop_more os i 0 here ∙ ap (λ r. a ∷ r) (drop_more os (i + 1) 0 more) in
    let swap : 8 * i + k ≡ k + 8 * i = omega arith in
    let place : drop (8 * i) (drop k (bits_of os)) ≡ drop k (low_bits 8 a ++ (low_bits 8 b ++ bits_of tail)) =
    drop-drop (8 * i) k (bits_of os) ∙ ap (λ n. drop n (bits_of os)) (sym swap) ∙ sym (drop-drop k (8 * i) (bits_of os)) ∙ ap (drop k) (drop-bits_of i os ∙ ap bits_of two) in
    let eight : take 8 (drop (8 * i) (drop k (bits_of os))) ≡ low_bits 8 y = ap (take 8) place ∙ two_octets a b k m (bits_of tail) e ∙ sym (shifted_octet a b k m y e small is) in
    let size : 8 * (i + 1) ≡ 8 * i + 8 = omega arith in
    ap bits_of (take_more_set into i y h) ∙ bits_of-append (take i into) (y ∷ []) ∙ ap (λ r. bits_of (take i into) ++ r) (append-nil (low_bits 8 y))
    ∙ rw (before, ← eight) (sym (ap (λ n. take n (drop k (bits_of os))) size ∙ take-add (8 * i) 8 (drop k (bits_of os))))

-- ---- octets in place of others

-- a piece put into some of the octets
pub part_put : (first count skip : ℕ) (os new : List ℕ) (piece : Bits) → first + count ≤ length os → skip + length piece ≤ 8 * count → bits_of new ≡ with_piece skip piece (bits_of (take count (drop first os)))
    → bits_of (put_mid first count os new) ≡ with_piece (8 * first + skip) piece (bits_of os)
part_put first count skip os new piece h fits e =
    let middle : List ℕ = take count (drop first os) in
    let rest : List ℕ = drop count (drop first os) in
    let front : Bits = bits_of (take first os) in
    let whole : bits_of os ≡ front ++ (bits_of middle ++ bits_of rest) =
    ap bits_of (sym (ap (λ r. take first os ++ r) (take-append-drop count (drop first os)) ∙ take-append-drop first os))
    ∙ bits_of-append (take first os) (middle ++ rest) ∙ ap (λ r. front ++ r) (bits_of-append middle rest) in
    let place : 8 * first + skip ≡ length front + skip = omega (arith, length-bits_of (take first os), length-take first os) in
    let inside : skip + length piece ≤ length (bits_of middle) = omega (arith, length-bits_of middle, length-take count (drop first os), length-drop first os) in
    bits_of-append (take first os) (new ++ rest) ∙ ap (λ r. front ++ r) (bits_of-append new rest ∙ ap (λ r. r ++ bits_of rest) e)
    ∙ sym (with_piece-within (8 * first + skip) skip front (bits_of middle) (bits_of rest) piece place inside) ∙ ap (with_piece (8 * first + skip) piece) (sym whole)

-- a piece in place of everything
all_put : (piece bs : Bits) → length piece ≡ length bs → piece ≡ with_piece 0 piece bs
all_put piece bs l = sym (ap (λ r. piece ++ r) (drop_all (0 + length piece) bs (omega arith)) ∙ append-nil piece)

-- octets in place of as many
pub octets_put : (first count : ℕ) (os new : List ℕ) → first + count ≤ length os → length new ≡ count → bits_of (put_mid first count os new) ≡ with_piece (8 * first) (bits_of new) (bits_of os)
octets_put first count os new h l =
    let middle : List ℕ = take count (drop first os) in
    let size : length (bits_of new) ≡ length (bits_of middle) = omega (arith, length-bits_of middle, length-bits_of new, length-take count (drop first os), length-drop first os) in
    let same : 8 * first + 0 ≡ 8 * first = omega arith in
    part_put first count 0 os new (bits_of new) h (omega (arith, length-bits_of new)) (all_put (bits_of new) (bits_of middle) size) ∙ ap (λ at. with_piece at (bits_of new) (bits_of os)) same

-- three pieces, one after the other
three_pieces : (at : ℕ) (p q r bs one two three : Bits) → at + length p + length q + length r ≤ length bs
    → one ≡ with_piece at p bs → two ≡ with_piece (at + length p) q one → three ≡ with_piece (at + length p + length q) r two → three ≡ with_piece at ((p ++ q) ++ r) bs
three_pieces at p q r bs one two three h e f g =
    let first : two ≡ with_piece at (p ++ q) bs = f ∙ ap (with_piece (at + length p) q) e ∙ with_piece-append at p q bs (omega arith) in
    let far : at + length p + length q ≡ at + length (p ++ q) = omega (arith, length-append p q) in
    g ∙ ap (with_piece (at + length p + length q) r) first ∙ ap (λ k. with_piece k r (with_piece at (p ++ q) bs)) far
    ∙ with_piece-append at (p ++ q) r bs (omega (arith, length-append p q))

-- the highest bits of the first octet
pub first_bits : (os : List ℕ) (k m : ℕ) → k + m ≡ 8 → 0 < length os → low_bits k (get_or os 0 0 / 2 ^ m) ≡ take k (bits_of os)
first_bits os k m e h =
    let o : ℕ = get_or os 0 0 in
    let tail : List ℕ = drop 1 os in
    let all : 8 ≡ k + m = sym e in
    let split : low_bits 8 o ≡ low_bits k (o / 2 ^ m) ++ low_bits m o = ap (λ w. low_bits w o) all ∙ low-append k m o in
    let shown : bits_of os ≡ low_bits k (o / 2 ^ m) ++ (low_bits m o ++ bits_of tail) =
    ap bits_of (drop_more os 0 0 h) ∙ ap (λ r. r ++ bits_of tail) split ∙ append_assoc (low_bits k (o / 2 ^ m)) (low_bits m o) (bits_of tail) in
    sym (ap (take k) shown ∙ take_at (low_bits k (o / 2 ^ m)) (low_bits m o ++ bits_of tail) k (length-low k (o / 2 ^ m)))

-- the lowest bits of the last octet
last_bits : (os : List ℕ) (n k m v : ℕ) → k + m ≡ 8 → length os ≡ n + 1 → v ≡ get_or os n 0 % 2 ^ m → low_bits m v ≡ drop (k + 8 * n) (bits_of os)
last_bits os n k m v e l is =
    let o : ℕ = get_or os n 0 in
    let all : 8 ≡ k + m = sym e in
    let split : low_bits 8 o ≡ low_bits k (o / 2 ^ m) ++ low_bits m o = ap (λ w. low_bits w o) all ∙ low-append k m o in
    let same : low_bits m v ≡ low_bits m o = ap (low_bits m) is ∙ low_same m (o % 2 ^ m) o (mod-eq_of_lt (mod_below o (2 ^ m) (pow_pos m))) in
    let swap : k + 8 * n ≡ 8 * n + k = omega arith in
    let end : drop n os ≡ o ∷ [] = drop_more os n 0 (omega arith) ∙ ap (λ r. o ∷ r) (drop_all (n + 1) os (omega arith)) in
    same ∙ sym (ap (λ j. drop j (bits_of os)) swap ∙ sym (drop-drop k (8 * n) (bits_of os)) ∙ ap (drop k) (drop-bits_of n os ∙ ap bits_of end ∙ append-nil (low_bits 8 o) ∙ split)
    ∙ drop_at (low_bits k (o / 2 ^ m)) (low_bits m o) k (length-low k (o / 2 ^ m)))

-- octets put between others: the first bits up to the next octet, the octets behind it, and the last bits
pub between_put : (os room one new two three : List ℕ) (at n k m x v f g w count last : ℕ) → k + m ≡ 8 → 1 ≤ m → 8 * f ≡ at + k → g ≡ f + n → count ≡ n → last ≡ 1 → w ≡ 8 * n → length os ≡ n + 1 → at + 8 * length os ≤ 8 * length room → length one ≡ length room
    → x ≡ get_or os 0 0 / 2 ^ m → v ≡ get_or os n 0 % 2 ^ m
    → bits_of one ≡ with_piece at (low_bits k x) (bits_of room)
    → length new ≡ count → bits_of new ≡ take w (drop k (bits_of os)) → two ≡ put_mid f count one new → length two ≡ length room
    → bits_of three ≡ with_piece 0 (low_bits m v) (bits_of (take last (drop g two)))
    → bits_of (put_mid g last two three) ≡ with_piece at (bits_of os) (bits_of room)
between_put os room one new two three at n k m x v f g w count last e some next end few single wide l within lo head is first ln middle put lt final =
    let p : Bits = low_bits k x in
    let r : Bits = low_bits m v in
    let lp : length p ≡ k = length-low k x in
    let lr : length r ≡ m = length-low m v in
    let lq : length (bits_of new) ≡ 8 * n = omega (arith, length-bits_of new) in
    let at_two : 8 * f ≡ at + length p = omega arith in
    let at_three : 8 * g + 0 ≡ at + length p + length (bits_of new) = omega arith in
    let second : bits_of two ≡ with_piece (at + length p) (bits_of new) (bits_of one) =
    ap bits_of put ∙ octets_put f count one new (omega arith) ln ∙ ap (λ j. with_piece j (bits_of new) (bits_of one)) at_two in
    let third : bits_of (put_mid g last two three) ≡ with_piece (at + length p + length (bits_of new)) r (bits_of two) =
    part_put g last 0 two three r (omega arith) (omega arith) final ∙ ap (λ j. with_piece j r (bits_of two)) at_three in
    let size : at + length p + length (bits_of new) + length r ≤ length (bits_of room) = omega (arith, length-bits_of room) in
    let front : p ≡ take k (bits_of os) = ap (low_bits k) head ∙ first_bits os k m e (omega arith) in
    let between : bits_of new ≡ take (8 * n) (drop k (bits_of os)) = middle ∙ ap (λ j. take j (drop k (bits_of os))) wide in
    let parts : (p ++ bits_of new) ++ r ≡ bits_of os =
    rw (front, between, last_bits os n k m v e l is) (ap (λ y. y ++ drop (k + 8 * n) (bits_of os)) (sym (take-add k (8 * n) (bits_of os))) ∙ take-append-drop (k + 8 * n) (bits_of os)) in
    three_pieces at p (bits_of new) r (bits_of room) (bits_of one) (bits_of two) (bits_of (put_mid g last two three)) size first second third
    ∙ ap (λ piece. with_piece at piece (bits_of room)) parts

-- ---- the numbers that are put

-- the highest bits of an octet are a number of as many bits
pub octet_high : (o k m x : ℕ) → k + m ≡ 8 → o < 256 → x ≡ o / 2 ^ m → x < 2 ^ k
octet_high o k m x e h is = let fits : o < 2 ^ (k + m) = rw e h in rw is (shr_below o k m fits)

-- and so are its lowest
pub octet_low : (o m x : ℕ) → m < 8 → x ≡ bit_and o (1 * 2 ^ m % 256 - 1) → x ≡ o % 2 ^ m
octet_low o m x h is = is ∙ ap (λ y. bit_and o (y - 1)) (one_shl m 8 h) ∙ and_mask o m

pub octet_fits : (o m x : ℕ) → m < 8 → x ≡ bit_and o (1 * 2 ^ m % 256 - 1) → x < 2 ^ m
octet_fits o m x h is = rw (octet_low o m x h is) (mod_below o (2 ^ m) (pow_pos m))

-- octets in place of as many have their length
pub length_put : (first count : ℕ) (os new : List ℕ) → first + count ≤ length os → length new ≡ count → length (put_mid first count os new) ≡ length os
length_put first count os new h l =
    omega (arith, length-append (take first os) (new ++ drop count (drop first os)), length-append new (drop count (drop first os)), length-take first os, length-drop count (drop first os), length-drop first os)
