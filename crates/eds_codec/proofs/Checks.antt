-- Checks: what one octet more does to them.
use Rattle.std.proofs.Common.{◌≡◌, ℕ, zero, suc, ◌+◌, ◌*◌, ◌/◌, ◌%◌, ◌^◌, ◌<◌, ◌≤◌, Bool, true, false, not, List, [], ◌∷◌, ◌++◌, length, get_or, take, drop, replicate, bit_xor, fold, sum, nat_eq, ◌&&◌, inl, inr, refl, sym, ap, subst, ◌∙◌, append_assoc, arith}
use Rattle.std.proofs.lemmas.Nat.{xor_block}
use Rattle.std.specs.Int.Bits.{xor_zero_r}
use Rattle.std.proofs.lemmas.List.Sums.{sum_by-append}
use Rattle.std.proofs.lemmas.Bool.{cases_eq, eqb-true}
use Rattle.std.proofs.lemmas.List.{take-append-drop, take_all, take_more, drop_all, drop-drop, append-nil, length-take, length-drop, length-append, length-replicate}
use Rattle.eds_bits.specs.Bits.{Bits, bit_value, bits_of, low_bits, unsigned_of, first_pieces}
use Rattle.eds_bits.specs.Scalars.{xor_bit, xor_bits, remainder, invert_first, crc8_divisor, crc16_divisor, check_bits, check_of_octets}
use Rattle.eds_bits.specs.declared.forms.CheckKind.TheVariants.{Checksum, Longitudinal, Crc8, Crc16Ccitt}
use Rattle.eds_codec.specs.Checks.{octet_remainder}
use Rattle.eds_codec.specs.declared.tables.TheConstants.{CRC8, CRC16}
use Rattle.eds_bits.proofs.BitLaws.{length-low, low-unsigned, unsigned-append, unsigned-lt, unsigned_small}
use Rattle.eds_bits.proofs.CheckLaws.{length-remainder, check_of_lt}
use Rattle.eds_bits.proofs.TextLaws.{take-front_octets, drop-front_octets}
use Rattle.eds_bits.specs.Texts.{front_octets}
use Rattle.eds_bits.specs.declared.forms.CheckKind.{CheckKind}
use Rattle.eds_bits.proofs.OctetLaws.{length-bits_of, bits_of-append}

-- ---- sums of bits modulo 2

xor_bit-assoc : (a b c : Bool) → xor_bit (xor_bit a b) c ≡ xor_bit a (xor_bit b c)
xor_bit-assoc true true true = refl
xor_bit-assoc true true false = refl
xor_bit-assoc true false true = refl
xor_bit-assoc true false false = refl
xor_bit-assoc false b c = refl

xor_bit-comm : (a b : Bool) → xor_bit a b ≡ xor_bit b a
xor_bit-comm true true = refl
xor_bit-comm true false = refl
xor_bit-comm false true = refl
xor_bit-comm false false = refl

xor_bit-twice : (a b c : Bool) → xor_bit (xor_bit a c) (xor_bit b c) ≡ xor_bit a b
xor_bit-twice true true true = refl
xor_bit-twice true true false = refl
xor_bit-twice true false true = refl
xor_bit-twice true false false = refl
xor_bit-twice false true true = refl
xor_bit-twice false true false = refl
xor_bit-twice false false true = refl
xor_bit-twice false false false = refl

not-xor_bit : (a b : Bool) → not (xor_bit a b) ≡ xor_bit (not a) b
not-xor_bit true true = refl
not-xor_bit true false = refl
not-xor_bit false true = refl
not-xor_bit false false = refl

pub length-xor : (xs ys : Bits) → length (xor_bits xs ys) ≡ length xs
length-xor [] ys = refl
length-xor (x ∷ xs) [] = refl
length-xor (x ∷ xs) (y ∷ ys) = ap suc (length-xor xs ys)

xor-nil : (xs : Bits) → xor_bits xs [] ≡ xs
xor-nil [] = refl
xor-nil (x ∷ xs) = refl

-- two lists with the same divisor added, where the divisor is no longer than they are
xor-twice : (xs ys ds : Bits) → length xs ≡ length ys → xor_bits (xor_bits xs ds) (xor_bits ys ds) ≡ xor_bits xs ys
xor-twice [] ys ds l = refl
xor-twice (x ∷ xs) [] ds l = absurd (omega arith)
xor-twice (x ∷ xs) (y ∷ ys) [] l = refl
xor-twice (x ∷ xs) (y ∷ ys) (d ∷ ds) l = rw (xor_bit-twice x y d, xor-twice xs ys ds (omega arith)) refl

xor-left : (xs ys ds : Bits) → length xs ≡ length ys → xor_bits (xor_bits xs ds) ys ≡ xor_bits (xor_bits xs ys) ds
xor-left [] ys ds l = refl
xor-left (x ∷ xs) [] ds l = absurd (omega arith)
xor-left (x ∷ xs) (y ∷ ys) [] l = refl
xor-left (x ∷ xs) (y ∷ ys) (d ∷ ds) l =
    let swap : xor_bit (xor_bit x d) y ≡ xor_bit (xor_bit x y) d = xor_bit-assoc x d y ∙ ap (xor_bit x) (xor_bit-comm d y) ∙ sym (xor_bit-assoc x y d) in
    rw (swap, xor-left xs ys ds (omega arith)) refl

xor-right : (xs ys ds : Bits) → length xs ≡ length ys → xor_bits xs (xor_bits ys ds) ≡ xor_bits (xor_bits xs ys) ds
xor-right [] ys ds l = refl
xor-right (x ∷ xs) [] ds l = absurd (omega arith)
xor-right (x ∷ xs) (y ∷ ys) [] l = refl
xor-right (x ∷ xs) (y ∷ ys) (d ∷ ds) l = rw (xor_bit-assoc x y d, xor-right xs ys ds (omega arith)) refl

pub xor-append : (xs more ys others : Bits) → length xs ≡ length ys → xor_bits (xs ++ more) (ys ++ others) ≡ xor_bits xs ys ++ xor_bits more others
xor-append [] more [] others l = refl
xor-append [] more (y ∷ ys) others l = absurd (omega arith)
xor-append (x ∷ xs) more [] others l = absurd (omega arith)
xor-append (x ∷ xs) more (y ∷ ys) others l = ap (λ r. xor_bit x y ∷ r) (xor-append xs more ys others (omega arith))

xor-append_short : (xs more ds : Bits) → length ds ≤ length xs → xor_bits (xs ++ more) ds ≡ xor_bits xs ds ++ more
xor-append_short [] more [] l = xor-nil more
xor-append_short [] more (d ∷ ds) l = absurd (omega arith)
xor-append_short (x ∷ xs) more [] l = refl
xor-append_short (x ∷ xs) more (d ∷ ds) l = ap (λ r. xor_bit x d ∷ r) (xor-append_short xs more ds (omega arith))

-- zeros change nothing
pub xor-zeros_left : (n : ℕ) (ys : Bits) → length ys ≡ n → xor_bits (replicate n false) ys ≡ ys
xor-zeros_left zero [] l = refl
xor-zeros_left zero (y ∷ ys) l = absurd (omega arith)
xor-zeros_left (suc n) [] l = absurd (omega arith)
xor-zeros_left (suc n) (y ∷ ys) l = ap (λ r. y ∷ r) (xor-zeros_left n ys (omega arith))

pub xor-zeros_right : (n : ℕ) (xs : Bits) → xor_bits xs (replicate n false) ≡ xs
xor-zeros_right zero xs = xor-nil xs
xor-zeros_right (suc n) [] = refl
xor-zeros_right (suc n) (true ∷ xs) = ap (λ r. true ∷ r) (xor-zeros_right n xs)
xor-zeros_right (suc n) (false ∷ xs) = ap (λ r. false ∷ r) (xor-zeros_right n xs)

pub zeros-append : (m n : ℕ) → replicate m false ++ replicate n false ≡ replicate (m + n) false
zeros-append zero n = ap (λ m. replicate m false) (omega arith)
zeros-append (suc m) n = let e : suc m + n ≡ suc (m + n) = omega arith in rw e (ap (λ r. false ∷ r) (zeros-append m n))

-- the number of the sum is the exclusive or of the numbers
xor_value : (x y : Bool) → bit_value (xor_bit x y) ≡ bit_xor (bit_value x) (bit_value y)
xor_value true true = refl
xor_value true false = refl
xor_value false true = refl
xor_value false false = refl

pub unsigned-xor : (xs ys : Bits) → length xs ≡ length ys → unsigned_of (xor_bits xs ys) ≡ bit_xor (unsigned_of xs) (unsigned_of ys)
unsigned-xor [] [] l = refl
unsigned-xor [] (y ∷ ys) l = absurd (omega arith)
unsigned-xor (x ∷ xs) [] l = absurd (omega arith)
unsigned-xor (x ∷ xs) (y ∷ ys) l =
    let same : length xs ≡ length ys = omega arith in
    let below : unsigned_of ys < 2 ^ length xs = rw same (unsigned-lt ys) in
    let block = xor_block (length xs) (bit_value x) (bit_value y) (unsigned_of xs) (unsigned_of ys) (unsigned-lt xs) below in
    rw (← same, length-xor xs ys, xor_value x y, unsigned-xor xs ys same) (sym block)

-- ---- remainders

remainder-nil : (divisor : Bits) (n : ℕ) → remainder divisor n [] ≡ []
unfolding remainder
remainder-nil divisor zero = refl
remainder-nil divisor (suc n) = refl

-- a division in two parts
pub remainder-add : (divisor : Bits) (m n : ℕ) (bs : Bits) → remainder divisor (m + n) bs ≡ remainder divisor n (remainder divisor m bs)
unfolding remainder
remainder-add divisor zero n bs = ap (λ m. remainder divisor m bs) (omega arith)
remainder-add divisor (suc m) n [] = remainder-nil divisor (suc m + n) ∙ sym (remainder-nil divisor n)
remainder-add divisor (suc m) n (true ∷ bs) = let e : suc m + n ≡ suc (m + n) = omega arith in rw e (remainder-add divisor m n (xor_bits bs divisor))
remainder-add divisor (suc m) n (false ∷ bs) = let e : suc m + n ≡ suc (m + n) = omega arith in rw e (remainder-add divisor m n bs)

-- what stands behind the bits that are divided stays
pub remainder-append : (divisor : Bits) (n : ℕ) (bs more : Bits) → n + length divisor ≤ length bs → remainder divisor n (bs ++ more) ≡ remainder divisor n bs ++ more
unfolding remainder
remainder-append divisor zero bs more l = refl
remainder-append divisor (suc n) [] more l = absurd (omega arith)
remainder-append divisor (suc n) (true ∷ bs) more l =
    ap (remainder divisor n) (xor-append_short bs more divisor (omega arith)) ∙ remainder-append divisor n (xor_bits bs divisor) more (omega (arith, length-xor bs divisor))
remainder-append divisor (suc n) (false ∷ bs) more l = remainder-append divisor n bs more (omega arith)

-- the remainder of a sum is the sum of the remainders
pub remainder-xor : (divisor : Bits) (n : ℕ) (xs ys : Bits) → length xs ≡ length ys → remainder divisor n (xor_bits xs ys) ≡ xor_bits (remainder divisor n xs) (remainder divisor n ys)
unfolding remainder
remainder-xor divisor zero xs ys l = refl
remainder-xor divisor (suc n) [] [] l = refl
remainder-xor divisor (suc n) [] (y ∷ ys) l = absurd (omega arith)
remainder-xor divisor (suc n) (x ∷ xs) [] l = absurd (omega arith)
remainder-xor divisor (suc n) (true ∷ xs) (true ∷ ys) l =
    ap (remainder divisor n) (sym (xor-twice xs ys divisor (omega arith)))
    ∙ remainder-xor divisor n (xor_bits xs divisor) (xor_bits ys divisor) (omega (arith, length-xor xs divisor, length-xor ys divisor))
remainder-xor divisor (suc n) (true ∷ xs) (false ∷ ys) l =
    ap (remainder divisor n) (sym (xor-left xs ys divisor (omega arith))) ∙ remainder-xor divisor n (xor_bits xs divisor) ys (omega (arith, length-xor xs divisor))
remainder-xor divisor (suc n) (false ∷ xs) (true ∷ ys) l =
    ap (remainder divisor n) (sym (xor-right xs ys divisor (omega arith))) ∙ remainder-xor divisor n xs (xor_bits ys divisor) (omega (arith, length-xor ys divisor))
remainder-xor divisor (suc n) (false ∷ xs) (false ∷ ys) l = remainder-xor divisor n xs ys (omega arith)

-- zeros at the front leave no remainder
pub remainder-zeros : (divisor : Bits) (n : ℕ) (bs : Bits) → remainder divisor n (replicate n false ++ bs) ≡ bs
unfolding remainder
remainder-zeros divisor zero bs = refl
remainder-zeros divisor (suc n) bs = remainder-zeros divisor n bs

-- ---- one octet more

-- the check of octets, the first v bits of which are inverted
abbrev pub divided : Bits → ℕ → List ℕ → Bits
divided divisor v octets = remainder divisor (8 * length octets) (invert_first v (bits_of octets ++ replicate (length divisor) false))

pub length-invert : (n : ℕ) (bs : Bits) → length (invert_first n bs) ≡ length bs
length-invert zero bs = refl
length-invert (suc n) [] = refl
length-invert (suc n) (b ∷ bs) = ap suc (length-invert n bs)

pub invert-xor : (n : ℕ) (xs ys : Bits) → invert_first n (xor_bits xs ys) ≡ xor_bits (invert_first n xs) ys
invert-xor zero xs ys = refl
invert-xor (suc n) [] ys = refl
invert-xor (suc n) (x ∷ xs) [] = refl
invert-xor (suc n) (x ∷ xs) (y ∷ ys) = rw (not-xor_bit x y, invert-xor n xs ys) refl

pub invert-append : (n : ℕ) (bs more : Bits) → n ≤ length bs → invert_first n (bs ++ more) ≡ invert_first n bs ++ more
invert-append zero bs more l = refl
invert-append (suc n) [] more l = absurd (omega arith)
invert-append (suc n) (b ∷ bs) more l = ap (λ r. not b ∷ r) (invert-append n bs more (omega arith))

-- the octet that comes, as bits that are added to those before it and zeros
abbrev added : Bits → List ℕ → ℕ → Bits
added divisor seen o = replicate (8 * length seen) false ++ (low_bits 8 o ++ replicate (length divisor) false)

pushed : (divisor : Bits) (seen : List ℕ) (o : ℕ) → bits_of (seen ++ o ∷ []) ++ replicate (length divisor) false ≡ xor_bits ((bits_of seen ++ replicate (length divisor) false) ++ replicate 8 false) (added divisor seen o)
pushed divisor seen o =
    let k : ℕ = length divisor in
    let last : Bits = low_bits 8 o ++ replicate k false in
    let size : length last ≡ k + 8 = omega (arith, length-append (low_bits 8 o) (replicate k false), length-low 8 o, length-replicate k false) in
    let whole : bits_of (seen ++ o ∷ []) ++ replicate k false ≡ bits_of seen ++ last =
    ap (λ r. r ++ replicate k false) (bits_of-append seen (o ∷ []) ∙ ap (λ r. bits_of seen ++ r) (append-nil (low_bits 8 o))) ∙ append_assoc (bits_of seen) (low_bits 8 o) (replicate k false) in
    let zeros : (bits_of seen ++ replicate k false) ++ replicate 8 false ≡ bits_of seen ++ replicate (k + 8) false =
    append_assoc (bits_of seen) (replicate k false) (replicate 8 false) ∙ ap (λ r. bits_of seen ++ r) (zeros-append k 8) in
    let parts : xor_bits (bits_of seen ++ replicate (k + 8) false) (added divisor seen o) ≡ bits_of seen ++ last =
    xor-append (bits_of seen) (replicate (k + 8) false) (replicate (8 * length seen) false) last (omega (arith, length-bits_of seen, length-replicate (8 * length seen) false))
    ∙ rw (xor-zeros_right (8 * length seen) (bits_of seen), xor-zeros_left (k + 8) last size) refl in
    whole ∙ sym parts ∙ ap (λ r. xor_bits r (added divisor seen o)) (sym zeros)

pub length-divided : (divisor : Bits) (v : ℕ) (seen : List ℕ) → length (divided divisor v seen) ≡ length divisor
length-divided divisor v seen =
    length-remainder divisor (8 * length seen) (length divisor) (invert_first v (bits_of seen ++ replicate (length divisor) false))
    (omega (arith, length-invert v (bits_of seen ++ replicate (length divisor) false), length-append (bits_of seen) (replicate (length divisor) false), length-bits_of seen, length-replicate (length divisor) false))

-- the remainder so far, with the octet added to its first bits, is divided on
divided-push : (divisor : Bits) (v : ℕ) (seen : List ℕ) (o : ℕ) → v ≤ length divisor
    → divided divisor v (seen ++ o ∷ []) ≡ remainder divisor 8 (xor_bits (divided divisor v seen ++ replicate 8 false) (low_bits 8 o ++ replicate (length divisor) false))
divided-push divisor v seen o few =
    let k : ℕ = length divisor in
    let n : ℕ = 8 * length seen in
    let before : Bits = bits_of seen ++ replicate k false in
    let last : Bits = low_bits 8 o ++ replicate k false in
    let size : length before ≡ n + k = omega (arith, length-append (bits_of seen) (replicate k false), length-bits_of seen, length-replicate k false) in
    let wide : length last ≡ 8 + k = omega (arith, length-append (low_bits 8 o) (replicate k false), length-low 8 o, length-replicate k false) in
    let count : 8 * length (seen ++ o ∷ []) ≡ n + 8 = omega (arith, length-append seen (o ∷ [])) in
    let same : invert_first v (bits_of (seen ++ o ∷ []) ++ replicate k false) ≡ xor_bits (invert_first v before ++ replicate 8 false) (added divisor seen o) =
    ap (invert_first v) (pushed divisor seen o) ∙ invert-xor v (before ++ replicate 8 false) (added divisor seen o)
    ∙ ap (λ r. xor_bits r (added divisor seen o)) (invert-append v before (replicate 8 false) (omega arith)) in
    let left : length (invert_first v before ++ replicate 8 false) ≡ n + k + 8 =
    omega (arith, length-append (invert_first v before) (replicate 8 false), length-invert v before, length-replicate {A = Bool} 8 false) in
    let right : length (added divisor seen o) ≡ n + k + 8 = omega (arith, length-append (replicate n false) last, length-replicate n false) in
    let inner : remainder divisor n (xor_bits (invert_first v before ++ replicate 8 false) (added divisor seen o)) ≡ xor_bits (divided divisor v seen ++ replicate 8 false) last =
    remainder-xor divisor n (invert_first v before ++ replicate 8 false) (added divisor seen o) (left ∙ sym right)
    ∙ ap (λ r. xor_bits r (remainder divisor n (added divisor seen o))) (remainder-append divisor n (invert_first v before) (replicate 8 false) (omega (arith, length-invert v before)))
    ∙ ap (xor_bits (divided divisor v seen ++ replicate 8 false)) (remainder-zeros divisor n last) in
    ap (λ m. remainder divisor m (invert_first v (bits_of (seen ++ o ∷ []) ++ replicate k false))) count ∙ ap (remainder divisor (n + 8)) same
    ∙ remainder-add divisor n 8 (xor_bits (invert_first v before ++ replicate 8 false) (added divisor seen o)) ∙ ap (remainder divisor 8) inner

unsigned-zeros : (n : ℕ) → unsigned_of (replicate n false) ≡ 0
unsigned-zeros zero = refl
unsigned-zeros (suc n) = omega (arith, unsigned-zeros n)

-- eight coefficients more of the quotient: by the remainder of the first octet, with the octet that comes added to it
eight_more : (divisor high low : Bits) (o : ℕ) → length high ≡ 8 → length divisor ≡ 8 + length low → o < 256
    → unsigned_of (remainder divisor 8 (xor_bits ((high ++ low) ++ replicate 8 false) (low_bits 8 o ++ replicate (length divisor) false))) ≡ bit_xor (octet_remainder divisor (bit_xor (unsigned_of high) o)) (unsigned_of low * 256)
eight_more divisor high low o wide size small =
    let k : ℕ = length divisor in
    let first : Bits = xor_bits high (low_bits 8 o) in
    let rest : Bits = low ++ replicate 8 false in
    let length_first : length first ≡ 8 = length-xor high (low_bits 8 o) ∙ wide in
    let length_rest : length rest ≡ k = omega (arith, length-append low (replicate 8 false), length-replicate {A = Bool} 8 false) in
    let number : unsigned_of first ≡ bit_xor (unsigned_of high) o = unsigned-xor high (low_bits 8 o) (omega (arith, length-low 8 o)) ∙ ap (bit_xor (unsigned_of high)) (unsigned_small 8 o small) in
    let back : first ≡ low_bits 8 (bit_xor (unsigned_of high) o) = sym (low-unsigned first) ∙ ap (λ n. low_bits n (unsigned_of first)) length_first ∙ ap (low_bits 8) number in
    let one : xor_bits ((high ++ low) ++ replicate 8 false) (low_bits 8 o ++ replicate k false) ≡ first ++ rest =
    ap (λ r. xor_bits r (low_bits 8 o ++ replicate k false)) (append_assoc high low (replicate 8 false)) ∙ xor-append high rest (low_bits 8 o) (replicate k false) (omega (arith, length-low 8 o))
    ∙ ap (λ r. first ++ r) (xor-zeros_right k rest) in
    let split : xor_bits (first ++ replicate k false) (replicate 8 false ++ rest) ≡ first ++ rest =
    xor-append first (replicate k false) (replicate 8 false) rest (omega (arith, length-replicate {A = Bool} 8 false)) ∙ rw (xor-zeros_right 8 first, xor-zeros_left k rest length_rest) refl in
    let long : length (first ++ replicate k false) ≡ length (replicate 8 false ++ rest) =
    omega (arith, length-append first (replicate k false), length-append (replicate 8 false) rest, length-replicate k false, length-replicate {A = Bool} 8 false) in
    let divides : remainder divisor 8 (first ++ rest) ≡ xor_bits (remainder divisor 8 (first ++ replicate k false)) rest =
    ap (remainder divisor 8) (sym split) ∙ remainder-xor divisor 8 (first ++ replicate k false) (replicate 8 false ++ rest) long
    ∙ ap (xor_bits (remainder divisor 8 (first ++ replicate k false))) (remainder-zeros divisor 8 rest) in
    let wide_first : length (remainder divisor 8 (first ++ replicate k false)) ≡ k =
    length-remainder divisor 8 k (first ++ replicate k false) (omega (arith, length-append first (replicate k false), length-replicate k false)) in
    let shifted : unsigned_of rest ≡ unsigned_of low * 256 = omega (arith, unsigned-append low (replicate 8 false)) in
    ap (λ r. unsigned_of (remainder divisor 8 r)) one ∙ ap unsigned_of divides ∙ unsigned-xor (remainder divisor 8 (first ++ replicate k false)) rest (wide_first ∙ sym length_rest)
    ∙ rw (back, shifted) refl

-- the number of eight bits and the number of those behind them
high_low : (k : ℕ) (bs : Bits) → length bs ≡ 8 + k → unsigned_of bs ≡ unsigned_of (take 8 bs) * 2 ^ k + unsigned_of (drop 8 bs)
high_low k bs l =
    let size : length (drop 8 bs) ≡ k = omega (arith, length-drop 8 bs) in
    ap unsigned_of (sym (take-append-drop 8 bs)) ∙ unsigned-append (take 8 bs) (drop 8 bs) ∙ ap (λ n. unsigned_of (take 8 bs) * 2 ^ n + unsigned_of (drop 8 bs)) size

-- a check of 8 bits and one of 16 bits by the remainders of octets
divided_more : (divisor : Bits) (k v : ℕ) (seen : List ℕ) (o : ℕ) → length divisor ≡ 8 + k → v ≤ 8 + k → o < 256
    → unsigned_of (divided divisor v (seen ++ o ∷ [])) ≡ bit_xor (octet_remainder divisor (bit_xor (unsigned_of (take 8 (divided divisor v seen))) o)) (unsigned_of (drop 8 (divided divisor v seen)) * 256)
divided_more divisor k v seen o size few small =
    let state : Bits = divided divisor v seen in
    let l : length state ≡ 8 + k = length-divided divisor v seen ∙ size in
    ap unsigned_of (divided-push divisor v seen o (omega arith))
    ∙ ap (λ r. unsigned_of (remainder divisor 8 (xor_bits (r ++ replicate 8 false) (low_bits 8 o ++ replicate (length divisor) false)))) (sym (take-append-drop 8 state))
    ∙ eight_more divisor (take 8 state) (drop 8 state) o (omega (arith, length-take 8 state)) (omega (arith, length-drop 8 state)) small

pub crc8_is : (seen : List ℕ) → check_of_octets Crc8 seen ≡ unsigned_of (divided crc8_divisor 0 seen)
crc8_is seen = ap (λ k. unsigned_of (remainder crc8_divisor (8 * length seen) (bits_of seen ++ replicate k false))) (sym (length-low 8 0x07))

pub crc16_is : (seen : List ℕ) → check_of_octets Crc16Ccitt seen ≡ unsigned_of (divided crc16_divisor 16 seen)
crc16_is seen = ap (λ k. unsigned_of (remainder crc16_divisor (8 * length seen) (invert_first 16 (bits_of seen ++ replicate k false)))) (sym (length-low 16 0x1021))

pub crc8_push : (seen : List ℕ) (o : ℕ) → o < 256 → check_of_octets Crc8 (seen ++ o ∷ []) ≡ octet_remainder crc8_divisor (bit_xor (check_of_octets Crc8 seen) o)
crc8_push seen o small =
    let state : Bits = divided crc8_divisor 0 seen in
    let l : length state ≡ 8 = length-divided crc8_divisor 0 seen ∙ length-low 8 0x07 in
    let none : drop 8 state ≡ [] = drop_all 8 state (omega arith) in
    let all : take 8 state ≡ state = take_all 8 state (omega arith) in
    crc8_is (seen ++ o ∷ []) ∙ divided_more crc8_divisor 0 0 seen o (length-low 8 0x07) (omega arith) small
    ∙ rw (none, all, ← crc8_is seen, xor_zero_r (octet_remainder crc8_divisor (bit_xor (check_of_octets Crc8 seen) o))) refl

-- the two octets of a check of 16 bits
pub crc16_parts : (seen : List ℕ) → (unsigned_of (take 8 (divided crc16_divisor 16 seen)) ≡ check_of_octets Crc16Ccitt seen / 256) × (unsigned_of (drop 8 (divided crc16_divisor 16 seen)) ≡ check_of_octets Crc16Ccitt seen % 256)
crc16_parts seen =
    let state : Bits = divided crc16_divisor 16 seen in
    let l : length state ≡ 8 + 8 = length-divided crc16_divisor 16 seen ∙ length-low 16 0x1021 in
    let parts = high_low 8 state l in
    let end : length (drop 8 state) ≡ 8 = omega (arith, length-drop 8 state) in
    let below : unsigned_of (drop 8 state) < 256 = subst (λ n. unsigned_of (drop 8 state) < 2 ^ n) end (unsigned-lt (drop 8 state)) in
    (rw (crc16_is seen) (omega arith), rw (crc16_is seen) (omega arith))

pub crc16_push : (seen : List ℕ) (o : ℕ) → o < 256
    → check_of_octets Crc16Ccitt (seen ++ o ∷ []) ≡ bit_xor (octet_remainder crc16_divisor (bit_xor (check_of_octets Crc16Ccitt seen / 256) o)) (check_of_octets Crc16Ccitt seen % 256 * 256)
crc16_push seen o small =
    let parts = crc16_parts seen in
    crc16_is (seen ++ o ∷ []) ∙ divided_more crc16_divisor 8 16 seen o (length-low 16 0x1021) (omega arith) small ∙ rw (parts.0, parts.1) refl

-- ---- tables

both_of : (a b : Bool) → (a && b) ≡ true → (a ≡ true) × (b ≡ true)
both_of true b h = (refl, h)
both_of false b h = absurd cc

-- two functions agree below n
unfoldable pub agree_below : (ℕ → ℕ) → (ℕ → ℕ) → ℕ → Bool
agree_below f g zero = true
agree_below f g (suc n) = nat_eq (f n) (g n) && agree_below f g n

pub agree_at : (f g : ℕ → ℕ) (n : ℕ) → agree_below f g n ≡ true → (i : ℕ) → i < n → f i ≡ g i
unfolding agree_below
agree_at f g zero h i lt = absurd (omega arith)
agree_at f g (suc n) h i lt =
    let both = both_of (nat_eq (f n) (g n)) (agree_below f g n) h in
    elim (cases_eq i n) [ inl same ↦ rw same (eqb-true (f n) (g n) both.0) | inr other ↦ agree_at f g n both.1 i (omega arith) ]

crc8_table : (table : List ℕ) (o : ℕ) → o < 256 → agree_below (λ i. get_or table i 0) (octet_remainder crc8_divisor) 256 ≡ true → get_or table o 0 ≡ octet_remainder crc8_divisor o
crc8_table table o lt h = agree_at _ _ 256 h o lt

pub crc8_entry : (o : ℕ) → o < 256 → get_or CRC8 o 0 ≡ octet_remainder crc8_divisor o
unfolding agree_below low_bits remainder
crc8_entry o lt = crc8_table CRC8 o lt refl

crc16_table : (table : List ℕ) (o : ℕ) → o < 256 → agree_below (λ i. get_or table i 0) (octet_remainder crc16_divisor) 256 ≡ true → get_or table o 0 ≡ octet_remainder crc16_divisor o
crc16_table table o lt h = agree_at _ _ 256 h o lt

pub crc16_entry : (o : ℕ) → o < 256 → get_or CRC16 o 0 ≡ octet_remainder crc16_divisor o
unfolding agree_below low_bits remainder
crc16_entry o lt = crc16_table CRC16 o lt refl

-- ---- octets that come one by one

next : (seen os : List ℕ) (i : ℕ) → i < length os → seen ++ take (i + 1) os ≡ (seen ++ take i os) ++ get_or os i 0 ∷ []
next seen os i lt = ap (λ r. seen ++ r) (take_more os i 0 lt) ∙ sym (append_assoc seen (take i os) (get_or os i 0 ∷ []))

pub all_taken : (seen os : List ℕ) → seen ++ take (length os) os ≡ seen ++ os
all_taken seen os = ap (λ r. seen ++ r) (take_all (length os) os (omega arith))

sum_push : (xs : List ℕ) (o : ℕ) → sum (xs ++ o ∷ []) ≡ sum xs + o
sum_push xs o = omega (arith, sum_by-append (λ x. x) xs (o ∷ []))

fold_push : (a : ℕ) (xs : List ℕ) (o : ℕ) → fold bit_xor a (xs ++ o ∷ []) ≡ bit_xor (fold bit_xor a xs) o
fold_push a [] o = refl
fold_push a (x ∷ xs) o = fold_push (bit_xor a x) xs o

pub sum_next : (seen os : List ℕ) (i c : ℕ) → i < length os → c ≡ check_of_octets Checksum (seen ++ take i os) → (c + get_or os i 0) % 256 ≡ check_of_octets Checksum (seen ++ take (i + 1) os)
sum_next seen os i c lt is =
    let more = sum_push (seen ++ take i os) (get_or os i 0) in
    sym (ap (λ r. sum r % 256) (next seen os i lt) ∙ omega arith)

pub xor_next : (seen os : List ℕ) (i c : ℕ) → i < length os → c ≡ check_of_octets Longitudinal (seen ++ take i os) → bit_xor c (get_or os i 0) ≡ check_of_octets Longitudinal (seen ++ take (i + 1) os)
xor_next seen os i c lt is = ap (λ n. bit_xor n (get_or os i 0)) is ∙ sym (fold_push 0 (seen ++ take i os) (get_or os i 0)) ∙ ap (fold bit_xor 0) (sym (next seen os i lt))

pub crc8_next : (seen os : List ℕ) (i c : ℕ) → i < length os → get_or os i 0 < 256 → c ≡ check_of_octets Crc8 (seen ++ take i os) → octet_remainder crc8_divisor (bit_xor c (get_or os i 0)) ≡ check_of_octets Crc8 (seen ++ take (i + 1) os)
crc8_next seen os i c lt small is =
    ap (λ n. octet_remainder crc8_divisor (bit_xor n (get_or os i 0))) is ∙ sym (crc8_push (seen ++ take i os) (get_or os i 0) small) ∙ ap (check_of_octets Crc8) (sym (next seen os i lt))

pub crc16_next : (seen os : List ℕ) (i c : ℕ) → i < length os → get_or os i 0 < 256 → c ≡ check_of_octets Crc16Ccitt (seen ++ take i os)
    → bit_xor (octet_remainder crc16_divisor (bit_xor (c / 256) (get_or os i 0))) (c % 256 * 256) ≡ check_of_octets Crc16Ccitt (seen ++ take (i + 1) os)
crc16_next seen os i c lt small is =
    ap (λ n. bit_xor (octet_remainder crc16_divisor (bit_xor (n / 256) (get_or os i 0))) (n % 256 * 256)) is ∙ sym (crc16_push (seen ++ take i os) (get_or os i 0) small) ∙ ap (check_of_octets Crc16Ccitt) (sym (next seen os i lt))

-- ---- octets that come block by block

pub front_octets-add : (k n : ℕ) (bs : Bits) → 8 * (k + n) ≤ length bs → front_octets (k + n) bs ≡ front_octets k bs ++ front_octets n (drop (8 * k) bs)
front_octets-add k n bs h =
    sym (take-append-drop k (front_octets (k + n) bs)) ∙ rw (take-front_octets k (k + n) bs (omega arith) h, drop-front_octets k n bs h) refl

-- so many octets are checked
pub record Checked (kind : CheckKind) (count : ℕ) (bs rest : Bits) (check done : ℕ) : Type 0 where
  pub some : done ≤ count
  pub value : check ≡ check_of_octets kind (front_octets done bs)
  pub here : rest ≡ drop (8 * done) bs

front_none : (bs : Bits) → front_octets 0 bs ≡ []
unfolding first_pieces
front_none bs = refl

pub check_start : (kind : CheckKind) (count : ℕ) (bs : Bits) (check : ℕ) → check ≡ check_of_octets kind [] → Checked kind count bs bs check 0
check_start kind count bs check is = record { some = omega arith; value = is ∙ ap (check_of_octets kind) (sym (front_none bs)); here = refl }

pub check_step : (kind : CheckKind) (count n done check after : ℕ) (bs rest next : Bits) (block : List ℕ) → 8 * count ≤ length bs → Checked kind count bs rest check done → done + n ≤ count
    → block ≡ front_octets n rest → next ≡ drop (8 * n) rest → ((seen : List ℕ) → check ≡ check_of_octets kind seen → after ≡ check_of_octets kind (seen ++ block)) → Checked kind count bs next after (done + n)
check_step kind count n done check after bs rest next block h s few eb en step = record {
  some = few;
  value =
      step (front_octets done bs) s.value ∙ ap (λ r. check_of_octets kind (front_octets done bs ++ r)) (eb ∙ ap (front_octets n) s.here)
      ∙ ap (check_of_octets kind) (sym (front_octets-add done n bs (omega arith)));
  here = en ∙ ap (drop (8 * n)) s.here ∙ drop-drop (8 * n) (8 * done) bs ∙ ap (λ k. drop k bs) (omega arith);
}

-- the check is one of octets, so that it has no more bits than its kind
pub checked_below : (kind : CheckKind) (check : ℕ) (bs : Bits) (n : ℕ) → check ≡ check_of_octets kind (front_octets n bs) → check < 2 ^ check_bits kind
checked_below kind check bs n e = subst (λ m. m < 2 ^ check_bits kind) (sym e) (check_of_lt kind (take (8 * n) bs))

pub none_below : (kind : CheckKind) (check : ℕ) → check ≡ check_of_octets kind [] → check < 2 ^ check_bits kind
none_below kind check e = checked_below kind check [] 0 (e ∙ ap (check_of_octets kind) (sym (front_none [])))
