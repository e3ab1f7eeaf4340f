-- Checks: what several octets more do to them.
use Rattle.std.proofs.Common.{◌≡◌, ℕ, ◌+◌, ◌*◌, ◌/◌, ◌%◌, ◌<◌, ◌≤◌, Bool, true, false, List, [], ◌∷◌, ◌++◌, length, get_or, take, drop, replicate, bit_xor, refl, sym, ap, ◌∙◌, append_assoc, arith}
use Rattle.std.proofs.lemmas.List.{take-append-drop, append-nil, length-append, length-replicate, length-take, length-drop}
use Rattle.eds_bits.specs.Bits.{Bits, bits_of, low_bits, unsigned_of}
use Rattle.eds_bits.specs.Scalars.{xor_bits, remainder, invert_first, crc8_divisor, crc16_divisor, check_of_octets}
use Rattle.eds_bits.specs.declared.forms.CheckKind.TheVariants.{Crc8, Crc16Ccitt}
use Rattle.eds_codec.specs.Checks.{octet_remainder, octet_remainder_before}
use Rattle.eds_codec.specs.declared.tables.TheConstants.{CRC8_1, CRC8_2, CRC8_3, CRC8_4, CRC8_5, CRC8_6, CRC8_7, CRC16_1, CRC16_2, CRC16_3}
use Rattle.eds_bits.proofs.BitLaws.{length-low, low-unsigned, unsigned_small}
use Rattle.eds_bits.proofs.CheckLaws.{length-remainder}
use Rattle.eds_bits.proofs.OctetLaws.{length-bits_of, bits_of-append}
use Rattle.eds_codec.proofs.Checks.{agree_below, agree_at, crc8_is, crc16_is, crc16_parts, divided, invert-append, invert-xor, length-divided, length-invert, length-xor, remainder-add, remainder-append, remainder-xor, remainder-zeros, unsigned-xor, xor-append, xor-zeros_left, xor-zeros_right, zeros-append}

-- ---- octets behind others

-- octets that come, as bits that are added to those before them and zeros
abbrev added : Bits → List ℕ → List ℕ → Bits
added divisor seen os = replicate (8 * length seen) false ++ (bits_of os ++ replicate (length divisor) false)

pushed : (divisor : Bits) (seen os : List ℕ) → bits_of (seen ++ os) ++ replicate (length divisor) false ≡ xor_bits ((bits_of seen ++ replicate (length divisor) false) ++ replicate (8 * length os) false) (added divisor seen os)
pushed divisor seen os =
    let k : ℕ = length divisor in
    let m : ℕ = 8 * length os in
    let last : Bits = bits_of os ++ replicate k false in
    let size : length last ≡ k + m = omega (arith, length-append (bits_of os) (replicate k false), length-bits_of os, length-replicate k false) in
    let whole : bits_of (seen ++ os) ++ replicate k false ≡ bits_of seen ++ last =
    ap (λ r. r ++ replicate k false) (bits_of-append seen os) ∙ append_assoc (bits_of seen) (bits_of os) (replicate k false) in
    let zeros : (bits_of seen ++ replicate k false) ++ replicate m false ≡ bits_of seen ++ replicate (k + m) false =
    append_assoc (bits_of seen) (replicate k false) (replicate m false) ∙ ap (λ r. bits_of seen ++ r) (zeros-append k m) in
    let parts : xor_bits (bits_of seen ++ replicate (k + m) false) (added divisor seen os) ≡ bits_of seen ++ last =
    xor-append (bits_of seen) (replicate (k + m) false) (replicate (8 * length seen) false) last (omega (arith, length-bits_of seen, length-replicate (8 * length seen) false))
    ∙ rw (xor-zeros_right (8 * length seen) (bits_of seen), xor-zeros_left (k + m) last size) refl in
    whole ∙ sym parts ∙ ap (λ r. xor_bits r (added divisor seen os)) (sym zeros)

-- the remainder so far, added to the first bits of the octets, is divided on
divided-append : (divisor : Bits) (v : ℕ) (seen os : List ℕ) → v ≤ length divisor
    → divided divisor v (seen ++ os) ≡ remainder divisor (8 * length os) (xor_bits (divided divisor v seen ++ replicate (8 * length os) false) (bits_of os ++ replicate (length divisor) false))
divided-append divisor v seen os few =
    let k : ℕ = length divisor in
    let m : ℕ = 8 * length os in
    let n : ℕ = 8 * length seen in
    let before : Bits = bits_of seen ++ replicate k false in
    let last : Bits = bits_of os ++ replicate k false in
    let size : length before ≡ n + k = omega (arith, length-append (bits_of seen) (replicate k false), length-bits_of seen, length-replicate k false) in
    let wide : length last ≡ m + k = omega (arith, length-append (bits_of os) (replicate k false), length-bits_of os, length-replicate k false) in
    let count : 8 * length (seen ++ os) ≡ n + m = omega (arith, length-append seen os) in
    let same : invert_first v (bits_of (seen ++ os) ++ replicate k false) ≡ xor_bits (invert_first v before ++ replicate m false) (added divisor seen os) =
    ap (invert_first v) (pushed divisor seen os) ∙ invert-xor v (before ++ replicate m false) (added divisor seen os)
    ∙ ap (λ r. xor_bits r (added divisor seen os)) (invert-append v before (replicate m false) (omega arith)) in
    let left : length (invert_first v before ++ replicate m false) ≡ n + k + m =
    omega (arith, length-append (invert_first v before) (replicate m false), length-invert v before, length-replicate {A = Bool} m false) in
    let right : length (added divisor seen os) ≡ n + k + m = omega (arith, length-append (replicate n false) last, length-replicate n false) in
    let inner : remainder divisor n (xor_bits (invert_first v before ++ replicate m false) (added divisor seen os)) ≡ xor_bits (divided divisor v seen ++ replicate m false) last =
    remainder-xor divisor n (invert_first v before ++ replicate m false) (added divisor seen os) (left ∙ sym right)
    ∙ ap (λ r. xor_bits r (remainder divisor n (added divisor seen os))) (remainder-append divisor n (invert_first v before) (replicate m false) (omega (arith, length-invert v before)))
    ∙ ap (xor_bits (divided divisor v seen ++ replicate m false)) (remainder-zeros divisor n last) in
    ap (λ c. remainder divisor c (invert_first v (bits_of (seen ++ os) ++ replicate k false))) count ∙ ap (remainder divisor (n + m)) same
    ∙ remainder-add divisor n m (xor_bits (invert_first v before ++ replicate m false) (added divisor seen os)) ∙ ap (remainder divisor m) inner

-- an octet is added to eight bits
octet_added : (high : Bits) (o : ℕ) → length high ≡ 8 → o < 256 → xor_bits high (low_bits 8 o) ≡ low_bits 8 (bit_xor (unsigned_of high) o)
octet_added high o wide small =
    let first : Bits = xor_bits high (low_bits 8 o) in
    let length_first : length first ≡ 8 = length-xor high (low_bits 8 o) ∙ wide in
    let number : unsigned_of first ≡ bit_xor (unsigned_of high) o = unsigned-xor high (low_bits 8 o) (omega (arith, length-low 8 o)) ∙ ap (bit_xor (unsigned_of high)) (unsigned_small 8 o small) in
    sym (low-unsigned first) ∙ ap (λ n. low_bits n (unsigned_of first)) length_first ∙ ap (low_bits 8) number

-- ---- octets alone

-- the check of octets alone, with nothing inverted
abbrev alone : Bits → List ℕ → ℕ
alone divisor os = unsigned_of (divided divisor 0 os)

-- the first octet adds its own remainder to that of the others
alone_more : (divisor : Bits) (o : ℕ) (os : List ℕ) → alone divisor (o ∷ os) ≡ bit_xor (octet_remainder_before divisor (length os) o) (alone divisor os)
alone_more divisor o os =
    let k : ℕ = length divisor in
    let m : ℕ = 8 * length os in
    let rest : Bits = bits_of os ++ replicate k false in
    let wide : length rest ≡ m + k = omega (arith, length-append (bits_of os) (replicate k false), length-bits_of os, length-replicate k false) in
    let first : Bits = low_bits 8 o ++ replicate (m + k) false in
    let behind : Bits = replicate 8 false ++ rest in
    let long : length first ≡ length behind =
    omega (arith, length-append (low_bits 8 o) (replicate (m + k) false), length-low 8 o, length-replicate (m + k) false, length-append (replicate 8 false) rest, length-replicate {A = Bool} 8 false) in
    let whole : bits_of (o ∷ os) ++ replicate k false ≡ low_bits 8 o ++ rest = append_assoc (low_bits 8 o) (bits_of os) (replicate k false) in
    let sum : xor_bits first behind ≡ low_bits 8 o ++ rest =
    xor-append (low_bits 8 o) (replicate (m + k) false) (replicate 8 false) rest (omega (arith, length-low 8 o, length-replicate {A = Bool} 8 false))
    ∙ rw (xor-zeros_right 8 (low_bits 8 o), xor-zeros_left (m + k) rest wide) refl in
    let count : 8 * length (o ∷ os) ≡ 8 + m = omega arith in
    let other : remainder divisor (8 + m) behind ≡ remainder divisor m rest = remainder-add divisor 8 m behind ∙ ap (remainder divisor m) (remainder-zeros divisor 8 rest) in
    let left : length (remainder divisor (8 + m) first) ≡ k = length-remainder divisor (8 + m) k first (omega (arith, length-append (low_bits 8 o) (replicate (m + k) false), length-low 8 o, length-replicate (m + k) false)) in
    let right : length (remainder divisor m rest) ≡ k = length-remainder divisor m k rest wide in
    ap (λ c. unsigned_of (remainder divisor c (bits_of (o ∷ os) ++ replicate k false))) count
    ∙ ap (λ r. unsigned_of (remainder divisor (8 + m) r)) (whole ∙ sym sum)
    ∙ ap unsigned_of (remainder-xor divisor (8 + m) first behind long ∙ ap (xor_bits (remainder divisor (8 + m) first)) other)
    ∙ unsigned-xor (remainder divisor (8 + m) first) (remainder divisor m rest) (left ∙ sym right)

-- the last octet
alone_last : (divisor : Bits) (o : ℕ) → alone divisor (o ∷ []) ≡ octet_remainder divisor o
alone_last divisor o = ap (λ r. unsigned_of (remainder divisor 8 (r ++ replicate (length divisor) false))) (append-nil (low_bits 8 o))

-- ---- the check of 8 bits

pub crc8_block : (seen : List ℕ) (o : ℕ) (os : List ℕ) → o < 256 → check_of_octets Crc8 (seen ++ o ∷ os) ≡ alone crc8_divisor (bit_xor (check_of_octets Crc8 seen) o ∷ os)
crc8_block seen o os small =
    let state : Bits = divided crc8_divisor 0 seen in
    let m : ℕ = 8 * length os in
    let l : length state ≡ 8 = length-divided crc8_divisor 0 seen ∙ length-low 8 0x07 in
    let k : length crc8_divisor ≡ 8 = length-low 8 0x07 in
    let rest : Bits = bits_of os ++ replicate 8 false in
    let wide : length rest ≡ 8 * length (o ∷ os) = omega (arith, length-append (bits_of os) (replicate 8 false), length-bits_of os, length-replicate {A = Bool} 8 false) in
    let number : bit_xor (check_of_octets Crc8 seen) o ≡ bit_xor (unsigned_of state) o = ap (λ n. bit_xor n o) (crc8_is seen) in
    let sum : xor_bits (state ++ replicate (8 * length (o ∷ os)) false) (bits_of (o ∷ os) ++ replicate 8 false) ≡ bits_of (bit_xor (check_of_octets Crc8 seen) o ∷ os) ++ replicate 8 false =
    ap (xor_bits (state ++ replicate (8 * length (o ∷ os)) false)) (append_assoc (low_bits 8 o) (bits_of os) (replicate 8 false))
    ∙ xor-append state (replicate (8 * length (o ∷ os)) false) (low_bits 8 o) rest (omega (arith, l, length-low 8 o))
    ∙ ap (λ r. xor_bits state (low_bits 8 o) ++ r) (xor-zeros_left (8 * length (o ∷ os)) rest wide)
    ∙ ap (λ r. r ++ rest) (octet_added state o l small ∙ ap (low_bits 8) (sym number))
    ∙ sym (append_assoc (low_bits 8 (bit_xor (check_of_octets Crc8 seen) o)) (bits_of os) (replicate 8 false)) in
    crc8_is (seen ++ o ∷ os)
    ∙ ap unsigned_of (divided-append crc8_divisor 0 seen (o ∷ os) (omega arith))
    ∙ ap (λ n. unsigned_of (remainder crc8_divisor (8 * length (o ∷ os)) (xor_bits (state ++ replicate (8 * length (o ∷ os)) false) (bits_of (o ∷ os) ++ replicate n false)))) k
    ∙ ap (λ r. unsigned_of (remainder crc8_divisor (8 * length (o ∷ os)) r)) sum
    ∙ ap (λ n. unsigned_of (remainder crc8_divisor (8 * length (o ∷ os)) (bits_of (bit_xor (check_of_octets Crc8 seen) o ∷ os) ++ replicate n false))) (sym k)

-- ---- the check of 16 bits

pub crc16_block : (seen : List ℕ) (o p : ℕ) (os : List ℕ) → o < 256 → p < 256
    → check_of_octets Crc16Ccitt (seen ++ o ∷ p ∷ os) ≡ alone crc16_divisor (bit_xor (check_of_octets Crc16Ccitt seen / 256) o ∷ bit_xor (check_of_octets Crc16Ccitt seen % 256) p ∷ os)
crc16_block seen o p os small little =
    let state : Bits = divided crc16_divisor 16 seen in
    let high : Bits = take 8 state in
    let low : Bits = drop 8 state in
    let all : List ℕ = o ∷ p ∷ os in
    let n : ℕ = 8 * length all in
    let l : length state ≡ 16 = length-divided crc16_divisor 16 seen ∙ length-low 16 0x1021 in
    let lh : length high ≡ 8 = omega (arith, l, length-take 8 state) in
    let ll : length low ≡ 8 = omega (arith, l, length-drop 8 state) in
    let k : length crc16_divisor ≡ 16 = length-low 16 0x1021 in
    let rest : Bits = bits_of os ++ replicate 16 false in
    let wide : length rest ≡ n = omega (arith, length-append (bits_of os) (replicate 16 false), length-bits_of os, length-replicate {A = Bool} 16 false) in
    let parts = crc16_parts seen in
    let first : xor_bits high (low_bits 8 o) ≡ low_bits 8 (bit_xor (check_of_octets Crc16Ccitt seen / 256) o) = octet_added high o lh small ∙ ap (λ x. low_bits 8 (bit_xor x o)) parts.0 in
    let second : xor_bits low (low_bits 8 p) ≡ low_bits 8 (bit_xor (check_of_octets Crc16Ccitt seen % 256) p) = octet_added low p ll little ∙ ap (λ x. low_bits 8 (bit_xor x p)) parts.1 in
    let ours : Bits = high ++ (low ++ replicate n false) in
    let theirs : Bits = low_bits 8 o ++ (low_bits 8 p ++ rest) in
    let split : state ++ replicate n false ≡ ours = ap (λ s. s ++ replicate n false) (sym (take-append-drop 8 state)) ∙ append_assoc high low (replicate n false) in
    let joined : bits_of all ++ replicate 16 false ≡ theirs =
    append_assoc (low_bits 8 o) (bits_of (p ∷ os)) (replicate 16 false) ∙ ap (λ r. low_bits 8 o ++ r) (append_assoc (low_bits 8 p) (bits_of os) (replicate 16 false)) in
    let a : ℕ = bit_xor (check_of_octets Crc16Ccitt seen / 256) o in
    let b : ℕ = bit_xor (check_of_octets Crc16Ccitt seen % 256) p in
    let sum : xor_bits (state ++ replicate n false) (bits_of all ++ replicate 16 false) ≡ bits_of (a ∷ b ∷ os) ++ replicate 16 false =
    ap (λ r. xor_bits r (bits_of all ++ replicate 16 false)) split ∙ ap (xor_bits ours) joined
    ∙ xor-append high (low ++ replicate n false) (low_bits 8 o) (low_bits 8 p ++ rest) (omega (arith, lh, length-low 8 o))
    ∙ ap (λ r. xor_bits high (low_bits 8 o) ++ r) (xor-append low (replicate n false) (low_bits 8 p) rest (omega (arith, ll, length-low 8 p)))
    ∙ ap (λ r. xor_bits high (low_bits 8 o) ++ (xor_bits low (low_bits 8 p) ++ r)) (xor-zeros_left n rest wide)
    ∙ ap (λ r. r ++ (xor_bits low (low_bits 8 p) ++ rest)) first
    ∙ ap (λ r. low_bits 8 a ++ (r ++ rest)) second
    ∙ ap (λ r. low_bits 8 a ++ r) (sym (append_assoc (low_bits 8 b) (bits_of os) (replicate 16 false)))
    ∙ sym (append_assoc (low_bits 8 a) (bits_of (b ∷ os)) (replicate 16 false)) in
    crc16_is (seen ++ all)
    ∙ ap unsigned_of (divided-append crc16_divisor 16 seen all (omega (arith, k)))
    ∙ ap (λ z. unsigned_of (remainder crc16_divisor n (xor_bits (state ++ replicate n false) (bits_of all ++ replicate z false)))) k
    ∙ ap (λ r. unsigned_of (remainder crc16_divisor n r)) sum
    ∙ ap (λ z. unsigned_of (remainder crc16_divisor n (bits_of (a ∷ b ∷ os) ++ replicate z false))) (sym k)

-- ---- tables

in_table : (table : List ℕ) (f : ℕ → ℕ) (o : ℕ) → o < 256 → agree_below (λ i. get_or table i 0) f 256 ≡ true → get_or table o 0 ≡ f o
in_table table f o lt h = agree_at _ _ 256 h o lt

pub crc8_entry_1 : (o : ℕ) → o < 256 → get_or CRC8_1 o 0 ≡ octet_remainder_before crc8_divisor 1 o
unfolding agree_below low_bits remainder
crc8_entry_1 o lt = in_table CRC8_1 (octet_remainder_before crc8_divisor 1) o lt refl

pub crc8_entry_2 : (o : ℕ) → o < 256 → get_or CRC8_2 o 0 ≡ octet_remainder_before crc8_divisor 2 o
unfolding agree_below low_bits remainder
crc8_entry_2 o lt = in_table CRC8_2 (octet_remainder_before crc8_divisor 2) o lt refl

pub crc8_entry_3 : (o : ℕ) → o < 256 → get_or CRC8_3 o 0 ≡ octet_remainder_before crc8_divisor 3 o
unfolding agree_below low_bits remainder
crc8_entry_3 o lt = in_table CRC8_3 (octet_remainder_before crc8_divisor 3) o lt refl

pub crc8_entry_4 : (o : ℕ) → o < 256 → get_or CRC8_4 o 0 ≡ octet_remainder_before crc8_divisor 4 o
unfolding agree_below low_bits remainder
crc8_entry_4 o lt = in_table CRC8_4 (octet_remainder_before crc8_divisor 4) o lt refl

pub crc8_entry_5 : (o : ℕ) → o < 256 → get_or CRC8_5 o 0 ≡ octet_remainder_before crc8_divisor 5 o
unfolding agree_below low_bits remainder
crc8_entry_5 o lt = in_table CRC8_5 (octet_remainder_before crc8_divisor 5) o lt refl

pub crc8_entry_6 : (o : ℕ) → o < 256 → get_or CRC8_6 o 0 ≡ octet_remainder_before crc8_divisor 6 o
unfolding agree_below low_bits remainder
crc8_entry_6 o lt = in_table CRC8_6 (octet_remainder_before crc8_divisor 6) o lt refl

pub crc8_entry_7 : (o : ℕ) → o < 256 → get_or CRC8_7 o 0 ≡ octet_remainder_before crc8_divisor 7 o
unfolding agree_below low_bits remainder
crc8_entry_7 o lt = in_table CRC8_7 (octet_remainder_before crc8_divisor 7) o lt refl

pub crc16_entry_1 : (o : ℕ) → o < 256 → get_or CRC16_1 o 0 ≡ octet_remainder_before crc16_divisor 1 o
unfolding agree_below low_bits remainder
crc16_entry_1 o lt = in_table CRC16_1 (octet_remainder_before crc16_divisor 1) o lt refl

pub crc16_entry_2 : (o : ℕ) → o < 256 → get_or CRC16_2 o 0 ≡ octet_remainder_before crc16_divisor 2 o
unfolding agree_below low_bits remainder
crc16_entry_2 o lt = in_table CRC16_2 (octet_remainder_before crc16_divisor 2) o lt refl

pub crc16_entry_3 : (o : ℕ) → o < 256 → get_or CRC16_3 o 0 ≡ octet_remainder_before crc16_divisor 3 o
unfolding agree_below low_bits remainder
crc16_entry_3 o lt = in_table CRC16_3 (octet_remainder_before crc16_divisor 3) o lt refl

-- ---- eight octets, and four

pub eight_octets : (seen : List ℕ) (a b c d e f g h : ℕ) → a < 256
    → check_of_octets Crc8 (seen ++ a ∷ b ∷ c ∷ d ∷ e ∷ f ∷ g ∷ h ∷ []) ≡ bit_xor (octet_remainder_before crc8_divisor 7 (bit_xor (check_of_octets Crc8 seen) a)) (bit_xor (octet_remainder_before crc8_divisor 6 b) (bit_xor (octet_remainder_before crc8_divisor 5 c) (bit_xor (octet_remainder_before crc8_divisor 4 d)
    (bit_xor (octet_remainder_before crc8_divisor 3 e) (bit_xor (octet_remainder_before crc8_divisor 2 f) (bit_xor (octet_remainder_before crc8_divisor 1 g) (octet_remainder crc8_divisor h)))))))
eight_octets seen a b c d e f g h small =
    let one : alone crc8_divisor (h ∷ []) ≡ octet_remainder crc8_divisor h = alone_last crc8_divisor h in
    crc8_block seen a (b ∷ c ∷ d ∷ e ∷ f ∷ g ∷ h ∷ []) small
    ∙ rw (alone_more crc8_divisor (bit_xor (check_of_octets Crc8 seen) a) (b ∷ c ∷ d ∷ e ∷ f ∷ g ∷ h ∷ []), alone_more crc8_divisor b (c ∷ d ∷ e ∷ f ∷ g ∷ h ∷ []), alone_more crc8_divisor c (d ∷ e ∷ f ∷ g ∷ h ∷ []), alone_more crc8_divisor d (e ∷ f ∷ g ∷ h ∷ []), alone_more crc8_divisor e (f ∷ g ∷ h ∷ []), alone_more crc8_divisor f (g ∷ h ∷ []), alone_more crc8_divisor g (h ∷ []), one) refl

pub four_octets : (seen : List ℕ) (a b c d : ℕ) → a < 256 → b < 256
    → check_of_octets Crc16Ccitt (seen ++ a ∷ b ∷ c ∷ d ∷ []) ≡ bit_xor (octet_remainder_before crc16_divisor 3 (bit_xor (check_of_octets Crc16Ccitt seen / 256) a)) (bit_xor (octet_remainder_before crc16_divisor 2 (bit_xor (check_of_octets Crc16Ccitt seen % 256) b))
    (bit_xor (octet_remainder_before crc16_divisor 1 c) (octet_remainder crc16_divisor d)))
four_octets seen a b c d small little =
    let x : ℕ = bit_xor (check_of_octets Crc16Ccitt seen / 256) a in
    let y : ℕ = bit_xor (check_of_octets Crc16Ccitt seen % 256) b in
    let one : alone crc16_divisor (d ∷ []) ≡ octet_remainder crc16_divisor d = alone_last crc16_divisor d in
    crc16_block seen a b (c ∷ d ∷ []) small little
    ∙ rw (alone_more crc16_divisor x (y ∷ c ∷ d ∷ []), alone_more crc16_divisor y (c ∷ d ∷ []), alone_more crc16_divisor c (d ∷ []), one) refl

-- a list of so many octets by each of them
octets_8 : (os : List ℕ) → length os ≡ 8 → os ≡ get_or os 0 0 ∷ get_or os 1 0 ∷ get_or os 2 0 ∷ get_or os 3 0 ∷ get_or os 4 0 ∷ get_or os 5 0 ∷ get_or os 6 0 ∷ get_or os 7 0 ∷ []
octets_8 [] l = absurd (omega arith)
octets_8 (a ∷ []) l = absurd (omega arith)
octets_8 (a ∷ b ∷ []) l = absurd (omega arith)
octets_8 (a ∷ b ∷ c ∷ []) l = absurd (omega arith)
octets_8 (a ∷ b ∷ c ∷ d ∷ []) l = absurd (omega arith)
octets_8 (a ∷ b ∷ c ∷ d ∷ e ∷ []) l = absurd (omega arith)
octets_8 (a ∷ b ∷ c ∷ d ∷ e ∷ f ∷ []) l = absurd (omega arith)
octets_8 (a ∷ b ∷ c ∷ d ∷ e ∷ f ∷ g ∷ []) l = absurd (omega arith)
octets_8 (a ∷ b ∷ c ∷ d ∷ e ∷ f ∷ g ∷ h ∷ []) l = refl
octets_8 (a ∷ b ∷ c ∷ d ∷ e ∷ f ∷ g ∷ h ∷ z ∷ rest) l = absurd (omega arith)

octets_4 : (os : List ℕ) → length os ≡ 4 → os ≡ get_or os 0 0 ∷ get_or os 1 0 ∷ get_or os 2 0 ∷ get_or os 3 0 ∷ []
octets_4 [] l = absurd (omega arith)
octets_4 (a ∷ []) l = absurd (omega arith)
octets_4 (a ∷ b ∷ []) l = absurd (omega arith)
octets_4 (a ∷ b ∷ c ∷ []) l = absurd (omega arith)
octets_4 (a ∷ b ∷ c ∷ d ∷ []) l = refl
octets_4 (a ∷ b ∷ c ∷ d ∷ z ∷ rest) l = absurd (omega arith)

-- eight octets by their remainders
pub crc8_eight : (seen os : List ℕ) (check a b c d e f g h : ℕ) → length os ≡ 8 → get_or os 0 0 < 256 → check ≡ check_of_octets Crc8 seen
    → a ≡ octet_remainder_before crc8_divisor 7 (bit_xor check (get_or os 0 0))
    → b ≡ octet_remainder_before crc8_divisor 6 (get_or os 1 0)
    → c ≡ octet_remainder_before crc8_divisor 5 (get_or os 2 0)
    → d ≡ octet_remainder_before crc8_divisor 4 (get_or os 3 0)
    → e ≡ octet_remainder_before crc8_divisor 3 (get_or os 4 0)
    → f ≡ octet_remainder_before crc8_divisor 2 (get_or os 5 0)
    → g ≡ octet_remainder_before crc8_divisor 1 (get_or os 6 0)
    → h ≡ octet_remainder crc8_divisor (get_or os 7 0)
    → bit_xor a (bit_xor b (bit_xor c (bit_xor d (bit_xor e (bit_xor f (bit_xor g h)))))) ≡ check_of_octets Crc8 (seen ++ os)
crc8_eight seen os check a b c d e f g h size small is pa pb pc pd pe pf pg ph =
    rw (pa, pb, pc, pd, pe, pf, pg, ph, is) (sym (eight_octets seen (get_or os 0 0) (get_or os 1 0) (get_or os 2 0) (get_or os 3 0) (get_or os 4 0) (get_or os 5 0) (get_or os 6 0) (get_or os 7 0) small))
    ∙ ap (λ xs. check_of_octets Crc8 (seen ++ xs)) (sym (octets_8 os size))

-- four octets by their remainders
pub crc16_four : (seen os : List ℕ) (check a b c d : ℕ) → length os ≡ 4 → get_or os 0 0 < 256 → get_or os 1 0 < 256 → check ≡ check_of_octets Crc16Ccitt seen
    → a ≡ octet_remainder_before crc16_divisor 3 (bit_xor (check / 256) (get_or os 0 0))
    → b ≡ octet_remainder_before crc16_divisor 2 (bit_xor (check % 256) (get_or os 1 0))
    → c ≡ octet_remainder_before crc16_divisor 1 (get_or os 2 0)
    → d ≡ octet_remainder crc16_divisor (get_or os 3 0)
    → bit_xor a (bit_xor b (bit_xor c d)) ≡ check_of_octets Crc16Ccitt (seen ++ os)
crc16_four seen os check a b c d size small little is pa pb pc pd =
    rw (pa, pb, pc, pd, is) (sym (four_octets seen (get_or os 0 0) (get_or os 1 0) (get_or os 2 0) (get_or os 3 0) small little))
    ∙ ap (λ xs. check_of_octets Crc16Ccitt (seen ++ xs)) (sym (octets_4 os size))
