-- The whole numbers and truth values that texts spell.
use Rattle.std.specs.Prelude.{ℕ, ◌+◌, ◌-◌, ◌*◌, ◌^◌, ℤ, pos, neg_ℤ, ◌&&◌, ◌||◌, not, nat_eq, nat_lt, nat_le, List, [], ◌∷◌, take, drop, codes, Bool, true, false, if◌then◌else◌, Option, Some, None, option_map}
use Rattle.std.specs.Char.{is_ascii_digit}
use Rattle.std.specs.List.{list_all, prefix_len}
use Rattle.eds_base.specs.Reading.{same, only}

-- ---- whole numbers

-- the number that decimal digits go on to spell behind others
abbrev pub decimal_value : (before : ℕ) → List ℕ → ℕ
decimal_value before [] = before
decimal_value before (c ∷ cs) = decimal_value (10 * before + (c - 48)) cs

-- the digit 0
abbrev pub is_zero : ℕ → Bool
is_zero c = nat_eq c 48

-- one or more zeros
abbrev pub are_zeros : List ℕ → Bool
are_zeros [] = false
are_zeros (c ∷ cs) = list_all is_zero (c ∷ cs)

-- nothing, or a point and one or more zeros
abbrev pub is_empty_fraction : List ℕ → Bool
is_empty_fraction [] = true
is_empty_fraction (c ∷ cs) = nat_eq c 46 && are_zeros cs

-- a number, where it is at most 2^64
abbrev pub up_to_limit : ℕ → Option ℕ
up_to_limit n = only (nat_le n (2 ^ 64)) n

-- the same, where the text begins with so many digits
abbrev pub magnitude_by : (digits : ℕ) → List ℕ → Option ℕ
magnitude_by digits text = if nat_lt 0 digits && (nat_le digits 20 && is_empty_fraction (drop digits text)) then up_to_limit (decimal_value 0 (take digits text)) else None

-- 1 to 20 digits, and then nothing or a point and zeros: a number of at most 2^64
abbrev pub magnitude : List ℕ → Option ℕ
magnitude text = magnitude_by (prefix_len is_ascii_digit text) text

-- a magnitude, which may stand behind a sign
abbrev pub whole_number : List ℕ → Option ℤ
whole_number [] = None
whole_number (c ∷ cs) =
    if nat_eq c 43 then option_map pos (magnitude cs) else
    if nat_eq c 45 then option_map (λ n. neg_ℤ (pos n)) (magnitude cs) else
    option_map pos (magnitude (c ∷ cs))

-- a sign, digits, a point, and digits of which some is not 0
abbrev pub is_open_fraction : List ℕ → Bool
is_open_fraction [] = false
is_open_fraction (c ∷ cs) = nat_eq c 46 && (list_all is_ascii_digit cs && not (list_all is_zero cs))

-- digits, a point, and digits of which some is not 0
abbrev pub is_fraction : List ℕ → Bool
is_fraction text = nat_lt 0 (prefix_len is_ascii_digit text) && is_open_fraction (drop (prefix_len is_ascii_digit text) text)

-- the same, which may stand behind a sign
abbrev pub is_decimal_fraction : List ℕ → Bool
is_decimal_fraction [] = false
is_decimal_fraction (c ∷ cs) = if nat_eq c 43 || nat_eq c 45 then is_fraction cs else is_fraction (c ∷ cs)

-- ---- flags

-- the truth value that a text spells
abbrev pub flag_value : List ℕ → Option Bool
flag_value text =
    if same text (codes "true") || same text (codes "1") then Some true else
    if same text (codes "false") || same text (codes "0") then Some false else None
