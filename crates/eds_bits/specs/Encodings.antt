-- Encodings of whole numbers: their sizes, their numbers, and what a pattern of bits stands for.
use Rattle.std.specs.Prelude.{◌≡◌, ℕ, ◌+◌, ◌-◌, ◌*◌, ◌/◌, ◌%◌, ◌^◌, ◌≤◌, ℤ, pos, ◌-ℤ◌, neg_ℤ, List, [], ◌∷◌, Bool, false, length, drop, map, reverse, Option, Some, None, nat_le, if◌then◌else◌}
use Rattle.std.specs.List.{flat_map, list_all}
use Rattle.eds_bits.specs.declared.forms.Encoding.{Encoding}
use Rattle.eds_bits.specs.declared.forms.Encoding.TheVariants.{Unsigned, TwosComplement, SignMagnitude, OnesComplement, PackedBcd, Bcd}
use Rattle.eds_bits.specs.declared.forms.ByteOrder.{ByteOrder}
use Rattle.eds_bits.specs.declared.forms.ByteOrder.TheVariants.{Big, Little}
use Rattle.eds_bits.specs.Bits.{Bits, unsigned_of, pieces}

-- how many bits a digit has: a number has whole digits
abbrev pub digit_bits : Encoding → ℕ
digit_bits Unsigned = 1
digit_bits TwosComplement = 1
digit_bits SignMagnitude = 1
digit_bits OnesComplement = 1
digit_bits PackedBcd = 4
digit_bits Bcd = 8

-- how many bits change places together: a number has whole ones
abbrev pub order_bits : ByteOrder → ℕ
order_bits Big = 1
order_bits Little = 8

-- a size, an encoding and an order that go together
pub record IsForm (bits : ℕ) (encoding : Encoding) (order : ByteOrder) : Type 0 where
  pub some : 1 ≤ bits
  pub few : bits ≤ 64
  pub whole_digits : bits % digit_bits encoding ≡ 0
  pub whole_octets : bits % order_bits order ≡ 0

-- ---- the numbers of n bits

-- the least number of n bits
abbrev pub least_by : Encoding → ℕ → ℤ
least_by Unsigned n = pos 0
least_by TwosComplement n = neg_ℤ (pos (2 ^ (n - 1)))
least_by SignMagnitude n = neg_ℤ (pos (2 ^ (n - 1) - 1))
least_by OnesComplement n = neg_ℤ (pos (2 ^ (n - 1) - 1))
least_by PackedBcd n = pos 0
least_by Bcd n = pos 0

-- the greatest number of n bits
abbrev pub greatest_by : Encoding → ℕ → ℤ
greatest_by Unsigned n = pos (2 ^ n - 1)
greatest_by TwosComplement n = pos (2 ^ (n - 1) - 1)
greatest_by SignMagnitude n = pos (2 ^ (n - 1) - 1)
greatest_by OnesComplement n = pos (2 ^ (n - 1) - 1)
greatest_by PackedBcd n = pos (10 ^ (n / 4) - 1)
greatest_by Bcd n = pos (10 ^ (n / 8) - 1)

-- ---- patterns

-- the sign bit
abbrev pub first_bit : Bits → Bool
first_bit [] = false
first_bit (b ∷ bs) = b

-- the unsigned number, less a where the first bit is 1
abbrev pub less_where_first : ℕ → Bits → ℤ
less_where_first a bs = pos (unsigned_of bs) -ℤ pos (if first_bit bs then a else 0)

-- the unsigned number of the bits after the first, negative where the first is 1
abbrev pub signed_magnitude : Bits → ℤ
signed_magnitude bs = if first_bit bs then neg_ℤ (pos (unsigned_of (drop 1 bs))) else pos (unsigned_of (drop 1 bs))

-- the decimal digits, the first first, of an encoding that has them
abbrev pub digits_by : Encoding → Bits → List ℕ
digits_by Unsigned bs = []
digits_by TwosComplement bs = []
digits_by SignMagnitude bs = []
digits_by OnesComplement bs = []
digits_by PackedBcd bs = map unsigned_of (pieces 4 bs)
digits_by Bcd bs = map unsigned_of (pieces 8 bs)

-- the value of decimal digits: their sum, each times its power of ten
abbrev pub decimal_value : List ℕ → ℕ
decimal_value [] = 0
decimal_value (d ∷ ds) = d * 10 ^ length ds + decimal_value ds

-- that value, where no digit is above 9
abbrev pub decimal_of : List ℕ → Option ℤ
decimal_of ds = if list_all (λ d. nat_le d 9) ds then Some (pos (decimal_value ds)) else None

-- the number of a pattern that begins with the octet that counts most
abbrev pub number_by : Encoding → Bits → Option ℤ
number_by Unsigned bs = Some (pos (unsigned_of bs))
number_by TwosComplement bs = Some (less_where_first (2 ^ length bs) bs)
number_by SignMagnitude bs = Some (signed_magnitude bs)
number_by OnesComplement bs = Some (less_where_first (2 ^ length bs - 1) bs)
number_by PackedBcd bs = decimal_of (digits_by PackedBcd bs)
number_by Bcd bs = decimal_of (digits_by Bcd bs)

-- the bits with the octet that counts most first
abbrev pub ordered : ByteOrder → Bits → Bits
ordered Big bs = bs
ordered Little bs = flat_map (λ octet. octet) (reverse (pieces 8 bs))
