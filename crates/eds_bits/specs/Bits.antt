-- Lists of bits, the most significant first, and the octets that they fill.
use Rattle.std.specs.Prelude.{ℕ, zero, suc, ◌+◌, ◌-◌, ◌*◌, ◌/◌, ◌%◌, ◌^◌, List, [], ◌∷◌, ◌++◌, Bool, true, false, ◌==◌, length, drop, take, replicate, map}
use Rattle.std.specs.List.{flat_map}

-- bits, the most significant first
abbrev pub Bits : Type 0
Bits = List Bool

-- a bit as a number
abbrev pub bit_value : Bool → ℕ
bit_value true = 1
bit_value false = 0

-- the n lowest bits of a number, from the one that counts 2^(n-1) down to the one that counts 1
unfoldable pub low_bits : ℕ → ℕ → Bits
low_bits zero x = []
low_bits (suc n) x = (x / 2 ^ n % 2 == 1) ∷ low_bits n x

-- the bits of octets, eight of each
abbrev pub bits_of : List ℕ → Bits
bits_of octets = flat_map (low_bits 8) octets

-- an unsigned number: the sum of its bits times their powers of two
abbrev pub unsigned_of : Bits → ℕ
unsigned_of [] = 0
unsigned_of (b ∷ bs) = bit_value b * 2 ^ length bs + unsigned_of bs

-- the first n pieces of k bits each, one after the other
unfoldable pub first_pieces : ℕ → ℕ → Bits → List Bits
first_pieces zero k bs = []
first_pieces (suc n) k bs = take k bs ∷ first_pieces n k (drop k bs)

-- the whole list in pieces of k bits, the last with what is left
abbrev pub pieces : ℕ → Bits → List Bits
pieces k bs = first_pieces ((length bs + (k - 1)) / k) k bs

-- how many octets hold so many bits
abbrev pub octets_for : ℕ → ℕ
octets_for n = (n + 7) / 8

-- how many octets hold the bits
abbrev pub oct : Bits → ℕ
oct bs = octets_for (length bs)

-- the bits, with zeros behind them up to whole octets
abbrev pub filled : Bits → Bits
filled bs = bs ++ replicate (8 * oct bs - length bs) false

-- the octets of bits, the last filled with zeros
abbrev pub octets_of : Bits → List ℕ
octets_of bs = map unsigned_of (pieces 8 (filled bs))

-- the bits with a piece in place of as many from bit `at` on
abbrev pub with_piece : ℕ → Bits → Bits → Bits
with_piece at piece bs = take at bs ++ (piece ++ drop (at + length piece) bs)
