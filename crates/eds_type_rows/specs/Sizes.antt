-- Which sizes in bits a scalar may have.
use Rattle.std.specs.Prelude.{◌≡◌, ℕ, ◌%◌, ◌≤◌, ◌==◌, ◌&&◌, nat_le, Bool, true}
use Rattle.std.proofs.Common.{leb-true}
use Rattle.std.proofs.lemmas.Bool.{and_parts, eqb-true}
use Rattle.eds_bits.specs.declared.forms.Encoding.{Encoding}
use Rattle.eds_bits.specs.declared.forms.ByteOrder.{ByteOrder}
use Rattle.eds_bits.specs.Encodings.{IsForm, digit_bits, order_bits}

-- a scalar has from 1 to 64 bits
abbrev pub is_size : ℕ → Bool
is_size bits = nat_le 1 bits && nat_le bits 64

-- a size that a scalar may have is at least 1 bit
pub some_bits : (bits : ℕ) → is_size bits ≡ true → 1 ≤ bits
some_bits bits e = leb-true 1 bits (and_parts (nat_le 1 bits) (nat_le bits 64) e).0

-- a size that a scalar may have is at most 64 bits
pub few_bits : (bits : ℕ) → is_size bits ≡ true → bits ≤ 64
few_bits bits e = leb-true bits 64 (and_parts (nat_le 1 bits) (nat_le bits 64) e).1

-- the size has whole digits of the encoding, and in little-endian order whole octets
abbrev pub are_whole : ℕ → Encoding → ByteOrder → Bool
are_whole bits encoding order = (bits % digit_bits encoding == 0) && (bits % order_bits order == 0)

-- a size, an encoding and an order that go together
abbrev pub go_together : ℕ → Encoding → ByteOrder → Bool
go_together bits encoding order = is_size bits && are_whole bits encoding order

-- a size, an encoding and an order that go together make a form
pub is_form : (bits : ℕ) (encoding : Encoding) (order : ByteOrder) → go_together bits encoding order ≡ true → IsForm bits encoding order
is_form bits encoding order e =
    let size = and_parts (is_size bits) (are_whole bits encoding order) e in
    let whole = and_parts (bits % digit_bits encoding == 0) (bits % order_bits order == 0) size.1 in
    record { some = some_bits bits size.0; few = few_bits bits size.0; whole_digits = eqb-true _ 0 whole.0; whole_octets = eqb-true _ 0 whole.1 }
