-- What stands in a room after a value was written, and why a text is not written.
use Rattle.std.specs.Prelude.{◌≡◌, ℕ, ◌+◌, ◌*◌, ◌<◌, ◌≤◌, List, length}
use Rattle.eds_bits.specs.declared.forms.TextForm.{TextForm}
use Rattle.eds_bits.specs.Bits.{Bits, bits_of, with_piece}
use Rattle.eds_bits.specs.Texts.{IsTextOf, text_bits}
use Rattle.eds_codec.specs.declared.text.TextFail.{TextFail}
use Rattle.eds_codec.specs.declared.text.TextFail.TheVariants.{BadText, TooLong, Room}

-- a piece of the kind P stands from bit `at` on, and all other bits are as before
pub record Written (P : Bits → Type 0) (at : ℕ) (old new : List ℕ) : Type 0 where
  pub piece : Bits
  pub spelled : P piece
  pub placed : bits_of new ≡ with_piece at piece (bits_of old)

-- the text may be written, if it is not too long and has room
abbrev pub Fits : TextForm → List ℕ → Type 0
Fits form text = IsTextOf form text × (length text ≤ form.length)

-- writing a text from bit `at` of a room on fails for this reason: the first that applies
abbrev pub TextRefused : TextForm → List ℕ → ℕ → List ℕ → TextFail → Type 0
TextRefused form text at room BadText = IsTextOf form text → ⊥
TextRefused form text at room TooLong = IsTextOf form text × (form.length < length text)
TextRefused form text at room Room = Fits form text × (8 * length room < at + text_bits form text)
