-- Where reading a text fails, which texts a form has, and what a binary is.
use Rattle.std.specs.Prelude.{◌≡◌, ℕ, ◌+◌, ◌*◌, ◌/◌, ◌<◌, ◌≤◌, List, Bool, true, false, length, take}
use Rattle.eds_bits.specs.declared.forms.TextForm.{TextForm}
use Rattle.eds_bits.specs.Lists.{Has}
use Rattle.eds_bits.specs.Bits.{Bits, octets_of}
use Rattle.eds_bits.specs.Scalars.{before_stop, IsCoded}

-- the first n octets of the bits
abbrev pub front_octets : ℕ → Bits → List ℕ
front_octets n bs = octets_of (take (8 * n) bs)

-- the whole octets at the front of the bits
abbrev pub whole : Bits → List ℕ
whole bs = front_octets (length bs / 8) bs

-- there are too few bits for the text
abbrev pub ShortBy : Bool → TextForm → Bits → Type 0
ShortBy true form bs = length bs < 8 * form.length
ShortBy false form bs = (Has (whole bs) form.stop → ⊥) × (length (whole bs) < form.length + 1)

-- the bits end before the text does: a fixed text has all its octets; another one may go on until its termination octet
-- has come, or one octet more than it has at most
abbrev pub IsShortText : TextForm → Bits → Type 0
IsShortText form bs = ShortBy form.fixed form bs

-- no termination octet stands where one must
abbrev pub UnterminatedBy : Bool → TextForm → Bits → Type 0
UnterminatedBy true form bs = ⊥
UnterminatedBy false form bs = (form.length + 1 ≤ length (whole bs)) × (Has (take (form.length + 1) (whole bs)) form.stop → ⊥)

-- a text that is not fixed lacks its termination octet
abbrev pub IsUnterminated : TextForm → Bits → Type 0
IsUnterminated form bs = UnterminatedBy form.fixed form bs

-- the octets before the end aren't of the encoding
abbrev pub BadBy : Bool → TextForm → Bits → Type 0
BadBy true form bs = (8 * form.length ≤ length bs) × (IsCoded form.ascii (before_stop form.stop (front_octets form.length bs)) → ⊥)
BadBy false form bs = Has (take (form.length + 1) (whole bs)) form.stop × (IsCoded form.ascii (before_stop form.stop (whole bs)) → ⊥)

-- the octets of the text are not of its encoding
abbrev pub IsBadText : TextForm → Bits → Type 0
IsBadText form bs = BadBy form.fixed form bs

-- the form has the text, if it is not too long: it is of the encoding, and the termination octet does not stand in it
pub record IsTextOf (form : TextForm) (text : List ℕ) : Type 0 where
  pub coded : IsCoded form.ascii text
  pub free : Has text form.stop → ⊥

-- how many octets a text of so many has with what fills it up or ends it
abbrev pub spelled_size : Bool → ℕ → ℕ → ℕ
spelled_size true most size = most
spelled_size false most size = size + 1

-- how many bits spell a text
abbrev pub text_bits : TextForm → List ℕ → ℕ
text_bits form text = 8 * spelled_size form.fixed form.length (length text)

-- n bits, and the octets that they fill
pub record IsBinary (n : ℕ) (octets : List ℕ) (bs : Bits) : Type 0 where
  pub size : length bs ≡ n
  pub value : octets ≡ octets_of bs
