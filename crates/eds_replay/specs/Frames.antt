-- The frames that are recorded.
use Rattle.std.specs.Prelude.{◌≡◌, ◌≤◌, ℕ, List, ◌++◌, codes, length, Some}
use Rattle.hex.specs.Hex.{encode_lower}
use Rattle.eds_bits.specs.Bits.{Bits, octets_of}
use Rattle.eds_types.specs.Packing.{most_bits}
use Rattle.eds_types.specs.Plain.{Plain}
use Rattle.eds_types.specs.Rows.{Table}
use Rattle.eds_types.specs.Spelling.{Spells}
use Rattle.eds_script.specs.Frames.{Framed}
use Rattle.eds_script.specs.Given.{frame_octets}
use Rattle.eds_script.specs.Laws.{Hold}

-- octets begin with a spelling of the value, and at most 7 bits follow it
pub record HoldValue (t : Table) (id : ℕ) (value : Plain) (octets : List ℕ) : Type 0 where
  pub spelling : Bits
  pub spells : Spells t id value spelling
  pub holds : Hold octets spelling

-- the text is that of a frame with the same head, whose octets, at most 65,536, spell the same value
pub record Respells (t : Table) (f : Framed) (text : List ℕ) : Type 0 where
  pub hex : List ℕ
  pub line : text ≡ f.head ++ codes " " ++ hex
  pub octets : List ℕ
  pub digits : frame_octets hex ≡ Some octets
  pub value : HoldValue t f.id.0 f.value octets

-- the text is that of the frame: its head, a space, and the hex of bits that spell its value, which aren't too many
pub record IsFrameText (t : Table) (f : Framed) (text : List ℕ) : Type 0 where
  pub bits : Bits
  pub spells : Spells t f.id.0 f.value bits
  pub few : length bits ≤ most_bits
  pub line : text ≡ f.head ++ codes " " ++ encode_lower (octets_of bits)
