-- Texts that respell a frame.
use Rattle.std.proofs.Common.{◌≡◌, ℕ, List, [], ◌∷◌, ◌++◌, Bool, Option, Some, None, length, nat_le, sym, ap, subst, ◌∙◌}
use Rattle.std.specs.Char.{to_ascii_lowercase}
use Rattle.std.specs.Prelude.{Result, Ok, Err, IfOk, IsTrue, map}
use Rattle.hex.specs.Hex.{encode_lower}
use Rattle.eds_base.specs.Reading.{only, ◌>>=◌}
use Rattle.eds_bits.specs.Bits.{octets_of}
use Rattle.eds_types.specs.Rows.{Table}
use Rattle.eds_script.specs.Given.{frame_octets}
use Rattle.eds_script.specs.Frames.{Framed}
use Rattle.eds_script.specs.Laws.{FramesRead}
use Rattle.eds_replay.specs.Frames.{HoldValue, IsFrameText, Respells}
use Rattle.eds_replay.proofs.Heads.{one-behind}
use Rattle.eds_replay.proofs.Letters.{same-octets}

module _ (t : Table) (f : Framed) (text hex : List ℕ) (is : text ≡ (f.head ++ 32 ∷ []) ++ hex) where
  -- the hex behind the head is the one
  digits-are : (h : Respells t f text) → frame_octets hex ≡ Some h.octets
  digits-are h = ap frame_octets (one-behind f.head hex h.hex (sym is ∙ h.line)) ∙ h.digits

  pub never-respelled : frame_octets hex ≡ None → Respells t f text → ⊥
  never-respelled none h = let wrong : None ≡ Some h.octets = sym none ∙ digits-are h in cc

  pub value-there : (octets : List ℕ) → frame_octets hex ≡ Some octets → Respells t f text → HoldValue t f.id.0 f.value octets
  value-there octets some h = let same : octets ≡ h.octets = let w : Some octets ≡ Some h.octets = sym some ∙ digits-are h in cc in subst (λ os. HoldValue t f.id.0 f.value os) (sym same) h.value

  pub only-respelled : {E : Type 0} (r : Result Bool E) (octets : List ℕ) → frame_octets hex ≡ Some octets → IfOk r (λ b. HoldValue t f.id.0 f.value octets → IsTrue b) → IfOk r (λ b. Respells t f text → IsTrue b)
  only-respelled (Ok b) octets some only = λ h. only (value-there octets some h)
  only-respelled (Err e) octets some only = tt

  pub holds-respelled : {E : Type 0} (r : Result Bool E) (octets : List ℕ) → frame_octets hex ≡ Some octets → IfOk r (λ b. IsTrue b → HoldValue t f.id.0 f.value octets) → IfOk r (λ b. IsTrue b → Respells t f text)
  holds-respelled (Ok b) octets some holds = λ h. record { hex = hex; line = is; octets = octets; digits = some; value = holds h }
  holds-respelled (Err e) octets some holds = tt

-- ---- in other letters

frame-octets : (hex other : List ℕ) → map to_ascii_lowercase hex ≡ map to_ascii_lowercase other → frame_octets hex ≡ frame_octets other
unfolding frame_octets
frame-octets hex other same = ap (λ (o : Option (List ℕ)). o >>= λ octets. only (nat_le (length octets) 65536) octets) (same-octets hex other same)

-- hex that is that of the frame in other letters spells its value
pub other-letters : (t : Table) (f : Framed) (line text hex told : List ℕ) → FramesRead → (is : IsFrameText t f line) → told ≡ encode_lower (octets_of is.bits)
    → map to_ascii_lowercase hex ≡ map to_ascii_lowercase told → text ≡ (f.head ++ 32 ∷ []) ++ hex → Respells t f text
other-letters t f line text hex told read is shown same behind =
    let there = read is.bits is.few in
    record {
      hex = hex;
      line = behind;
      octets = there.0;
      digits = frame-octets hex told same ∙ ap frame_octets shown ∙ there.1;
      value = record { spelling = is.bits; spells = is.spells; holds = there.2 };
    }
