-- What a reader finds at the front of its bits.
use Rattle.std.specs.Prelude.{◌≡◌, ◌++◌, ⊤}
use Rattle.eds_base.specs.declared.fail.Fail.{Fail}
use Rattle.eds_base.specs.declared.fail.Fail.TheVariants.{Named, Memory}
use Rattle.eds_bits.specs.declared.forms.TextForm.{TextForm}
use Rattle.eds_bits.specs.Bits.{Bits}
use Rattle.eds_bits.specs.Texts.{IsShortText, IsBadText, IsUnterminated}
use Rattle.eds_codec.specs.declared.text.TextFault.{TextFault}
use Rattle.eds_codec.specs.declared.text.TextFault.TheVariants.{Short, BadText, Unterminated}

-- a piece of the kind P stands at the front of the bits, before the rest
pub record BeginsWith (P : Bits → Type 0) (bs rest : Bits) : Type 0 where
  pub piece : Bits
  pub spelled : P piece
  pub is : bs ≡ piece ++ rest

-- reading a text fails for this reason
abbrev pub TextFails : TextForm → Bits → TextFault → Type 0
TextFails form bs Short = IsShortText form bs
TextFails form bs BadText = IsBadText form bs
TextFails form bs Unterminated = IsUnterminated form bs

-- P holds of the cause that is named, if one is
abbrev pub IfNamed : {E : Type 0} → (E → Type 0) → Fail E → Type 0
IfNamed P (Named e) = P e
IfNamed P Memory = ⊤
