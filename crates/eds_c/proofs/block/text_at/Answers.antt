use Rattle.std.proofs.Common.{refl}
use Rattle.std.proofs.lemmas.Str.{is_utf8-from_IsUtf8}
use Rattle.eds_c.proofs.Utf8.{not-utf8}
use Rattle.eds_c.proofs.block.text_at.Goals as goal

pub returns-in_default-clause-is : goal.returns-in_default-clause-is
returns-in_default-clause-is c =
    rw (← c.in_ok-field.ensures.is, not-utf8 c.in_ok-field.field.octets.now c.in_default.ensures.cases.0) refl

pub returns-clause-is : goal.returns-clause-is
returns-clause-is c =
    rw (← c.in_ok-field.ensures.is, is_utf8-from_IsUtf8 c.in_ok-field.field.octets.now c.in-Ok.ensures.cases.1, c.in-Ok.ensures.cases.0) refl
