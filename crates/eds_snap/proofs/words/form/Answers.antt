use Rattle.std.proofs.Common.{refl}
use Rattle.std.proofs.lemmas.Str.{is_utf8-from_IsUtf8}
use Rattle.eds_script.proofs.Utf8.{not-utf8}
use Rattle.eds_snap.proofs.words.form.Goals as goal

pub returns-in_default : goal.returns-in_default
returns-in_default c = rw (not-utf8 c.args.text.now c.in_default.ensures.cases.0) refl

pub returns-in-Some : goal.returns-in-Some
returns-in-Some c =
    rw (is_utf8-from_IsUtf8 c.args.text.now c.in-Ok.ensures.cases.1, ← c.in-Ok.ensures.cases.0, ← c.in-Some.ensures) refl

pub returns-in-None : goal.returns-in-None
returns-in-None c =
    rw (is_utf8-from_IsUtf8 c.args.text.now c.in-Ok.ensures.cases.1, ← c.in-Ok.ensures.cases.0, ← c.in-None.ensures) refl
