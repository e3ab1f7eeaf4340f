use Rattle.std.proofs.Common.{◌∙◌, ap, subst}
use Rattle.eds_bits.specs.Lists.{Has}
use Rattle.eds_types.specs.Plain.{plain}
use Rattle.eds_types.proofs.PlainValues.{plain_text}
use Rattle.eds_unpack.proofs.skim.is_text.Goals as goal

pub text_is-requires-clause-free : goal.text_is-requires-clause-free
text_is-requires-clause-free c = λ h. c.requires.free c.in-Text.wanted (ap plain c.in-Text.is ∙ plain_text c.in-Text.wanted) (subst (λ o. Has o c.args.stop) (c.as_bytes.ensures.value ∙ c.as_str.ensures) h)
