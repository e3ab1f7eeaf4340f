use Rattle.std.proofs.Common.{◌+◌, ap, subst, ◌∙◌}
use Rattle.eds_bits.specs.Scalars.{IsText}
use Rattle.eds_bits.specs.Style.{canonical}
use Rattle.eds_bits.specs.Texts.{text_bits}
use Rattle.eds_codec.specs.Writing.{Written, TextRefused}
use Rattle.eds_types.specs.Plain.{plain}
use Rattle.eds_types.proofs.PlainValues.{plain_text}
use Rattle.eds_pack.proofs.Putting.{text_put, not_refused}
use Rattle.eds_pack.proofs.leaf.write_string.Goals as goal

pub unreachable-requires : goal.unreachable-requires
unreachable-requires c =
    not_refused c.args.form (plain c.args.value.now) c.in-Text.text c.args.at c.args.room.now c.in-Err.field-0 (ap plain c.in-Text.is ∙ plain_text c.in-Text.text) c.requires
    (subst (λ s. TextRefused c.args.form s c.args.at c.args.room.now c.in-Err.field-0) c.as_str.ensures c.in-Err.ensures.refused)

pub returns : goal.returns
returns c =
    text_put c.args.form c.in-Text.text (plain c.args.value.now) c.in-Ok.size c.args.at _ c.args.room.now c.write_text.new.room (ap plain c.in-Text.is ∙ plain_text c.in-Text.text)
    (c.in-Ok.ensures.size ∙ ap (text_bits c.args.form) c.as_str.ensures) (subst (λ s. Written (IsText canonical c.args.form s) c.args.at c.args.room.now c.write_text.new.room) c.as_str.ensures c.in-Ok.ensures.written)
    (ap (λ n. c.args.at + n) c.from.ensures)
