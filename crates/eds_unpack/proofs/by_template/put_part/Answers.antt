use Rattle.std.proofs.Common.{sym, subst}
use Rattle.eds_bits.specs.Reader.{bits_left}
use Rattle.eds_unpack.specs.declared.template.TemplatePart.{TemplatePart}
use Rattle.eds_unpack.specs.Templates.{PartSays}
use Rattle.eds_unpack.proofs.Templates.{on_weaker}
use Rattle.eds_unpack.proofs.by_template.put_part.Goals as goal

pub returns-in-Text-clause-says : goal.returns-in-Text-clause-says
returns-in-Text-clause-says c =
    let t = c.args.table.now in
    let b = bits_left c.args.reader.now in
    on_weaker c.put_text.result (λ h. (h.0, h.1, subst (λ (x : TemplatePart). PartSays t b c.args.all x h.0) (sym c.in-Text.is) h.2)) (c.put_text.ensures.says b c.requires.octets)
