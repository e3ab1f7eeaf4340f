use Rattle.std.proofs.Common.{◌∙◌, ap, Ok, Err, sym}
use Rattle.eds_bits.specs.Reader.{bits_left}
use Rattle.eds_types.specs.Plain.{Plain}
use Rattle.eds_types.specs.Failing.{fault_here}
use Rattle.eds_unpack.proofs.TextsRead.{is_text, is_no_text}
use Rattle.eds_types.proofs.PlainValues.{plain_text}
use Rattle.eds_unpack.proofs.octets.read_string.Goals as goal

pub returns-in-Ok-clause-gives : goal.returns-in-Ok-clause-gives
returns-in-Ok-clause-gives c =
    let h = c.in-Ok.ensures.text in
    is_text c.args.form c.in-Ok.text (bits_left c.args.reader.now) h.piece (bits_left c.read_text.new.reader) h.spelled h.is ∙ ap (λ (v : Plain). Ok (v, bits_left c.read_text.new.reader)) (sym (plain_text c.in-Ok.text))

pub returns-in-Err-Named-clause-gives : goal.returns-in-Err-Named-clause-gives
returns-in-Err-Named-clause-gives c = is_no_text c.args.form (bits_left c.args.reader.now) c.in-Err-Named.fault (rw c.in-Err-Named.field-0-is at c.in-Err-Named.ensures.fault) ∙ ap (λ r. Err (fault_here r)) (sym c.reason_of.ensures.value)
