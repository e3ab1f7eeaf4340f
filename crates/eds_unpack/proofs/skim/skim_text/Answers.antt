use Rattle.std.proofs.Common.{◌∙◌, ap, Err, sym}
use Rattle.eds_bits.specs.Reader.{bits_left}
use Rattle.eds_types.specs.Failing.{fault_here}
use Rattle.eds_unpack.proofs.TextsRead.{is_text, is_no_text}
use Rattle.eds_unpack.proofs.skim.skim_text.Goals as goal

pub returns-in-Ok-clause-read : goal.returns-in-Ok-clause-read
returns-in-Ok-clause-read c =
    let h = c.in-Ok.ensures.text in
    (h.0, is_text c.args.form h.0 (bits_left c.args.reader.now) h.1.piece (bits_left c.skip_text.new.reader) h.1.spelled h.1.is)

pub returns-in-Err-clause-fault : goal.returns-in-Err-clause-fault
returns-in-Err-clause-fault c = is_no_text c.args.form (bits_left c.args.reader.now) c.in-Err.fault c.in-Err.ensures.fault ∙ ap (λ r. Err (fault_here r)) (sym c.reason_of.ensures.value)
