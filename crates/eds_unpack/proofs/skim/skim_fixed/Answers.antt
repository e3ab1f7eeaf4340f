use Rattle.std.proofs.Common.{◌∙◌, ap, cond, Ok, Err}
use Rattle.eds_base.specs.declared.fault.Reason.TheVariants.{FixedDiffers}
use Rattle.eds_bits.specs.Reader.{bits_left}
use Rattle.eds_types.specs.Failing.{fault_here}
use Rattle.eds_types.specs.Plain.{plain}
use Rattle.eds_types.specs.Reading.{judged, read_kind}
use Rattle.eds_unpack.proofs.FixedTexts.{as_expected}
use Rattle.eds_unpack.proofs.skim.skim_fixed.Goals as goal

pub returns-then-branch-clause-read : goal.returns-then-branch-clause-read
returns-then-branch-clause-read c = λ t inner id.
    (let h = c.in_ok-skim_as.ensures.read t inner id in
    as_expected (plain c.args.fixed.now) h.0 FixedDiffers (bits_left c.args.reader.now) (bits_left c.skim_as.new.reader) (read_kind t inner id c.args.row.now.kind (bits_left c.args.reader.now)) c.in_ok-skim_as.field-0 h.1 h.2
    ∙ ap (λ x. judged (bits_left c.skim_as.new.reader) (cond x (Ok tt) (Err (fault_here FixedDiffers)))) c.if-branch.true)

pub returns-else-branch-clause-fault : goal.returns-else-branch-clause-fault
returns-else-branch-clause-fault c = λ t inner id.
    (let h = c.in_ok-skim_as.ensures.read t inner id in
    as_expected (plain c.args.fixed.now) h.0 FixedDiffers (bits_left c.args.reader.now) (bits_left c.skim_as.new.reader) (read_kind t inner id c.args.row.now.kind (bits_left c.args.reader.now)) c.in_ok-skim_as.field-0 h.1 h.2
    ∙ ap (λ x. judged (bits_left c.skim_as.new.reader) (cond x (Ok tt) (Err (fault_here FixedDiffers)))) c.if-branch.false)
