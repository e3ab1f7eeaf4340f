use Rattle.std.proofs.Common.{ℕ, List, ◌∙◌, ap, arith, string_bytes}
use Rattle.eds_bits.specs.Bits.{bits_of}
use Rattle.eds_bits.proofs.OctetLaws.{length-bits_of}
use Rattle.eds_types.specs.Plain.{plain}
use Rattle.eds_cmd.specs.Reports.{bits_report}
use Rattle.eds_cmd.specs.Target.{type_in}
use Rattle.eds_cmd.proofs.Unpacking.{trailing_by, unpacked_by}
use Rattle.eds_cmd.proofs.unpack.unpacked_frame.Goals as goal

pub overflow_sub-left : goal.overflow_sub-left
overflow_sub-left c = omega (arith, c.in_ok-value.ensures.size, length-bits_of c.args.frame.now)

pub returns-then-left-gt-FILLING_BITS : goal.returns-then-left-gt-FILLING_BITS
returns-then-left-gt-FILLING_BITS c =
    trailing_by (type_in c.args.target.now) (plain c.in_ok-value.value) c.in_ok-value.size (bits_of c.args.frame.now) c.trailing.result c.in_ok-frame_fault.field-0 (omega (arith, c.if-left-gt-FILLING_BITS.true, c.in_ok-value.ensures.size, length-bits_of c.args.frame.now)) c.in_ok-value.ensures.value c.trailing.ensures.reason c.trailing.ensures.path c.in_ok-frame_fault.ensures

pub returns : goal.returns
returns c =
    let text = c.in_ok-bits_report.ensures ∙ ap (λ (line : List ℕ). bits_report line c.in_ok-value.size) (c.as_str.ensures.value ∙ c.in_ok-text.ensures) in
    unpacked_by (type_in c.args.target.now) (plain c.in_ok-value.value) c.in_ok-value.size (bits_of c.args.frame.now) (string_bytes c.in_ok-bits_report.field-0) c.in_ok-value.ensures.size (omega (arith, c.if-left-gt-FILLING_BITS.false, c.in_ok-value.ensures.size, length-bits_of c.args.frame.now)) c.in_ok-value.ensures.value text
