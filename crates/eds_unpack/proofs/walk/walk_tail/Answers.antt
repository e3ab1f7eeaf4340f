use Rattle.std.proofs.Common.{◌*◌, ◌∷◌, length, Err, sym, ap, ◌∙◌}
use Rattle.eds_base.specs.declared.fault.Reason.TheVariants.{LengthDiffers}
use Rattle.eds_base.specs.declared.fault.Step.TheVariants as step
use Rattle.eds_bits.specs.Reader.{bits_left}
use Rattle.eds_types.specs.Failing.{fault_at}
use Rattle.eds_types.specs.Plain.{bits}
use Rattle.eds_types.specs.Reading.{read_tail}
use Rattle.eds_unpack.specs.Entries.{placed}
use Rattle.eds_unpack.proofs.OnReads.{octets_move}
use Rattle.eds_unpack.proofs.Steps.{tail_reads}
use Rattle.eds_unpack.proofs.WalkParts.{tail_fails}
use Rattle.eds_unpack.proofs.walk.walk_tail.Goals as goal

pub returns-in-Ok-clause-passed : goal.returns-in-Ok-clause-passed
returns-in-Ok-clause-passed c p s before octets =
    let o = c.in-Ok.ensures.read in (
      8 * c.in-Some.octets,
      o.0,
      ap (λ z. read_tail c.args.walk.now.table.now z s (placed c.args.container.0 c.args.place p) (bits_left c.args.reader.now)) (sym (c.in-Some.ensures.value s c.args.place p octets (ap length before ∙ sym c.bits_between-before.ensures)))
          ∙ tail_reads c.args.walk.now.table.now c.in-Some.octets s (placed c.args.container.0 c.args.place p) (bits_left c.args.reader.now) (bits (8 * c.in-Some.octets) o.0) (bits_left c.skim_octets.new.reader) o.1,
    )

pub returns-in-Ok-clause-on : goal.returns-in-Ok-clause-on
returns-in-Ok-clause-on c = octets_move c.in-Some.octets (bits_left c.args.reader.now) (bits (8 * c.in-Some.octets) (c.in-Ok.ensures.read).0) (bits_left c.skim_octets.new.reader) (c.in-Ok.ensures.read).1

pub returns-in-Err-clause-fault : goal.returns-in-Err-clause-fault
returns-in-Err-clause-fault c p s before octets =
    ap (λ z. read_tail c.args.walk.now.table.now z s (placed c.args.container.0 c.args.place p) (bits_left c.args.reader.now)) (sym (c.in-Some.ensures.value s c.args.place p octets (ap length before ∙ sym c.bits_between-before.ensures)))
    ∙ tail_fails c.args.walk.now.table.now c.in-Some.octets s (placed c.args.container.0 c.args.place p) (bits_left c.args.reader.now) c.in-Err.reason c.in-Err.ensures.fault
    ∙ ap (λ q. Err (fault_at c.in-Err.reason q)) (sym (c.put_first.ensures ∙ ap (λ old. step.Part c.args.container c.args.place ∷ old) c.requires.root))

pub returns-in-None-clause-fault : goal.returns-in-None-clause-fault
returns-in-None-clause-fault c p s before octets =
    ap (λ z. read_tail c.args.walk.now.table.now z s (placed c.args.container.0 c.args.place p) (bits_left c.args.reader.now)) (sym (c.in-None.ensures.value s c.args.place p octets (ap length before ∙ sym c.bits_between-before.ensures)))
    ∙ ap (λ q. Err (fault_at LengthDiffers q)) (sym c.tell_length.ensures.value)
