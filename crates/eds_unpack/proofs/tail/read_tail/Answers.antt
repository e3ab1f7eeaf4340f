use Rattle.std.proofs.Common.{◌∙◌, ◌∷◌, ap, sym, subst, Ok, Err}
use Rattle.eds_base.specs.declared.fault.Step.TheVariants as step
use Rattle.eds_base.specs.declared.fault.Reason.TheVariants.{LengthDiffers}
use Rattle.eds_bits.specs.Reader.{bits_left}
use Rattle.eds_types.specs.Failing.{fault_at}
use Rattle.eds_types.specs.Plain.{plain}
use Rattle.eds_types.specs.Reading.{read_tail as tail_read}
use Rattle.eds_unpack.specs.Courses.{progress_of}
use Rattle.eds_unpack.specs.Entries.{placed}
use Rattle.eds_unpack.specs.Readers.{Stops, stop_at}
use Rattle.eds_unpack.proofs.OnReads.{octets_move}
use Rattle.eds_unpack.proofs.Reaches.{value_kept}
use Rattle.eds_unpack.proofs.Steps.{tail_reads, tail_stops, under_way}
use Rattle.eds_unpack.proofs.tail.read_tail.Goals as goal

pub returns-in_ok-keep_field-in-Ok-clause-gives : goal.returns-in_ok-keep_field-in-Ok-clause-gives
returns-in_ok-keep_field-in-Ok-clause-gives c = λ p.
    (let s = progress_of c.args.reached.now (bits_left c.args.reader.now) in
    let on = octets_move c.in-Some.octets (bits_left c.args.reader.now) (plain c.in-Ok.value) (bits_left c.read_octets.new.reader) c.in-Ok.ensures.gives in
    ap (λ o. tail_read c.args.table.now o s (placed c.args.container.0 c.args.place p) (bits_left c.args.reader.now)) (sym (c.in-Some.ensures.value c.args.place p))
    ∙ tail_reads c.args.table.now c.in-Some.octets s (placed c.args.container.0 c.args.place p) (bits_left c.args.reader.now) (plain c.in-Ok.value) (bits_left c.read_octets.new.reader) c.in-Ok.ensures.gives
    ∙ ap (λ u. Ok (u, bits_left c.read_octets.new.reader)) (value_kept c.args.reached.now (bits_left c.args.reader.now) (bits_left c.read_octets.new.reader) c.requires.begun.begun on c.keep_field.new.reached (placed c.args.container.0 c.args.place p) (plain c.in-Ok.value) c.in_ok-keep_field-in-Ok.ensures.fields c.keep_field.ensures.octets c.keep_field.ensures.start))

pub returns-in_ok-keep_field-in-Ok-clause-begun : goal.returns-in_ok-keep_field-in-Ok-clause-begun
returns-in_ok-keep_field-in-Ok-clause-begun c =
    under_way c.args.reached.now c.keep_field.new.reached (bits_left c.args.reader.now) (bits_left c.read_octets.new.reader) c.requires.begun c.in_ok-keep_field-in-Ok.ensures.held (octets_move c.in-Some.octets (bits_left c.args.reader.now) (plain c.in-Ok.value) (bits_left c.read_octets.new.reader) c.in-Ok.ensures.gives) c.keep_field.ensures.octets c.keep_field.ensures.start

pub returns-in-Err-clause-gives : goal.returns-in-Err-clause-gives
returns-in-Err-clause-gives c = λ p.
    (let s = progress_of c.args.reached.now (bits_left c.args.reader.now) in
    subst (λ o. Stops (stop_at c.put_first.new.self c.in-Err.stop) (tail_read c.args.table.now o s (placed c.args.container.0 c.args.place p) (bits_left c.args.reader.now))) (c.in-Some.ensures.value c.args.place p)
    (tail_stops c.args.table.now c.in-Some.octets s (placed c.args.container.0 c.args.place p) (bits_left c.args.reader.now) c.in-Err.stop c.put_first.new.self (c.put_first.ensures ∙ ap (λ old. step.Part c.args.container c.args.place ∷ old) c.requires.root) c.in-Err.ensures.gives))

pub returns-in-None-clause-gives : goal.returns-in-None-clause-gives
returns-in-None-clause-gives c = λ p.
    (let s = progress_of c.args.reached.now (bits_left c.args.reader.now) in
    ap (λ o. tail_read c.args.table.now o s (placed c.args.container.0 c.args.place p) (bits_left c.args.reader.now)) (sym (c.in-None.ensures.value c.args.place p))
    ∙ ap (λ q. Err (fault_at LengthDiffers q)) (sym c.tell_length.ensures.value))
