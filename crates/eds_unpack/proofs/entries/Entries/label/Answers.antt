use Rattle.std.proofs.Common.{◌≡◌, Some, refl, sym}
use Rattle.std.proofs.lemmas.Option.{slice_get_read}
use Rattle.std.specs.Prelude.{slice_get}
use Rattle.eds_bits.specs.Reader.{bits_left}
use Rattle.eds_types.specs.Plain.{label}
use Rattle.eds_unpack.proofs.EntriesSay.{entry_says}
use Rattle.eds_unpack.proofs.Meanings.{some_weaker}
use Rattle.eds_unpack.proofs.entries.Entries.label.Goals as goal

pub returns : goal.returns
returns c =
    let e = c.self.inside in
    some_weaker _ (λ x. slice_get c.args.self.now c.args.position ≡ Some (Some (label x.now))) c.listed_label.result (λ x found. entry_says e.table.now (bits_left e.reader) e.operations.now c.args.self.now c.args.position c.in_ok-operation.operation.now c.number_of_bits-number.result (label x.now) (sym c.self.view_is) (slice_get_read c.self.inside.operations.now _ c.args.position c.in_ok-operation.operation.now refl ((c.in_ok-operation.ensures.lookup).3).0 (c.in_ok-operation.ensures.lookup).1) c.self.invariant.1 c.number_of_bits-number.ensures.value found) c.listed_label.ensures
