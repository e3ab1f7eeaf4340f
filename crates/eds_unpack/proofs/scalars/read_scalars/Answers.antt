use Rattle.std.proofs.Common.{map, subst}
use Rattle.std.specs.Prelude.{IfOk, IfSome}
use Rattle.eds_bits.specs.Reader.{bits_left}
use Rattle.eds_types.specs.Plain.{plain}
use Rattle.eds_types.specs.Rows.{Table}
use Rattle.eds_unpack.specs.Items.{ItemsReadAs}
use Rattle.eds_unpack.specs.Segments.{IsOperation}
use Rattle.eds_unpack.proofs.ItemReads.{few_bits}
use Rattle.eds_unpack.proofs.scalars.read_scalars.Goals as goal

pub read_items_by-requires-clause-is : goal.read_items_by-requires-clause-is
read_items_by-requires-clause-is c = subst (λ (t : Table). IsOperation t c.in-Some.operation.now) c.requires c.in-Some.ensures.is

pub read_items_by-requires-clause-few : goal.read_items_by-requires-clause-few
read_items_by-requires-clause-few c = few_bits c.in-Some.operation.now c.in-Some.ensures.first

pub returns-in-Some-clause-read : goal.returns-in-Some-clause-read
returns-in-Some-clause-read c =
    subst (λ i. IfOk c.read_items_by.result (λ o. IfSome o (λ vs. ItemsReadAs c.args.table.now i c.args.count (bits_left c.args.reader.now) (map plain vs.items) (bits_left c.read_items_by.new.reader)))) c.in-Some.ensures.typed c.read_items_by.ensures.read
