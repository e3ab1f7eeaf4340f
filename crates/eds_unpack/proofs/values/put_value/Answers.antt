use Rattle.std.proofs.Common.{subst, slice_get}
use Rattle.eds_unpack.specs.Scalars.{plain_of}
use Rattle.eds_unpack.specs.Segments.{AgreesIn, value_in}
use Rattle.eds_unpack.proofs.Meanings.{in_row, put_last}
use Rattle.eds_unpack.proofs.values.put_value.Goals as goal

pub returns-in-Number-clause-put : goal.returns-in-Number-clause-put
returns-in-Number-clause-put c =
    let row = slice_get c.args.table.now c.args.operation.now.id.0 in
    c.put_number.ensures.put (value_in row) (in_row row c.args.operation.now.bits c.in-Number.numbers (subst (AgreesIn row c.args.operation.now.bits) c.in-Number.is c.requires.is.agrees))

pub returns-in_ok-value_of-in-Some-clause-put : goal.returns-in_ok-value_of-in-Some-clause-put
returns-in_ok-value_of-in-Some-clause-put c = put_last _ _ _ _ (plain_of c.in-Some.scalar) c.push_reserved.ensures.items c.in_ok-value_of-in-Some.ensures c.in-Some.ensures
