use Rattle.std.proofs.Common.{slice_get, subst}
use Rattle.eds_unpack.specs.Segments.{AgreesIn, value_in}
use Rattle.eds_unpack.proofs.Meanings.{in_row}
use Rattle.eds_unpack.proofs.scalars.items_of.Goals as goal

pub returns-in-Number-clause-values : goal.returns-in-Number-clause-values
returns-in-Number-clause-values c =
    let row = slice_get c.args.table.now c.args.operation.now.id.0 in
    c.numbers_of.ensures.values (value_in row) (in_row row c.args.operation.now.bits c.in-Number.numbers (subst (AgreesIn row c.args.operation.now.bits) c.in-Number.is c.requires.is.agrees))
