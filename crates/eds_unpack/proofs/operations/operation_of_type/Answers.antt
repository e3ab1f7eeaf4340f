use Rattle.eds_unpack.proofs.Meanings.{operation_is}
use Rattle.eds_unpack.proofs.operations.operation_of_type.Goals as goal

pub returns-clause-is : goal.returns-clause-is
returns-clause-is c =
    operation_is c.args.table.now c.args.id c.row.result.now c.in_ok-bits.bits c.in_ok-bits.meaning c.operation_at.result c.row.ensures
    c.in_ok-bits.ensures.size c.in_ok-bits.ensures.agrees c.operation_at.ensures.typed c.operation_at.ensures.size c.operation_at.ensures.meaning c.operation_at.ensures.sure
