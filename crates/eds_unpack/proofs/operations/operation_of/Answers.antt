use Rattle.eds_unpack.proofs.Meanings.{entry_operation}
use Rattle.eds_unpack.proofs.operations.operation_of.Goals as goal

pub returns-in-Plain-clause-is : goal.returns-in-Plain-clause-is
returns-in-Plain-clause-is c =
    entry_operation c.args.table.now c.args.part.now c.in-Plain.field-0 c.in-Plain.id c.operation_of_type.result c.in-Plain.is c.operation_of_type.ensures.typed c.operation_of_type.ensures.is
