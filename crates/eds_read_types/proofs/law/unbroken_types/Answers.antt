use Rattle.eds_read_types.proofs.LawFacts.{integer_unbroken, enumerated_unbroken, boolean_unbroken}
use Rattle.eds_read_types.proofs.law.unbroken_types.Goals as goal

pub returns-clause-integers : goal.returns-clause-integers
returns-clause-integers c is encoding range = integer_unbroken c.args.tree.now c.args.at is encoding range

pub returns-clause-enumerations : goal.returns-clause-enumerations
returns-clause-enumerations c is encoding enumeration = enumerated_unbroken c.args.tree.now c.args.at is encoding enumeration

pub returns-clause-truths : goal.returns-clause-truths
returns-clause-truths c is encoding = boolean_unbroken c.args.tree.now c.args.at is encoding
