use Rattle.std.proofs.Common.{ap₂}
use Rattle.eds_type_rows.specs.Numbers.{numbers_of}
use Rattle.eds_type_rows.proofs.NumberSteps.{ok-is}
use Rattle.eds_type_rows.proofs.kind.numbers_in_table.Goals as goal

pub returns : goal.returns
returns c = ok-is c.numbers_of.result _ _ (ap₂ (λ places bases. numbers_of c.args.graph.now.sheet.now.trees.now places bases c.args.id) c.args.graph.now.sheet.now.known c.args.graph.now.found) c.numbers_of.ensures
