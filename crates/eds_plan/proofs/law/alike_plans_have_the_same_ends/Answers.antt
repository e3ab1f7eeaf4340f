use Rattle.eds_plan.proofs.Alike.{alike_ends}
use Rattle.eds_plan.proofs.law.alike_plans_have_the_same_ends.Goals as goal

pub returns : goal.returns
returns c = alike_ends
