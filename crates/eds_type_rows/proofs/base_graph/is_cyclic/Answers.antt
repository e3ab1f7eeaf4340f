use Rattle.std.proofs.Common.{◌∙◌, sym}
use Rattle.eds_type_rows.proofs.BaseSteps.{flag-some, flag-none}
use Rattle.eds_type_rows.proofs.base_graph.is_cyclic.Goals as goal

pub returns-in-None : goal.returns-in-None
returns-in-None c = flag-none c.args.graph.now.bases.now c.args.graph.now.cycles.now c.args.id c.args.graph.now.judged (sym c.flag_at.ensures ∙ c.in-None.is)

pub returns-in-Some : goal.returns-in-Some
returns-in-Some c = flag-some c.args.graph.now.bases.now c.args.graph.now.cycles.now c.args.id c.in-Some.cyclic c.args.graph.now.judged (sym c.flag_at.ensures ∙ c.in-Some.is)
