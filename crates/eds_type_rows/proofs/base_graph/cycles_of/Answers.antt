use Rattle.eds_type_rows.specs.Bases.{is_in_cycle}
use Rattle.eds_type_rows.proofs.BaseSteps.{flags-next}
use Rattle.eds_type_rows.proofs.base_graph.cycles_of.Goals as goal

pub loop-id-preserved : goal.loop-id-preserved
loop-id-preserved c = flags-next (is_in_cycle c.args.bases.now) c.loop-id.id c.is_in_cycle.result c.loop-id.cycles.items c.push.new.self.items c.loop-id.invariant c.in_ok-push.ensures.items c.is_in_cycle.ensures
