use Rattle.eds_tree.proofs.Least.{least-of_three}
use Rattle.eds_read_act.specs.Activities.{activity_breaks}
use Rattle.eds_read_act.specs.MachineBreaks.{machine_breaks}
use Rattle.eds_read_act.specs.Scopes.{scope_of}
use Rattle.eds_read_comp.specs.Implementations.{activity_nodes, machine_nodes}
use Rattle.eds_read_comp.specs.ParameterMaps.{map_breaks}
use Rattle.eds_read_comp.proofs.component.least_in.Goals as goal

pub returns : goal.returns
returns c =
    let s = scope_of c.args.scope.now in
    least-of_three (map_breaks s.ends s.variables s.tree c.args.file c.args.node) (activity_breaks c.args.file s (activity_nodes s.tree c.args.node)) (machine_breaks c.args.file s (machine_nodes s.tree c.args.node))
    c.in_ok-map.map c.in_ok-activity.activity c.in_ok-machine.machine c.first-found.result c.first.result
    c.in_ok-map.ensures c.in_ok-activity.ensures c.in_ok-machine.ensures c.first-found.ensures.first c.first.ensures.first
