use Rattle.std.proofs.Common.{codes}
use Rattle.eds_tree.specs.Limits.{breaks_count}
use Rattle.eds_tree.proofs.Least.{least-of_three}
use Rattle.eds_tree.proofs.rule_limit.least_surplus.Goals as goal

pub returns : goal.returns
returns c =
    let ts = c.args.trees.now in
    least-of_three (breaks_count (codes "types") (codes "DataTypeSet") (codes "DATATYPE") 4096 ts) (breaks_count (codes "interfaces") (codes "DeclaredInterfaceSet") (codes "Interface") 512 ts)
    (breaks_count (codes "components") (codes "ComponentSet") (codes "Component") 64 ts)
    c.in_ok-types.types c.in_ok-interfaces.interfaces c.in_ok-components.components c.first-found.result c.first.result
    c.in_ok-types.ensures c.in_ok-interfaces.ensures c.in_ok-components.ensures c.first-found.ensures.first c.first.ensures.first
