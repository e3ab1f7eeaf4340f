use Rattle.std.proofs.Common.{◌≡◌, drop}
use Rattle.eds_base.specs.Refusals.{first_of, least}
use Rattle.eds_read_comp.specs.FirstValues.{WhereTold, value_breaks_over}
use Rattle.eds_read_comp.proofs.first_value.least_over_variables.Given as goal

abbrev pub invariant-loop-node : goal.invariant-loop-node
invariant-loop-node l =
    WhereTold l.table
    (λ firsts.
    first_of l.found (least (value_breaks_over firsts l.file.tree.now l.file.space.now l.file.file (drop l.node-index l.nodes)))
    ≡ least (value_breaks_over firsts l.file.tree.now l.file.space.now l.file.file l.nodes))
