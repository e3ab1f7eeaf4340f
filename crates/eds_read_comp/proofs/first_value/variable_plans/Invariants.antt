use Rattle.std.proofs.Common.{◌≡◌, ◌++◌, map, drop}
use Rattle.eds_read_comp.specs.FirstValues.{WhereTold, first_value}
use Rattle.eds_read_comp.specs.Plans.{head_of, first_of_variable}
use Rattle.eds_read_comp.specs.Variables.{variable_at}
use Rattle.eds_read_comp.proofs.first_value.variable_plans.Given as goal

-- the variables so far, and those to come, are all of them
abbrev pub invariant-loop-node : goal.invariant-loop-node
invariant-loop-node l =
    (map head_of l.variables ++ map (variable_at l.file.tree.now l.file.space.now l.file.file) (drop l.node-index l.nodes) ≡ map (variable_at l.file.tree.now l.file.space.now l.file.file) l.nodes)
    × WhereTold l.table
    (λ firsts.
    map first_of_variable l.variables ++ map (first_value firsts l.file.tree.now l.file.space.now l.file.file) (drop l.node-index l.nodes)
    ≡ map (first_value firsts l.file.tree.now l.file.space.now l.file.file) l.nodes)
