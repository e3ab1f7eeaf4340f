use Rattle.std.proofs.Common.{◌≡◌, ◌++◌, map, drop}
use Rattle.eds_read_comp.specs.EndPlans.{end_plan}
use Rattle.eds_read_comp.proofs.end_plan.end_plans.Given as goal

abbrev pub invariant-loop-end : goal.invariant-loop-end
invariant-loop-end l =
    l.ends.items ++ map (end_plan l.sheet.trees.now l.file.space.now l.sheet.faces.now l.file.tree.now l.file.file) (drop l.end-index l.end-items)
    ≡ map (end_plan l.sheet.trees.now l.file.space.now l.sheet.faces.now l.file.tree.now l.file.file) l.end-items
