use Rattle.std.proofs.Common.{◌≡◌, Some, map, drop, subst, slice_get}
use Rattle.eds_read_comp.specs.EndPlans.{end_plan}
use Rattle.eds_read_comp.proofs.SharedUses.{planned-whole}
use Rattle.eds_read_comp.proofs.end_plan.end_plans.Goals as goal

pub end_plan-requires : goal.end_plan-requires
end_plan-requires c k e g =
    planned-whole c.args.sheet.now.trees.now c.args.file.now.space.now c.args.sheet.now.faces.now c.args.file.now.tree.now c.args.file.now.file c.as_slice-end-items.result.now c.loop-end.ends.items
    (map (end_plan c.args.sheet.now.trees.now c.args.file.now.space.now c.args.sheet.now.faces.now c.args.file.now.tree.now c.args.file.now.file) (drop c.loop-end.end-index c.as_slice-end-items.result.now))
    c.loop-end.invariant k e (subst (λ xs. slice_get xs k ≡ Some e) c.as_slice.ensures.value g)
