use Rattle.std.proofs.Common.{◌≡◌, ◌≤◌, drop}
use Rattle.eds_fits.specs.Deciding.{leaves_one}
use Rattle.eds_fits.proofs.condition.leaves_one.Given as goal

abbrev pub invariant-loop-item : goal.invariant-loop-item
invariant-loop-item l =
    (leaves_one l.scope.table.now l.scope.component.now.variables l.scope.arguments.now l.left (drop l.item-index l.items) ≡ leaves_one l.scope.table.now l.scope.component.now.variables l.scope.arguments.now 0 l.items)
    × (l.left ≤ l.item-index)
