use Rattle.std.proofs.Common.{◌≡◌, drop}
use Rattle.eds_fits.specs.Deciding.{bodies_fit}
use Rattle.eds_fits.proofs.activity.bodies_fit.Given as goal

abbrev pub invariant-loop-number : goal.invariant-loop-number
invariant-loop-number l =
    bodies_fit l.whole.table.now l.whole.component.now l.ranks 0 l.activities ≡ bodies_fit l.whole.table.now l.whole.component.now l.ranks l.number (drop l.number l.activities)
