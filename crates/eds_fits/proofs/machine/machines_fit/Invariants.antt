use Rattle.std.proofs.Common.{◌≡◌, drop}
use Rattle.eds_fits.specs.Deciding.{machines_fit}
use Rattle.eds_fits.proofs.machine.machines_fit.Given as goal

abbrev pub invariant-loop-machine : goal.invariant-loop-machine
invariant-loop-machine l = machines_fit l.whole.table.now l.whole.component.now (drop l.machine-index l.machines) ≡ machines_fit l.whole.table.now l.whole.component.now l.machines
