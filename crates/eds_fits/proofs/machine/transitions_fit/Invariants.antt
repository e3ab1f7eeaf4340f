use Rattle.std.proofs.Common.{◌≡◌, drop}
use Rattle.eds_fits.specs.Deciding.{transitions_fit}
use Rattle.eds_fits.proofs.machine.transitions_fit.Given as goal

abbrev pub invariant-loop-transition : goal.invariant-loop-transition
invariant-loop-transition l = transitions_fit l.whole.table.now l.whole.component.now l.states (drop l.transition-index l.transitions) ≡ transitions_fit l.whole.table.now l.whole.component.now l.states l.transitions
