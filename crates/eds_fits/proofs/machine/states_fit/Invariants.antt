use Rattle.std.proofs.Common.{◌≡◌, drop}
use Rattle.eds_fits.specs.Deciding.{states_fit}
use Rattle.eds_fits.proofs.machine.states_fit.Given as goal

abbrev pub invariant-loop-state : goal.invariant-loop-state
invariant-loop-state l = states_fit l.whole.table.now l.whole.component.now (drop l.state-index l.states) ≡ states_fit l.whole.table.now l.whole.component.now l.states
