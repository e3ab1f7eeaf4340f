use Rattle.std.proofs.Common.{◌≡◌, ◌++◌, drop}
use Rattle.eds_fits.specs.Deciding.{call_graph}
use Rattle.eds_fits.proofs.rank.call_graph.Given as goal

abbrev pub invariant-loop-activity : goal.invariant-loop-activity
invariant-loop-activity l = l.graph ++ call_graph (drop l.activity-index l.activities) ≡ call_graph l.activities
