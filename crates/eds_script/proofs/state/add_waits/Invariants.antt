use Rattle.std.proofs.Common.{◌≡◌, ◌++◌, drop}
use Rattle.std.specs.List.{flat_map}
use Rattle.eds_script.specs.States.{wait_line}
use Rattle.eds_script.proofs.state.add_waits.Given as goal

abbrev pub invariant-loop-waiting : goal.invariant-loop-waiting
invariant-loop-waiting l = l.text.items ++ flat_map (wait_line l.component) (drop l.waiting-index l.outstanding) ≡ l.initial.text.items ++ flat_map (wait_line l.component) l.outstanding
