use Rattle.std.proofs.Common.{◌≡◌, ◌++◌, drop, map}
use Rattle.eds_machine.specs.Reactions.{begins}
use Rattle.eds_machine.proofs.starting.beginnings.Given as goal

abbrev pub invariant-loop-machine : goal.invariant-loop-machine
invariant-loop-machine l = l.states ++ map begins (drop l.machine-index l.machines) ≡ map begins l.machines
