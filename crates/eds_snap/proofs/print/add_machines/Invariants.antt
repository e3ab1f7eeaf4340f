use Rattle.std.proofs.Common.{◌≡◌, ◌+◌, ◌≤◌, ◌++◌, drop, length}
use Rattle.eds_snap.specs.Texts.{machine_line}
use Rattle.eds_script.specs.Pairs.{texts_of}
use Rattle.eds_snap.proofs.print.add_machines.Given as goal

abbrev pub invariant-loop-rest : goal.invariant-loop-rest
invariant-loop-rest l = record {
  told : l.text.items ++ texts_of (machine_line l.component.name) l.rest (drop l.place l.states) ≡ l.initial.text.items ++ texts_of (machine_line l.component.name) l.component.machines l.states;
  within : l.place + length l.rest ≤ length l.component.machines;
}

abbrev pub decreases-loop-rest : goal.decreases-loop-rest
decreases-loop-rest l = length l.rest
