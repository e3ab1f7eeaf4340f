use Rattle.std.proofs.Common.{◌≡◌, ◌+◌, ◌≤◌, ◌++◌, drop, length, map}
use Rattle.eds_snap.specs.Texts.{StatesHaveValues, component_text}
use Rattle.eds_script.specs.Pairs.{texts_of}
use Rattle.eds_snap.proofs.print.add_components.Given as goal

abbrev pub invariant-loop-rest : goal.invariant-loop-rest
invariant-loop-rest l = record {
  told : l.text.items ++ texts_of (component_text l.table) l.rest (drop l.place l.states) ≡ l.initial.text.items ++ texts_of (component_text l.table) l.plan l.states;
  held : StatesHaveValues l.table l.rest (drop l.place l.states);
  within : l.place + length l.rest ≤ length l.plan;
}

abbrev pub decreases-loop-rest : goal.decreases-loop-rest
decreases-loop-rest l = length l.rest
