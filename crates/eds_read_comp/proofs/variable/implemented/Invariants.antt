use Rattle.std.proofs.Common.{◌≡◌, ◌++◌, drop}
use Rattle.std.specs.List.{flat_map}
use Rattle.eds_generic.specs.Reading.{held_in}
use Rattle.eds_read_comp.proofs.variable.implemented.Given as goal

abbrev pub invariant-loop-holder : goal.invariant-loop-holder
invariant-loop-holder l = l.nodes.items ++ flat_map (held_in l.tree l.set l.name) (drop l.holder-index l.holder-items) ≡ flat_map (held_in l.tree l.set l.name) l.holder-items
