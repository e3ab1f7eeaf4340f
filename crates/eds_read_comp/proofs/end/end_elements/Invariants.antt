use Rattle.std.proofs.Common.{◌≡◌, ◌++◌, filter, drop}
use Rattle.std.specs.List.{flat_map}
use Rattle.eds_read_comp.specs.Ends.{is_end_set, ends_in}
use Rattle.eds_read_comp.proofs.end.end_elements.Given as goal

abbrev pub invariant-loop-child : goal.invariant-loop-child
invariant-loop-child l = l.ends.items ++ flat_map (ends_in l.tree) (filter (is_end_set l.tree) (drop l.child-index l.child-items)) ≡ flat_map (ends_in l.tree) (filter (is_end_set l.tree) l.child-items)
