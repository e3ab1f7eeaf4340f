use Rattle.std.proofs.Common.{◌≡◌, map, drop, codes}
use Rattle.eds_names.specs.Positions.{place_from}
use Rattle.eds_tree.specs.Trees.{name_at}
use Rattle.eds_read_act.proofs.machine_plan.first_entry.Given as goal

abbrev pub invariant-loop-at : goal.invariant-loop-at
invariant-loop-at l = place_from l.at (map (name_at l.tree) (drop l.at l.states)) (codes "EntryState") ≡ place_from 0 (map (name_at l.tree) l.states) (codes "EntryState")
