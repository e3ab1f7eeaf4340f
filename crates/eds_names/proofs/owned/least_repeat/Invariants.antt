use Rattle.std.proofs.Common.{◌≡◌, [], map, drop, string_bytes}
use Rattle.eds_base.specs.Refusals.{first_of, least}
use Rattle.eds_names.specs.Repeats.{named_at, repeats}
use Rattle.eds_names.proofs.owned.least_repeat.Given as goal

abbrev pub invariant-loop-node : goal.invariant-loop-node
invariant-loop-node l = first_of l.found (least (repeats (map string_bytes l.before.keys) (map (named_at l.tree l.file) (drop l.node-index l.held)))) ≡ least (repeats [] (map (named_at l.tree l.file) l.held))
