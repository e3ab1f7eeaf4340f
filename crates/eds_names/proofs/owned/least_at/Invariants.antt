use Rattle.std.proofs.Common.{◌≡◌, map, drop}
use Rattle.std.specs.List.{flat_map}
use Rattle.eds_base.specs.Refusals.{first_of, least}
use Rattle.eds_names.specs.Repeats.{repeats_by, holding_of}
use Rattle.eds_names.proofs.owned.least_at.Given as goal

abbrev pub invariant-loop-ownership : goal.invariant-loop-ownership
invariant-loop-ownership l =
    first_of l.found (least (flat_map (repeats_by l.tree l.file l.standing.node) (map holding_of (drop l.ownership-index l.ownership-items))))
    ≡ least (flat_map (repeats_by l.tree l.file l.standing.node) (map holding_of l.ownership-items))
