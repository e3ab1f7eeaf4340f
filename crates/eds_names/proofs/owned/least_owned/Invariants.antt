use Rattle.std.proofs.Common.{◌≡◌, drop}
use Rattle.std.specs.List.{flat_map}
use Rattle.eds_base.specs.Refusals.{first_of, least}
use Rattle.eds_names.specs.Repeats.{repeats_at}
use Rattle.eds_names.proofs.owned.least_owned.Given as goal

abbrev pub invariant-loop-standing : goal.invariant-loop-standing
invariant-loop-standing l =
    first_of l.found (least (flat_map (repeats_at l.tree l.file) (drop l.standing-index l.standings)))
    ≡ least (flat_map (repeats_at l.tree l.file) l.standings)
