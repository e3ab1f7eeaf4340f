use Rattle.std.proofs.Common.{◌≡◌, length}
use Rattle.eds_sheet.specs.Overlaps.{place_among, type_place}
use Rattle.eds_sheet.proofs.overlaps.type_place.Given as goal

abbrev pub invariant-loop-rest : goal.invariant-loop-rest
invariant-loop-rest l = place_among l.rest l.before ≡ type_place l.space l.fn.id.0

abbrev pub decreases-loop-rest : goal.decreases-loop-rest
decreases-loop-rest l = length l.rest
