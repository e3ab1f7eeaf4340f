use Rattle.std.proofs.Common.{◌≡◌, drop}
use Rattle.eds_fits.specs.Deciding.{maps_fit}
use Rattle.eds_fits.proofs.component.maps_fit.Given as goal

abbrev pub invariant-loop-map : goal.invariant-loop-map
invariant-loop-map l = maps_fit l.component (drop l.map-index l.maps) ≡ maps_fit l.component l.maps
