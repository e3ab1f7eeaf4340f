use Rattle.std.proofs.Common.{◌≡◌, drop}
use Rattle.eds_fits.specs.Deciding.{led}
use Rattle.eds_fits.proofs.kinds.led.Given as goal

abbrev pub invariant-loop-place : goal.invariant-loop-place
invariant-loop-place l = led l.table l.at (drop l.place-index l.path) ≡ led l.table l.fn.id l.path
