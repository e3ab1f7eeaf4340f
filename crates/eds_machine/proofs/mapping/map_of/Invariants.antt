use Rattle.std.proofs.Common.{◌≡◌, drop}
use Rattle.std.specs.List.{find}
use Rattle.eds_machine.specs.Reactions.{maps_to}
use Rattle.eds_machine.proofs.mapping.map_of.Given as goal

abbrev pub invariant-loop-map : goal.invariant-loop-map
invariant-loop-map l = let q = maps_to l.face l.member in find q (drop l.map-index l.map-items) ≡ find q l.map-items
