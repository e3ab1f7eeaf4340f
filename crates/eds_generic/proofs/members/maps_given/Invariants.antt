use Rattle.std.proofs.Common.{◌≡◌, ◌++◌, map, drop}
use Rattle.eds_generic.specs.Members.{mapped_given}
use Rattle.eds_generic.proofs.members.maps_given.Given as goal

abbrev pub invariant-loop-one : goal.invariant-loop-one
invariant-loop-one l = l.maps.items ++ map (mapped_given l.own) (drop l.one-index l.given) ≡ map (mapped_given l.own) l.given
