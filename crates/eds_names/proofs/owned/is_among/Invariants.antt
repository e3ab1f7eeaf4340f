use Rattle.std.proofs.Common.{◌≡◌, map, drop}
use Rattle.eds_names.specs.Repeats.{is_among}
use Rattle.eds_names.proofs.owned.is_among.Given as goal

abbrev pub invariant-loop-one : goal.invariant-loop-one
invariant-loop-one l = is_among (map (λ n. n.now) (drop l.one-index l.names)) l.name ≡ is_among (map (λ n. n.now) l.names) l.name
