use Rattle.std.proofs.Common.{◌≡◌, drop, map}
use Rattle.eds_tree.specs.Shapes.{is_among}
use Rattle.eds_tree.proofs.shape.is_among.Given as goal

abbrev pub invariant-loop-one : goal.invariant-loop-one
invariant-loop-one l = is_among (map (λ p. p.now) (drop l.one-index l.names)) l.name ≡ is_among (map (λ p. p.now) l.names) l.name
