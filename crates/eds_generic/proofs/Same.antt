-- Two of one interface under one map have the same bases.
use Rattle.std.proofs.Common.{◌≡◌, true, List, refl}
use Rattle.eds_generic.specs.declared.face.Face.{Face}
use Rattle.eds_generic.specs.declared.pair.Pair.{Pair}
use Rattle.eds_generic.specs.Pairs.{same_pair, below}
pub use Rattle.eds_generic.specs.Sameness.{pair-itself, pair-face, pair-types}

pub below-same : (faces : List Face) (p q : Pair) → same_pair p q ≡ true → below faces p ≡ below faces q
below-same faces p q e = rw (pair-face p q e, pair-types p q e) refl
