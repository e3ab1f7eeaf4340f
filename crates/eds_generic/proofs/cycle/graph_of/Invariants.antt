use Rattle.std.proofs.Common.{◌≡◌, take}
use Rattle.eds_generic.specs.Cycles.{graph_of}
use Rattle.eds_generic.proofs.cycle.graph_of.Given as goal

abbrev pub invariant-loop-face : goal.invariant-loop-face
invariant-loop-face l = l.graph ≡ graph_of (take l.face-index l.faces)
