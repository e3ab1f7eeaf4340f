use Rattle.std.proofs.Common.{◌≡◌, take}
use Rattle.eds_generic.specs.Faces.{names_of}
use Rattle.eds_generic.proofs.members.names_of.Given as goal

abbrev pub invariant-loop-generic : goal.invariant-loop-generic
invariant-loop-generic l = l.names.items ≡ names_of (take l.generic-index l.generics)
