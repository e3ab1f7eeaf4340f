use Rattle.std.proofs.Common.{◌≡◌, drop}
use Rattle.std.specs.List.{flat_map}
use Rattle.eds_unpack.specs.Asked.{asked_by}
use Rattle.eds_unpack.specs.Index.{with_paths}
use Rattle.eds_unpack.proofs.notes.Notes.with_constraints.Given as goal

abbrev pub invariant-loop-constraint : goal.invariant-loop-constraint
invariant-loop-constraint l = with_paths l.notes (flat_map asked_by (drop l.constraint-index l.constraints)) ≡ with_paths l.initial.notes (flat_map asked_by l.constraints)
