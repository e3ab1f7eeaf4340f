use Rattle.std.proofs.Common.{◌≡◌, drop}
use Rattle.std.specs.List.{flat_map}
use Rattle.eds_unpack.specs.Asked.{tellers_of}
use Rattle.eds_unpack.specs.Index.{with_paths}
use Rattle.eds_unpack.proofs.notes.Notes.with_parts.Given as goal

abbrev pub invariant-loop-part : goal.invariant-loop-part
invariant-loop-part l = with_paths l.notes (flat_map tellers_of (drop l.part-index l.parts)) ≡ with_paths l.initial.notes (flat_map tellers_of l.parts)
