use Rattle.std.proofs.Common.{◌≡◌, ◌++◌, drop, map}
use Rattle.eds_overlap.specs.Notes.{common_note}
use Rattle.eds_overlap.proofs.note.common_notes.Given as goal

abbrev pub invariant-loop-one : goal.invariant-loop-one
invariant-loop-one l = l.notes ++ map (common_note l.table) (drop l.one-index l.common) ≡ map (common_note l.table) l.common
