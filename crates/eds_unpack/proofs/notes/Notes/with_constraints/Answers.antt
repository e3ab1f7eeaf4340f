use Rattle.std.proofs.Common.{ap, ◌∙◌, arith}
use Rattle.eds_unpack.specs.Asked.{asked_by, tails}
use Rattle.eds_unpack.specs.Index.{with_paths}
use Rattle.eds_unpack.proofs.Indexing.{with_next}
use Rattle.eds_unpack.proofs.notes.Notes.with_constraints.Goals as goal

pub loop-constraint-preserved : goal.loop-constraint-preserved
loop-constraint-preserved c =
    with_next asked_by c.args.constraints.now c.loop-constraint.constraint-index c.constraint-item.result c.loop-constraint.notes c.in_ok-notes.notes _ (omega arith) c.constraint-item.is
    (c.in_ok-notes.ensures ∙ ap (λ p. with_paths c.loop-constraint.notes (tails p)) c.as_slice.ensures) c.loop-constraint.invariant
