use Rattle.std.proofs.Common.{◌≡◌, subst}
use Rattle.std.specs.Prelude.{IfOk}
use Rattle.eds_unpack.proofs.Indexing.{asked_by_type}
use Rattle.eds_unpack.proofs.notes.Notes.with_type.Goals as goal

pub returns : goal.returns
returns c =
    subst (λ ps. IfOk c.with_parts-2.result (λ n. n ≡ ps))
    (asked_by_type c.args.table.now c.args.id.0 c.args.self c.in_ok-with_constraints.field-0 c.in_ok-with_parts.field-0 c.constraints_of.result.now c.entries_of.result.now c.trailers_of.result.now
    c.constraints_of.ensures c.entries_of.ensures.value c.trailers_of.ensures.value c.in_ok-with_constraints.ensures c.in_ok-with_parts.ensures)
    c.with_parts-2.ensures
