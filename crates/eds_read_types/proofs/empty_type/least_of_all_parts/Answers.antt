use Rattle.std.proofs.Common.{◌∙◌, ap, arith}
use Rattle.eds_base.specs.Refusals.{least}
use Rattle.eds_read_types.specs.Breaks.{breaks_over}
use Rattle.eds_read_types.specs.Parts.{judged_part, judged_parts}
use Rattle.eds_read_types.specs.Faults.{is_unmarked}
use Rattle.eds_read_types.specs.EmptyType.{empty_part_at}
use Rattle.eds_type_rows.specs.TableRows.{table_rows}
use Rattle.eds_read_types.proofs.BreakSteps.{least-next_type}
use Rattle.eds_read_types.proofs.FaultFacts.{least-end}
use Rattle.eds_read_types.proofs.empty_type.least_of_all_parts.Goals as goal

pub loop-id-preserved : goal.loop-id-preserved
loop-id-preserved c =
    least-next_type (judged_parts (empty_part_at (is_unmarked c.args.marks.now)) c.args.sheet.now.graph.now.sheet.now.trees.now c.args.all.now.rows.now) c.args.sheet.now.graph.now.sheet.now.types.now c.loop-id.id _ c.loop-id.found c.least_of_parts.result c.first-found.result _
    (omega arith) (c.least_of_parts.ensures ∙ ap (λ ps. least (breaks_over (judged_part (empty_part_at (is_unmarked c.args.marks.now)) c.args.all.now.rows.now c.loop-id.id) 0 ps)) (c.deref.ensures.value ∙ c.in_ok-places.ensures)) c.first-found.ensures.first c.loop-id.invariant

pub returns : goal.returns
returns c =
    let sheet = c.args.sheet.now.graph.now.sheet.now in
    let judge = empty_part_at (is_unmarked c.args.marks.now) in
    least-end (judged_parts judge sheet.trees.now c.args.all.now.rows.now) sheet.types.now c.loop-id.id c.loop-id.found (least (breaks_over (judged_parts judge sheet.trees.now c.args.all.now.rows.now) 0 sheet.types.now)) (omega arith) c.loop-id.invariant
    ∙ (ap (λ t. least (breaks_over (judged_parts judge sheet.trees.now t) 0 sheet.types.now)) (c.requires ∙ c.args.sheet.now.read)
    ∙ ap (λ ats. least (breaks_over (judged_parts judge sheet.trees.now (table_rows sheet.trees.now sheet.space.now)) 0 ats)) sheet.known)
