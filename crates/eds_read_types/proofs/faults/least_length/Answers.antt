use Rattle.std.proofs.Common.{◌++◌, ◌∙◌, ap}
use Rattle.eds_base.specs.Refusals.{least}
use Rattle.eds_tree.proofs.Least.{least-joined}
use Rattle.eds_type_rows.specs.TableRows.{table_rows}
use Rattle.eds_read_types.specs.Parts.{judged_parts}
use Rattle.eds_read_types.specs.PartElements.{judged_elements}
use Rattle.eds_read_types.specs.LengthField.{length_field_at, scale_at, second_length_at}
use Rattle.eds_read_types.proofs.faults.least_length.Goals as goal

pub returns : goal.returns
returns c =
    let trees = c.args.sheet.now.graph.now.sheet.now.trees.now in
    let names = c.args.sheet.now.graph.now.sheet.now.space.now in
    let read = c.args.sheet.now.read in
    let types = judged_parts length_field_at trees (table_rows trees names) c.args.id c.args.at in
    let scales = judged_elements scale_at trees names c.args.at in
    let seconds = second_length_at trees (table_rows trees names) c.args.id c.args.at in
    least-joined types (scales ++ seconds) c.in_ok-types.types c.first-others.result c.first.result (c.in_ok-types.ensures ∙ ap (λ t. least (judged_parts length_field_at trees t c.args.id c.args.at)) read)
    (least-joined scales seconds c.in_ok-scales.scales c.in_ok-seconds.seconds c.first-others.result c.in_ok-scales.ensures (c.in_ok-seconds.ensures ∙ ap (λ t. least (second_length_at trees t c.args.id c.args.at)) read) c.first-others.ensures.first) c.first.ensures.first
