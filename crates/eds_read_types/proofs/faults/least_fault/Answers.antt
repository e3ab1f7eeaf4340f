use Rattle.std.proofs.Common.{◌++◌, ◌∙◌, ap}
use Rattle.eds_base.specs.Refusals.{least}
use Rattle.eds_tree.proofs.Least.{least-joined}
use Rattle.eds_type_rows.specs.TableRows.{table_rows}
use Rattle.eds_read_types.specs.Parts.{judged_parts}
use Rattle.eds_read_types.specs.DuplicateEntry.{duplicates_at}
use Rattle.eds_read_types.specs.ListField.{list_field_at}
use Rattle.eds_read_types.specs.Faults.{length_breaks, element_breaks}
use Rattle.eds_read_types.proofs.faults.least_fault.Goals as goal

pub returns : goal.returns
returns c =
    let trees = c.args.sheet.now.graph.now.sheet.now.trees.now in
    let names = c.args.sheet.now.graph.now.sheet.now.space.now in
    let read = c.args.sheet.now.read in
    let doubles = duplicates_at trees (table_rows trees names) c.args.id c.args.at in
    let fields = judged_parts list_field_at trees (table_rows trees names) c.args.id c.args.at in
    let lengths = length_breaks trees names c.args.id c.args.at in
    let elements = element_breaks trees names c.args.at in
    least-joined doubles (fields ++ (lengths ++ elements)) c.in_ok-names.names c.first-others.result c.first.result (c.in_ok-names.ensures ∙ ap (λ t. least (duplicates_at trees t c.args.id c.args.at)) read)
    (least-joined fields (lengths ++ elements) c.in_ok-fields.fields c.first-bits.result c.first-others.result (c.in_ok-fields.ensures ∙ ap (λ t. least (judged_parts list_field_at trees t c.args.id c.args.at)) read)
    (least-joined lengths elements c.in_ok-lengths.lengths c.in_ok-elements.elements c.first-bits.result c.in_ok-lengths.ensures c.in_ok-elements.ensures c.first-bits.ensures.first) c.first-others.ensures.first) c.first.ensures.first
