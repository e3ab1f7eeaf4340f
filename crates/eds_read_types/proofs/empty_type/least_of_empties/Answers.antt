use Rattle.std.proofs.Common.{◌++◌, option_map}
use Rattle.eds_tree.proofs.Least.{least-joined}
use Rattle.eds_read_types.specs.Parts.{at_parts, at_rows}
use Rattle.eds_read_types.specs.Faults.{is_unmarked}
use Rattle.eds_read_types.specs.EmptyType.{empty_part_at, empty_item_at, empty_word}
use Rattle.eds_read_types.proofs.empty_type.least_of_empties.Goals as goal

pub returns : goal.returns
returns c =
    let sheet = c.args.sheet.now.graph.now.sheet.now in
    let judged = is_unmarked c.args.marks.now in
    let parts = at_parts (empty_part_at judged) sheet.trees.now sheet.space.now in
    let items = at_rows (empty_item_at judged) sheet.trees.now sheet.space.now in
    let words = empty_word judged sheet.trees.now sheet.space.now (option_map (λ w. w.now) sheet.asked) in
    least-joined parts (items ++ words) c.in_ok-parts.parts c.first.result c.first-2.result c.in_ok-parts.ensures
    (least-joined items words c.least_of_items-items.result c.in_ok-word.word c.first.result c.least_of_items-items.ensures c.in_ok-word.ensures c.first.ensures.first) c.first-2.ensures.first
