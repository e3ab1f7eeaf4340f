use Rattle.std.proofs.Common.{Err, sym, ap, subst, ◌∙◌, arith}
use Rattle.serde_json.specs.View.{view}
use Rattle.eds_base.specs.Answering.{Answers}
use Rattle.eds_types.specs.Plain.{plain}
use Rattle.eds_value.specs.Seen.{seen}
use Rattle.eds_value.proofs.Levels.{next_level, no_level, no_row}
use Rattle.eds_value.proofs.Near.{entry_stop, value_stop}
use Rattle.eds_value.proofs.value_of_json.+value.Goals as goal

pub items_from-behind-requires : goal.items_from-behind-requires
items_from-behind-requires t c = value_stop c.args.table.now c.args.depth c.args.id.0 (view c.json-item.result) c.in-Err.stop c.keeps_rules.ensures c.in-Err.ensures

pub member_value-behind_entry-requires-in-Err : goal.member_value-behind_entry-requires-in-Err
member_value-behind_entry-requires-in-Err t c = entry_stop c.args.table.now c.args.depth (seen c.args.entry.now) (view c.in-Some.member.now) c.in-Err.stop c.keeps_rules.ensures c.in-Err.ensures

pub value_within-returns-then-depth-eq0 : goal.value_within-returns-then-depth-eq0
value_within-returns-then-depth-eq0 t c = no_level c.args.depth c.args.table.now c.args.id.0 (view c.args.json.now) c.if-depth-eq0.true ∙ ap Err (sym c.root.ensures)

pub value_within-returns-then-id-len : goal.value_within-returns-then-id-len
value_within-returns-then-id-len t c = no_row c.args.depth c.args.table.now c.args.id.0 (view c.args.json.now) (omega (arith, c.len.ensures, c.if-id-len.true)) ∙ ap Err (sym c.root-then-id-len.ensures)

pub value_within-returns : goal.value_within-returns
value_within-returns t c =
    subst (Answers plain c.value_by.result) (sym (next_level c.args.depth c.args.table.now c.args.id.0 c.row.result.now (view c.args.json.now) c.if-depth-eq0.false c.row.ensures)) c.value_by.ensures
