use Rattle.std.proofs.Common.{◌∙◌, ap, sym, arith}
use Rattle.std.specs.Prelude.{slice_get}
use Rattle.eds_types.proofs.Paths.{last_row, no_row}
use Rattle.eds_types.proofs.condition.row_on.Goals as goal

pub returns-in-Some : goal.returns-in-Some
returns-in-Some c = c.row_of.ensures ∙ ap (λ t. slice_get t c.in-Some.id.0) c.rows.ensures ∙ sym (last_row c.args.table.now c.args.path.now (record { 0 = 0 }, 0) c.type_at.result c.in-Some.id (omega arith) c.type_at.ensures c.in-Some.is)

pub returns-in-None : goal.returns-in-None
returns-in-None c = sym (no_row c.args.table.now c.args.path.now (record { 0 = 0 }, 0) c.type_at.result (omega arith) c.type_at.ensures c.in-None.is)
