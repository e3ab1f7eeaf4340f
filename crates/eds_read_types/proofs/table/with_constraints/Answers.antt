use Rattle.std.proofs.Common.{sym, subst, ◌∙◌}
use Rattle.eds_constraints.specs.ConstrainedRows.{AreRead}
use Rattle.eds_read_types.proofs.ReadRows.{rows_read, asked_few}
use Rattle.eds_read_types.proofs.table.with_constraints.Goals as goal

pub constraints_in-requires-clause-read : goal.constraints_in-requires-clause-read
constraints_in-requires-clause-read c =
    let sheet = c.args.sheet.now in
    subst AreRead (sym c.requires) (rows_read sheet.trees.now sheet.space.now sheet.shaped sheet.named)

pub constraints_in-requires-clause-few : goal.constraints_in-requires-clause-few
constraints_in-requires-clause-few c =
    let sheet = c.args.sheet.now in
    asked_few sheet.trees.now sheet.space.now (c.deref.ensures.value ∙ c.in_ok-lists.ensures) c.requires
