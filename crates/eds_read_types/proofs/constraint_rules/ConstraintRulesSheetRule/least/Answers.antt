use Rattle.std.proofs.Common.{sym, subst, ◌∙◌}
use Rattle.eds_constraints.specs.ConstrainedRows.{AreRead}
use Rattle.eds_read_types.proofs.ReadRows.{rows_read, asked_few}
use Rattle.eds_read_types.proofs.constraint_rules.ConstraintRulesSheetRule.least.Goals as goal

pub of-requires-clause-read : goal.of-requires-clause-read
of-requires-clause-read c =
    let sheet = c.args.sheet.now.graph.now.sheet.now in
    subst AreRead (sym (c.as_slice.ensures ∙ c.args.sheet.now.read)) (rows_read sheet.trees.now sheet.space.now sheet.shaped sheet.named)

pub of-requires-clause-few : goal.of-requires-clause-few
of-requires-clause-few c =
    let sheet = c.args.sheet.now.graph.now.sheet.now in
    asked_few sheet.trees.now sheet.space.now (c.deref.ensures.value ∙ c.in_ok-lists.ensures) (c.as_slice.ensures ∙ c.args.sheet.now.read)

pub least_constraint-requires : goal.least_constraint-requires
least_constraint-requires c =
    let sheet = c.args.sheet.now.graph.now.sheet.now in
    subst AreRead (sym (c.in_ok-asked.ensures.rows ∙ c.as_slice.ensures ∙ c.args.sheet.now.read)) (rows_read sheet.trees.now sheet.space.now sheet.shaped sheet.named)
