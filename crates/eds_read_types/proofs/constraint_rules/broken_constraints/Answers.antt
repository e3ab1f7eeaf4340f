use Rattle.std.proofs.Common.{sym, subst, ◌∙◌}
use Rattle.eds_constraints.specs.ConstrainedRows.{AreRead}
use Rattle.eds_read_types.proofs.BrokenFacts.{broken-marks}
use Rattle.eds_read_types.proofs.FaultFacts.{ok-weaker}
use Rattle.eds_read_types.proofs.ReadRows.{rows_read, asked_few}
use Rattle.eds_read_types.proofs.constraint_rules.broken_constraints.Goals as goal

pub of-requires-clause-read : goal.of-requires-clause-read
of-requires-clause-read c =
    let sheet = c.args.sheet.now.graph.now.sheet.now in
    subst AreRead (sym (c.as_slice.ensures ∙ c.args.sheet.now.read)) (rows_read sheet.trees.now sheet.space.now sheet.shaped sheet.named)

pub of-requires-clause-few : goal.of-requires-clause-few
of-requires-clause-few c =
    let sheet = c.args.sheet.now.graph.now.sheet.now in
    asked_few sheet.trees.now sheet.space.now (c.deref.ensures.value ∙ c.in_ok-lists.ensures) (c.as_slice.ensures ∙ c.args.sheet.now.read)

pub broken_containers-requires : goal.broken_containers-requires
broken_containers-requires c =
    let sheet = c.args.sheet.now.graph.now.sheet.now in
    subst AreRead (sym (c.in_ok-asked.ensures.rows ∙ c.as_slice.ensures ∙ c.args.sheet.now.read)) (rows_read sheet.trees.now sheet.space.now sheet.shaped sheet.named)

pub returns : goal.returns
returns c =
    let sheet = c.args.sheet.now.graph.now.sheet.now in
    ok-weaker c.broken_containers.result _ _ (λ m h. broken-marks sheet.trees.now sheet.space.now c.args.sheet.now.rows.now c.in_ok-asked.asked.rows.now c.in_ok-asked.asked.lists.now m.items c.args.sheet.now.read
    (c.in_ok-asked.ensures.rows ∙ c.as_slice.ensures) (c.in_ok-asked.ensures.lists ∙ c.deref.ensures.value ∙ c.in_ok-lists.ensures) h) c.broken_containers.ensures
