use Rattle.std.proofs.Common.{◌||◌, ◌∙◌, ap, is_some, sym}
use Rattle.eds_type_rows.specs.TableRows.{table_rows}
use Rattle.eds_read_types.specs.Faults.{is_constraint_broken, has_empty_part}
use Rattle.eds_read_types.proofs.faults.is_faulty_there.Goals as goal

pub returns-then-is_some : goal.returns-then-is_some
returns-then-is_some c =
    let sheet = c.args.sheet.now.graph.now.sheet.now in
    ap (λ b. b || (is_constraint_broken sheet.trees.now sheet.space.now c.args.id || has_empty_part (table_rows sheet.trees.now sheet.space.now) c.args.id)) (sym c.if-is_some.true ∙ (c.is_some.ensures ∙ ap is_some c.in_ok-fault.ensures))

pub returns : goal.returns
returns c =
    let sheet = c.args.sheet.now.graph.now.sheet.now in
    c.is_broken_otherwise.ensures
    ∙ (ap (λ b. b || has_empty_part c.args.all.now.rows.now c.args.id) (c.requires.told.told c.args.id c.requires.within)
    ∙ (ap (λ t. is_constraint_broken sheet.trees.now sheet.space.now c.args.id || has_empty_part t c.args.id) (c.requires.rows ∙ c.args.sheet.now.read)
    ∙ ap (λ b. b || (is_constraint_broken sheet.trees.now sheet.space.now c.args.id || has_empty_part (table_rows sheet.trees.now sheet.space.now) c.args.id)) (sym c.if-is_some.false ∙ (c.is_some.ensures ∙ ap is_some c.in_ok-fault.ensures))))
