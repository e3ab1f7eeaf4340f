use Rattle.eds_layout.proofs.layouts.layout_of.Goals as goal

pub returns-clause-tells : goal.returns-clause-tells
returns-clause-tells c = c.layouts_tell.ensures c.args.table.now c.args.id.0 c.keeps_rules.ensures c.in_ok-layout.layout c.in_ok-layout.ensures
