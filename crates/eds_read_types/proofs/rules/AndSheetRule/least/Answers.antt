use Rattle.std.proofs.Common.{option_map}
use Rattle.eds_tree.proofs.Least.{least-joined}
use Rattle.eds_read_types.proofs.rules.AndSheetRule.least.Goals as goal

pub returns : goal.returns
returns g c =
    let sheet = c.args.sheet.now.graph.now.sheet.now in
    let word = option_map (λ w. w.now) sheet.asked in
    least-joined (g.R.SheetRule.breaks sheet.trees.now sheet.space.now word) (g.S.SheetRule.breaks sheet.trees.now sheet.space.now word)
    c.in_ok-here.here c.in_ok-others.others c.first.result c.in_ok-here.ensures c.in_ok-others.ensures c.first.ensures.first
