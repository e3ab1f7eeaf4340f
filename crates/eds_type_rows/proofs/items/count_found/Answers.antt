use Rattle.std.proofs.Common.{ap, ap₂, sym, ◌∙◌, option_map}
use Rattle.eds_type_rows.specs.Items.{few, values_of, values_found}
use Rattle.eds_type_rows.proofs.NumberSteps.{ok-is}
use Rattle.eds_type_rows.proofs.items.count_found.Goals as goal

pub returns-in-Some : goal.returns-in-Some
returns-in-Some c =
    let graph = c.args.first.now.graph.now in
    ok-is c.count_at.result _ _ (ap₂ (λ places bases. option_map few (values_of graph.sheet.now.trees.now places bases c.in-Some.id.0)) graph.sheet.now.known graph.found ∙ ap (λ id. option_map few (values_found graph.sheet.now.trees.now graph.sheet.now.space.now id)) (sym c.in-Some.is)) c.count_at.ensures
