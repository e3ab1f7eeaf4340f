use Rattle.eds_type_rows.proofs.FixedFacts.{kind-known}
use Rattle.eds_type_rows.proofs.value_kinds.value_in.Goals as goal

pub returns-in-Some : goal.returns-in-Some
returns-in-Some c =
    let sheet = c.args.kinds.now.graph.now.sheet.now in
    kind-known c.value.result c.in-Some.kind.now.kind sheet.trees.now sheet.space.now c.args.id c.args.text.now (c.args.kinds.now.read c.args.id c.in-Some.kind.now c.in-Some.ensures) c.value.ensures
