use Rattle.eds_tree.proofs.Colons.{local_name-behind, local_name-whole}
use Rattle.eds_tree.proofs.build.local_name.Goals as goal

pub returns-in-Some : goal.returns-in-Some
returns-in-Some c =
    let cut = c.in-Some.ensures.cases in
    local_name-behind c.args.name.now c.in-Some.after.now cut.0 cut.1 cut.2.0 cut.2.1 cut.4 cut.7

pub returns-in-None : goal.returns-in-None
returns-in-None c = local_name-whole c.args.name.now c.in-None.ensures.cases
