use Rattle.std.proofs.Common.{◌∙◌, ap, option_map}
use Rattle.eds_read_types.specs.Faults.{is_unmarked}
use Rattle.eds_read_types.proofs.FaultFacts.{judged-breaks}
use Rattle.eds_read_types.proofs.empty_type.least_of_judged.Goals as goal

pub returns : goal.returns
returns c =
    let sheet = c.args.sheet.now.graph.now.sheet.now in
    judged-breaks sheet.trees.now sheet.space.now (option_map (λ w. w.now) sheet.asked) c.deref.result.now (λ id. ap (λ ms. is_unmarked ms id) c.deref.ensures.value ∙ c.in_ok-faults.ensures id) c.least_of_empties.result c.least_of_empties.ensures
