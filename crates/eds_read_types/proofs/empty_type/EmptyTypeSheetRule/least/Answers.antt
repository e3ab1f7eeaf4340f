use Rattle.std.proofs.Common.{[], ◌∙◌, ap, option_map, sym}
use Rattle.eds_base.specs.Refusals.{least}
use Rattle.eds_read_types.specs.Faults.{is_unmarked, is_judged}
use Rattle.eds_read_types.specs.EmptyType.{empties}
use Rattle.eds_read_types.proofs.NoBreaks.{least-none}
use Rattle.eds_read_types.proofs.FaultFacts.{empties-fewer, none-unmarked}
use Rattle.eds_read_types.proofs.empty_type.EmptyTypeSheetRule.least.Goals as goal

pub returns-in-None : goal.returns-in-None
returns-in-None c =
    let sheet = c.args.sheet.now.graph.now.sheet.now in
    let word = option_map (λ w. w.now) sheet.asked in
    sym (ap least (empties-fewer (is_unmarked []) none-unmarked (is_judged sheet.trees.now sheet.space.now) sheet.trees.now sheet.space.now word (least-none (empties (is_unmarked []) sheet.trees.now sheet.space.now word) (sym c.in_ok-found.ensures ∙ c.in-None.is))))
