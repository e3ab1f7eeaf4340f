use Rattle.std.proofs.Common.{sym, ◌∙◌}
use Rattle.eds_generic.proofs.Endless.{no_own-ends}
use Rattle.eds_generic.proofs.UseLaws.{uses-first}
use Rattle.eds_generic.proofs.used.judge_uses.Goals as goal

pub least_alone-requires-clause-ends : goal.least_alone-requires-clause-ends
least_alone-requires-clause-ends c = no_own-ends c.args.faces.now (sym c.in_ok-refusal.ensures ∙ c.in-None.is)

pub least_used-requires : goal.least_used-requires
least_used-requires c = no_own-ends c.args.faces.now (sym c.in_ok-refusal.ensures ∙ c.in-None.is)

pub returns-in_ok-used-in-None : goal.returns-in_ok-used-in-None
returns-in_ok-used-in-None c =
    uses-first c.args.faces.now c.args.types.now c.args.uses.now c.in_ok-alone-in-None.alone c.in_ok-used-in-None.used c.first.result
    (sym c.in_ok-refusal.ensures ∙ c.in-None.is) c.in_ok-alone-in-None.ensures c.in_ok-used-in-None.ensures c.first.ensures.first
