use Rattle.std.proofs.Common.{sym, ◌∙◌}
use Rattle.eds_tree.proofs.Joined.{joined-last, joined-stop, joined-next}
use Rattle.eds_tree.proofs.texts.are_names.Goals as goal

pub returns : goal.returns
returns c = c.is_name-2.ensures ∙ sym (joined-last c.args.separator c.loop-i.rest.now (sym c.position_of.ensures ∙ c.in_default.is)) ∙ c.loop-i.invariant

pub returns-then-not-is_name : goal.returns-then-not-is_name
returns-then-not-is_name c = sym (joined-stop c.args.separator c.loop-i.rest.now c.in-Some.i (sym c.position_of.ensures ∙ c.in-Some.is) (sym c.is_name.ensures ∙ c.if-not-is_name.true)) ∙ c.loop-i.invariant

pub loop-i-preserved : goal.loop-i-preserved
loop-i-preserved c = joined-next c.args.separator c.loop-i.rest.now c.in-Some.i (sym c.position_of.ensures ∙ c.in-Some.is) (sym c.is_name.ensures ∙ c.if-not-is_name.false) ∙ c.loop-i.invariant
