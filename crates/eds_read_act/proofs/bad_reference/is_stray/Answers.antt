use Rattle.std.proofs.Common.{sym, ap, ◌∙◌}
use Rattle.std.specs.Option.{option_copied}
use Rattle.eds_read_act.specs.BadReference.{is_stray}
use Rattle.eds_read_act.proofs.Giving.{stray-first, stray-other}
use Rattle.eds_read_act.proofs.bad_reference.is_stray.Goals as goal

pub returns-then-is_some : goal.returns-then-is_some
returns-then-is_some c =
    stray-first c.args.tree.now c.args.link c.in-Some.fields.now c.text_at-name.result.now c.type_of.result c.is_some.result c.is_first_given.result
    c.text_at-name.ensures c.type_of.ensures c.is_some.ensures c.if-is_some.true c.is_first_given.ensures
    ∙ sym (ap (λ o. is_stray c.args.tree.now c.args.link (option_copied o)) c.in-Some.is)

pub returns-else-is_some : goal.returns-else-is_some
returns-else-is_some c =
    stray-other c.args.tree.now c.args.link c.in-Some.fields.now c.text_at-name.result.now c.type_of.result c.is_some.result
    c.text_at-name.ensures c.type_of.ensures c.is_some.ensures c.if-is_some.false
    ∙ sym (ap (λ o. is_stray c.args.tree.now c.args.link (option_copied o)) c.in-Some.is)
