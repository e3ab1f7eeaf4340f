use Rattle.std.proofs.Common.{◌∙◌, ap, sym, option_map}
use Rattle.eds_base.specs.declared.rule.Rule.TheVariants.{DuplicateMember}
use Rattle.eds_generic.specs.Members.{repeated}
use Rattle.eds_generic.specs.NameRules.{keeping}
use Rattle.eds_generic.proofs.NameBreaks.{least-duplicate}
use Rattle.eds_generic.proofs.resolving.least_duplicate.Goals as goal

pub returns : goal.returns
returns c = c.keeping_where.ensures ∙ ap (option_map (keeping DuplicateMember c.args.at)) (c.in_ok-word.ensures ∙ c.in_ok-first_repeated.ensures) ∙ sym (least-duplicate c.args.at (repeated c.args.members.now))
