use Rattle.std.proofs.Common.{◌∙◌}
use Rattle.eds_host.proofs.Mirrored.{first_is, none_is, empty}
use Rattle.eds_host.proofs.dues.first_due.Goals as goal

pub returns : goal.returns
returns c =
    first_is c.args.order.now c.args.of.now.items c.in_ok-when.when.now c.in_ok-when.machine.now c.requires c.in_ok-when.ensures.value c.in_ok-when.ensures.least

pub returns-in_err-when : goal.returns-in_err-when
returns-in_err-when c =
    c.from_residual.ensures
    ∙ none_is c.args.order.now c.args.of.now.items c.requires (empty c.args.order.now (λ lt. let z = c.in_err-when.ensures.variant.1 lt in absurd cc))
