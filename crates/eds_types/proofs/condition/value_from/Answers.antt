use Rattle.std.proofs.Common.{◌∙◌, ◌-◌, ap, arith, length, take, drop}
use Rattle.eds_types.specs.Seeking.{along}
use Rattle.eds_types.proofs.Paths.{first_is, value_on_is}
use Rattle.eds_types.proofs.condition.value_from.Goals as goal

pub returns-in-len1-up : goal.returns-in-len1-up
returns-in-len1-up c fs e = c.value_along.ensures ∙ ap (λ v. along c.args.table.now v (take (length c.args.path.now - 1) (drop 1 c.args.path.now))) (e ∙ first_is fs c.args.path.now (record { 0 = 0 }, 0) (omega arith)) ∙ value_on_is c.args.table.now fs c.args.path.now (record { 0 = 0 }, 0) (omega arith)
