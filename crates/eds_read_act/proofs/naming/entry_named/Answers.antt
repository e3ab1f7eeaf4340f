use Rattle.std.proofs.Common.{ap, ◌∙◌}
use Rattle.eds_base.specs.Reading.{◌>>=◌}
use Rattle.eds_read_act.specs.Naming.{entry_at}
use Rattle.eds_read_act.proofs.EntryNames.{entry-named}
use Rattle.eds_read_act.proofs.naming.entry_named.Goals as goal

pub returns-in_err-at : goal.returns-in_err-at
returns-in_err-at c = c.from_residual.ensures ∙ ap (λ o. o >>= entry_at c.args.table.now) c.in_err-at.ensures ∙ entry-named c.args.table.now c.args.name.now c.args.id

pub returns : goal.returns
returns c =
    c.entry_at.ensures ∙ ap (λ t. entry_at t c.in_ok-at.at) c.types.ensures
    ∙ ap (λ o. o >>= entry_at c.args.table.now) c.in_ok-at.ensures ∙ entry-named c.args.table.now c.args.name.now c.args.id
