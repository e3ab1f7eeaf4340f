use Rattle.std.proofs.Common.{◌∙◌, ap}
use Rattle.std.specs.Prelude.{slice_get}
use Rattle.eds_base.specs.Reading.{◌>>=◌}
use Rattle.eds_read_act.proofs.Giving.{given-first}
use Rattle.eds_read_act.proofs.given.Given.first.Goals as goal

pub returns-in_err-at : goal.returns-in_err-at
returns-in_err-at c =
    c.from_residual.ensures ∙ ap (λ o. o >>= λ k. slice_get c.args.self.now.nodes.items k) c.in_err-at.ensures
    ∙ given-first c.args.tree.now c.args.self.now.holder c.args.name.now c.args.self.now.nodes.items c.args.self.now.names c.requires.nodes c.requires.names

pub returns : goal.returns
returns c =
    c.node_at.ensures ∙ ap (λ ns. slice_get ns c.in_ok-at.at) c.as_slice.ensures.value
    ∙ ap (λ o. o >>= λ k. slice_get c.args.self.now.nodes.items k) c.in_ok-at.ensures
    ∙ given-first c.args.tree.now c.args.self.now.holder c.args.name.now c.args.self.now.nodes.items c.args.self.now.names c.requires.nodes c.requires.names
