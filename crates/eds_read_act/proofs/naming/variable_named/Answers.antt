use Rattle.std.proofs.Common.{Some, ap, ◌∙◌, sym, option_map}
use Rattle.eds_read_act.specs.declared.variable.VariableHead.{VariableHead}
use Rattle.eds_read_act.specs.Naming.{whole}
use Rattle.eds_read_act.proofs.Numbering.{item_named-map}
use Rattle.eds_read_act.proofs.naming.variable_named.Goals as goal

-- a variable is found as the field of its name and type
pub returns-in_err-at : goal.returns-in_err-at
returns-in_err-at c =
    c.from_residual.ensures ∙ ap (λ o. option_map whole (option_map (λ p. (p.0, (p.1.name, p.1.id))) o)) c.in_err-at.ensures
    ∙ sym (ap (option_map whole) (item_named-map (λ (x : VariableHead). (x.name, x.id)) (λ f. f.0) c.args.component.now.variables.now c.args.name.now))

pub returns : goal.returns
returns c =
    ap Some c.whole.ensures
    ∙ ap (λ o. option_map whole (option_map (λ p. (p.0, (p.1.name, p.1.id))) o)) c.in_ok-at.ensures
    ∙ sym (ap (option_map whole) (item_named-map (λ (x : VariableHead). (x.name, x.id)) (λ f. f.0) c.args.component.now.variables.now c.args.name.now))
