use Rattle.std.proofs.Common.{ap, ◌∙◌, option_map, ℕ}
use Rattle.eds_read_act.specs.Scopes.{Field}
use Rattle.eds_read_act.proofs.Numbering.{field-named}
use Rattle.eds_read_act.proofs.fields.Fields.type_of.Goals as goal

pub returns-in_err-field : goal.returns-in_err-field
returns-in_err-field c = c.from_residual.ensures ∙ ap (option_map (λ (p : ℕ × Field). (p.1).1)) c.in_err-field.ensures ∙ field-named c.args.self.now c.args.name.now

pub returns : goal.returns
returns c = ap (option_map (λ (p : ℕ × Field). (p.1).1)) c.in_ok-field.ensures ∙ field-named c.args.self.now c.args.name.now
