use Rattle.std.proofs.Common.{map, ap, sym, ◌∙◌, slice_get, option_map, []}
use Rattle.eds_types.specs.Plain.{plain}
use Rattle.eds_plan.specs.Statements.{assign}
use Rattle.eds_plan.specs.Plans.{variable_types}
use Rattle.eds_act.specs.Does.{statement, storing, targeted, value_of}
use Rattle.eds_act.specs.Running.{world}
use Rattle.eds_act.proofs.Leading.{leads_stored}
use Rattle.eds_act.proofs.run.assign_other.Goals as goal

pub returns-clause-runs : goal.returns-clause-runs
returns-clause-runs c =
    let value = c.in_ok-value.ensures ∙ ap (λ vs. value_of c.args.table.now (map plain c.args.arguments.now) (map plain vs) c.args.operand.now) c.as_slice.ensures.value in
    let entry = c.in_ok-value-2.ensures ∙ ap (λ vs. targeted c.args.table.now (map plain vs) c.args.target.now (option_map plain c.in_ok-value.value)) c.as_slice-2.ensures.value ∙ ap (targeted c.args.table.now (map plain c.args.event.now.variables.items) c.args.target.now) value in
    leads_stored c.args.table.now c.args.comp.now c.store.result (statement (map plain c.args.arguments.now) (assign c.args.target.now c.args.operand.now)) [] c.args.event.now.left c.store.new.event.left (world c.args.event.now) (world c.store.new.event)
    (λ packs tells. ap (λ v. storing packs (slice_get (variable_types c.args.comp.now) c.args.target.now.variable) c.args.target.now.variable v [] (world c.args.event.now)) (sym entry) ∙ c.store.ensures.stored packs tells [])
    c.store.ensures.kept c.store.ensures.left
