use Rattle.std.proofs.Common.{rules, ◌+◌, length, map, refl, sym, ap, ◌∙◌, append-nil, arith}
use Rattle.eds_plan.specs.declared.component.VarPlan.{VarPlan}
use Rattle.eds_types.specs.Plain.{Plain, plain}
use Rattle.eds_script.specs.Fitting.{IsValueOf}
use Rattle.eds_script.specs.States.{variable_line}
use Rattle.eds_plan.proofs.Called.{opened}
use Rattle.eds_script.proofs.PairLaws.{paired-behind, paired-here, texts-end, texts-step}
use Rattle.eds_script.proofs.state.add_variables.Goals as goal

pub returns-in_default-value_at : goal.returns-in_default-value_at
returns-in_default-value_at c =
    let split = opened c.loop-rest.rest.now c.variable-item.result _ c.in-len1-up.len_at_least c.variable-item.is in
    sym (append-nil c.loop-rest.text.items) ∙ texts-end (variable_line c.args.table.now c.args.component.now.name) c.loop-rest.rest.now _ c.variable-item.result c.loop-rest.place (map plain c.args.values.now) c.loop-rest.text.items _ split (sym c.in_default-value_at.ensures) c.loop-rest.invariant.told

pub add_variable-requires : goal.add_variable-requires
add_variable-requires c =
    let split = opened c.loop-rest.rest.now c.variable-item.result _ c.in-len1-up.len_at_least c.variable-item.is in
    paired-here (λ (x : VarPlan) (v : Plain). IsValueOf c.args.table.now x.id.0 v) c.loop-rest.rest.now _ c.variable-item.result c.loop-rest.place (map plain c.args.values.now) (plain c.in-Some.value.now) split (sym c.in-Some.ensures) c.loop-rest.invariant.held

pub loop-rest-preserved : goal.loop-rest-preserved
loop-rest-preserved c =
    let split = opened c.loop-rest.rest.now c.variable-item.result _ c.in-len1-up.len_at_least c.variable-item.is in
    let long = ap length split in
    record {
      told = texts-step (variable_line c.args.table.now c.args.component.now.name) c.loop-rest.rest.now _ c.variable-item.result c.loop-rest.place (c.loop-rest.place + 1) (map plain c.args.values.now) (plain c.in-Some.value.now) c.loop-rest.text.items c.add_variable.new.text.items _ _ split (sym c.in-Some.ensures) (search rules) refl c.in_ok-add_variable.ensures c.loop-rest.invariant.told;
      held = paired-behind (λ (x : VarPlan) (v : Plain). IsValueOf c.args.table.now x.id.0 v) c.loop-rest.rest.now _ c.variable-item.result c.loop-rest.place (c.loop-rest.place + 1) (map plain c.args.values.now) (plain c.in-Some.value.now) split (sym c.in-Some.ensures) (search rules) c.loop-rest.invariant.held;
      within = omega (arith, long, c.loop-rest.invariant.within);
    }
