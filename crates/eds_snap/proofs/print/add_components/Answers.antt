use Rattle.std.proofs.Common.{rules, ◌+◌, length, map, refl, sym, ap, ◌∙◌, append-nil, arith}
use Rattle.eds_plan.specs.declared.component.ComponentPlan.{ComponentPlan}
use Rattle.eds_snap.specs.Texts.{component_text}
use Rattle.eds_plan.proofs.Called.{opened}
use Rattle.eds_script.proofs.PairLaws.{paired-behind, paired-here, texts-end, texts-step}
use Rattle.eds_plan.specs.States.{StateNow, state_now}
use Rattle.eds_script.specs.Fitting.{HaveValues}
use Rattle.eds_snap.proofs.print.add_components.Goals as goal

pub returns-in_default-get : goal.returns-in_default-get
returns-in_default-get c =
    let split = opened c.loop-rest.rest.now c.component-item.result _ c.in-len1-up.len_at_least c.component-item.is in
    sym (append-nil c.loop-rest.text.items) ∙ texts-end (component_text c.args.table.now) c.loop-rest.rest.now _ c.component-item.result c.loop-rest.place c.args.states.now c.loop-rest.text.items _ split (sym c.in_default-get.ensures) c.loop-rest.invariant.told

pub add_component-requires : goal.add_component-requires
add_component-requires c =
    let split = opened c.loop-rest.rest.now c.component-item.result _ c.in-len1-up.len_at_least c.component-item.is in
    paired-here (λ (k : ComponentPlan) (s : StateNow). HaveValues c.args.table.now k.variables s.variables) c.loop-rest.rest.now _ c.component-item.result c.loop-rest.place c.args.states.now (state_now c.in-Some.state.now) split (sym c.in-Some.ensures) c.loop-rest.invariant.held

pub loop-rest-preserved : goal.loop-rest-preserved
loop-rest-preserved c =
    let split = opened c.loop-rest.rest.now c.component-item.result _ c.in-len1-up.len_at_least c.component-item.is in
    let long = ap length split in
    record {
      told = texts-step (component_text c.args.table.now) c.loop-rest.rest.now _ c.component-item.result c.loop-rest.place (c.loop-rest.place + 1) c.args.states.now (state_now c.in-Some.state.now) c.loop-rest.text.items c.add_component.new.text.items _ _ split (sym c.in-Some.ensures) (search rules) refl c.in_ok-add_component.ensures c.loop-rest.invariant.told;
      held = paired-behind (λ (k : ComponentPlan) (s : StateNow). HaveValues c.args.table.now k.variables s.variables) c.loop-rest.rest.now _ c.component-item.result c.loop-rest.place (c.loop-rest.place + 1) c.args.states.now (state_now c.in-Some.state.now) split (sym c.in-Some.ensures) (search rules) c.loop-rest.invariant.held;
      within = omega (arith, long, c.loop-rest.invariant.within);
    }
