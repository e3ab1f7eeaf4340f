use Rattle.std.proofs.Common.{List, [], ◌∷◌, sym, ap, ◌∙◌, map, suc, subst, Some, None, option_map, Vec, Global}
use Rattle.eds_types.specs.Plain.{plain}
use Rattle.eds_types.specs.declared.value.Value.{Value}
use Rattle.eds_plan.specs.declared.run.Halt.TheVariants.{BadArgument}
use Rattle.eds_plan.specs.Statements.{stmts, call as calls}
use Rattle.eds_act.specs.Does.{statement, items_of}
use Rattle.eds_act.specs.declared.ending.ActEnd.TheVariants.{Done}
use Rattle.eds_act.specs.Running.{world, types_of, Leads}
use Rattle.eds_act.proofs.Leading.{leads_halts, leads_goes, leads_same}
use Rattle.eds_act.proofs.Starting.{starts_no_call, starts_call}
use Rattle.eds_act.proofs.run.start_call.Goals as goal

pub returns-in-None : goal.returns-in-None
returns-in-None c = record { runs = leads_halts c.args.table.now c.args.comp.now BadArgument (statement (map plain c.args.arguments.now) (calls c.args.action.now)) [] c.args.event.now.left (world c.args.event.now) (λ packs tells. starts_no_call packs c.args.table.now c.args.comp.now (map plain c.args.arguments.now) (world c.args.event.now) c.args.action.now c.in-None.ensures) }

pub returns-in-None-2 : goal.returns-in-None-2
returns-in-None-2 c = record {
  runs =
      leads_halts c.args.table.now c.args.comp.now BadArgument (statement (map plain c.args.arguments.now) (calls c.args.action.now)) [] c.args.event.now.left (world c.args.event.now)
      (λ packs tells. starts_call packs c.args.table.now c.args.comp.now (map plain c.args.arguments.now) (world c.args.event.now) c.args.action.now c.in-Some.activity.now None c.as_slice.result.now (map plain c.as_slice-variables.result.now) c.as_slice-operands.result.now c.in-Some.ensures (ap types_of c.as_slice.ensures.value ∙ c.in_ok-types-in-Some.ensures) (ap (map plain) c.as_slice-variables.ensures.value) c.as_slice-operands.ensures
      (ap (option_map (λ (v : Vec Value Global). map plain v.items)) (sym c.in-None-2.is) ∙ c.in_ok-arguments_of-in-Some.ensures packs tells));
}

pub returns : goal.returns
returns c = record {
  runs =
      let is : List Rattle.eds_act.specs.Does.Item = items_of (map plain c.in-Some-2.values.items) (stmts c.in-Some.activity.now.body) in
      subst (λ k. Leads c.args.table.now c.args.comp.now Done ((statement (map plain c.args.arguments.now) (calls c.args.action.now)) ∷ []) k (suc c.args.event.now.left) (world c.args.event.now) c.args.event.now.left (world c.args.event.now)) (sym c.in_ok-frame_of-in-Some-2.ensures)
      (leads_goes c.args.table.now c.args.comp.now Done (statement (map plain c.args.arguments.now) (calls c.args.action.now)) is is c.args.event.now.left c.args.event.now.left (world c.args.event.now) (world c.args.event.now) (world c.args.event.now)
      (λ packs tells. starts_call packs c.args.table.now c.args.comp.now (map plain c.args.arguments.now) (world c.args.event.now) c.args.action.now c.in-Some.activity.now (Some (map plain c.in-Some-2.values.items)) c.as_slice.result.now (map plain c.as_slice-variables.result.now) c.as_slice-operands.result.now c.in-Some.ensures (ap types_of c.as_slice.ensures.value ∙ c.in_ok-types-in-Some.ensures) (ap (map plain) c.as_slice-variables.ensures.value) c.as_slice-operands.ensures
      (ap (option_map (λ (v : Vec Value Global). map plain v.items)) (sym c.in-Some-2.is) ∙ c.in_ok-arguments_of-in-Some.ensures packs tells))
      (leads_same c.args.table.now c.args.comp.now is c.args.event.now.left (world c.args.event.now)));
}
