use Rattle.std.proofs.Common.{ap, arith, sym, subst, map, ◌∙◌, [], List}
use Rattle.eds_types.specs.PackedSizes.{packs}
use Rattle.eds_plan.specs.Plans.{component_at}
use Rattle.eds_plan.specs.Sends.{sent}
use Rattle.eds_plan.specs.Fitting.{ComponentFits}
use Rattle.eds_plan.specs.States.{state_now}
use Rattle.eds_plan.specs.declared.run.MachineState.{MachineState}
use Rattle.eds_plan.specs.declared.run.Send.{Send}
use Rattle.eds_act.specs.Does.{Conforms}
use Rattle.eds_act.proofs.Telling.{packs_tell}
use Rattle.eds_machine.specs.Laws.{NoneBefore}
use Rattle.eds_machine.specs.Reactions.{starts}
use Rattle.eds_machine.proofs.Leaving.{starts_send_well}
use Rattle.eds_machine.proofs.MachineFits.{machines_fit}
use Rattle.eds_machine.proofs.Punctual.{starts_are_punctual}
use Rattle.eds_host.specs.Systems.{Reaction}
use Rattle.eds_host.proofs.Adapted.{component_has, sent_fits, started_is, state_of_is, waits_after}
use Rattle.eds_host.proofs.component.start.Goals as goal

pub start-requires-clause-fits : goal.start-requires-clause-fits
start-requires-clause-fits c = machines_fit c.args.table.now (component_at c.args.plan.now c.args.comp.0) (component_has (ComponentFits c.args.table.now (Conforms c.args.table.now)) c.args.plan.now c.args.comp.0 c.requires.plan.components c.requires.known)

pub returns-clause-state : goal.returns-clause-state
returns-clause-state c = ap (λ (r : Reaction). r.state) (started_is c.args.table.now c.args.plan.now c.args.comp.0 c.in_ok-state.state c.args.out.now c.start.new.out c.requires.fresh c.in_ok-state.ensures.world c.in_ok-state.ensures.machines)

pub returns-clause-sends : goal.returns-clause-sends
returns-clause-sends c = ap (λ (r : Reaction). r.sends) (started_is c.args.table.now c.args.plan.now c.args.comp.0 c.in_ok-state.state c.args.out.now c.start.new.out c.requires.fresh c.in_ok-state.ensures.world c.in_ok-state.ensures.machines)

pub returns-clause-keeps : goal.returns-clause-keeps
returns-clause-keeps c = state_of_is c.args.table.now c.args.plan.now c.args.comp.0 0 c.in_ok-state.state (omega arith) c.in_ok-state.ensures.keeps

pub returns-clause-later : goal.returns-clause-later
returns-clause-later c =
    let t = c.args.table.now in let own = component_at c.args.plan.now c.args.comp.0 in
    let same = c.in_ok-state.ensures.machines ∙ ap (λ (o : List Send). (starts (packs t) t own c.args.comp.0 (map sent o)).machines) c.requires.fresh in
    waits_after 1 c.args.plan.now c.args.comp.0 (state_now c.in_ok-state.state) (subst (λ (rs : List MachineState). NoneBefore 1 own.machines rs) (sym same) (starts_are_punctual (packs t) t own c.args.comp.0))

pub returns-clause-fits : goal.returns-clause-fits
returns-clause-fits c =
    let t = c.args.table.now in let own = component_at c.args.plan.now c.args.comp.0 in
    let fits = component_has (ComponentFits t (Conforms t)) c.args.plan.now c.args.comp.0 c.requires.plan.components c.requires.known in
    sent_fits t c.args.plan.now c.args.comp.0 c.in_ok-state.state c.start.new.out (starts (packs t) t own c.args.comp.0 []).world c.requires.known
    (c.in_ok-state.ensures.world ∙ ap (λ (o : List Send). (starts (packs t) t own c.args.comp.0 (map sent o)).world) c.requires.fresh)
    (starts_send_well (packs t) t own c.args.comp.0 (packs_tell t c.packed_sizes.ensures c.keeps_rules.ensures) fits)
