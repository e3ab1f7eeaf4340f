use Rattle.std.proofs.Common.{ap, sym, subst, ◌∙◌, [], List, refl}
use Rattle.eds_types.specs.PackedSizes.{packs}
use Rattle.eds_plan.specs.Plans.{component_at}
use Rattle.eds_plan.specs.Fitting.{ComponentFits}
use Rattle.eds_plan.specs.States.{state_now}
use Rattle.eds_plan.specs.declared.run.MachineState.{MachineState}
use Rattle.eds_plan.specs.declared.run.Send.{Send}
use Rattle.eds_act.specs.Does.{Conforms, budget}
use Rattle.eds_act.proofs.Telling.{packs_tell}
use Rattle.eds_machine.specs.Laws.{NoneBefore}
use Rattle.eds_machine.specs.Reactions.{reacting, reacts}
use Rattle.eds_machine.proofs.Leaving.{reactions_send_well}
use Rattle.eds_machine.proofs.MachineFits.{machines_fit}
use Rattle.eds_machine.proofs.Punctual.{reactions_are_punctual}
use Rattle.eds_host.specs.Systems.{Reaction}
use Rattle.eds_host.proofs.Adapted.{component_has, may_occur, none_waits, reacted_is, sent_fits, state_at_is, state_early, state_of_is, waits_after}
use Rattle.eds_host.proofs.component.react.Goals as goal

pub react-requires-clause-fits : goal.react-requires-clause-fits
react-requires-clause-fits c = machines_fit c.args.table.now (component_at c.args.plan.now c.args.comp.0) (component_has (ComponentFits c.args.table.now (Conforms c.args.table.now)) c.args.plan.now c.args.comp.0 c.requires.plan.components c.requires.known)

pub react-requires-clause-state : goal.react-requires-clause-state
react-requires-clause-state c = state_at_is c.args.table.now c.args.plan.now c.args.comp.0 c.args.now c.args.state.now c.requires.state

pub react-requires-clause-event : goal.react-requires-clause-event
react-requires-clause-event c = may_occur c.args.table.now c.args.plan.now c.args.comp.0 c.args.now (state_now c.args.state.now) c.args.event.now c.requires.known c.requires.event

pub returns-clause-state : goal.returns-clause-state
returns-clause-state c = ap (λ (r : Reaction). r.state) (reacted_is c.args.table.now c.args.plan.now c.args.comp.0 c.args.now c.args.event.now c.args.state.now c.react.new.state c.args.out.now c.react.new.out c.requires.fresh c.in_ok-react.ensures.world c.in_ok-react.ensures.machines)

pub returns-clause-sends : goal.returns-clause-sends
returns-clause-sends c = ap (λ (r : Reaction). r.sends) (reacted_is c.args.table.now c.args.plan.now c.args.comp.0 c.args.now c.args.event.now c.args.state.now c.react.new.state c.args.out.now c.react.new.out c.requires.fresh c.in_ok-react.ensures.world c.in_ok-react.ensures.machines)

pub returns-clause-keeps : goal.returns-clause-keeps
returns-clause-keeps c = state_of_is c.args.table.now c.args.plan.now c.args.comp.0 c.args.now c.react.new.state (state_early c.args.table.now c.args.plan.now c.args.comp.0 c.args.now (state_now c.args.state.now) c.requires.state) c.in_ok-react.ensures.keeps

pub returns-clause-later : goal.returns-clause-later
returns-clause-later c b le h =
    let t = c.args.table.now in let own = component_at c.args.plan.now c.args.comp.0 in
    let r = reacting c.args.comp.0 c.args.state.now c.args.out.now budget in
    waits_after b c.args.plan.now c.args.comp.0 (state_now c.react.new.state)
    (subst (λ (rs : List MachineState). NoneBefore b own.machines rs) (sym c.in_ok-react.ensures.machines)
    (reactions_are_punctual (packs t) t own c.args.now b c.args.event.now r le (none_waits b c.args.plan.now c.args.comp.0 (state_now c.args.state.now) h)))

pub returns-clause-fits : goal.returns-clause-fits
returns-clause-fits c =
    let t = c.args.table.now in let own = component_at c.args.plan.now c.args.comp.0 in
    let fits = component_has (ComponentFits t (Conforms t)) c.args.plan.now c.args.comp.0 c.requires.plan.components c.requires.known in
    let r = reacting c.args.comp.0 c.args.state.now [] budget in
    let variables = (state_at_is t c.args.plan.now c.args.comp.0 c.args.now c.args.state.now c.requires.state).variables in
    sent_fits t c.args.plan.now c.args.comp.0 c.react.new.state c.react.new.out (reacts (packs t) t own c.args.now c.args.event.now r).world c.requires.known
    (c.in_ok-react.ensures.world ∙ ap (λ (o : List Send). (reacts (packs t) t own c.args.now c.args.event.now (reacting c.args.comp.0 c.args.state.now o budget)).world) c.requires.fresh)
    (reactions_send_well (packs t) t own c.args.comp.0 c.args.now c.args.event.now r (packs_tell t c.packed_sizes.ensures c.keeps_rules.ensures) fits variables (record { own = refl; sent = tt }))
