use Rattle.std.proofs.Common.{◌++◌, [], ◌∷◌, ◌∙◌, ◌-◌, Some, slice_get, ap, sym}
use Rattle.eds_plan.specs.Plans.{variable_types}
use Rattle.eds_act.specs.Does.{storing, items_of}
use Rattle.eds_act.specs.Running.{world, turn_item, next_turns}
use Rattle.eds_act.proofs.Leading.{leads_spent, leads_counted, leads_stored}
use Rattle.eds_act.proofs.turn.start_turn.Goals as goal

pub returns-then-event-eq0-clause-runs : goal.returns-then-event-eq0-clause-runs
returns-then-event-eq0-clause-runs c args body = leads_spent c.args.table.now c.args.comp.now (turn_item c.args.turn.now args body) [] (items_of args body ++ next_turns c.args.turn.now args body) c.args.event.now.left (world c.args.event.now) c.if-event-eq0.true

pub returns-clause-runs : goal.returns-clause-runs
returns-clause-runs c args body =
    let item = turn_item c.args.turn.now args body in
    let behind = items_of args body ++ next_turns c.args.turn.now args body in
    let w = world c.args.event.now in
    leads_counted c.args.table.now c.args.comp.now c.store.result (item ∷ []) behind c.args.event.now.left c.store.new.event.left w (world c.store.new.event) c.if-event-eq0.false
    (leads_stored c.args.table.now c.args.comp.now c.store.result item behind (c.args.event.now.left - 1) c.store.new.event.left w (world c.store.new.event)
    (λ packs tells. ap (λ v. storing packs (slice_get (variable_types c.args.comp.now) c.args.turn.now.at) c.args.turn.now.at (Some v) behind w) (sym c.number_of_turn-number.ensures) ∙ c.store.ensures.stored packs tells behind) c.store.ensures.kept c.store.ensures.left)
