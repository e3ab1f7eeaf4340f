use Rattle.std.proofs.Common.{◌++◌, [], ◌∷◌, map}
use Rattle.eds_types.specs.Plain.{plain}
use Rattle.eds_plan.specs.Statements.{stmts}
use Rattle.eds_act.specs.Does.{items_of}
use Rattle.eds_act.specs.Running.{world, turn_item, next_turns}
use Rattle.eds_act.proofs.Leading.{leads_nowhere}
use Rattle.eds_act.proofs.Working.{turn_if_ok}
use Rattle.eds_act.proofs.run.run_turn.Goals as goal

pub returns-in-Done-clause-runs : goal.returns-in-Done-clause-runs
returns-in-Done-clause-runs c =
    let args = map plain c.args.arguments.now in
    turn_if_ok c.args.table.now c.args.comp.now c.run_stores.result args (turn_item c.args.turn.now args (stmts c.args.body.now) ∷ []) (items_of args (stmts c.args.body.now)) (next_turns c.args.turn.now args (stmts c.args.body.now)) c.args.event.now c.start_turn.new.event c.run_stores.new.event
    (c.in-Done.ensures.runs args (stmts c.args.body.now)) c.run_stores.ensures.runs

pub returns-in-Halted-clause-runs : goal.returns-in-Halted-clause-runs
returns-in-Halted-clause-runs c =
    let args = map plain c.args.arguments.now in
    let behind = next_turns c.args.turn.now args (stmts c.args.body.now) in
    leads_nowhere c.args.table.now c.args.comp.now c.in-Halted.halt (turn_item c.args.turn.now args (stmts c.args.body.now) ∷ []) (items_of args (stmts c.args.body.now) ++ behind) behind c.args.event.now.left c.start_turn.new.event.left (world c.args.event.now) (world c.start_turn.new.event)
    (c.in-Halted.ensures.runs args (stmts c.args.body.now))
