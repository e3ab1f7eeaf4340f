use Rattle.std.proofs.Common.{◌∙◌, ap, map}
use Rattle.eds_types.specs.Plain.{plain}
use Rattle.eds_plan.specs.Sends.{sent}
use Rattle.eds_plan.specs.Statements.{stmts}
use Rattle.eds_act.specs.Does.{items_of}
use Rattle.eds_act.proofs.Whole.{whole_if_ok}
use Rattle.eds_act.proofs.activity.run_body.Goals as goal

pub returns-clause-does : goal.returns-clause-does
returns-clause-does c =
    whole_if_ok c.args.table.now c.args.event.now.comp.0 c.args.component.now c.args.activity.now (map plain c.args.arguments.now) c.run_frames.result (map plain c.args.event.now.variables.items) (map plain c.run_frames.new.event.variables.items) c.args.event.now.waiting c.run_frames.new.event.waiting (map sent c.args.event.now.out) (map sent c.run_frames.new.event.out) c.args.event.now.left c.run_frames.new.event.left c.packing_is_decided.ensures c.keeps_rules.ensures c.requires.left c.run_frames.ensures.left
    (rw (c.in_ok-frame.ensures ∙ ap (λ args. items_of args (stmts c.args.activity.now.body)) c.in_ok-arguments.ensures, c.run_frames.ensures.comp) at c.run_frames.ensures.runs)
