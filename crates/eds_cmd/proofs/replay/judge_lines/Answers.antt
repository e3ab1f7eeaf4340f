use Rattle.std.proofs.Common.{◌≡◌, ℕ, ap, get_or, map, refl}
use Rattle.eds_plan.proofs.Called.{opened}
use Rattle.eds_plan.specs.declared.run.Line.{Line}
use Rattle.eds_script.specs.Seen.{numbered_told}
use Rattle.eds_cmd.proofs.BadScripts.{handed_err}
use Rattle.eds_cmd.proofs.Judging.{Ends, judging_ends, judging_first, judging_last, judging_next, same_first}
use Rattle.eds_cmd.proofs.replay.judge_lines.Goals as goal

pub loop-rest-init : goal.loop-rest-init
loop-rest-init c =
    judging_first c.runs_join.ensures.one c.args.of.now.table.now c.args.of.now.plan.now c.keeps_rules.ensures c.requires.runnable c.args.host.now.wires c.args.judge.now.recorded
    c.args.script.now.lines c.as_slice-rest.result.now c.args.host.now c.args.judge.now c.as_slice-rest.ensures refl c.requires.ready c.requires.later refl c.requires.agreed c.requires.otherwise

pub loop-rest-preserved : goal.loop-rest-preserved
loop-rest-preserved c =
    let rest = c.loop-rest.rest.now in
    let first = get_or rest 0 c.index-rest-0-in-loop-rest.result in
    let number : (get_or rest 0 c.index-rest-0.result).0 ≡ first.0 = ap (λ (x : ℕ × Line). x.0) (same_first rest c.index-rest-0.result c.index-rest-0-in-loop-rest.result c.in-len1-up.len_at_least) in
    let split = opened rest first c.index-rest-0-in-loop-rest.result c.in-len1-up.len_at_least refl in
    let e = c.judge_line.ensures in
    let k = c.in_ok-judge_line.ensures in
    judging_next c.runs_join.ensures.one c.args.of.now.table.now c.args.of.now.plan.now c.keeps_rules.ensures c.requires.runnable c.args.host.now.wires c.args.judge.now.recorded
    c.args.script.now.lines rest _ first _ c.loop-rest.host c.judge_line.new.host c.loop-rest.judge c.judge_line.new.judge split number c.loop-rest.invariant e.table e.plan e.wires k.phase e.more e.recorded k.last k.passes

pub returns-in_err-judge_line-clause-ends : goal.returns-in_err-judge_line-clause-ends
returns-in_err-judge_line-clause-ends c =
    let rest = c.loop-rest.rest.now in
    let first = get_or rest 0 c.index-rest-0-in-loop-rest.result in
    let number : (get_or rest 0 c.index-rest-0.result).0 ≡ first.0 = ap (λ (x : ℕ × Line). x.0) (same_first rest c.index-rest-0.result c.index-rest-0-in-loop-rest.result c.in-len1-up.len_at_least) in
    let split = opened rest first c.index-rest-0-in-loop-rest.result c.in-len1-up.len_at_least refl in
    handed_err (Ends c.args.of.now.table.now c.args.of.now.plan.now c.args.host.now.wires c.args.judge.now.recorded (map numbered_told c.args.script.now.lines)) c.from_residual-in_err-judge_line.result c.in_err-judge_line.field-0.0 c.from_residual-in_err-judge_line.ensures.1
    (judging_ends c.runs_join.ensures.one c.args.of.now.table.now c.args.of.now.plan.now c.keeps_rules.ensures c.requires.runnable c.args.host.now.wires c.args.judge.now.recorded
    c.args.script.now.lines rest _ first _ c.loop-rest.host c.judge_line.new.host c.loop-rest.judge c.in_err-judge_line.field-0.0 split number c.loop-rest.invariant c.in_err-judge_line.ensures.ends)

pub returns-clause-agree : goal.returns-clause-agree
returns-clause-agree c =
    judging_last c.runs_join.ensures.one c.args.of.now.table.now c.args.of.now.plan.now c.keeps_rules.ensures c.requires.runnable c.args.host.now.wires c.args.judge.now.recorded
    c.args.script.now.lines c.loop-rest.rest.now c.loop-rest.host c.loop-rest.judge c.in_default.len_below c.loop-rest.invariant
