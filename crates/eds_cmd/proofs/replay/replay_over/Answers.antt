use Rattle.std.proofs.Common.{◌∙◌, ℕ, List, map, sym, subst}
use Rattle.eds_script.specs.Seen.{numbered_told, plot_seen}
use Rattle.eds_cmd.specs.Replay.{ReplaysOver}
use Rattle.eds_cmd.specs.Replaying.{AreLater}
use Rattle.eds_cmd.specs.Run.{wired}
use Rattle.eds_cmd.specs.declared.status.Status.TheVariants as statuses
use Rattle.eds_cmd.proofs.BadScripts.{bad_wire_replays, handed_stop}
use Rattle.eds_cmd.proofs.Judging.{replay_stopped, replayed}
use Rattle.eds_cmd.proofs.replay.replay_over.Goals as goal

pub judge_lines-requires-clause-later : goal.judge_lines-requires-clause-later
judge_lines-requires-clause-later c =
    subst (λ o. AreLater o (map numbered_told c.args.script.now.lines)) (sym c.new-judge.ensures.last)
    (c.numbers_rise.ensures c.args.of.now.table.now c.args.of.now.plan.now c.requires.script.0 (plot_seen c.args.script.now) c.requires.script.1)

pub returns-in_err-host : goal.returns-in_err-host
returns-in_err-host c =
    let t = c.args.of.now.table.now in
    let plan = c.args.of.now.plan.now in
    let p = plot_seen c.args.script.now in
    handed_stop (λ (o : List ℕ). o) (ReplaysOver t plan (wired plan p) p.lines c.args.session.recorded) c.from_residual.result c.in_err-host.field-0.0 c.from_residual.ensures.1
    (bad_wire_replays t plan p p.lines c.args.session.recorded c.in_err-host.field-0.0 c.in_err-host.ensures.bad)

pub returns-in_err-judge_lines : goal.returns-in_err-judge_lines
returns-in_err-judge_lines c =
    let t = c.args.of.now.table.now in
    let plan = c.args.of.now.plan.now in
    let p = plot_seen c.args.script.now in
    handed_stop (λ (o : List ℕ). o) (ReplaysOver t plan (wired plan p) p.lines c.args.session.recorded) c.from_residual-in_err-judge_lines.result c.in_err-judge_lines.field-0.0 c.from_residual-in_err-judge_lines.ensures.1
    (replay_stopped c.scripts_go.ensures t plan c.keeps_rules.ensures c.requires.runnable c.requires.script.0 p c.in_ok-host.host.wires c.requires.script.1 c.in_ok-host.ensures.wires c.args.session.recorded
    c.in_err-judge_lines.field-0.0 (rw c.new-judge.ensures.recorded at c.in_err-judge_lines.ensures.ends))

pub returns : goal.returns
returns c =
    let t = c.args.of.now.table.now in
    let plan = c.args.of.now.plan.now in
    let p = plot_seen c.args.script.now in
    let counts = c.counts-agreed.ensures in
    let ends = rw (c.new-judge.ensures.recorded, ← counts.agreed, ← counts.otherwise) at c.in_ok-judge_lines.ensures.agree in
    subst (ReplaysOver t plan (wired plan p) p.lines c.args.session.recorded statuses.Done) (sym (c.octets_of.ensures ∙ c.in_ok-agrees_line.ensures))
    (replayed c.scripts_go.ensures t plan c.keeps_rules.ensures c.requires.runnable c.requires.script.0 p c.in_ok-host.host.wires c.requires.script.1 c.in_ok-host.ensures.wires c.args.session.recorded statuses.Done _ ends)
