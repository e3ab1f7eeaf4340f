use Rattle.std.proofs.Common.{length}
use Rattle.eds_cmd.proofs.Judging.{IsJudging}
use Rattle.eds_cmd.proofs.replay.judge_lines.Given as goal

abbrev pub invariant-loop-rest : goal.invariant-loop-rest
invariant-loop-rest l = IsJudging l.of.table.now l.of.plan.now l.initial.host.wires l.initial.judge.recorded l.script.lines l.rest l.host l.judge

abbrev pub decreases-loop-rest : goal.decreases-loop-rest
decreases-loop-rest l = length l.rest
