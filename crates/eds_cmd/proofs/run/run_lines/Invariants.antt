use Rattle.std.proofs.Common.{length, map}
use Rattle.eds_host.specs.Hosts.{MayAllBeHandled}
use Rattle.eds_script.specs.Seen.{numbered_told}
use Rattle.eds_cmd.specs.Running.{IsOver, happenings}
use Rattle.eds_cmd.proofs.Running.{HasGoneOn, IsRunTo}
use Rattle.eds_cmd.proofs.run.run_lines.Given as goal

abbrev pub invariant-loop-rest : goal.invariant-loop-rest
invariant-loop-rest l =
    let t = l.of.table.now in
    let plan = l.of.plan.now in
    let ties = l.initial.host.wires in
    record {
      over : IsOver t plan ties l.host;
      stands : HasGoneOn l.host.phase (map numbered_told l.script.lines) (map numbered_told l.rest);
      may : MayAllBeHandled l.host.phase l.host (happenings (map numbered_told l.rest));
      run : IsRunTo t plan ties (map numbered_told l.script.lines) (map numbered_told l.rest) l.host.world l.report.items l.tally;
    }

abbrev pub decreases-loop-rest : goal.decreases-loop-rest
decreases-loop-rest l = length l.rest
