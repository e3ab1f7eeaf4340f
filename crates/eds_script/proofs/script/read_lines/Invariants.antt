use Rattle.std.proofs.Common.{◌<◌, ◌^◌, map, string_bytes}
use Rattle.eds_script.specs.Scripts.{plot_from}
use Rattle.eds_script.specs.Seen.{is_among, line_of, numbered_told, plot_seen}
use Rattle.eds_script.proofs.Scripting.{Stands}
use Rattle.eds_script.proofs.script.read_lines.Given as goal

abbrev pub invariant-loop-line : goal.invariant-loop-line
invariant-loop-line l = record {
  stands : Stands l.setting.table.now l.setting.plan.now (is_among (map string_bytes l.setting.wired.now.keys)) l.fn.begin.late l.fn.begin.time (map line_of l.lines) l.line-index l.late l.time l.script.wires (map numbered_told l.script.lines)
      (plot_from l.setting.table.now l.setting.plan.now (is_among (map string_bytes l.setting.wired.now.keys)) l.fn.begin.late l.fn.begin.time (plot_seen l.initial.script) (map line_of l.lines));
  short : l.time < 2 ^ 63;
}
