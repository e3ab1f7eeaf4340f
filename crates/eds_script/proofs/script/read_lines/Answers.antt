use Rattle.std.proofs.Common.{◌+◌, ◌<◌, map, length, get_or, ap, arith, string_bytes}
use Rattle.eds_script.specs.Seen.{is_among, line_of, meaning_of, numbered_told}
use Rattle.eds_script.proofs.Scripting.{item-opens, item-taken, stands-more, stands-stop, stops-at}
use Rattle.eds_script.proofs.script.read_lines.Goals as goal

pub returns-in-Err : goal.returns-in-Err
returns-in-Err c =
    let wired = is_among (map string_bytes c.args.setting.now.wired.now.keys) in
    let there : c.loop-line.line-index < length c.args.lines.now = omega arith in
    stops-at c.in-Err.fail c.bad_at.result _ _ _ c.bad_at.ensures c.in-Err.ensures.value
    (λ w e. stands-stop c.args.setting.now.table.now c.args.setting.now.plan.now wired c.args.begin.late c.args.begin.time (map line_of c.args.lines.now) c.loop-line.line-index (line_of (get_or c.args.lines.now c.loop-line.line-index _)) c.loop-line.late c.loop-line.time w c.loop-line.script.wires (map numbered_told c.loop-line.script.lines) _ (item-opens line_of c.args.lines.now c.loop-line.line-index _ there) e c.loop-line.invariant.stands)

pub loop-line-preserved : goal.loop-line-preserved
loop-line-preserved c =
    let wired = is_among (map string_bytes c.args.setting.now.wired.now.keys) in
    let there : c.loop-line.line-index < length c.args.lines.now = omega arith in
    record {
      stands = stands-more c.args.setting.now.table.now c.args.setting.now.plan.now wired c.args.begin.late c.args.begin.time (map line_of c.args.lines.now) c.loop-line.line-index (line_of (get_or c.args.lines.now c.loop-line.line-index _)) c.loop-line.late c.is_late_behind-late.result c.loop-line.time (c.loop-line.time + c.ticks-time.result) (meaning_of c.in-Ok.meaning)
          c.loop-line.script.wires c.add.new.script.wires (map numbered_told c.loop-line.script.lines) (map numbered_told c.add.new.script.lines) _ (item-opens line_of c.args.lines.now c.loop-line.line-index _ there) (item-taken line_of c.args.lines.now c.loop-line.line-index _ there) c.in-Ok.ensures.value c.is_late_behind-late.ensures (ap (λ n. c.loop-line.time + n) c.ticks-time.ensures)
          c.in_ok-add-in-Ok.ensures.wires c.in_ok-add-in-Ok.ensures.lines c.loop-line.invariant.stands;
      short = omega (arith, c.ticks-time.ensures, c.in-Ok.ensures.in_time);
    }
