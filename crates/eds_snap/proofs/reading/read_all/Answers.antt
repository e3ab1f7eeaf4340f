use Rattle.std.proofs.Common.{rules, ◌≡◌, ◌+◌, length, sym, ap, ◌∙◌, arith}
use Rattle.eds_snap.specs.Lines.{lines_from}
use Rattle.eds_snap.specs.Readings.{read_lines}
use Rattle.eds_snap.specs.Seen.{reading_now}
use Rattle.eds_snap.proofs.LineLaws.{goes, line-next, stops}
use Rattle.eds_script.specs.Lines.{pieces}
use Rattle.eds_snap.proofs.reading.read_all.Goals as goal

pub returns-in-Err-clause-read : goal.returns-in-Err-clause-read
returns-in-Err-clause-read c =
    let r = reading_now c.loop-line.reading in
    let is = line-next c.loop-line.number c.in-Some.line.now c.loop-line.rest.now c.in-Some.after.now c.in-Some.ensures.some in
    stops c.args.setting.now.table.now c.args.setting.now.plan.now r _ _ (lines_from c.loop-line.number (pieces c.loop-line.rest.now)) _ c.in-Err.fail is c.loop-line.invariant.read c.in-Err.ensures.read

pub loop-line-preserved : goal.loop-line-preserved
loop-line-preserved c =
    let next : c.in_ok-number-in-Ok.number ≡ c.loop-line.number + 1 = search rules in
    let is = line-next c.loop-line.number c.in-Some.line.now c.loop-line.rest.now c.in-Some.after.now c.in-Some.ensures.some in
    let after = ap (λ n. length (lines_from n (pieces c.in-Some.after.now))) next in
    record {
      early = c.in-Ok.ensures.early;
      next = omega (arith, ap length is, after, next, c.loop-line.invariant.next);
      read = ap (λ n. read_lines c.args.setting.now.table.now c.args.setting.now.plan.now (reading_now c.read_line.new.reading) (lines_from n (pieces c.in-Some.after.now))) next
          ∙ goes c.args.setting.now.table.now c.args.setting.now.plan.now (reading_now c.loop-line.reading) (reading_now c.read_line.new.reading) _ _ (lines_from c.loop-line.number (pieces c.loop-line.rest.now)) _ is c.loop-line.invariant.read c.in-Ok.ensures.read;
    }
