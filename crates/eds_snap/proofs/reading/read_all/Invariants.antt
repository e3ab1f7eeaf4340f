use Rattle.std.proofs.Common.{◌≡◌, ◌+◌, ◌<◌, ◌^◌, length}
use Rattle.eds_snap.specs.Lines.{lines_from, snap_lines}
use Rattle.eds_snap.specs.Readings.{read_lines, unread}
use Rattle.eds_snap.specs.Seen.{reading_now}
use Rattle.eds_script.specs.Lines.{pieces}
use Rattle.eds_snap.proofs.reading.read_all.Given as goal

abbrev pub invariant-loop-line : goal.invariant-loop-line
invariant-loop-line l = record {
  early : l.reading.time < 2 ^ 63;
  next : l.number + length (lines_from l.number (pieces l.rest)) ≡ length (snap_lines l.octets) + 1;
  read : read_lines l.setting.table.now l.setting.plan.now (reading_now l.reading) (lines_from l.number (pieces l.rest)) ≡ read_lines l.setting.table.now l.setting.plan.now (unread l.setting.plan.now) (snap_lines l.octets);
}

abbrev pub decreases-loop-line : goal.decreases-loop-line
decreases-loop-line l = length l.rest
