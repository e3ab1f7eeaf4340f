use Rattle.std.proofs.Common.{◌≡◌, ◌≤◌, ◌+◌, drop}
use Rattle.eds_types.specs.Rows.{placed_from}
use Rattle.eds_types.specs.Seeking.{seek}
use Rattle.eds_types.proofs.seek.seek_part.Given as goal

abbrev pub invariant-loop-i : goal.invariant-loop-i
invariant-loop-i l = record {
  few : l.n ≤ l.before + l.i;
  sought : seek (placed_from l.id.0 (l.first + l.i) (drop l.i l.parts)) l.n ((l.wanted).0).0 (l.wanted).1 ≡ seek (placed_from l.id.0 l.first l.parts) l.before ((l.wanted).0).0 (l.wanted).1;
}
