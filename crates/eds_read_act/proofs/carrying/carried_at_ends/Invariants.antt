use Rattle.std.proofs.Common.{◌≡◌, ◌++◌, map, drop}
use Rattle.eds_plan.specs.Carried.{leaving, arriving}
use Rattle.eds_read_act.specs.Carrying.{end_fields}
use Rattle.eds_read_act.proofs.carrying.carried_at_ends.Given as goal

abbrev pub invariant-loop-end : goal.invariant-loop-end
invariant-loop-end l = record {
  sent : l.carried.sent ++ map (end_fields leaving) (drop l.end-index l.ends) ≡ map (end_fields leaving) l.ends;
  received : l.carried.received ++ map (end_fields arriving) (drop l.end-index l.ends) ≡ map (end_fields arriving) l.ends;
}
