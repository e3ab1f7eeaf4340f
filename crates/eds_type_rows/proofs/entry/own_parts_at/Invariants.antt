use Rattle.std.proofs.Common.{◌≡◌, ◌++◌, drop}
use Rattle.eds_type_rows.proofs.entry.own_parts_at.Given as goal

abbrev pub invariant-loop-trailer : goal.invariant-loop-trailer
invariant-loop-trailer l = l.parts.items ++ drop l.trailer-index l.trailer-items ≡ l.initial.parts.items ++ l.trailer-items
