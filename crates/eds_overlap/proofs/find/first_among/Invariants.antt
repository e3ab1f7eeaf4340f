use Rattle.std.proofs.Common.{take}
use Rattle.eds_overlap.specs.Index.{AreMetWith}
use Rattle.eds_overlap.specs.Pairs.{Named}
use Rattle.eds_overlap.proofs.find.first_among.Given as goal

-- those that were passed are met
abbrev pub invariant-loop-first : goal.invariant-loop-first
invariant-loop-first l = AreMetWith l.table (Named l.used) l.second.0 (take l.first-index l.ids) l.initial.found l.found
