use Rattle.std.proofs.Common.{◌≡◌, ◌++◌}
use Rattle.eds_overlap.specs.Common.{all_under}
use Rattle.eds_overlap.proofs.common.all_of.Given as goal

abbrev pub invariant-loop-text : goal.invariant-loop-text
invariant-loop-text l = l.all ++ all_under l._text-iterator ≡ all_under l.fn.gathered.entries
