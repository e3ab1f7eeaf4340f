use Rattle.std.proofs.Common.{◌≡◌, ◌++◌, map, drop}
use Rattle.eds_fits.specs.Deciding.{rank_by}
use Rattle.eds_fits.proofs.rank.ranks_of.Given as goal

abbrev pub invariant-loop-course : goal.invariant-loop-course
invariant-loop-course l = l.ranks.items ++ map rank_by (drop l.course-index l.course-items) ≡ map rank_by l.course-items
