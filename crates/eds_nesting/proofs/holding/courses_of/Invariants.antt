use Rattle.std.proofs.Common.{◌≡◌, ◌++◌, map, drop}
use Rattle.eds_nesting.specs.Families.{course_at}
use Rattle.eds_nesting.proofs.holding.courses_of.Given as goal

abbrev pub invariant-loop-name : goal.invariant-loop-name
invariant-loop-name l = l.found.items ++ map (course_at l.courses) (drop l.name-index l.families) ≡ map (course_at l.courses) l.families
