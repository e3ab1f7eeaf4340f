-- How the types of a table hold one another.
use Rattle.std.specs.Prelude.{ℕ, Bool}
use Rattle.eds_types.specs.Rows.{Table}
use Rattle.eds_graph.specs.declared.course.Course.{Course}
use Rattle.eds_graph.specs.Reaching.{mark}
use Rattle.eds_nesting.specs.Families.{families, course_at, nesting, endless_met}

-- where the ways go on which the family of a type holds others
abbrev pub course_of : Table → ℕ → Course
course_of t id = course_at (nesting t (families t)) id

-- the family of a type has bases that go in a circle, or reaches one that has
abbrev pub meets_base_cycle : Table → ℕ → Bool
meets_base_cycle t id = mark (endless_met t (families t)) id
