use Rattle.eds_host.proofs.Courses.{course_law, course_is}
use Rattle.eds_host.proofs.law.courses_are_chains.Goals as goal

pub returns-clause-chains : goal.returns-clause-chains
returns-clause-chains c = course_law

pub returns-clause-one : goal.returns-clause-one
returns-clause-one c = course_is
