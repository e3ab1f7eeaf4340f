use Rattle.eds_overlap.proofs.CourseLaws.{spelling_is_course}
use Rattle.eds_overlap.proofs.law.spelling_is_course.Goals as goal

pub returns : goal.returns
returns c = spelling_is_course
