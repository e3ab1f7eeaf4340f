use Rattle.eds_graph.proofs.Depth.{course-depth}
use Rattle.eds_graph.proofs.law.course_tells_depth.Goals as goal

pub returns : goal.returns
returns c = course-depth
