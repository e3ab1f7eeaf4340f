use Rattle.std.proofs.Common.{◌∙◌, arith}
use Rattle.eds_graph.proofs.Searching.{closes-on}
use Rattle.eds_graph.proofs.search.close.Goals as goal

pub loop-course-preserved : goal.loop-course-preserved
loop-course-preserved c = (
  closes-on c.args.course c.args.search.now.states c.loop-course.search.states c.close_one.new.search.states c.args.search.now.opened c.loop-course.search.opened c.close_one.new.search.opened c.loop-course.invariant.0 c.close_one.ensures.closes,
  omega arith,
  c.close_one.ensures.waiting ∙ c.loop-course.invariant.2,
  c.close_one.ensures.parts ∙ c.loop-course.invariant.3,
)
