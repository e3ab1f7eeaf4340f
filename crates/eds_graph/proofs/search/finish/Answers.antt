use Rattle.std.proofs.Common.{◌∙◌, sym, ap, subst}
use Rattle.eds_graph.specs.Stacks.{top}
use Rattle.eds_graph.specs.Search.{Sound}
use Rattle.eds_graph.proofs.Searching.{finish-step, part-low, popped}
use Rattle.eds_graph.proofs.search.finish.Goals as goal

pub close-requires-clause-low : goal.close-requires-clause-low
close-requires-clause-low c =
    part-low c.args.graph.now c.args.search.now.states c.args.search.now.opened c.args.search.now.waiting c.args.search.now.parts c.args.part c.requires.sound c.requires.part

pub returns-clause-sound : goal.returns-clause-sound
returns-clause-sound c =
    subst (λ ws. Sound c.args.graph.now c.close.new.search.states c.close.new.search.opened ws c.pop-closed.new.self) (sym c.close.ensures.waiting)
    (finish-step c.args.graph.now c.args.search.now.states c.close.new.search.states c.args.search.now.opened c.close.new.search.opened c.args.search.now.waiting c.args.search.now.parts c.pop-closed.new.self c.args.part c.args.part c.in_ok-course.course
    c.requires.sound c.requires.part c.requires.none c.in_ok-course.ensures c.close.ensures.closes c.close.ensures.first
    (sym c.close.ensures.parts ∙ popped c.pop-closed.result c.close.new.search.parts c.pop-closed.new.self c.args.part (ap top c.close.ensures.parts ∙ c.requires.part) c.pop-closed.ensures.top c.pop-closed.ensures.none))
