use Rattle.std.proofs.Common.{◌∙◌, ap, rules}
use Rattle.eds_graph.specs.Stacks.{pushed}
use Rattle.eds_graph.proofs.Marking.{reach-none, reach-all}
use Rattle.eds_graph.proofs.marks.reached.Goals as goal

pub loop-next-init : goal.loop-next-init
loop-next-init c =
    reach-none c.args.graph.now c.args.from.now c.len.result c.in_ok-marks.marks.items c.push_all.new.self c.len.ensures (search rules)
    (c.in_ok-push_all.ensures ∙ ap (pushed c.args.from.now) c.new-waiting.ensures)

pub returns : goal.returns
returns c = reach-all c.args.graph.now c.args.from.now c.loop-next.marks.items c.loop-next.waiting c.in_default.ensures.none c.loop-next.invariant
