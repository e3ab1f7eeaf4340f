use Rattle.std.proofs.Common.{◌∙◌, ap, subst, sym, set, true}
use Rattle.eds_graph.specs.Reaching.{Reaching}
use Rattle.eds_graph.specs.Stacks.{pushed}
use Rattle.eds_graph.proofs.Marking.{reach-mark, reach-fewer, not-marked}
use Rattle.eds_graph.proofs.marks.mark.Goals as goal

pub returns-clause-reaching : goal.returns-clause-reaching
returns-clause-reaching c =
    subst (Reaching c.args.graph.now c.args.from.now (set c.args.marks.now c.args.next true)) (sym (c.in_ok-push_all.ensures ∙ ap (λ cs. pushed cs c.args.waiting.now) c.children.ensures))
    (reach-mark c.args.graph.now c.args.from.now c.args.marks.now c.args.waiting.now c.args.next c.requires c.if-next-marks.false)

pub returns-clause-fewer : goal.returns-clause-fewer
returns-clause-fewer c =
    reach-fewer c.args.graph.now c.args.from.now c.args.marks.now c.args.waiting.now c.push_all.new.self c.args.next c.requires c.if-next-marks.false (not-marked c.args.marks.now c.args.next c.if-next-marks.false c.if-marks-next.false)
    (c.in_ok-push_all.ensures ∙ ap (λ cs. pushed cs c.args.waiting.now) c.children.ensures)
