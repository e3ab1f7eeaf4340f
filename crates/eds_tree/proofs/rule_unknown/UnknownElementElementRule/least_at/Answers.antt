use Rattle.std.proofs.Common.{◌∙◌, sym, ap, map}
use Rattle.eds_base.specs.declared.rule.Rule.TheVariants.{UnknownElement}
use Rattle.eds_base.specs.Refusals.{first_of, least}
use Rattle.eds_base.proofs.LeastLaws.{least-append}
use Rattle.eds_tree.specs.Shapes.{shape_at}
use Rattle.eds_tree.specs.Breaks.{refusal_if}
use Rattle.eds_tree.specs.Unknown.{unknown_root, unknown_children, unknown_at, breaks_unknown}
use Rattle.eds_tree.proofs.Lowest.{least-unknown}
use Rattle.eds_tree.proofs.rule_unknown.UnknownElementElementRule.least_at.Goals as goal

pub returns : goal.returns
returns c =
    let t = c.as_slice-nodes.result.now in
    let own = refusal_if UnknownElement c.args.file c.args.link.node (unknown_root t c.args.link) in
    let children = unknown_children t c.args.link (shape_at t c.args.link) in
    c.first.ensures.first
    ∙ rw (c.in_ok-root.ensures, c.unknown_root.ensures, c.in_ok-child.ensures, c.first_unknown.ensures, c.shape_at.ensures)
    (sym (least-append own (map (unknown_at c.args.file t) children) ∙ ap (first_of (least own)) (least-unknown c.args.file t children)))
    ∙ ap (λ u. least (breaks_unknown c.args.file u c.args.link)) c.as_slice-nodes.ensures
