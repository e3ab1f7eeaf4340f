use Rattle.std.proofs.Common.{◌∙◌, sym, map, filter, None}
use Rattle.std.specs.List.{flat_map}
use Rattle.eds_tree.specs.Rows.{child_of}
use Rattle.eds_tree.specs.Trees.{children_of}
use Rattle.eds_tree.specs.Unknown.{unlisted, too_many, is_supported}
use Rattle.eds_tree.proofs.Lowest.{lowest_from-append}
use Rattle.eds_tree.proofs.rule_unknown.first_unknown.Goals as goal

pub returns : goal.returns
returns c =
    let t = c.args.nodes.now in
    let parent = c.args.link.node in
    let rows = map child_of c.in_ok-shape.shape.now.children.now in
    rw c.in_ok-shape.was
    (c.first_too_many.ensures
    ∙ rw c.first_unlisted-found.ensures
    (sym (lowest_from-append None (filter (is_supported t parent) (unlisted t rows (children_of t parent))) (flat_map (λ row. filter (is_supported t parent) (too_many t (children_of t parent) row)) rows))))
