use Rattle.std.proofs.Common.{◌≡◌, ◌+◌, ◌∙◌, length, drop, arith, append_assoc, rules}
use Rattle.serde_json.proofs.Views.{view-Array}
use Rattle.serde_json.specs.View.{view, items_view}
use Rattle.eds_tree.specs.Shapes.{shape_named}
use Rattle.eds_tree.specs.Elements.{attributes_in, child_numbers, child_number, size}
use Rattle.eds_tree.proofs.Growing.{array-grown, items-grown, length_grown, items_view-drop}
use Rattle.eds_tree.proofs.build.+grow.Goals as goal

pub grow_array-returns : goal.grow_array-returns
grow_array-returns t c =
    let items = items_view c.args.items.now.items in
    let attributes : c.in_ok-attributes.attributes ≡ attributes_in (shape_named c.args.parent.now c.as_str.result.now) items = search rules in
    rw (view-Array c.args.items.now) (array-grown c.args.parent.now c.args.nodes.now.items c.push.new.self.items _ _ c.len-at.result items c.in_ok-name.name c.as_str.result.now c.as_str-2.result.now _ _
    (search rules) c.in_ok-push.ensures.items c.in_ok-children.ensures.grown (search rules) c.as_str.ensures c.as_str-2.ensures attributes c.in_ok-children.ensures.children)

pub grow_items-loop-item-preserved : goal.grow_items-loop-item-preserved
grow_items-loop-item-preserved t c =
    let xs = c.deref-item-items.result.now in
    let i = c.loop-item.item-index in
    let v = c.item-item.result in
    let here = items_view-drop xs i v (omega arith) c.item-item.is in
    let long = length_grown c.args.parent.now c.loop-item.nodes.items c.grow.new.nodes.items (view v) c.in_ok-grow.ensures in
    let counted : c.len.result ≡ length c.loop-item.nodes.items = search rules in
    let rest = items_view (drop (i + 1) xs) in
    record {
      grown = items-grown c.args.parent.now c.loop-item.nodes.items c.grow.new.nodes.items (view v) rest _ c.in_ok-grow.ensures (rw here at c.loop-item.invariant.grown);
      children = rw (long, c.in_ok-note_child.ensures, counted) (append_assoc c.loop-item.children (child_number (length c.loop-item.nodes.items) (view v)) (child_numbers (length c.loop-item.nodes.items + size (view v)) rest) ∙ rw here at c.loop-item.invariant.children);
      size = omega (arith, long, rw here at c.loop-item.invariant.size);
    }
