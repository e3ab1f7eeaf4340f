use Rattle.std.proofs.Common.{◌≡◌, ◌+◌, ◌++◌, map, drop, length}
use Rattle.serde_json.specs.View.{items_view}
use Rattle.eds_tree.specs.Elements.{items_size, openings_in, child_numbers, node_of}
use Rattle.eds_tree.proofs.build.+grow.Given as goal

abbrev pub invariant-grow_items-loop-item : goal.invariant-grow_items-loop-item
invariant-grow_items-loop-item l = record {
  grown : l.nodes.items ++ map node_of (openings_in l.parent (length l.nodes.items) (items_view (drop l.item-index l.item-items))) ≡ l.initial.nodes.items ++ map node_of (openings_in l.parent (length l.initial.nodes.items) (items_view l.item-items));
  children : l.children ++ child_numbers (length l.nodes.items) (items_view (drop l.item-index l.item-items)) ≡ child_numbers (length l.initial.nodes.items) (items_view l.item-items);
  size : length l.nodes.items + items_size (items_view (drop l.item-index l.item-items)) ≡ length l.initial.nodes.items + items_size (items_view l.item-items);
}
