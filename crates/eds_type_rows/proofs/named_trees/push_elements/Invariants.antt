use Rattle.std.proofs.Common.{◌≡◌, ◌++◌, map, drop}
use Rattle.eds_type_rows.proofs.named_trees.push_elements.Given as goal

abbrev pub invariant-loop-link : goal.invariant-loop-link
invariant-loop-link l =
    l.places.items ++ map (λ link. record { file = l.file; node = link.node }) (drop l.link-index l.link-items)
    ≡ l.initial.places.items ++ map (λ link. record { file = l.file; node = link.node }) l.link-items
