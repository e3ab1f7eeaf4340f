use Rattle.std.proofs.Common.{◌≡◌, ◌++◌, drop}
use Rattle.std.specs.List.{flat_map}
use Rattle.eds_tree.specs.Trees.{children_named}
use Rattle.eds_tree.proofs.rule_limit.named_below.Given as goal

abbrev pub invariant-loop-parent : goal.invariant-loop-parent
invariant-loop-parent l =
    l.found.items ++ flat_map (λ parent. children_named l.nodes parent l.name) (drop l.parent-index l.parents)
    ≡ flat_map (λ parent. children_named l.nodes parent l.name) l.parents
