use Rattle.std.proofs.Common.{◌≡◌, map, drop, filter, not}
use Rattle.std.specs.Prelude.{option_map}
use Rattle.eds_tree.specs.ByteOrder.{first_from}
use Rattle.eds_tree.specs.Attributes.{has_attribute}
use Rattle.eds_tree.proofs.rule_missing.first_asked.Given as goal

abbrev pub invariant-loop-name : goal.invariant-loop-name
invariant-loop-name l =
    first_from (option_map (λ w. w.now) l.found) (filter (λ a. not (has_attribute l.attributes a)) (map (λ w. w.now) (drop l.name-index l.names)))
    ≡ first_from (option_map (λ w. w.now) l.before) (filter (λ a. not (has_attribute l.attributes a)) (map (λ w. w.now) l.names))
