use Rattle.std.proofs.Common.{◌≡◌, ◌++◌, map, drop}
use Rattle.eds_nesting.specs.Families.{containers}
use Rattle.eds_nesting.proofs.family.family_sizes.Given as goal

abbrev pub invariant-loop-name : goal.invariant-loop-name
invariant-loop-name l = l.sizes.items ++ map (containers l.rows l.families) (drop l.name-index l.families) ≡ map (containers l.rows l.families) l.families
