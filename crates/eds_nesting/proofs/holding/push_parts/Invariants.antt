use Rattle.std.proofs.Common.{◌≡◌, ◌++◌, map, drop}
use Rattle.eds_nesting.specs.Families.{family, types_of}
use Rattle.eds_nesting.proofs.holding.push_parts.Given as goal

abbrev pub invariant-loop-part : goal.invariant-loop-part
invariant-loop-part l = l.held.items ++ map (family l.families) (types_of (drop l.part-index l.parts)) ≡ l.initial.held.items ++ map (family l.families) (types_of l.parts)
