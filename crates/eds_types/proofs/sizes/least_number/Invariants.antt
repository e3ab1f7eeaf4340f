use Rattle.std.proofs.Common.{◌≡◌, ◌≤◌, min, drop}
use Rattle.eds_types.specs.LeastSize.{no_size, least_number}
use Rattle.eds_types.proofs.sizes.least_number.Given as goal

abbrev pub invariant-loop-span : goal.invariant-loop-span
invariant-loop-span l = (l.least ≤ no_size) × (min l.least (least_number (drop l.span-index l.span-items)) ≡ least_number l.span-items)
