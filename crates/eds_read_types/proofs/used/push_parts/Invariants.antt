use Rattle.std.proofs.Common.{◌≡◌, ◌++◌, drop}
use Rattle.std.specs.List.{flat_map}
use Rattle.eds_types.specs.declared.row.Part.{Part}
use Rattle.eds_read_types.specs.Used.{optional, part_type}
use Rattle.eds_read_types.proofs.used.push_parts.Given as goal

abbrev pub invariant-loop-part : goal.invariant-loop-part
invariant-loop-part l =
    l.used ++ flat_map (λ (p : Part). optional (part_type p)) (drop l.part-index l.parts)
    ≡ l.initial.used ++ flat_map (λ (p : Part). optional (part_type p)) l.parts
