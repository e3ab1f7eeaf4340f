use Rattle.std.proofs.Common.{◌≡◌, ℕ, List, ◌++◌, map, length, string_bytes}
use Rattle.std.specs.List.{filter_map}
use Rattle.eds_names.specs.Repeats.{is_among}
use Rattle.eds_types.specs.Rules.{name_of}
use Rattle.eds_read_types.proofs.part_names.note_parts.Given as goal

abbrev pub invariant-loop-rest : goal.invariant-loop-rest
invariant-loop-rest l = (q : List ℕ) → is_among (filter_map name_of l.rest ++ map string_bytes l.names.keys) q ≡ is_among (filter_map name_of l.parts ++ map string_bytes l.fn.names.keys) q

abbrev pub decreases-loop-rest : goal.decreases-loop-rest
decreases-loop-rest l = length l.rest
