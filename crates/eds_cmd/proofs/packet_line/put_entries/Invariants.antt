use Rattle.std.proofs.Common.{◌≡◌, ◌≤◌, ◌++◌, drop, length, map}
use Rattle.std.specs.List.{AllByRecursion}
use Rattle.eds_types.specs.Rows.{Table}
use Rattle.eds_value.specs.declared.layout.Piece.{Piece}
use Rattle.eds_value.specs.JsonOfValue.{json_of_value}
use Rattle.eds_value.specs.Layouts.{pieces_text}
use Rattle.eds_cmd.proofs.PacketLines.{IsSaid, values_said}
use Rattle.eds_cmd.proofs.packet_line.put_entries.Given as goal

-- what is put is the text of the pieces from a place on, of whose entries each has a value
abbrev pub invariant-loop-at : goal.invariant-loop-at
invariant-loop-at l = record {
  within : l.at ≤ length l.pieces;
  said : AllByRecursion (λ (p : Piece). IsSaid l.entries p.position) (drop l.at l.pieces);
  text : (t : Table) → l.line ≡ (pieces_text (map (json_of_value t) (values_said l.entries)) (drop l.at l.pieces) ++ l.layout.end) ++ l.fn.line;
}

abbrev pub decreases-loop-at : goal.decreases-loop-at
decreases-loop-at l = l.at
