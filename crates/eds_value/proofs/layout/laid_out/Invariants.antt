use Rattle.std.proofs.Common.{◌≡◌, ◌<◌, ◌∷◌, ◌++◌, ℕ, List, All, Some, ◌⊎◌, drop, map, false, string_bytes}
use Rattle.std.specs.Prelude.{Contains}
use Rattle.serde_json.specs.Data.{Data}
use Rattle.serde_json.specs.Written.{members_text}
use Rattle.eds_value.specs.declared.layout.Piece.{Piece}
use Rattle.eds_value.specs.Layouts.{HasPosition, content_at, pieces_text}
use Rattle.eds_value.specs.Members.{in_order_by}
use Rattle.eds_value.proofs.Pieces.{Slot}
use Rattle.eds_value.proofs.layout.laid_out.Given as goal

-- the pieces so far, the text behind them and the members to come are the whole object
abbrev pub invariant-loop-slot : goal.invariant-loop-slot
invariant-loop-slot l = record {
  within : All (λ (p : Piece). p.position < l.fn.count) l.pieces.items;
  each : (i : ℕ) → Contains (map (λ (m : Slot). m.content) l.slots) (Some i) → HasPosition l.pieces.items i ⊎ Contains (map (λ (m : Slot). m.content) (drop l.slot-index l.slots)) (Some i);
  text : (ds : List Data) → pieces_text ds l.pieces.items ++ (string_bytes l.text ++ members_text l.later (in_order_by (content_at l.own_name ds) (drop l.slot-index l.slots)))
      ≡ 123 ∷ members_text false (in_order_by (content_at l.own_name ds) l.slots);
}
