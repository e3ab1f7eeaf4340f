use Rattle.std.proofs.Common.{◌≡◌, ◌<◌, ℕ, List, All, Some, codes, drop, length, map}
use Rattle.std.specs.Prelude.{Contains, IfSome}
use Rattle.serde_json.specs.Data.{Data, no_members, put, string}
use Rattle.eds_value.specs.JsonOfValue.{with_values}
use Rattle.eds_value.specs.Layouts.{content_at}
use Rattle.eds_value.specs.Members.{put_all_by}
use Rattle.eds_value.specs.Seen.{seen}
use Rattle.eds_value.proofs.Pieces.{Slot}
use Rattle.eds_value.proofs.layout.slots_of.Given as goal

abbrev pub invariant-loop-position : goal.invariant-loop-position
invariant-loop-position l = record {
  within : All (λ (m : Slot). IfSome m.content (λ i. i < length l.entries)) l.slots.items;
  each : (i : ℕ) → i < l.position → Contains (map (λ (m : Slot). m.content) l.slots.items) (Some i);
  put : (name : List ℕ) (ds : List Data) → length ds ≡ length l.entries → with_values (map seen (drop l.position l.entries)) (drop l.position ds) (put_all_by (content_at name ds) l.slots.items no_members)
      ≡ with_values (map seen l.entries) ds (put (codes "$type") (string name) no_members);
}
