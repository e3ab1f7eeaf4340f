use Rattle.std.proofs.Common.{◌≡◌, ◌+◌, ◌++◌, ℕ, List, map, drop}
use Rattle.eds_read_act.specs.EntryNames.{named_from}
use Rattle.eds_read_act.proofs.entry_names.named_parts.Given as goal

abbrev pub invariant-loop-part : goal.invariant-loop-part
invariant-loop-part l =
    (l.place ≡ l.first + l.part-index)
    × (l.names.items ++ map (λ (n : List ℕ × ℕ). n.0) (named_from l.place (drop l.part-index l.parts)) ≡ map (λ (n : List ℕ × ℕ). n.0) (named_from l.first l.parts))
    × (l.places ++ map (λ (n : List ℕ × ℕ). n.1) (named_from l.place (drop l.part-index l.parts)) ≡ map (λ (n : List ℕ × ℕ). n.1) (named_from l.first l.parts))
