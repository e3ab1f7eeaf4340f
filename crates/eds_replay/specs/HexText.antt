-- Hex in the lines of frames.
use Rattle.std.specs.Prelude.{◌≡◌, ℕ, ◌==◌, List, false}
use Rattle.std.specs.List.{list_any}

-- no octet is a space
abbrev pub HasNoSpace : List ℕ → Type 0
HasNoSpace octets = list_any (λ (c : ℕ). c == 32) octets ≡ false
