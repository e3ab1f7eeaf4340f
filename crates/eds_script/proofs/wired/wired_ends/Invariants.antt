use Rattle.std.proofs.Common.{◌≡◌, ◌||◌, ℕ, List, drop, map, string_bytes}
use Rattle.eds_script.specs.Meaning.{wired_in}
use Rattle.eds_script.specs.Seen.{is_among, line_of}
use Rattle.eds_script.proofs.wired.wired_ends.Given as goal

abbrev pub invariant-loop-line : goal.invariant-loop-line
invariant-loop-line l = (q : List ℕ) → (is_among (map string_bytes l.ends.keys) q || wired_in (map line_of (drop l.line-index l.lines)) q) ≡ wired_in (map line_of l.lines) q
