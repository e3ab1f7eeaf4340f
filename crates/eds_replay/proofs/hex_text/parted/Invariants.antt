use Rattle.std.proofs.Common.{◌≡◌, ◌≤◌, take, drop, length}
use Rattle.eds_replay.specs.HexText.{HasNoSpace}
use Rattle.eds_replay.proofs.hex_text.parted.Given as goal

abbrev pub invariant-loop-rest : goal.invariant-loop-rest
invariant-loop-rest l = (l.rest ≡ take (length l.rest) l.line) × (length l.rest ≤ length l.line) × HasNoSpace (drop (length l.rest) l.line)

abbrev pub decreases-loop-rest : goal.decreases-loop-rest
decreases-loop-rest l = length l.rest
