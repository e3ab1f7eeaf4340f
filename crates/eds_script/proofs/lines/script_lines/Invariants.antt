use Rattle.std.proofs.Common.{◌≡◌, ◌++◌, map, length}
use Rattle.eds_script.specs.Lines.{ended, numbered_from, pieces, unskipped}
use Rattle.eds_script.specs.Seen.{line_of}
use Rattle.eds_script.proofs.lines.script_lines.Given as goal

abbrev pub invariant-loop-line : goal.invariant-loop-line
invariant-loop-line l = map line_of l.lines.items ++ unskipped (numbered_from l.number (ended (pieces l.rest))) ≡ unskipped (numbered_from 1 (ended (pieces l.octets)))

abbrev pub decreases-loop-line : goal.decreases-loop-line
decreases-loop-line l = length l.rest
