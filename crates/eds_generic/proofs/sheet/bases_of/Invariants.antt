use Rattle.std.proofs.Common.{◌≡◌, take}
use Rattle.eds_generic.specs.Sheets.{bases_of}
use Rattle.eds_generic.proofs.sheet.bases_of.Given as goal

abbrev pub invariant-loop-row : goal.invariant-loop-row
invariant-loop-row l = l.bases.items ≡ bases_of (take l.row-index l.row-items)
