use Rattle.std.proofs.Common.{arith}
use Rattle.std.proofs.lemmas.Map.Text.{text_keys}
use Rattle.eds_overlap.proofs.index.note.Goals.{in-Some, in-None}
use Rattle.eds_overlap.proofs.index.note.Goals as goal

pub returns : goal.returns
returns c = λ q. elim c.match-remove.branch [ in-Some w ↦ grind (arith, text_keys) | in-None w ↦ grind (arith, text_keys) ]
