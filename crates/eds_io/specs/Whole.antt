-- Whole files.
use Rattle.std.specs.Prelude.{ℕ, List, Result, Ok, Err, ⊤}
use Rattle.eds_base.specs.declared.fail.Fail.{Fail}
use Rattle.eds_base.specs.declared.fail.Fail.TheVariants.{Named, Memory}
use Rattle.eds_io.specs.declared.whole.ReadEnd.{ReadEnd}
use Rattle.eds_io.specs.declared.whole.ReadEnd.TheVariants.{NoFile, ReadFault, TooBig}

-- the claim holds, unless a read failed or memory ran out
abbrev pub UnlessFailed : Result (List ℕ) (Fail ReadEnd) → Type 0 → Type 0
UnlessFailed (Ok octets) claim = claim
UnlessFailed (Err (Named NoFile)) claim = claim
UnlessFailed (Err (Named TooBig)) claim = claim
UnlessFailed (Err (Named ReadFault)) claim = ⊤
UnlessFailed (Err Memory) claim = ⊤

-- the claim holds, unless memory ran out
abbrev pub UnlessMemory : Result (List ℕ) (Fail ReadEnd) → Type 0 → Type 0
UnlessMemory (Ok octets) claim = claim
UnlessMemory (Err (Named end)) claim = claim
UnlessMemory (Err Memory) claim = ⊤
