-- What is found at a line.
use Rattle.std.specs.Prelude.{ℕ, Result, Ok, Err}
use Rattle.eds_snap.specs.declared.why.BadSnap.{BadSnap}
use Rattle.eds_snap.specs.declared.why.SnapWhy.{SnapWhy}

-- what is found in a line, or why nothing is, with the line's number
abbrev pub at_line : {A : Type 0} → ℕ → Result A SnapWhy → Result A BadSnap
at_line n (Ok x) = Ok x
at_line n (Err w) = Err (record { line = n; why = w })
