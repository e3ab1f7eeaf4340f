-- The names of reasons.
use Rattle.std.specs.Prelude.{ℕ, List, codes}
use Rattle.eds_base.specs.declared.fault.Reason.{Reason}
use Rattle.eds_base.specs.declared.fault.Reason.TheVariants.{Short, OutOfRange, NoLabel, BadDigit, BadText, Unterminated, FixedDiffers, Constraint, NoDerived, LengthDiffers, CheckDiffers, TooLong, Trailing}

-- the word for a reason in a report
abbrev pub reason_name : Reason → List ℕ
reason_name Short = codes "Short"
reason_name OutOfRange = codes "OutOfRange"
reason_name NoLabel = codes "NoLabel"
reason_name BadDigit = codes "BadDigit"
reason_name BadText = codes "BadText"
reason_name Unterminated = codes "Unterminated"
reason_name FixedDiffers = codes "FixedDiffers"
reason_name Constraint = codes "Constraint"
reason_name NoDerived = codes "NoDerived"
reason_name LengthDiffers = codes "LengthDiffers"
reason_name CheckDiffers = codes "CheckDiffers"
reason_name TooLong = codes "TooLong"
reason_name Trailing = codes "Trailing"
