-- The names of the reasons why a value doesn't pack.
use Rattle.std.specs.Prelude.{ℕ, List, codes}
use Rattle.eds_types.specs.declared.reason.PackReason.{PackReason}
use Rattle.eds_types.specs.declared.reason.PackReason.TheVariants.{WrongKind, OutOfRange, NoLabel, BadText, WrongSize, CountWrong, Constraint, NotDerived, Abstract, NotMostDerived, LengthField, TooLong, Room}

-- the word for a reason in a report
abbrev pub reason_name : PackReason → List ℕ
reason_name WrongKind = codes "WrongKind"
reason_name OutOfRange = codes "OutOfRange"
reason_name NoLabel = codes "NoLabel"
reason_name BadText = codes "BadText"
reason_name WrongSize = codes "WrongSize"
reason_name CountWrong = codes "CountWrong"
reason_name Constraint = codes "Constraint"
reason_name NotDerived = codes "NotDerived"
reason_name Abstract = codes "Abstract"
reason_name NotMostDerived = codes "NotMostDerived"
reason_name LengthField = codes "LengthField"
reason_name TooLong = codes "TooLong"
reason_name Room = codes "Room"
