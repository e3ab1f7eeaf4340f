-- The numbers and names of the rules.
use Rattle.std.specs.Prelude.{ℕ, List, codes}
use Rattle.eds_base.specs.declared.rule.Rule.{Rule}
use Rattle.eds_base.specs.declared.rule.Rule.TheVariants.{NotJson, NotElement, UnknownElement, Unsupported, MissingAttribute, BadAttribute, BadName, Limit, Duplicate, Unresolved, WrongKind, BadEncoding, EmptyRange, BadEnumeration, BaseCycle, TypeCycle, EmptyType, DuplicateEntry, ListField, LengthField, FixedValue, ErrorControl, ConstraintTarget, ConstraintValue, ConstraintEmpty, Overlap, InterfaceCycle, DuplicateMember, Unmapped, UnknownGeneric, GenericBase, NoDefault, BadReference, TypeMismatch, CallCycle, BadMachine, BadMap, BadTimer}

-- the number of a rule in a report
abbrev pub rule_number : Rule → ℕ
rule_number NotJson = 1
rule_number NotElement = 2
rule_number UnknownElement = 3
rule_number Unsupported = 4
rule_number MissingAttribute = 5
rule_number BadAttribute = 6
rule_number BadName = 7
rule_number Limit = 8
rule_number Duplicate = 9
rule_number Unresolved = 10
rule_number WrongKind = 11
rule_number BadEncoding = 12
rule_number EmptyRange = 13
rule_number BadEnumeration = 14
rule_number BaseCycle = 15
rule_number TypeCycle = 16
rule_number EmptyType = 17
rule_number DuplicateEntry = 18
rule_number ListField = 19
rule_number LengthField = 20
rule_number FixedValue = 21
rule_number ErrorControl = 22
rule_number ConstraintTarget = 23
rule_number ConstraintValue = 24
rule_number ConstraintEmpty = 25
rule_number Overlap = 26
rule_number InterfaceCycle = 27
rule_number DuplicateMember = 28
rule_number Unmapped = 29
rule_number UnknownGeneric = 30
rule_number GenericBase = 31
rule_number NoDefault = 32
rule_number BadReference = 33
rule_number TypeMismatch = 34
rule_number CallCycle = 35
rule_number BadMachine = 36
rule_number BadMap = 37
rule_number BadTimer = 38

-- the name of a rule in a report
abbrev pub rule_name : Rule → List ℕ
rule_name NotJson = codes "NotJson"
rule_name NotElement = codes "NotElement"
rule_name UnknownElement = codes "UnknownElement"
rule_name Unsupported = codes "Unsupported"
rule_name MissingAttribute = codes "MissingAttribute"
rule_name BadAttribute = codes "BadAttribute"
rule_name BadName = codes "BadName"
rule_name Limit = codes "Limit"
rule_name Duplicate = codes "Duplicate"
rule_name Unresolved = codes "Unresolved"
rule_name WrongKind = codes "WrongKind"
rule_name BadEncoding = codes "BadEncoding"
rule_name EmptyRange = codes "EmptyRange"
rule_name BadEnumeration = codes "BadEnumeration"
rule_name BaseCycle = codes "BaseCycle"
rule_name TypeCycle = codes "TypeCycle"
rule_name EmptyType = codes "EmptyType"
rule_name DuplicateEntry = codes "DuplicateEntry"
rule_name ListField = codes "ListField"
rule_name LengthField = codes "LengthField"
rule_name FixedValue = codes "FixedValue"
rule_name ErrorControl = codes "ErrorControl"
rule_name ConstraintTarget = codes "ConstraintTarget"
rule_name ConstraintValue = codes "ConstraintValue"
rule_name ConstraintEmpty = codes "ConstraintEmpty"
rule_name Overlap = codes "Overlap"
rule_name InterfaceCycle = codes "InterfaceCycle"
rule_name DuplicateMember = codes "DuplicateMember"
rule_name Unmapped = codes "Unmapped"
rule_name UnknownGeneric = codes "UnknownGeneric"
rule_name GenericBase = codes "GenericBase"
rule_name NoDefault = codes "NoDefault"
rule_name BadReference = codes "BadReference"
rule_name TypeMismatch = codes "TypeMismatch"
rule_name CallCycle = codes "CallCycle"
rule_name BadMachine = codes "BadMachine"
rule_name BadMap = codes "BadMap"
rule_name BadTimer = codes "BadTimer"
