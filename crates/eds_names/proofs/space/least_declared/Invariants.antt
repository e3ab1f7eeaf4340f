use Rattle.std.proofs.Common.{◌≡◌, [], map, drop, string_bytes}
use Rattle.eds_base.specs.Refusals.{first_of, least}
use Rattle.eds_names.specs.Repeats.{repeats}
use Rattle.eds_names.specs.Declarations.{named_of}
use Rattle.eds_names.proofs.space.least_declared.Given as goal

abbrev pub invariant-loop-one : goal.invariant-loop-one
invariant-loop-one l = first_of l.found (least (repeats (map string_bytes l.before.keys) (map named_of (drop l.one-index l.declared)))) ≡ least (repeats [] (map named_of l.declared))
