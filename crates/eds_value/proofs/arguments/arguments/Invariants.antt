use Rattle.std.proofs.Common.{◌≡◌, map, take}
use Rattle.eds_value.specs.Entries.{arguments}
use Rattle.eds_value.specs.Seen.{seen}
use Rattle.eds_value.proofs.arguments.arguments.Given as goal

abbrev pub invariant-loop-field : goal.invariant-loop-field
invariant-loop-field l = map seen l.entries ≡ arguments (take l.field-index l.fields)
