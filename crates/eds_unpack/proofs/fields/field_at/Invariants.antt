use Rattle.std.proofs.Common.{◌≡◌, drop, map}
use Rattle.eds_types.specs.Fields.{value_at}
use Rattle.eds_types.specs.Plain.{plain}
use Rattle.eds_unpack.specs.Courses.{fields_at, fields_of}
use Rattle.eds_unpack.proofs.fields.field_at.Given as goal

abbrev pub invariant-loop-index : goal.invariant-loop-index
invariant-loop-index l = value_at (fields_at (drop l.index l.parts) (drop l.index (map plain l.fields.values.items))) l.container.0 l.place ≡ value_at (fields_of l.fields) l.container.0 l.place
