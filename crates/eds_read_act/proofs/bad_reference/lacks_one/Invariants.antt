use Rattle.std.proofs.Common.{◌≡◌, drop}
use Rattle.std.specs.List.{list_any}
use Rattle.eds_read_act.specs.BadReference.{is_ungiven}
use Rattle.eds_read_act.proofs.bad_reference.lacks_one.Given as goal

abbrev pub invariant-loop-field : goal.invariant-loop-field
invariant-loop-field l = list_any (is_ungiven l.tree l.given.holder) (drop l.field-index l.fields) ≡ list_any (is_ungiven l.tree l.given.holder) l.fields
