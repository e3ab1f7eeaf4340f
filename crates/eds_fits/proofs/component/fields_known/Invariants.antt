use Rattle.std.proofs.Common.{◌≡◌, drop}
use Rattle.eds_fits.specs.Deciding.{fields_known}
use Rattle.eds_fits.proofs.component.fields_known.Given as goal

abbrev pub invariant-loop-id : goal.invariant-loop-id
invariant-loop-id l = fields_known l.table (drop l.id-index l.fields) ≡ fields_known l.table l.fields
