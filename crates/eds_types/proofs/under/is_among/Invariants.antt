use Rattle.std.proofs.Common.{◌≡◌, drop}
use Rattle.eds_types.specs.Rows.{list_has, numbers_of}
use Rattle.eds_types.proofs.under.is_among.Given as goal

abbrev pub invariant-loop-one : goal.invariant-loop-one
invariant-loop-one l = list_has (numbers_of (drop l.one-index l.ids)) l.id.0 ≡ list_has (numbers_of l.ids) l.id.0
