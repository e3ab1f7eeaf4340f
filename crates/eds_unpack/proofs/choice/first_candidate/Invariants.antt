use Rattle.std.proofs.Common.{◌≡◌, List, drop}
use Rattle.eds_types.specs.Choices.{fits_choice}
use Rattle.eds_types.specs.Families.{first_of}
use Rattle.eds_types.specs.Fields.{Field}
use Rattle.eds_types.specs.Rows.{numbers_of}
use Rattle.eds_unpack.specs.Choices.{TellsChoice}
use Rattle.eds_unpack.proofs.choice.first_candidate.Given as goal

abbrev pub invariant-loop-under : goal.invariant-loop-under
invariant-loop-under l = (fs : List Field) → TellsChoice l.table l.id.0 fs l.known → first_of (fits_choice l.table l.id.0 fs) (numbers_of (drop l.under-index l.family)) ≡ first_of (fits_choice l.table l.id.0 fs) (numbers_of l.family)
