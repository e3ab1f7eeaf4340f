use Rattle.std.proofs.Common.{◌≡◌, List, drop}
use Rattle.std.specs.List.{list_all, flat_map}
use Rattle.eds_types.specs.Choices.{meets}
use Rattle.eds_types.specs.Fields.{Field}
use Rattle.eds_types.specs.Rows.{constraints_of, numbers_of}
use Rattle.eds_unpack.specs.Choices.{TellsChoice}
use Rattle.eds_unpack.proofs.choice.meets_all.Given as goal

abbrev pub invariant-loop-one : goal.invariant-loop-one
invariant-loop-one l = (fs : List Field) → TellsChoice l.table l.id.0 fs l.known → list_all (meets l.table l.id.0 fs) (flat_map (constraints_of l.table) (numbers_of (drop l.one-index l.containers))) ≡ list_all (meets l.table l.id.0 fs) (flat_map (constraints_of l.table) (numbers_of l.containers))
