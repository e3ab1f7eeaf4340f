use Rattle.eds_generic.specs.NameRules.{unmapped_at, unknown_at, refused_at}
use Rattle.eds_generic.proofs.Judging.{none-clean}
use Rattle.eds_generic.proofs.rules.Clean.new.Goals as goal

pub returns : goal.returns
returns c faces types = record {
  unmapped = none-clean unmapped_at faces types _ c.remembered.ensures;
  unknown = none-clean unknown_at faces types _ c.remembered-2.ensures;
  refused = none-clean refused_at faces types _ c.remembered-3.ensures;
}
