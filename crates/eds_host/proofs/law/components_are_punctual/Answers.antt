use Rattle.eds_host.proofs.PunctualComponents.{components_are_punctual}
use Rattle.eds_host.proofs.law.components_are_punctual.Goals as goal

pub returns : goal.returns
returns c = components_are_punctual
