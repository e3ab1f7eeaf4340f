use Rattle.eds_host.proofs.Outside.{unnamed_are_outside}
use Rattle.eds_host.proofs.law.unnamed_ends_are_outside.Goals as goal

pub returns : goal.returns
returns c = unnamed_are_outside
