use Rattle.eds_host.proofs.Times.{none_is_late, time_goes_on}
use Rattle.eds_host.proofs.law.time_goes_on.Goals as goal

pub returns-clause-goes_on : goal.returns-clause-goes_on
returns-clause-goes_on c = time_goes_on

pub returns-clause-late : goal.returns-clause-late
returns-clause-late c = none_is_late
