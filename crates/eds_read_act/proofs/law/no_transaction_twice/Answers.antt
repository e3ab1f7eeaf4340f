use Rattle.eds_read_act.proofs.Transacting.{no_name_twice}
use Rattle.eds_read_act.proofs.law.no_transaction_twice.Goals as goal

pub returns : goal.returns
returns c = no_name_twice
