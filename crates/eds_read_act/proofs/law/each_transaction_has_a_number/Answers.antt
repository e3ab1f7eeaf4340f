use Rattle.eds_read_act.proofs.Transacting.{each_has_a_number}
use Rattle.eds_read_act.proofs.law.each_transaction_has_a_number.Goals as goal

pub returns : goal.returns
returns c = each_has_a_number
