use Rattle.eds_host.proofs.Deliveries.{each_is_delivered}
use Rattle.eds_host.proofs.law.each_is_delivered.Goals as goal

pub returns : goal.returns
returns c = each_is_delivered
