use Rattle.eds_host.proofs.Leavings.{arrivals_send_on, each_leaves, sendings_are_sent, starts_send_on}
use Rattle.eds_host.proofs.law.each_leaves.Goals as goal

pub returns : goal.returns
returns c = record { course = each_leaves; sends = sendings_are_sent; start = starts_send_on; arrival = arrivals_send_on }
