use Rattle.eds_script.proofs.Joining.{more_may_happen, texts_join}
use Rattle.eds_script.proofs.law.texts_join.Goals as goal

pub returns : goal.returns
returns c = record { join = texts_join; more = more_may_happen }
