use Rattle.eds_types.specs.Plain.{plain}
use Rattle.eds_act.proofs.Equal.{is-same_by}
use Rattle.eds_act.proofs.guard.is_equal.Goals as goal

pub returns : goal.returns
returns c = is-same_by c.is.result (plain c.args.one.now) (plain c.args.other.now) c.is.ensures
