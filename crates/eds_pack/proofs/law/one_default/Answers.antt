use Rattle.eds_pack.proofs.OneDefault.{one_within}
use Rattle.eds_pack.proofs.law.one_default.Goals as goal

pub returns : goal.returns
returns c t id rules v w h k = one_within t rules 32 id v w h.is k.is
