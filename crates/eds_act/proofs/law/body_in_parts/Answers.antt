use Rattle.eds_act.proofs.Parts.{body_in_parts}
use Rattle.eds_act.proofs.law.body_in_parts.Goals as goal

pub returns : goal.returns
returns c = body_in_parts
