use Rattle.std.proofs.Common.{sym}
use Rattle.eds_generic.specs.Members.{under}
use Rattle.eds_generic.specs.Resolved.{members_or_limit}
use Rattle.eds_generic.proofs.Many.{limit-least, named-stop}
use Rattle.eds_generic.proofs.resolving.least_here.Goals as goal

pub returns-in-Err-Named-clause-least : goal.returns-in-Err-Named-clause-least
returns-in-Err-Named-clause-least c =
    let asked = c.args.asked.now in
    let p = under asked.faces.now asked.face asked.given.now in
    rw c.in-Err-Named.field-0-is
    (sym (limit-least asked.faces.now asked.types.now asked.at p c.in-Err-Named.refusal (named-stop c.in-Err-Named.field-0 c.in-Err-Named.refusal (members_or_limit asked.faces.now asked.at p) c.in-Err-Named.field-0-is c.in-Err-Named.ensures)))
