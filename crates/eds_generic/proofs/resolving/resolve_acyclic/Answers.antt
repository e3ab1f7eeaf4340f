use Rattle.eds_generic.specs.Members.{under}
use Rattle.eds_generic.specs.Resolved.{instance_of}
use Rattle.eds_generic.proofs.Many.{stopped}
use Rattle.eds_generic.proofs.resolving.resolve_acyclic.Goals as goal

pub returns-in_err-members : goal.returns-in_err-members
returns-in_err-members c =
    let asked = c.args.asked.now in
    stopped asked.faces.now asked.types.now asked.at (under asked.faces.now asked.face asked.given.now) c.from_residual.result c.in_err-members.field-0.0 (instance_of asked.faces.now asked.face asked.given.now) c.from_residual.ensures.1 c.in_err-members.ensures

pub least_break-requires-clause-clean : goal.least_break-requires-clause-clean
least_break-requires-clause-clean c = c.new-clean.ensures c.args.asked.now.faces.now c.args.asked.now.types.now
