use Rattle.std.proofs.Common.{rules, ◌≡◌, Some}
use Rattle.eds_script.specs.Members.{parameter_from}
use Rattle.eds_script.specs.Seen.{parameter_of}
use Rattle.eds_script.proofs.Knowing.{parameter-known}
use Rattle.eds_script.proofs.arrival.set_line.Goals as goal

pub given_value-requires : goal.given_value-requires
given_value-requires c =
    let found : parameter_from c.args.name.now 0 c.args.plan.now.instance.members ≡ Some (parameter_of c.in-Some.parameter) = search rules in
    record { known = parameter-known c.args.table.now c.args.name.now 0 c.args.plan.now.instance.members (parameter_of c.in-Some.parameter) found c.requires.known }
