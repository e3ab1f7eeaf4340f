use Rattle.std.proofs.Common.{rules, ◌≡◌, Some}
use Rattle.eds_script.specs.Members.{commanded}
use Rattle.eds_script.specs.Seen.{carrying_of}
use Rattle.eds_script.proofs.Carrying.{commanded-known}
use Rattle.eds_script.proofs.arrival.command_line.Goals as goal

pub given_arguments-requires : goal.given_arguments-requires
given_arguments-requires c =
    let found : commanded c.args.facing.now.plan.now c.args.name.now ≡ Some (carrying_of c.in-Some.command) = search rules in
    record { known = commanded-known c.args.table.now c.args.facing.now.plan.now c.args.name.now (carrying_of c.in-Some.command) found c.requires.known }
