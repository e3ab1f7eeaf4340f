use Rattle.std.proofs.Common.{rules, ◌≡◌, Some, None, sym}
use Rattle.eds_script.specs.Members.{command_place}
use Rattle.eds_script.proofs.Carrying.{command-carries, fields-there-are, none-carries}
use Rattle.eds_script.proofs.carries.find_carrying.Goals as goal

pub returns-in_default : goal.returns-in_default
returns-in_default c =
    let none : command_place c.args.name.now 0 c.args.facing.now.plan.now.instance.members ≡ None = search rules in
    sym (none-carries c.args.facing.now.plan.now c.args.name.now none)

pub unreachable-requires : goal.unreachable-requires
unreachable-requires c =
    let found : command_place c.args.name.now 0 c.args.facing.now.plan.now.instance.members ≡ Some c.in-Some.place = search rules in
    fields-there-are c.args.facing.now.plan.now c.args.name.now c.in-Some.place c.args.facing.now.fields.now c.requires found (sym c.in-None.ensures)

pub returns : goal.returns
returns c =
    let found : command_place c.args.name.now 0 c.args.facing.now.plan.now.instance.members ≡ Some c.in-Some.place = search rules in
    command-carries c.args.facing.now.plan.now c.args.name.now c.in-Some.place c.args.facing.now.fields.now c.in-Some-get.fields.now c.requires found (sym c.in-Some-get.ensures)
