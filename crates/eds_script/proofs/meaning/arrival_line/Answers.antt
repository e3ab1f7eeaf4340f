use Rattle.std.proofs.Common.{rules, ◌≡◌, Some, None, sym}
use Rattle.eds_script.specs.Carries.{fields_there}
use Rattle.eds_plan.specs.Ends.{found_end}
use Rattle.eds_script.proofs.Carrying.{found-fields}
use Rattle.eds_script.proofs.Knowing.{end-known}
use Rattle.eds_script.proofs.meaning.arrival_line.Goals as goal

pub unreachable-requires : goal.unreachable-requires
unreachable-requires c =
    let found : found_end c.args.setting.now.plan.now c.args.end.now ≡ Some (c.in-Some.place, c.in-Some.plan.now) = search rules in
    let there = found-fields c.args.setting.now.plan.now c.args.setting.now.fields.now c.args.end.now c.in-Some.place c.in-Some.plan.now found c.requires.fields in
    let none : fields_there c.args.setting.now.fields.now c.in-Some.place ≡ None = sym c.in_default-fields_at.ensures in
    cc

pub member_line-requires : goal.member_line-requires
member_line-requires c =
    let found : found_end c.args.setting.now.plan.now c.args.end.now ≡ Some (c.in-Some.place, c.in-Some.plan.now) = search rules in
    let there = found-fields c.args.setting.now.plan.now c.args.setting.now.fields.now c.args.end.now c.in-Some.place c.in-Some.plan.now found c.requires.fields in
    let held : fields_there c.args.setting.now.fields.now c.in-Some.place ≡ Some c.in-Some-fields_at.fields.now = sym c.in-Some-fields_at.ensures in
    record {
      known = end-known c.args.setting.now.table.now c.args.setting.now.plan.now c.args.end.now c.in-Some.place c.in-Some.plan.now found c.requires.known;
      fields = cc;
    }
