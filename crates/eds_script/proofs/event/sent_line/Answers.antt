use Rattle.std.proofs.Common.{◌≡◌, Some, None, sym}
use Rattle.eds_plan.specs.Outs.{signal}
use Rattle.eds_plan.specs.Ends.{end_at}
use Rattle.eds_script.specs.Names.{member_at}
use Rattle.eds_script.specs.Places.{place_text}
use Rattle.eds_script.proofs.Printing.{sent-line, sent-reads}
use Rattle.eds_script.proofs.event.sent_line.Goals as goal

-- what stands at the end is a member that the primitive fits
pub unreachable-requires : goal.unreachable-requires
unreachable-requires c =
    let none : member_at c.args.plan.now c.args.primitive.now.end c.args.primitive.now.member ≡ None = sym c.in-None.ensures.member in
    rw none at c.requires

pub member_line-requires : goal.member_line-requires
member_line-requires c =
    let some : member_at c.args.plan.now c.args.primitive.now.end c.args.primitive.now.member ≡ Some c.in-Some.member.now = sym c.in-Some.ensures.member in
    rw some at c.requires

pub returns-clause-line : goal.returns-clause-line
returns-clause-line c =
    sent-line c.args.table.now (signal c.args.primitive.now) (end_at c.args.plan.now c.args.primitive.now.end) c.in-Some.end.now c.in-Some.member.now c.member_line.result c.in-Some.ensures.end (sym c.in-Some.ensures.member)
    c.args.time _ (place_text c.place_of_end-place.result) c.place_of_end-place.ensures c.member_line.ensures.line

pub returns-clause-reads : goal.returns-clause-reads
returns-clause-reads c bare =
    sent-reads c.args.table.now (signal c.args.primitive.now) (end_at c.args.plan.now c.args.primitive.now.end) c.in-Some.end.now c.in-Some.member.now c.member_line.result c.in-Some.ensures.end (sym c.in-Some.ensures.member)
    (c.member_line.ensures.reads bare)
