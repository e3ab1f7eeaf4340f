use Rattle.std.proofs.Common.{refl, subst, map, ℕ, List, Some}
use Rattle.std.specs.Prelude.{Ok, Err}
use Rattle.eds_base.specs.declared.fail.Fail.{Fail}
use Rattle.eds_base.specs.declared.fault.Fault.{Fault}
use Rattle.eds_bits.specs.Bits.{bits_of}
use Rattle.eds_unpack.specs.Answers.{IfNamed}
use Rattle.eds_host.specs.Frames.{FrameIs}
use Rattle.eds_plan.specs.Ends.{end_at}
use Rattle.eds_host.proofs.FramedLines.{fault_line, frame_packs, framed_arrives, value_line}
use Rattle.eds_host.proofs.OneFrame.{brought_one, end_readable}
use Rattle.eds_host.proofs.Sent.{out_last}
use Rattle.eds_host.specs.Settings.{world}
use Rattle.eds_plan.specs.Outs.{report, signal}
use Rattle.eds_types.specs.Plain.{plain}
use Rattle.eds_host.proofs.line.frame_line.Goals as goal

-- the type of the frame is of the table, and no two containers overlap under it
pub read_frame-requires-clause-known : goal.read_frame-requires-clause-known
read_frame-requires-clause-known c =
    let s = c.args.setting.now in let b = c.requires.one in
    let one = brought_one (end_at s.plan.now c.args.end) b.end c.args.member c.in-Some.id.0 b.id c.in-Some.ensures.some.0 c.in-Some.ensures.some.1 b.end_is b.one in
    (end_readable s.table.now s.plan.now c.keeps_rules.ensures c.requires.setting.plan c.requires.clear c.args.end (Some b.end) c.args.member c.in-Some.id.0 b.end_is one).there

pub read_frame-requires-clause-clear : goal.read_frame-requires-clause-clear
read_frame-requires-clause-clear c =
    let s = c.args.setting.now in let b = c.requires.one in
    let one = brought_one (end_at s.plan.now c.args.end) b.end c.args.member c.in-Some.id.0 b.id c.in-Some.ensures.some.0 c.in-Some.ensures.some.1 b.end_is b.one in
    (end_readable s.table.now s.plan.now c.keeps_rules.ensures c.requires.setting.plan c.requires.clear c.args.end (Some b.end) c.args.member c.in-Some.id.0 b.end_is one).clear

-- the value of the frame arrives
pub primitive_line-requires-clause-here : goal.primitive_line-requires-clause-here
primitive_line-requires-clause-here c =
    let s = c.args.setting.now in let b = c.requires.one in let id = c.in-Some.id.0 in
    let one = brought_one (end_at s.plan.now c.args.end) b.end c.args.member id b.id c.in-Some.ensures.some.0 c.in-Some.ensures.some.1 b.end_is b.one in
    let readable = end_readable s.table.now s.plan.now c.keeps_rules.ensures c.requires.setting.plan c.requires.clear c.args.end (Some b.end) c.args.member id b.end_is one in
    framed_arrives s.table.now s.plan.now c.args.end c.args.member id b one (signal c.in_ok-p-in-Ok.p) (plain c.in-Ok.value) c.in_ok-p-in-Ok.ensures
    (frame_packs s.table.now id c.args.octets.now (plain c.in-Ok.value) readable c.requires.few (subst (λ (os : List ℕ). FrameIs s.table.now id (bits_of os) (Ok (plain c.in-Ok.value))) c.as_slice.ensures c.in-Ok.ensures.value))

pub returns-in_ok-p-in-Ok-clause-ok : goal.returns-in_ok-p-in-Ok-clause-ok
returns-in_ok-p-in-Ok-clause-ok c =
    let s = c.args.setting.now in let b = c.requires.one in let id = c.in-Some.id.0 in let n = c.primitive_line.new in
    let one = brought_one (end_at s.plan.now c.args.end) b.end c.args.member id b.id c.in-Some.ensures.some.0 c.in-Some.ensures.some.1 b.end_is b.one in
    value_line s c.args.end c.args.member id c.args.octets.now b one (world c.args.now.now c.args.states.now c.args.queue.now) (world n.now n.states n.queue) (map report c.args.out.now) (map report n.out)
    (signal c.in_ok-p-in-Ok.p) (plain c.in-Ok.value) c.primitive_line.result c.in_ok-p-in-Ok.ensures (subst (λ (os : List ℕ). FrameIs s.table.now id (bits_of os) (Ok (plain c.in-Ok.value))) c.as_slice.ensures c.in-Ok.ensures.value) c.primitive_line.ensures.ok

-- or the frame is refused
pub returns-in_ok-leave-in-Err-Named-clause-ok : goal.returns-in_ok-leave-in-Err-Named-clause-ok
returns-in_ok-leave-in-Err-Named-clause-ok c =
    let s = c.args.setting.now in let b = c.requires.one in let id = c.in-Some.id.0 in
    let one = brought_one (end_at s.plan.now c.args.end) b.end c.args.member id b.id c.in-Some.ensures.some.0 c.in-Some.ensures.some.1 b.end_is b.one in
    let now = world c.args.now.now c.args.states.now c.args.queue.now in
    fault_line s c.args.end c.args.member id c.args.octets.now b one now now (map report c.args.out.now) (map report c.leave.new.out)
    c.in-Err-Named.fault
    (subst (λ (os : List ℕ). FrameIs s.table.now id (bits_of os) (Err c.in-Err-Named.fault)) c.as_slice.ensures
    (subst (λ (f : Fail Fault). IfNamed (λ g. FrameIs s.table.now id (bits_of c.as_slice.result.now) (Err g)) f) c.in-Err-Named.field-0-is c.in-Err-Named.ensures.fault))
    refl (rw c.in-Err-Named.field-0-is at c.in_ok-leave-in-Err-Named.ensures)

pub returns-in_ok-leave-in-Err-Named-clause-fits : goal.returns-in_ok-leave-in-Err-Named-clause-fits
returns-in_ok-leave-in-Err-Named-clause-fits c =
    let s = c.args.setting.now in
    out_last s.table.now s.plan.now (map report c.args.out.now) (map report c.leave.new.out) _ c.in_ok-leave-in-Err-Named.ensures tt
