use Rattle.std.proofs.Common.{◌≡◌, ◌||◌, length, subst, arith}
use Rattle.std.specs.List.{list_any}
use Rattle.eds_graph.specs.Reaching.{mark}
use Rattle.eds_read_types.specs.Faults.{types_at}
use Rattle.eds_read_types.specs.Kin.{AreMarks}
use Rattle.eds_read_types.proofs.KinFacts.{marks-none, marks-next}
use Rattle.eds_read_types.proofs.faults.next_marks.Goals as goal

pub loop-id-init : goal.loop-id-init
loop-id-init c = marks-none (λ k. mark c.args.faulty.now k || list_any (mark c.args.marks.now) (types_at c.args.rows.now k)) c.new-next.result.items c.new-next.ensures.items

pub loop-id-preserved : goal.loop-id-preserved
loop-id-preserved c = marks-next (λ k. mark c.args.faulty.now k || list_any (mark c.args.marks.now) (types_at c.args.rows.now k)) c.loop-id.id c.is_next.result c.loop-id.next.items c.push.new.self.items c.loop-id.invariant c.in_ok-push.ensures.items c.is_next.ensures

pub returns : goal.returns
returns c =
    let all : c.loop-id.id ≡ length c.args.rows.now = omega arith in
    subst (λ n. AreMarks n (λ k. mark c.args.faulty.now k || list_any (mark c.args.marks.now) (types_at c.args.rows.now k)) c.loop-id.next.items) all c.loop-id.invariant
