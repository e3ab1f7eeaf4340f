use Rattle.std.proofs.Common.{◌≡◌, ◌||◌, ◌∙◌, ap, length, subst, arith}
use Rattle.std.specs.List.{list_any}
use Rattle.eds_graph.specs.Reaching.{mark}
use Rattle.eds_types.specs.Rows.{chain}
use Rattle.eds_read_types.specs.Kin.{AreMarks, passes_near}
use Rattle.eds_read_types.proofs.KinFacts.{marks-none, marks-next, marks-as, near-given}
use Rattle.eds_read_types.proofs.kin.marks_near.Goals as goal

pub loop-id-init : goal.loop-id-init
loop-id-init c = marks-none (λ k. list_any (mark c.args.given.now) (chain c.args.rows.now k) || mark c.in_ok-under.under.items k) c.new-marks.result.items c.new-marks.ensures.items

pub loop-id-preserved : goal.loop-id-preserved
loop-id-preserved c =
    marks-next (λ k. list_any (mark c.args.given.now) (chain c.args.rows.now k) || mark c.in_ok-under.under.items k) c.loop-id.id c.is_near.result c.loop-id.marks.items c.push.new.self.items c.loop-id.invariant c.in_ok-push.ensures.items
    (c.is_near.ensures ∙ ap (λ ms. list_any (mark c.args.given.now) (chain c.args.rows.now c.loop-id.id) || mark ms c.loop-id.id) c.deref.ensures.value)

pub returns : goal.returns
returns c test given past =
    let all : c.loop-id.id ≡ length c.args.rows.now = omega arith in
    marks-as (length c.args.rows.now) (λ k. list_any (mark c.args.given.now) (chain c.args.rows.now k) || mark c.in_ok-under.under.items k) (passes_near c.args.rows.now test) c.loop-id.marks.items
    (subst (λ n. AreMarks n (λ k. list_any (mark c.args.given.now) (chain c.args.rows.now k) || mark c.in_ok-under.under.items k) c.loop-id.marks.items) all c.loop-id.invariant)
    (near-given c.args.rows.now test c.args.given.now given past c.in_ok-under.under.items (c.in_ok-under.ensures test given))
