use Rattle.std.proofs.Common.{◌≡◌, ◌&&◌, ◌∙◌, ap, length, not, subst, arith}
use Rattle.std.specs.List.{list_all}
use Rattle.eds_graph.specs.Reaching.{mark}
use Rattle.eds_types.specs.Rows.{is_concrete, chain}
use Rattle.eds_read_types.specs.Kin.{AreMarks}
use Rattle.eds_read_types.specs.Hollow.{is_bare, is_void}
use Rattle.eds_read_types.proofs.KinFacts.{marks-none, marks-next}
use Rattle.eds_read_types.proofs.hollow.voids.Goals as goal

pub loop-id-init : goal.loop-id-init
loop-id-init c = marks-none (is_void c.args.rows.now) c.new-marks.result.items c.new-marks.ensures.items

pub loop-id-preserved : goal.loop-id-preserved
loop-id-preserved c =
    marks-next (is_void c.args.rows.now) c.loop-id.id c.is_void.result c.loop-id.marks.items c.push.new.self.items c.loop-id.invariant c.in_ok-push.ensures.items
    (c.is_void.ensures ∙ (ap (λ ms. is_concrete c.args.rows.now c.loop-id.id && (list_all (is_bare c.args.rows.now) (chain c.args.rows.now c.loop-id.id) && not (mark ms c.loop-id.id))) c.deref.ensures.value ∙ ap (λ b. is_concrete c.args.rows.now c.loop-id.id && (list_all (is_bare c.args.rows.now) (chain c.args.rows.now c.loop-id.id) && not b)) (c.in_ok-furthers.ensures.told c.loop-id.id (omega arith))))

pub returns : goal.returns
returns c =
    let all : c.loop-id.id ≡ length c.args.rows.now = omega arith in
    subst (λ n. AreMarks n (is_void c.args.rows.now) c.loop-id.marks.items) all c.loop-id.invariant
