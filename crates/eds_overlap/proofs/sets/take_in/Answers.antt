use Rattle.std.proofs.Common.{ap, sym, ◌∙◌}
use Rattle.eds_types.specs.declared.sets.PathSet.{PathSet}
use Rattle.eds_overlap.specs.Pairs.{same_path}
use Rattle.eds_overlap.proofs.Solutions.{same_is, same_not}
use Rattle.eds_overlap.proofs.TakenIn.{narrowed, one_end}
use Rattle.eds_overlap.proofs.sets.take_in.Goals as goal

pub returns-then-is_same : goal.returns-then-is_same
returns-then-is_same c =
    let same = c.is_same.ensures ∙ ap (λ p. same_path p c.as_slice-2.result.now) c.as_slice.ensures ∙ ap (same_path c.in-Some.last.path) c.as_slice-2.ensures in
    narrowed c.args.table.now c.args.constraint.now c.pop.new.self.items c.args.sets.now.items c.push.new.self.items c.in-Some.last c.in_ok-set.set c.in-Some.ensures.items c.in_ok-push.ensures.items
    (same_is c.in-Some.last.path c.args.constraint.now.path (sym same ∙ c.if-is_same.true)) c.in_ok-set.ensures.common c.in_ok-set.ensures.all

pub push_first-requires-2-clause-new : goal.push_first-requires-2-clause-new
push_first-requires-2-clause-new c before last e h =
    let same = c.is_same.ensures ∙ ap (λ p. same_path p c.as_slice-2.result.now) c.as_slice.ensures ∙ ap (same_path c.in-Some.last.path) c.as_slice-2.ensures in
    same_not c.in-Some.last.path c.args.constraint.now.path (sym same ∙ c.if-is_same.false) (ap (λ (s : PathSet). s.path) (one_end c.pop.new.self.items before c.in-Some.last last (sym c.in_ok-push-2.ensures.items ∙ e)) ∙ h)
