use Rattle.std.proofs.Common.{◌≡◌, Bool, true, false, refl, sym, ap, ◌∙◌}
use Rattle.std.specs.Bool.{OnTrue}
use Rattle.eds_value.specs.Members.{ascends}
use Rattle.eds_value.proofs.Sorted.{sorted_put}
use Rattle.eds_value.proofs.member.sort.Goals as goal

where_true : (b : Bool) (P : Type 0) → (b ≡ true → P) → OnTrue b P
where_true true P h = h refl
where_true false P h = tt

pub returns-clause-same : goal.returns-clause-same
returns-clause-same g c =
    where_true c.ascends.result _ (λ yes f. sorted_put f c.args.members.now.items c.sort_unstable_by.new.self.items c.sort_unstable_by.ensures.permutation (ap ascends (sym c.as_slice.ensures.value) ∙ sym c.ascends.ensures ∙ yes))
