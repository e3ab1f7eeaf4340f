use Rattle.std.proofs.Common.{sym, ap, ◌∙◌, arith}
use Rattle.eds_names.specs.LookUp.{is_marked}
use Rattle.eds_names.proofs.DepthsLemmas.{marked-more, marked-set}
use Rattle.eds_names.proofs.depths.mark.Goals as goal

pub loop-depths-preserved : goal.loop-depths-preserved
loop-depths-preserved c k = ap (λ table. is_marked table k) c.in_ok-push.ensures.items ∙ marked-more c.loop-depths.depths.items k ∙ c.loop-depths.invariant k

pub returns : goal.returns
returns c k h =
    let both = marked-set c.loop-depths.depths.items c.args.depth k (omega arith) h in
    (both.0, sym (c.loop-depths.invariant k) ∙ both.1)
