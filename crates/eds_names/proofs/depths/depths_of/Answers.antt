use Rattle.std.proofs.Common.{ap, ◌∙◌, arith}
use Rattle.eds_names.specs.LookUp.{slashes}
use Rattle.eds_names.proofs.DepthsLemmas.{depths-next}
use Rattle.eds_names.proofs.depths.depths_of.Goals as goal

pub loop-one-preserved : goal.loop-one-preserved
loop-one-preserved c =
    depths-next c.args.declared.now c.loop-one.one-index c.one-item.result c.one-item.result c.loop-one.depths.items c.mark.new.depths.items c.slashes.result
    (omega arith) c.one-item.is (c.slashes.ensures ∙ ap slashes c.as_str.ensures) c.in_ok-mark.ensures c.loop-one.invariant
