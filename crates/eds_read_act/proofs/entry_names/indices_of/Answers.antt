use Rattle.std.proofs.Common.{arith, ap, ◌∙◌, ◌++◌, ◌∷◌, []}
use Rattle.eds_read_act.proofs.EntryNames.{index-next}
use Rattle.eds_read_act.proofs.entry_names.indices_of.Goals as goal

pub loop-id-preserved : goal.loop-id-preserved
loop-id-preserved c =
    index-next c.args.table.now c.loop-id.own c.push.new.self _ c.loop-id.id (omega arith)
    (c.in_ok-push.ensures.ok ∙ ap (λ o. c.loop-id.own ++ o ∷ []) c.in_ok-index_of.ensures) c.loop-id.invariant
