use Rattle.std.proofs.Common.{◌∙◌, ap, arith}
use Rattle.eds_pack.specs.Seeking.{values_in}
use Rattle.eds_pack.proofs.Looking.{counted_rest}
use Rattle.eds_pack.proofs.seek.valued_along.Goals as goal

pub loop-id-preserved : goal.loop-id-preserved
loop-id-preserved c =
    let all = counted_rest c.args.table.now c.args.chain.now c.loop-id.id-index (record { 0 = 0 }) (omega arith) in
    let es = c.valued.ensures.value ∙ ap values_in c.entries_of.ensures.value in
    let ts = c.valued-in-loop-id.ensures.value ∙ ap values_in c.trailers_of.ensures.value in
    record {
      few = omega (arith, c.loop-id.invariant.few, c.valued.ensures.few, c.valued-in-loop-id.ensures.few, c.entries_of.ensures.few, c.trailers_of.ensures.few);
      counted = omega (arith, all, es, ts, c.loop-id.invariant.counted);
    }
