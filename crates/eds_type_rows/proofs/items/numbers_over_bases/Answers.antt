use Rattle.std.proofs.Common.{◌∙◌, ap, arith, length, slice_get, ◌-◌}
use Rattle.eds_type_rows.specs.Numbers.{own_numbers_at, range_at, narrowed_numbers}
use Rattle.eds_type_rows.proofs.ItemFacts.{down-first, down-next}
use Rattle.eds_type_rows.proofs.items.numbers_over_bases.Goals as goal

pub loop-left-init : goal.loop-left-init
loop-left-init c =
    let sheet = c.args.graph.now.sheet.now in (
      down-first sheet.trees.now sheet.types.now c.args.graph.now.bases.now (length c.args.graph.now.bases.now) c.args.id c.index.result.now (c.len-left.result - 1) c.in_ok-chain.chain.items c.in_ok-numbers.numbers
          c.in_ok-chain.ensures (omega arith) (c.in_ok-numbers.ensures ∙ ap (own_numbers_at sheet.trees.now) (c.type_at.ensures ∙ ap (slice_get sheet.types.now) c.index.ensures)),
      omega arith,
    )

pub loop-left-preserved : goal.loop-left-preserved
loop-left-preserved c =
    let sheet = c.args.graph.now.sheet.now in (
      down-next sheet.trees.now sheet.types.now c.args.graph.now.bases.now c.in_ok-chain.chain.items c.loop-left.left (c.loop-left.left - 1) c.index-in-loop-left.result.now c.loop-left.numbers c.in_ok-numbers-2.numbers _
          (omega arith) (omega arith)
          (c.in_ok-numbers-2.ensures ∙ ap (λ r. narrowed_numbers r c.loop-left.numbers) (c.range_at-range.ensures ∙ ap (range_at sheet.trees.now) (c.type_at-in-loop-left.ensures ∙ ap (slice_get sheet.types.now) c.index-in-loop-left.ensures)))
          c.loop-left.invariant.0,
      omega arith,
    )
