use Rattle.std.proofs.Common.{◌∙◌, ap₂, sym, slice_get, slice_index, arith}
use Rattle.std.proofs.lemmas.Grind.{get_or_default_zero}
use Rattle.std.proofs.lemmas.Option.{slice_get_read}
use Rattle.eds_types.specs.declared.row.TypeRow.{TypeRow}
use Rattle.eds_types.specs.LeastSize.{least_row, size_in, size_by, capped}
use Rattle.eds_types.proofs.LeastSizes.{range_put, row_size}
use Rattle.eds_types.proofs.sizes.next_sizes.Goals as goal

pub loop-id-preserved : goal.loop-id-preserved
loop-id-preserved c =
    range_put (λ id. least_row c.args.rows.now (size_in c.args.sizes.now) id (slice_get c.args.rows.now id)) c.loop-id.id c.kind_size.result c.loop-id.next c.push.new.self
    c.loop-id.invariant c.in_ok-push.ensures.ok
    (row_size c.args.rows.now c.args.sizes.now c.as_slice.result.now c.loop-id.id c.kind_size.result (slice_index c.in_ok-families.families.items c.loop-id.id) c.index-rows-id.result
    (c.as_slice.ensures ∙ c.in_ok-own.ensures) (c.in_ok-families.ensures.sizes c.loop-id.id (omega (arith, c.in_ok-families.ensures.len))) (grind (arith, slice_get_read))
    (c.kind_size.ensures ∙ ap₂ (λ (row : TypeRow) n. capped (size_by (size_in c.args.sizes.now) row.kind n)) (sym c.index-rows-id.is) (c.index.ensures ∙ get_or_default_zero c.in_ok-families.families.items c.loop-id.id c.index.result.now (omega (arith, c.in_ok-families.ensures.len)))))
