use Rattle.std.proofs.Common.{◌≡◌, ◌∙◌, ◌+◌, suc, map, ap, sym, drop, arith}
use Rattle.std.specs.Prelude.{slice_get}
use Rattle.eds_types.specs.Fields.{value_at}
use Rattle.eds_types.specs.Plain.{plain}
use Rattle.eds_unpack.specs.Courses.{fields_at}
use Rattle.eds_unpack.proofs.Reaches.{value_found, value_passed}
use Rattle.eds_unpack.proofs.fields.field_at.Goals as goal
use Rattle.eds_unpack.proofs.fields.field_at.Goals.{else-part-container-via-then-part-container+else-part-place, else-part-container-via-else-part-container}

pub returns-then-part-place : goal.returns-then-part-place
returns-then-part-place c =
    c.nth.ensures ∙ ap (λ xs. slice_get (map plain xs) c.loop-index.index) c.as_slice.ensures.value
    ∙ sym (value_found c.as_slice-parts.result.now (map plain c.args.fields.now.values.items) c.loop-index.index (record { 0 = 0 }, 0) c.args.container.0 c.args.place c.loop-index-test.true c.if-part-container.true c.if-part-place.true)
    ∙ c.loop-index.invariant

pub loop-index-preserved : goal.loop-index-preserved
loop-index-preserved c =
    let next : c.loop-index.index + 1 ≡ suc c.loop-index.index = omega arith in
    ap (λ i. value_at (fields_at (drop i c.as_slice-parts.result.now) (drop i (map plain c.args.fields.now.values.items))) c.args.container.0 c.args.place) next
    ∙ value_passed c.as_slice-parts.result.now (map plain c.args.fields.now.values.items) c.loop-index.index (record { 0 = 0 }, 0) c.args.container.0 c.args.place c.loop-index-test.true
    (elim c.else-part-container.branch [
      | else-part-container-via-then-part-container+else-part-place w ↦ λ e f. w.if-part-place.false f
      | else-part-container-via-else-part-container w ↦ λ e f. w.if-part-container.false e
    ])
    ∙ c.loop-index.invariant
