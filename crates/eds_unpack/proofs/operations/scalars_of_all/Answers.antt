use Rattle.std.proofs.Common.{◌≡◌, ◌+◌, ◌∷◌, [], length, sym, subst, arith}
use Rattle.std.specs.Prelude.{IfSome}
use Rattle.std.proofs.lemmas.List.{length-append}
use Rattle.eds_unpack.specs.Segments.{AreScalars, IsScalar}
use Rattle.eds_unpack.proofs.Meanings.{scalar_is}
use Rattle.eds_unpack.proofs.SegmentReads.{one_more}
use Rattle.eds_unpack.proofs.operations.scalars_of_all.Goals as goal

pub loop-number-preserved : goal.loop-number-preserved
loop-number-preserved c =
    let t = c.args.table.now in
    let made = c.operation_of_type.ensures in
    let is = scalar_is t (record { 0 = c.loop-number.number }) c.operation_of_type.result made.typed made.place made.is in
    record {
      are = subst (AreScalars t) (sym c.in_ok-push.ensures.items) (one_more (IsScalar t) c.loop-number.each.items c.operation_of_type.result c.loop-number.number c.loop-number.invariant.are c.loop-number.invariant.long (λ s e. subst (λ o. IfSome o (IsScalar t c.loop-number.number)) e is));
      long = subst (λ xs. length xs ≡ c.loop-number.number + 1) (sym c.in_ok-push.ensures.items) (omega (arith, length-append c.loop-number.each.items (c.operation_of_type.result ∷ []), c.loop-number.invariant.long));
    }
