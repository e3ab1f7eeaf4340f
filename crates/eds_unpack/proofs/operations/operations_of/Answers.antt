use Rattle.std.proofs.Common.{◌≡◌, ◌+◌, ◌∷◌, ◌++◌, [], length, take, sym, ap, subst, ◌∙◌, arith}
use Rattle.std.proofs.lemmas.List.{length-append, take_more}
use Rattle.eds_unpack.specs.Segments.{AreOperationsOf}
use Rattle.eds_unpack.proofs.SegmentReads.{operations_more}
use Rattle.eds_unpack.proofs.operations.operations_of.Goals as goal

pub loop-part-preserved : goal.loop-part-preserved
loop-part-preserved c =
    let i = c.loop-part.part-index in
    let more : take (i + 1) c.args.entries.now ≡ take i c.args.entries.now ++ c.part-item.result ∷ [] = take_more c.args.entries.now i c.part-item.result (omega arith) ∙ ap (λ x. take i c.args.entries.now ++ x ∷ []) (sym c.part-item.is) in
    record {
      are = subst (λ ps. AreOperationsOf c.args.table.now 0 (c.loop-part.bits + c.in-Some.operation.bits) ps c.push.new.self.items) (sym more)
          (subst (AreOperationsOf c.args.table.now 0 (c.loop-part.bits + c.in-Some.operation.bits) (take i c.args.entries.now ++ c.part-item.result ∷ [])) (sym c.in_ok-push.ensures.items)
          (operations_more c.args.table.now 0 c.loop-part.bits (take i c.args.entries.now) c.loop-part.operations.items c.part-item.result c.in-Some.operation c.loop-part.invariant.are c.in-Some.ensures.place c.in-Some.ensures.is));
      many = omega (arith, ap length c.in_ok-push.ensures.items, length-append c.loop-part.operations.items (c.in-Some.operation ∷ []), c.loop-part.invariant.many);
      few = omega (arith, c.loop-part.invariant.few, c.in-Some.ensures.few);
    }
