use Rattle.std.proofs.Common.{◌+◌, ◌≡◌, ◌∷◌, [], length, sym, subst, arith}
use Rattle.std.specs.Prelude.{IfSome}
use Rattle.std.proofs.lemmas.List.{length-append}
use Rattle.eds_unpack.specs.Templates.{AreTemplates, IsTemplateOf}
use Rattle.eds_unpack.proofs.SegmentReads.{one_more}
use Rattle.eds_unpack.proofs.template.templates_of_all.Goals as goal

pub loop-number-preserved : goal.loop-number-preserved
loop-number-preserved c = record {
  are = subst (AreTemplates c.args.table.now) (sym c.in_ok-push.ensures.items) (one_more (IsTemplateOf c.args.table.now) c.loop-number.each.items c.in_ok-template.template c.loop-number.number c.loop-number.invariant.are c.loop-number.invariant.long (λ s e. subst (λ o. IfSome o (IsTemplateOf c.args.table.now c.loop-number.number)) e c.in_ok-template.ensures));
  long = subst (λ xs. length xs ≡ c.loop-number.number + 1) (sym c.in_ok-push.ensures.items) (omega (arith, length-append c.loop-number.each.items (c.in_ok-template.template ∷ []), c.loop-number.invariant.long));
}
