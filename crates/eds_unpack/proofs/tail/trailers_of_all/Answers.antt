use Rattle.std.proofs.Common.{◌≡◌, ℕ, ◌+◌, ◌∷◌, [], length, sym, subst, arith}
use Rattle.std.specs.Prelude.{IfSome}
use Rattle.std.proofs.lemmas.List.{length-append}
use Rattle.eds_types.specs.Sizes.{trailers_size}
use Rattle.eds_unpack.specs.Tails.{AreBehind, limited}
use Rattle.eds_unpack.proofs.SegmentReads.{one_more}
use Rattle.eds_unpack.proofs.tail.trailers_of_all.Goals as goal

pub loop-number-preserved : goal.loop-number-preserved
loop-number-preserved c =
    let t = c.args.table.now in
    let is : ℕ → ℕ → Type 0 = λ id size. size ≡ limited (trailers_size t id) in
    record {
      are = subst (AreBehind t) (sym c.in_ok-push.ensures.items) (one_more is c.loop-number.each.items c.trailers_behind.result c.loop-number.number c.loop-number.invariant.are c.loop-number.invariant.long (λ s e. subst (λ o. IfSome o (is c.loop-number.number)) e c.trailers_behind.ensures));
      long = subst (λ xs. length xs ≡ c.loop-number.number + 1) (sym c.in_ok-push.ensures.items) (omega (arith, length-append c.loop-number.each.items (c.trailers_behind.result ∷ []), c.loop-number.invariant.long));
    }
