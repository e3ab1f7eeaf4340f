use Rattle.std.proofs.Common.{◌<◌, All, length, refl, sym, subst, arith}
use Rattle.std.specs.Prelude.{IfSome}
use Rattle.std.proofs.lemmas.List.Elements.{All-push}
use Rattle.eds_value.proofs.Pieces.{Slot, slot_put}
use Rattle.eds_value.proofs.Positions.{content_put}
use Rattle.eds_value.proofs.layout.slots_of.Goals as goal

pub loop-position-preserved : goal.loop-position-preserved
loop-position-preserved c =
    let es = c.args.entries.now in
    let i = c.loop-position.position in
    let below : i < length es = omega (arith, c.loop-position-test.true) in
    let slots = c.loop-position.slots.items in
    let P : Slot → Type 0 = λ (m : Slot). IfSome m.content (λ k. k < length es) in
    record {
      within = subst (All P) (sym c.in_ok-push-2.ensures.items) (All-push P slots _ c.loop-position.invariant.within below);
      each = λ k lt. content_put slots c.push-in-loop-position.new.self.items _ i k c.in_ok-push-2.ensures.items refl c.loop-position.invariant.each lt;
      put = λ name ds long. slot_put name ds es i _ slots c.push-in-loop-position.new.self.items _ _ below long c.in_ok-push-2.ensures.items refl refl (c.loop-position.invariant.put name ds long);
    }

pub returns-clause-each : goal.returns-clause-each
returns-clause-each c i lt = c.loop-position.invariant.each i (omega (arith, c.loop-position-test.false))
