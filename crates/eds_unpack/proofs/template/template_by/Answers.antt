use Rattle.std.proofs.Common.{◌+◌, ◌≡◌, ◌∷◌, ◌++◌, [], get_or, take, sym, ap, subst, ◌∙◌, arith}
use Rattle.std.proofs.lemmas.List.{take_more}
use Rattle.eds_unpack.specs.Templates.{AreTemplateParts, kept, size_of, use_of}
use Rattle.eds_unpack.proofs.Templates.{parts_more}
use Rattle.eds_unpack.proofs.template.template_by.Goals as goal

pub loop-place-preserved : goal.loop-place-preserved
loop-place-preserved c =
    let t = c.args.table.now in
    let i = c.loop-place.place-index in
    let place = get_or c.args.all.now i (record { 0 = 0 }, 0) in
    let part = c.in-Some.part in
    let last = c.loop-place.bits + size_of part in
    let more : take (i + 1) c.args.all.now ≡ take i c.args.all.now ++ place ∷ [] = take_more c.args.all.now i (record { 0 = 0 }, 0) (omega arith) in
    let made = parts_more t 0 c.loop-place.bits (take i c.args.all.now) c.loop-place.parts.items c.loop-place.places.items place part c.loop-place.invariant.are c.in-Some.ensures.place c.in-Some.ensures.is in
    let parts = subst (λ xs. AreTemplateParts t 0 last (take i c.args.all.now ++ place ∷ []) xs (c.loop-place.places.items ++ kept (use_of part) place)) (sym c.in_ok-push.ensures.items) made in
    let put = c.in_ok-put_place.ensures ∙ ap (λ r. c.loop-place.places.items ++ kept r place) c.role.ensures in
    let places = subst (AreTemplateParts t 0 last (take i c.args.all.now ++ place ∷ []) c.push.new.self.items) (sym put) parts in
    record {
      are = subst (λ n. AreTemplateParts t 0 (c.loop-place.bits + n) (take (i + 1) c.args.all.now) c.push.new.self.items c.put_place.new.places.items) (sym c.bits-bits.ensures)
          (subst (λ ps. AreTemplateParts t 0 last ps c.push.new.self.items c.put_place.new.places.items) (sym more) places);
      few = omega (arith, c.loop-place.invariant.few, c.in-Some.ensures.few);
    }
