use Rattle.std.proofs.Common.{◌≡◌, ◌++◌, ◌-◌, drop, length, sym, ap, subst, ◌∙◌, arith}
use Rattle.eds_value.proofs.Lines.{text_put}
use Rattle.eds_value.proofs.line.Line.put_padded.Goals as goal

pub invariant_of-self-2 : goal.invariant_of-self-2
invariant_of-self-2 c =
    let p = c.put_block-self-inside in
    let room = c.with_free.new.room in
    let free = c.in_ok-end.ensures in
    let old = drop c.self.inside.start c.self.inside.room.items in
    let text = c.as_str-size.result.now in
    let ends : drop (16 - length text) c.text.inside.block ≡ text = subst (λ s. drop (16 - length s) c.text.inside.block ≡ s) (sym c.as_str-size.ensures) (c.text.invariant (omega (arith, ap length c.as_str-size.ensures))) in
    let value = c.as_mut_slice.ensures.value in
    let same : length p.new.room ≡ length room.items = p.ensures.size ∙ ap length value in
    let put : drop p.result p.new.room ≡ text ++ old = p.ensures.put ∙ ap (λ s. s ++ drop c.in_ok-end.end c.as_mut_slice.result.now) ends ∙ ap (λ s. text ++ s) (ap (drop c.in_ok-end.end) value ∙ free.same) in
    text_put text old p.new.room room.items p.result room.len same (omega arith) c.as_str-size.utf8 c.self.invariant.1 (omega (arith, same, free.within, p.ensures.start)) put
