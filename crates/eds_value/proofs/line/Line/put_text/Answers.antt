use Rattle.std.proofs.Common.{◌≡◌, ◌++◌, drop, length, ap, ◌∙◌, arith}
use Rattle.eds_value.proofs.Lines.{text_put}
use Rattle.eds_value.proofs.line.Line.put_text.Goals as goal

pub invariant_of-self-2 : goal.invariant_of-self-2
invariant_of-self-2 c =
    let p = c.put_before-self-inside in
    let room = c.with_free.new.room in
    let free = c.in_ok-end.ensures in
    let old = drop c.self.inside.start c.self.inside.room.items in
    let text = c.as_bytes-octets.result.now in
    let value = c.as_mut_slice.ensures.value in
    let same : length p.new.room ≡ length room.items = p.ensures.size ∙ ap length value in
    let put : drop p.result p.new.room ≡ text ++ old = p.ensures.put ∙ ap (λ s. text ++ s) (ap (drop c.in_ok-end.end) value ∙ free.same) in
    text_put text old p.new.room room.items p.result room.len same (omega arith) c.as_bytes-octets.ensures.utf8 c.self.invariant.1 (omega (arith, same, free.within, p.ensures.start)) put
