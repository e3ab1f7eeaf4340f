use Rattle.std.proofs.Common.{◌≡◌, ◌++◌, drop, length, ap, ◌∙◌, arith, to_z-of_z}
use Rattle.std.proofs.lemmas.Str.{IsUtf8-from_ascii}
use Rattle.std.specs.Fmt.{signed_decimal}
use Rattle.itoa.proofs.Decimal.{IsAscii-signed_decimal}
use Rattle.eds_value.proofs.Lines.{text_put}
use Rattle.eds_value.proofs.line.Line.put_decimal.Goals as goal

pub invariant_of-self-2 : goal.invariant_of-self-2
invariant_of-self-2 c =
    let p = c.put_digits-self-inside in
    let room = c.with_free.new.room in
    let free = c.in_ok-end.ensures in
    let old = drop c.self.inside.start c.self.inside.room.items in
    let text = signed_decimal c.args.n in
    let back = to_z-of_z c.ranges.n in
    let value = c.as_mut_slice.ensures.value in
    let same : length p.new.room ≡ length room.items = p.ensures.size ∙ ap length value in
    let put : drop p.result p.new.room ≡ text ++ old = (rw back at p.ensures.put) ∙ ap (λ s. text ++ s) (ap (drop c.in_ok-end.end) value ∙ free.same) in
    text_put text old p.new.room room.items p.result room.len same (omega arith) (IsUtf8-from_ascii text (IsAscii-signed_decimal c.args.n c.ranges.n)) c.self.invariant.1 (omega (arith, same, free.within, p.ensures.start)) put
