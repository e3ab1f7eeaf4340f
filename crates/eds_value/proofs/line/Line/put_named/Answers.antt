use Rattle.std.proofs.Common.{◌≡◌, ◌++◌, ◌-◌, drop, length, sym, ap, subst, ◌∙◌, arith, to_z-of_z}
use Rattle.std.proofs.lemmas.Str.{IsUtf8-from_ascii, IsUtf8-append}
use Rattle.std.specs.Fmt.{signed_decimal}
use Rattle.itoa.proofs.Decimal.{IsAscii-signed_decimal}
use Rattle.eds_value.proofs.Lines.{text_put}
use Rattle.eds_value.proofs.line.Line.put_named.Goals as goal

pub put_digits-end-requires-clause-free : goal.put_digits-end-requires-clause-free
put_digits-end-requires-clause-free c = omega (arith, c.if-start.false)

pub put_block-self-inside-requires-clause-free : goal.put_block-self-inside-requires-clause-free
put_block-self-inside-requires-clause-free c = omega (arith, c.if-start.false, c.put_digits-end.ensures.few)

pub invariant_of-self : goal.invariant_of-self
invariant_of-self c =
    let p = c.put_block-self-inside in
    let d = c.put_digits-end in
    let room = c.self.inside.room in
    let old = drop c.self.inside.start room.items in
    let text = c.as_str-size.result.now in
    let digits = signed_decimal c.args.n in
    let back = to_z-of_z c.ranges.n in
    let ends : drop (16 - length text) c.text.inside.block ≡ text = subst (λ s. drop (16 - length s) c.text.inside.block ≡ s) (sym c.as_str-size.ensures) (c.text.invariant (omega (arith, ap length c.as_str-size.ensures))) in
    let value = c.as_mut_slice-room.ensures.value in
    let same : length p.new.room ≡ length room.items = p.ensures.size ∙ d.ensures.size ∙ ap length value in
    let later = IsUtf8-append digits old (IsUtf8-from_ascii digits (IsAscii-signed_decimal c.args.n c.ranges.n)) c.self.invariant.1 in
    let behind : drop d.result d.new.room ≡ digits ++ old = (rw back at d.ensures.put) ∙ ap (λ s. digits ++ drop c.self.inside.start s) value in
    let put : drop p.result p.new.room ≡ text ++ (digits ++ old) = p.ensures.put ∙ ap (λ s. s ++ drop d.result d.new.room) ends ∙ ap (λ s. text ++ s) behind in
    text_put text (digits ++ old) p.new.room room.items p.result room.len same (omega arith) c.as_str-size.utf8 later (omega (arith, same, p.ensures.start)) put
