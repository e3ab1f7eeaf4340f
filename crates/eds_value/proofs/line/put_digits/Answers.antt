use Rattle.std.proofs.Common.{◌≡◌, ◌-◌, ◌++◌, set, arith, rules, ap, ◌∙◌, to_z-of_z, decimal, nat_abs, drop}
use Rattle.std.proofs.lemmas.Fmt.{length-decimal-le}
use Rattle.eds_value.proofs.Lines.{sign_few, sign_put}
use Rattle.eds_value.proofs.line.put_digits.Goals as goal

pub write_digits-start-requires : goal.write_digits-start-requires
write_digits-start-requires c = (omega (arith, length-decimal-le 19 c.unsigned_abs.result (omega arith) (omega arith) (omega arith)), search rules)

pub overflow_sub-room : goal.overflow_sub-room
overflow_sub-room c = omega (arith, length-decimal-le 19 c.unsigned_abs.result (omega arith) (omega arith) (omega arith))

pub overflow_sub-result : goal.overflow_sub-result
overflow_sub-result c = omega (arith, length-decimal-le 19 c.unsigned_abs.result (omega arith) (omega arith) (omega arith), sign_few c.from.result _ c.from.ensures)

pub returns-clause-few : goal.returns-clause-few
returns-clause-few c = omega (arith, c.write_digits-start.ensures.start, length-decimal-le 19 c.unsigned_abs.result (omega arith) (omega arith) (omega arith), sign_few c.from.result _ c.from.ensures)

pub returns-clause-put : goal.returns-clause-put
returns-clause-put c =
    let w = c.write_digits-start in
    let room = w.new.buf in
    let rest = drop c.args.end c.args.room.now in
    let back = to_z-of_z c.ranges.number in
    let long = length-decimal-le 19 c.unsigned_abs.result (omega arith) (omega arith) (omega arith) in
    let digits : drop w.result room ≡ decimal (nat_abs c.args.number) ++ rest = w.ensures.written ∙ ap (λ n. decimal n ++ rest) (rw back at c.unsigned_abs.ensures.value) in
    ap (λ n. drop (w.result - n) (set room (w.result - 1) 45)) (rw back at c.from.ensures) ∙ sign_put c.args.number w.result room rest (omega (arith, long)) (omega arith) digits
