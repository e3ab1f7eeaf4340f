use Rattle.std.proofs.Common.{◌<◌, ◌+◌, ◌*◌, ◌^◌, length, sym, ◌∙◌, arith}
use Rattle.eds_script.proofs.Digits.{digit-at, in-word, one-more}
use Rattle.eds_script.proofs.number.digits_value.Goals as goal

pub overflow_mul-value : goal.overflow_mul-value
overflow_mul-value c =
    let i = c.loop-digit.digit-index in
    let small = one-more i c.loop-digit.value 0 c.loop-digit.invariant.small (omega arith) in
    let below = in-word i (10 * c.loop-digit.value + 0) small (omega arith) in
    omega (arith, below)

pub overflow_add-value : goal.overflow_add-value
overflow_add-value c =
    let i = c.loop-digit.digit-index in
    let d = digit-at c.args.digits.now i (omega arith) c.requires.digits in
    let small = one-more i c.loop-digit.value c.from.result c.loop-digit.invariant.small (omega (arith, d, c.from.ensures, c.saturating_sub.ensures)) in
    let below = in-word i (10 * c.loop-digit.value + c.from.result) small (omega arith) in
    omega (arith, below)
