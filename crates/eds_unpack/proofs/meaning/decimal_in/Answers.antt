use Rattle.std.proofs.Common.{◌≡◌, ℕ, ◌*◌, ◌%◌, ◌^◌, ◌<◌, ◌≤◌, ◌∙◌, ap, arith, Some}
use Rattle.std.proofs.lemmas.Int.{ints}
use Rattle.std.proofs.lemmas.Nat.{one_shl}
use Rattle.eds_bits.proofs.Decimals.{FitsNext, few_digits, read_all, read_fits, read_more, read_small, tens}
use Rattle.eds_unpack.proofs.meaning.decimal_in.Goals as goal

-- what the code divides by
patterns : (k : ℕ) → k ≤ 8 → 1 * 2 ^ k % 2 ^ 64 ≡ 2 ^ k
patterns k h = one_shl k 64 (omega arith)

digit : (c : goal.Else-digit-gt9) → c.loop.left % 2 ^ c.args.digits.digit_bits ≤ 9
digit c = rw (patterns c.args.digits.digit_bits c.args.digits.narrow) at c.if-digit-gt9.false

fits : (c : goal.Else-digit-gt9) → FitsNext (c.loop.left % 2 ^ c.args.digits.digit_bits) c.loop.found c.loop.worth
fits c =
    let r = c.args.digits in
    read_fits r.digit_bits c.args.number r.digits c.loop.counter c.loop.found c.loop.worth c.loop.left r.wide r.few c.loop-test.true c.loop.invariant (digit c)

pub overflow_mul-found : goal.overflow_mul-found
overflow_mul-found c = rw (patterns c.args.digits.digit_bits c.args.digits.narrow) (omega (arith, (fits c).product))

pub overflow_add-found : goal.overflow_add-found
overflow_add-found c = rw (patterns c.args.digits.digit_bits c.args.digits.narrow) (omega (arith, (fits c).sum))

pub overflow_mul-worth : goal.overflow_mul-worth
overflow_mul-worth c = omega (arith, (fits c).next)

pub loop-preserved : goal.loop-preserved
loop-preserved c =
    rw (patterns c.args.digits.digit_bits c.args.digits.narrow)
    (read_more c.args.digits.digit_bits c.args.number c.loop.counter c.loop.found c.loop.worth c.loop.left c.loop.invariant (rw (patterns c.args.digits.digit_bits c.args.digits.narrow) at c.if-digit-gt9.false))

small : (c : goal.After-loop) → c.loop.found < 10 ^ 16
small c =
    let r = c.args.digits in
    let below = read_small r.digit_bits c.args.number c.loop.counter c.loop.found c.loop.worth c.loop.left c.loop.invariant in
    let few = few_digits r.digit_bits r.digits r.wide r.few in
    let most = tens c.loop.counter (omega arith) in
    omega arith

pub overflow_cast-result : goal.overflow_cast-result
overflow_cast-result c = omega (arith, ints, small c)

pub returns : goal.returns
returns c =
    let r = c.args.digits in
    let done : c.loop.counter ≡ r.digits = omega arith in
    read_all r.digit_bits c.args.number r.digits c.loop.found c.loop.worth c.loop.left r.wide (rw done at c.loop.invariant) ∙ ap Some (omega (arith, ints, small c))
