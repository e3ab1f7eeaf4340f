use Rattle.std.proofs.Common.{◌≡◌, ℕ, ◌*◌, ◌%◌, ◌^◌, ◌≤◌, sym, ◌∙◌, ap, arith, Some}
use Rattle.std.proofs.lemmas.Int.{ints}
use Rattle.std.proofs.lemmas.Nat.{one_shl}
use Rattle.eds_bits.proofs.Decimals.{FitsNext, read_more, read_fits, read_bad, read_all}
use Rattle.eds_bits.proofs.encodings.decimal.decode.Goals as goal

-- what the code divides by
patterns : (k : ℕ) → k ≤ 8 → 1 * 2 ^ k % 2 ^ 64 ≡ 2 ^ k
patterns k h = one_shl k 64 (omega arith)

digit : (c : goal.Else-digit-gt9) → c.loop.left % 2 ^ c.args.digit_bits ≤ 9
digit c = rw (patterns c.args.digit_bits c.requires.narrow) at c.if-digit-gt9.false

fits : (c : goal.Else-digit-gt9) → FitsNext (c.loop.left % 2 ^ c.args.digit_bits) c.loop.n c.loop.worth
fits c = read_fits c.args.digit_bits c.args.raw c.args.digits c.loop.counter c.loop.n c.loop.worth c.loop.left c.requires.wide c.requires.few c.loop-test.true c.loop.invariant (digit c)

pub returns-then-digit-gt9 : goal.returns-then-digit-gt9
returns-then-digit-gt9 c =
    sym (read_bad c.args.digit_bits c.args.raw c.args.digits c.loop.counter c.loop.n c.loop.worth c.loop.left c.requires.wide c.loop-test.true c.loop.invariant (rw (patterns c.args.digit_bits c.requires.narrow) at c.if-digit-gt9.true))

pub overflow_mul-n : goal.overflow_mul-n
overflow_mul-n c = rw (patterns c.args.digit_bits c.requires.narrow) (omega (arith, (fits c).product))

pub overflow_add-n : goal.overflow_add-n
overflow_add-n c = rw (patterns c.args.digit_bits c.requires.narrow) (omega (arith, (fits c).sum))

pub overflow_mul-worth : goal.overflow_mul-worth
overflow_mul-worth c = omega (arith, (fits c).next)

pub loop-preserved : goal.loop-preserved
loop-preserved c =
    rw (patterns c.args.digit_bits c.requires.narrow)
    (read_more c.args.digit_bits c.args.raw c.loop.counter c.loop.n c.loop.worth c.loop.left c.loop.invariant (digit c))

pub returns : goal.returns
returns c =
    let done : c.loop.counter ≡ c.args.digits = omega arith in
    ap Some (omega (arith, ints)) ∙ sym (read_all c.args.digit_bits c.args.raw c.args.digits c.loop.n c.loop.worth c.loop.left c.requires.wide (rw done at c.loop.invariant))
