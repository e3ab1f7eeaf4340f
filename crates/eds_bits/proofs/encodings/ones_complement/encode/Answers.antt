use Rattle.std.proofs.Common.{◌-◌, ◌^◌, ◌≤◌, arith}
use Rattle.std.proofs.Math.Nat.{pow-le-pow_right}
use Rattle.std.proofs.lemmas.Int.{ints}
use Rattle.std.proofs.lemmas.Nat.{one_shl, pow_pos}
use Rattle.eds_bits.proofs.Patterns.{halves, ones_positive, ones_negative}
use Rattle.eds_bits.proofs.encodings.ones_complement.encode.Goals as goal

pub overflow_add-result : goal.overflow_add-result
overflow_add-result c =
    let most : 2 ^ c.args.bits ≤ 2 ^ 64 = pow-le-pow_right (omega arith) c.requires.few in
    let half = halves c.args.bits c.requires.some in
    let full = one_shl c.args.bits 128 (omega arith) in
    omega (arith, ints)

pub overflow_cast-result-then-n-lt0 : goal.overflow_cast-result-then-n-lt0
overflow_cast-result-then-n-lt0 c =
    let most : 2 ^ c.args.bits ≤ 2 ^ 64 = pow-le-pow_right (omega arith) c.requires.few in
    let half = halves c.args.bits c.requires.some in
    let full = one_shl c.args.bits 128 (omega arith) in
    let some = one_shl (c.args.bits - 1) 128 (omega arith) in
    grind (arith, ints)

pub returns-then-n-lt0-clause-number : goal.returns-then-n-lt0-clause-number
returns-then-n-lt0-clause-number c =
    let most : 2 ^ c.args.bits ≤ 2 ^ 64 = pow-le-pow_right (omega arith) c.requires.few in
    let half = halves c.args.bits c.requires.some in
    let full = one_shl c.args.bits 128 (omega arith) in
    let some = one_shl (c.args.bits - 1) 128 (omega arith) in
    ones_negative c.args.bits _ c.args.n c.requires.some (omega (arith, ints)) (omega (arith, ints)) (omega (arith, ints))

pub returns-else-n-lt0-clause-small : goal.returns-else-n-lt0-clause-small
returns-else-n-lt0-clause-small c = let half = halves c.args.bits c.requires.some in omega (arith, ints, pow_pos (c.args.bits - 1))

pub returns-else-n-lt0-clause-number : goal.returns-else-n-lt0-clause-number
returns-else-n-lt0-clause-number c =
    ones_positive c.args.bits _ c.args.n c.requires.some (omega (arith, ints, pow_pos (c.args.bits - 1))) (omega (arith, ints))
