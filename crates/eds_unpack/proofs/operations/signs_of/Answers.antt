use Rattle.std.proofs.Common.{◌-◌, ◌*◌, ◌%◌, ◌^◌, ◌≤◌, ap, ◌∙◌, arith}
use Rattle.std.proofs.Math.Nat.{pow-le-pow_right}
use Rattle.std.proofs.lemmas.Nat.{one_shl}
use Rattle.eds_bits.specs.Bits.{low_bits}
use Rattle.eds_bits.specs.Encodings.{number_by}
use Rattle.eds_unpack.proofs.Meanings.{unsigned_numbers, twos_numbers, ones_numbers, magnitudes}
use Rattle.eds_unpack.proofs.operations.signs_of.Goals as goal

pub returns-in-Unsigned-clause-numbers : goal.returns-in-Unsigned-clause-numbers
returns-in-Unsigned-clause-numbers c = λ x h.
    ap (λ e. number_by e (low_bits c.args.bits x)) c.in-Unsigned.is ∙ unsigned_numbers c.args.bits (1 * 2 ^ c.args.bits % 2 ^ 64) (1 * 2 ^ c.args.bits % 2 ^ 64) (one_shl c.args.bits 64 (omega arith)) x h

pub returns-in-TwosComplement-clause-numbers : goal.returns-in-TwosComplement-clause-numbers
returns-in-TwosComplement-clause-numbers c = λ x h.
    ap (λ e. number_by e (low_bits c.args.bits x)) c.in-TwosComplement.is
    ∙ twos_numbers c.args.bits (1 * 2 ^ (c.args.bits - 1) % 2 ^ 64) (1 * 2 ^ c.args.bits % 2 ^ 64) c.requires.some (one_shl (c.args.bits - 1) 64 (omega arith)) (one_shl c.args.bits 64 (omega arith)) x h

pub returns-in-OnesComplement-clause-numbers : goal.returns-in-OnesComplement-clause-numbers
returns-in-OnesComplement-clause-numbers c = λ x h.
    ap (λ e. number_by e (low_bits c.args.bits x)) c.in-OnesComplement.is
    ∙ ones_numbers c.args.bits (1 * 2 ^ (c.args.bits - 1) % 2 ^ 64) (1 * 2 ^ c.args.bits % 2 ^ 64 - 1) c.requires.some (one_shl (c.args.bits - 1) 64 (omega arith)) (ap (λ m. m - 1) (one_shl c.args.bits 64 (omega arith))) x h

pub returns-in-SignMagnitude-clause-numbers : goal.returns-in-SignMagnitude-clause-numbers
returns-in-SignMagnitude-clause-numbers c = λ x h.
    ap (λ e. number_by e (low_bits c.args.bits x)) c.in-SignMagnitude.is
    ∙ magnitudes c.args.bits (1 * 2 ^ (c.args.bits - 1) % 2 ^ 64) (1 * 2 ^ (c.args.bits - 1) % 2 ^ 64) c.requires.some (one_shl (c.args.bits - 1) 64 (omega arith)) (one_shl (c.args.bits - 1) 64 (omega arith)) x h

pub returns-in-Unsigned-clause-few : goal.returns-in-Unsigned-clause-few
returns-in-Unsigned-clause-few c =
    let most : 2 ^ c.args.bits ≤ 2 ^ 62 = pow-le-pow_right (omega arith) c.requires.few in
    omega (arith, one_shl c.args.bits 64 (omega arith))

pub returns-in-TwosComplement-clause-few : goal.returns-in-TwosComplement-clause-few
returns-in-TwosComplement-clause-few c =
    let most : 2 ^ c.args.bits ≤ 2 ^ 62 = pow-le-pow_right (omega arith) c.requires.few in
    omega (arith, one_shl c.args.bits 64 (omega arith))

pub returns-in-OnesComplement-clause-few : goal.returns-in-OnesComplement-clause-few
returns-in-OnesComplement-clause-few c =
    let most : 2 ^ c.args.bits ≤ 2 ^ 62 = pow-le-pow_right (omega arith) c.requires.few in
    omega (arith, one_shl c.args.bits 64 (omega arith))

pub returns-in-SignMagnitude-clause-few : goal.returns-in-SignMagnitude-clause-few
returns-in-SignMagnitude-clause-few c =
    let few : c.args.bits - 1 ≤ 62 = omega arith in
    let most : 2 ^ (c.args.bits - 1) ≤ 2 ^ 62 = pow-le-pow_right (omega arith) few in
    omega (arith, one_shl (c.args.bits - 1) 64 (omega arith))
