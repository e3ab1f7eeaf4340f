use Rattle.std.proofs.Common.{◌-◌, ◌^◌, ◌≤◌, sym, arith}
use Rattle.std.proofs.Math.Nat.{pow-le-pow_right}
use Rattle.std.proofs.lemmas.Int.{ints}
use Rattle.std.proofs.lemmas.Nat.{one_shl}
use Rattle.eds_bits.proofs.Patterns.{halves, ones_positive, ones_negative}
use Rattle.eds_bits.proofs.encodings.ones_complement.decode.Goals as goal

pub returns-then-raw-bits : goal.returns-then-raw-bits
returns-then-raw-bits c =
    sym (ones_positive c.args.bits c.args.raw _ c.requires.some (omega (arith, one_shl (c.args.bits - 1) 64 (omega arith))) (omega (arith, ints)))

pub returns-else-raw-bits : goal.returns-else-raw-bits
returns-else-raw-bits c =
    let most : 2 ^ c.args.bits ≤ 2 ^ 64 = pow-le-pow_right (omega arith) c.requires.few in
    let half = halves c.args.bits c.requires.some in
    sym (ones_negative c.args.bits c.args.raw _ c.requires.some (omega (arith, one_shl (c.args.bits - 1) 64 (omega arith))) c.requires.small
    (omega (arith, ints, one_shl c.args.bits 128 (omega arith), one_shl (c.args.bits - 1) 128 (omega arith))))
