use Rattle.std.proofs.Common.{◌^◌, ◌≤◌, arith}
use Rattle.std.proofs.Math.Nat.{pow-le-pow_right}
use Rattle.std.proofs.lemmas.Int.{ints}
use Rattle.std.proofs.lemmas.Nat.{one_shl}
use Rattle.eds_unpack.proofs.operations.are_in_domain.Goals as goal

pub overflow_add-low : goal.overflow_add-low
overflow_add-low c =
    let most : 2 ^ c.args.bits ≤ 2 ^ 64 = pow-le-pow_right (omega arith) c.requires in
    omega (arith, ints, one_shl c.args.bits 128 (omega arith))

pub overflow_sub-patterns : goal.overflow_sub-patterns
overflow_sub-patterns c =
    let most : 2 ^ c.args.bits ≤ 2 ^ 64 = pow-le-pow_right (omega arith) c.requires in
    omega (arith, ints, one_shl c.args.bits 128 (omega arith))

pub returns-then-numbers-clause-from_zero : goal.returns-then-numbers-clause-from_zero
returns-then-numbers-clause-from_zero c = λ e. omega (arith, ints)

pub returns-then-numbers-clause-to_half : goal.returns-then-numbers-clause-to_half
returns-then-numbers-clause-to_half c = λ e. omega (arith, ints)

pub returns-then-numbers-clause-down_to_least : goal.returns-then-numbers-clause-down_to_least
returns-then-numbers-clause-down_to_least c =
    let most : 2 ^ c.args.bits ≤ 2 ^ 64 = pow-le-pow_right (omega arith) c.requires in
    λ e d. omega (arith, ints, one_shl c.args.bits 128 (omega arith))

pub returns-then-numbers-clause-down_from_greatest : goal.returns-then-numbers-clause-down_from_greatest
returns-then-numbers-clause-down_from_greatest c =
    let few = c.args.numbers.coding.few in
    let half = c.from-half.ensures in
    let less = c.from-less.ensures in
    let beyond = c.from-beyond.ensures in
    let test = c.if-less-half.false in
    λ e d. omega (arith, ints)

pub returns-clause-to_half : goal.returns-clause-to_half
returns-clause-to_half c = λ e. omega (arith, ints)

pub returns-clause-from_least : goal.returns-clause-from_least
returns-clause-from_least c =
    let few = c.args.numbers.coding.few in
    let half = c.from-half.ensures in
    let less = c.from-less.ensures in
    let low = c.from-low.ensures in
    let test = c.if-low-half.false in
    λ e d. omega (arith, ints)

pub returns-clause-to_greatest : goal.returns-clause-to_greatest
returns-clause-to_greatest c =
    let most : 2 ^ c.args.bits ≤ 2 ^ 64 = pow-le-pow_right (omega arith) c.requires in
    λ e d. omega (arith, ints, one_shl c.args.bits 128 (omega arith))
