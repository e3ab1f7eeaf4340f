use Rattle.std.proofs.Common.{◌∙◌, ◌^◌, ◌≤◌, ap, arith}
use Rattle.std.proofs.Math.Nat.{pow-le-pow_right}
use Rattle.std.proofs.lemmas.Int.{ints}
use Rattle.eds_unpack.specs.Segments.{signed}
use Rattle.eds_unpack.proofs.Meanings.{signed_is}
use Rattle.eds_unpack.proofs.meaning.made.Goals as goal

pub returns-then-number-coding : goal.returns-then-number-coding
returns-then-number-coding c =
    let r = c.args.coding in
    let most : 2 ^ c.args.bits ≤ 2 ^ 62 = pow-le-pow_right (omega arith) c.requires.few in
    let bound = c.in_order-number.ensures.bound in
    signed_is r.down r.half r.less c.in_order-number.result _ (omega arith) (omega (arith, ints)) ∙ ap (signed r.down r.half r.less) c.in_order-number.ensures.value
