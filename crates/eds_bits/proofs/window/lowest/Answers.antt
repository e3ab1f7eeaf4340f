use Rattle.std.proofs.Common.{◌≡◌, ◌*◌, ◌%◌, ◌^◌, ◌-◌, bit_and, ap, ◌∙◌, arith}
use Rattle.std.proofs.lemmas.Nat.{one_shl, and_mask}
use Rattle.eds_bits.proofs.window.lowest.Goals as goal

pub returns : goal.returns
returns c =
    let one : (1 * 2 ^ c.args.n) % 2 ^ 128 ≡ 2 ^ c.args.n = one_shl c.args.n 128 (omega arith) in
    ap (λ m. bit_and c.args.number (m - 1)) one ∙ and_mask c.args.number c.args.n
