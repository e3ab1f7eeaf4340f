use Rattle.std.proofs.Common.{◌≡◌, ℕ, ◌+◌, ◌-◌, ◌*◌, ◌/◌, ◌^◌, ◌≤◌, bit_and, ap, ◌∙◌, arith}
use Rattle.std.proofs.lemmas.Nat.{and_mask}
use Rattle.eds_bits.proofs.Windows.{window_part}
use Rattle.eds_unpack.proofs.scalars.number_in_octets.Goals as goal

pub returns-clause-value : goal.returns-clause-value
returns-clause-value c =
    let o = c.args.operation.now in
    let last = c.max-last.result in
    let pad : ℕ = 8 * last - (c.args.at + c.from.result) in
    let start : 8 * (last - 8) ≤ c.args.at = omega arith in
    let end : c.args.at + o.bits + pad ≡ 8 * last = omega (arith, c.from.ensures, c.div_ceil.ensures, c.max-last.ensures) in
    ap (bit_and (c.word_of-word.result / 2 ^ pad)) o.greatest ∙ and_mask (c.word_of-word.result / 2 ^ pad) o.bits
    ∙ window_part c.args.octets.now c.args.at o.bits (last - 8) last pad c.word_of-word.result start end (omega arith) c.word_of-word.ensures
