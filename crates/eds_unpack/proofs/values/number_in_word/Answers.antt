use Rattle.std.proofs.Common.{◌≡◌, ◌+◌, ◌/◌, ◌%◌, ◌^◌, ◌<◌, bit_and, sym, ap, subst, ◌∙◌, arith}
use Rattle.std.proofs.lemmas.Nat.{and_mask, mod_below, pow_pos}
use Rattle.eds_bits.proofs.Windows.{window_part}
use Rattle.eds_unpack.proofs.values.number_in_word.Goals as goal

pub returns-clause-value : goal.returns-clause-value
returns-clause-value c =
    let o = c.args.operation.now in
    ap (bit_and (c.word_of-word.result / 2 ^ o.pad)) o.greatest ∙ and_mask (c.word_of-word.result / 2 ^ o.pad) o.bits
    ∙ window_part c.args.octets.now o.at o.bits o.first (o.first + 8) o.pad c.word_of-word.result o.start (omega (arith, o.end)) c.requires c.word_of-word.ensures

pub returns-clause-bound : goal.returns-clause-bound
returns-clause-bound c =
    let o = c.args.operation.now in
    let is : bit_and (c.word_of-word.result / 2 ^ o.pad) o.mask ≡ c.word_of-word.result / 2 ^ o.pad % 2 ^ o.bits = ap (bit_and (c.word_of-word.result / 2 ^ o.pad)) o.greatest ∙ and_mask (c.word_of-word.result / 2 ^ o.pad) o.bits in
    subst (λ m. m < 2 ^ o.bits) (sym is) (mod_below (c.word_of-word.result / 2 ^ o.pad) (2 ^ o.bits) (pow_pos o.bits))
