use Rattle.std.proofs.Common.{◌∙◌, arith}
use Rattle.eds_bits.proofs.Windows.{word_number}
use Rattle.eds_bits.proofs.window.word_of.Goals as goal

pub returns : goal.returns
returns c = c.from_be_bytes.ensures ∙ word_number c.args.octets.now c.requires (λ i. omega (arith, c.type_inv.octets i))
