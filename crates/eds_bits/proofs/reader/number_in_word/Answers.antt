use Rattle.std.proofs.Common.{arith, ◌+◌, ◌*◌, ◌-◌, ◌∙◌}
use Rattle.eds_bits.proofs.Windows.{window_part}
use Rattle.eds_bits.proofs.reader.number_in_word.Goals as goal

pub returns-clause-value : goal.returns-clause-value
returns-clause-value c = c.lowest.ensures ∙ window_part c.args.octets.now (8 * c.args.first + c.args.skip) c.args.n c.args.first (c.args.first + 8) (64 - c.args.skip - c.args.n) c.from.result (omega arith) (omega arith) (omega arith) (c.from.ensures ∙ c.word_of-word.ensures)
