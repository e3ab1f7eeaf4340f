use Rattle.std.proofs.Common.{arith, ◌∙◌}
use Rattle.eds_bits.proofs.Windows.{window_part}
use Rattle.eds_bits.proofs.reader.number_in_window.Goals as goal

pub returns-clause-value : goal.returns-clause-value
returns-clause-value c = c.lowest.ensures ∙ window_part c.args.octets.now c.args.at c.args.n c.around-window.result.first c.around-window.result.last c.around-window.result.pad c.number_of-number.result (omega arith) (omega arith) (omega arith) c.number_of-number.ensures.value
