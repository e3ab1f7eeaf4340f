use Rattle.eds_read_types.proofs.Circles.{all_found, circle_refused, no_long_chain}
use Rattle.eds_read_types.proofs.law.circles.Goals as goal

pub returns : goal.returns
returns c = record { bases = all_found; refused = circle_refused; apart = no_long_chain }
