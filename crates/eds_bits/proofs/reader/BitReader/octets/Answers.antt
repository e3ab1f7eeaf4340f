use Rattle.eds_bits.proofs.Windows.{rest_octets}
use Rattle.eds_bits.proofs.reader.BitReader.octets.Goals as goal

pub returns-then-self-eq0-clause-value : goal.returns-then-self-eq0-clause-value
returns-then-self-eq0-clause-value c = rest_octets c.args.self.now.octets.now c.args.self.now.at c.if-self-eq0.true
