use Rattle.std.proofs.Common.{take, drop, sym, ap, ◌∙◌}
use Rattle.eds_bits.specs.Bits.{unsigned_of}
use Rattle.eds_unpack.proofs.scalars.number_at.Goals as goal

pub returns-in-Some-clause-value : goal.returns-in-Some-clause-value
returns-in-Some-clause-value c = c.in-Some.ensures.value ∙ ap (λ b. unsigned_of (take c.args.operation.now.bits (drop c.args.at b))) (sym (c.requires.octets c.in-Some.ensures.eight))
