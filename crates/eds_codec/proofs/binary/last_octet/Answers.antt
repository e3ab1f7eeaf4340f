use Rattle.std.proofs.Common.{ap, ◌∙◌, arith}
use Rattle.eds_bits.specs.Bits.{low_bits}
use Rattle.eds_bits.specs.Reader.{bits_left}
use Rattle.eds_codec.proofs.Binaries.{high_octet, high_fits, high_below}
use Rattle.eds_codec.proofs.binary.last_octet.Goals as goal

pub overflow_cast-result-in-Some : goal.overflow_cast-result-in-Some
overflow_cast-result-in-Some c =
    omega (arith, high_fits c.args.n c.in-Some.number c.requires.few c.in-Some.ensures.bound, high_below c.args.n c.in-Some.number c.requires.few c.in-Some.ensures.bound)

pub returns-in-Some-clause-value : goal.returns-in-Some-clause-value
returns-in-Some-clause-value c =
    ap (low_bits 8) (high_fits c.args.n c.in-Some.number c.requires.few c.in-Some.ensures.bound)
    ∙ high_octet c.args.n c.in-Some.number (bits_left c.args.reader.now) c.requires.few c.requires.enough c.in-Some.ensures.value
