use Rattle.std.proofs.Common.{arith, take, length-take}
use Rattle.eds_bits.specs.Reader.{bits_left}
use Rattle.eds_codec.proofs.Booleans.{bool_read}
use Rattle.eds_codec.proofs.boolean.read_bool.Goals as goal

pub returns-clause-value : goal.returns-clause-value
returns-clause-value c =
    bool_read c.args.form (take c.args.form.bits (bits_left c.args.reader.now)) c.in_ok-number.number
    (omega (arith, c.in_ok-number.ensures.enough, length-take c.args.form.bits (bits_left c.args.reader.now))) c.in_ok-number.ensures.value
