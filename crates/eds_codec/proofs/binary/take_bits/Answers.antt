use Rattle.std.proofs.Common.{◌≡◌, ◌/◌, ◌%◌, take, length, length-take, arith}
use Rattle.std.proofs.lemmas.Bool.{OnTrue_at}
use Rattle.eds_bits.specs.Reader.{bits_left}
use Rattle.eds_codec.proofs.Binaries.{last_taken, whole_taken}
use Rattle.eds_codec.proofs.binary.take_bits.Goals as goal

pub returns-then-last-gt0-clause-value : goal.returns-then-last-gt0-clause-value
returns-then-last-gt0-clause-value c =
    let wide : length (take (c.args.bits / 8) c.args.octets.now) ≡ c.args.bits / 8 = omega (arith, length-take (c.args.bits / 8) c.args.octets.now) in
    let done = c.take_octets.ensures.enough.1 (omega arith) in
    last_taken c.take_octets.new.room c.args.octets.now (bits_left c.args.reader.now) (bits_left c.take_octets.new.self) c.args.bits (c.args.bits / 8) (length (take (c.args.bits / 8) c.args.octets.now)) (c.args.bits % 8) c.last_octet.result
    (omega arith) (omega arith) (omega arith) c.requires.enough wide (omega arith) (OnTrue_at done c.take_octets.ensures.value) (OnTrue_at done c.take_octets.ensures.after) c.last_octet.type_inv c.last_octet.ensures.value

pub returns-else-last-gt0-clause-value : goal.returns-else-last-gt0-clause-value
returns-else-last-gt0-clause-value c =
    let wide : length (take (c.args.bits / 8) c.args.octets.now) ≡ c.args.bits / 8 = omega (arith, length-take (c.args.bits / 8) c.args.octets.now) in
    whole_taken c.take_octets.new.room c.args.octets.now (bits_left c.args.reader.now) c.args.bits (c.args.bits / 8) (length (take (c.args.bits / 8) c.args.octets.now))
    (omega arith) wide (omega arith) (OnTrue_at (c.take_octets.ensures.enough.1 (omega arith)) c.take_octets.ensures.value)
