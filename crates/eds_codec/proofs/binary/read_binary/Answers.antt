use Rattle.std.proofs.Common.{length, drop, ◌∙◌, arith}
use Rattle.std.proofs.lemmas.List.{take_at}
use Rattle.eds_bits.specs.Reader.{bits_left}
use Rattle.eds_codec.proofs.Binaries.{binary_front}
use Rattle.eds_codec.proofs.binary.read_binary.Goals as goal

pub returns-clause-value : goal.returns-clause-value
returns-clause-value c =
    binary_front c.args.bits c.from_vec.result (bits_left c.args.reader.now) (bits_left c.take_bits.new.reader) (omega arith)
    (c.from_vec.ensures ∙ take_at c.take_bits.new.octets (drop (length c.take_bits.new.octets) c.resize.new.self.items) c.resize.new.self.len (omega (arith, c.take_bits.auto.octets, c.as_mut_slice.ensures.len)) ∙ c.take_bits.ensures.value) c.take_bits.ensures.after
