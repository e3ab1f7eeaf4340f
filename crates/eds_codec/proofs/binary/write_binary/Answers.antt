use Rattle.std.proofs.Common.{◌-◌, ◌/◌, ◌%◌, length, arith}
use Rattle.eds_codec.proofs.Binaries.{binary_size, binary_written}
use Rattle.eds_codec.proofs.binary.write_binary.Goals as goal

pub put_bits-requires-clause-size : goal.put_bits-requires-clause-size
put_bits-requires-clause-size c = binary_size c.args.bits c.args.octets.now c.requires.value.0 c.requires.value.1

pub returns-clause-written : goal.returns-clause-written
returns-clause-written c =
    binary_written c.args.bits c.args.at (c.args.at / 8) (length c.args.room.now - c.args.at / 8) (c.args.at % 8) c.args.octets.now c.args.room.now c.put_bits.new.room c.requires.value.0 c.requires.value.1
    (omega arith) (omega arith) (omega arith) c.put_bits.ensures
