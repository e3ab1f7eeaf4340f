use Rattle.std.proofs.Common.{◌-◌, ◌+◌, ◌/◌, ◌%◌, length, ap, ◌∙◌, arith}
use Rattle.eds_bits.specs.Bits.{bits_of}
use Rattle.eds_bits.proofs.Windows.{shifted_window, whole_part}
use Rattle.eds_bits.proofs.reader.octets_at.Goals as goal

pub returns-then-skip-eq0 : goal.returns-then-skip-eq0
returns-then-skip-eq0 c = ap bits_of c.copy_from_slice.ensures.after ∙ whole_part c.args.octets.now c.args.at (length c.args.room.now) c.if-skip-eq0.true

pub returns-else-skip-eq0 : goal.returns-else-skip-eq0
returns-else-skip-eq0 c =
    c.shift_into.ensures
    ∙ shifted_window c.args.octets.now c.args.at (length c.args.room.now) (c.args.at % 8) (c.args.at / 8) (c.args.at / 8 + length c.args.room.now + 1) (omega arith) (omega arith) (omega arith)
