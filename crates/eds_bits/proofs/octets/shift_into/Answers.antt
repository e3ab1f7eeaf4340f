use Rattle.std.proofs.Common.{◌*◌, ◌^◌, ◌/◌, ◌%◌, ◌-◌, ◌+◌, bit_or, get_or, length-set, arith, refl}
use Rattle.eds_bits.proofs.Shifts.{shift_more}
use Rattle.eds_bits.proofs.octets.shift_into.Goals as goal

pub loop-i-preserved : goal.loop-i-preserved
loop-i-preserved c = record {
  size = simp length-set c.loop-i.invariant.size;
  filled =
      shift_more c.args.octets.now c.loop-i.into c.loop-i.i c.args.by (8 - c.args.by)
      (bit_or (get_or c.args.octets.now c.loop-i.i 0 * 2 ^ c.args.by % 256) (get_or c.args.octets.now (c.loop-i.i + 1) 0 / 2 ^ (8 - c.args.by)))
      (omega arith) (omega arith) (omega arith) (omega (arith, c.type_inv.octets (c.loop-i.i + 1))) refl c.loop-i.invariant.filled;
}
