use Rattle.std.proofs.Common.{◌≡◌, ◌-◌, ◌+◌, ◌*◌, ◌/◌, length, ap, ◌∙◌, arith}
use Rattle.eds_bits.specs.Bits.{bits_of, with_piece}
use Rattle.eds_bits.proofs.Shifts.{octets_put}
use Rattle.eds_bits.proofs.octets.put_octets.Goals as goal

pub returns-else-room-last-clause-written : goal.returns-else-room-last-clause-written
returns-else-room-last-clause-written c =
    let place : 8 * (c.args.at / 8) ≡ c.args.at = omega arith in
    octets_put (c.args.at / 8) (c.args.at / 8 + length c.args.octets.now - c.args.at / 8) c.args.room.now c.copy_from_slice.new.self (omega arith) (omega (arith, c.copy_from_slice.ensures.len, ap length c.copy_from_slice.ensures.after))
    ∙ ap (λ k. with_piece k (bits_of c.copy_from_slice.new.self) (bits_of c.args.room.now)) place
    ∙ ap (λ os. with_piece c.args.at (bits_of os) (bits_of c.args.room.now)) c.copy_from_slice.ensures.after
