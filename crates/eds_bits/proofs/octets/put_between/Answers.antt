use Rattle.std.proofs.Common.{◌≡◌, ◌-◌, ◌+◌, ◌*◌, ◌/◌, ◌%◌, get_or, List, ℕ, length, take, drop, length-take, length-drop, refl, ◌∙◌, arith}
use Rattle.std.proofs.lemmas.Bool.{OnTrue_at}
use borrow.Rule.Slice.PartMut.{put_mid}
use Rattle.eds_bits.proofs.Shifts.{between_put, octet_high, octet_low, octet_fits, length_put}
use Rattle.eds_bits.proofs.octets.put_between.Goals as goal

pub put-requires-clause-fits : goal.put-requires-clause-fits
put-requires-clause-fits c = octet_high (get_or c.args.octets.now 0 0) (8 - c.args.at % 8) (c.args.at % 8) c.from.result (omega arith) (omega (arith, c.type_inv.octets 0)) c.from.ensures

pub put-requires-2-clause-fits : goal.put-requires-2-clause-fits
put-requires-2-clause-fits c =
    octet_fits (get_or c.args.octets.now (length c.args.octets.now - 1) 0) (c.args.at % 8) c.from-2.result (omega arith) c.from-2.ensures

pub returns : goal.returns
returns c =
    let n : ℕ = length c.args.octets.now - 1 in
    let next : ℕ = c.args.at / 8 + 1 in
    let end : ℕ = c.args.at / 8 + 1 + length c.args.octets.now - 1 in
    let whole : length c.put.new.room ≡ length c.args.room.now = c.put.auto.room in
    let middle : length (take (end - next) (drop next c.put.new.room)) ≡ n = omega (arith, length-take (end - next) (drop next c.put.new.room), length-drop next c.put.new.room) in
    let filled : length c.shift_into.new.into ≡ end - next = omega (arith, c.shift_into.auto.into) in
    let room : List ℕ = put_mid next (end - next) c.put.new.room c.shift_into.new.into in
    let same : length room ≡ length c.args.room.now = length_put next (end - next) c.put.new.room c.shift_into.new.into (omega arith) filled ∙ whole in
    let last : length (take (end + 1 - end) (drop end room)) ≡ 1 = omega (arith, length-take (end + 1 - end) (drop end room), length-drop end room) in
    between_put c.args.octets.now c.args.room.now c.put.new.room c.shift_into.new.into room c.put-2.new.room
    c.args.at n (8 - c.args.at % 8) (c.args.at % 8) c.from.result c.from-2.result next end (8 * length (take (end - next) (drop next c.put.new.room))) (end - next) (end + 1 - end)
    (omega arith) (omega arith) (omega arith) (omega arith) (omega arith) (omega arith) (omega arith) (omega arith) (omega arith) whole
    c.from.ensures (octet_low (get_or c.args.octets.now n 0) (c.args.at % 8) c.from-2.result (omega arith) c.from-2.ensures)
    (OnTrue_at (c.put.ensures.enough.1 (omega arith)) c.put.ensures.written) filled c.shift_into.ensures refl same
    (OnTrue_at (c.put-2.ensures.enough.1 (omega arith)) c.put-2.ensures.written)
