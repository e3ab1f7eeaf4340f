use Rattle.std.proofs.Common.{◌≤◌, ◌-◌, ◌*◌, List, ℕ, length, take, drop, arith, ap, ◌∙◌, length-take}
use Rattle.eds_bits.specs.Bits.{low_bits}
use Rattle.eds_bits.proofs.Windows.{octets_bound, window_put}
use Rattle.eds_bits.proofs.writer.put.Goals as goal

pub replaced-number-requires-clause-size : goal.replaced-number-requires-clause-size
replaced-number-requires-clause-size c =
    let octets : List ℕ = take (c.around-window.result.last - c.around-window.result.first) (drop c.around-window.result.first c.args.room.now) in
    let few : length octets ≤ 9 = omega (arith, length-take (c.around-window.result.last - c.around-window.result.first) (drop c.around-window.result.first c.args.room.now)) in
    omega (arith, c.number_of.ensures.value, octets_bound octets 9 few)

pub returns-clause-written : goal.returns-clause-written
returns-clause-written c =
    window_put c.args.room.now c.write_number.new.octets c.args.at c.args.n c.around-window.result.first c.around-window.result.last c.around-window.result.pad c.number_of.result c.args.v
    (omega arith) (omega arith) (omega arith) (omega arith) (omega arith) c.number_of.ensures.value
    (c.write_number.ensures ∙ ap (low_bits (8 * length (take (c.around-window.result.last - c.around-window.result.first) (drop c.around-window.result.first c.args.room.now)))) c.replaced-number.ensures)
