use Rattle.std.proofs.Common.{◌≡◌, ℕ, List, ◌*◌, ◌+◌, ◌≤◌, length, take, drop, replicate, ap, ◌∙◌, length-take, arith}
use Rattle.std.proofs.lemmas.Bool.{OnTrue_at}
use Rattle.std.proofs.lemmas.List.{length-replicate, length-drop}
use Rattle.eds_bits.specs.Reader.{bits_left}
use Rattle.eds_bits.specs.Bits.{Bits}
use Rattle.eds_codec.proofs.Blocks.{block_octets, block_taken}
use Rattle.eds_codec.proofs.Checks.{check_start, check_step, checked_below}
use Rattle.eds_codec.proofs.check.check_blocks.Goals as goal

pub loop-done-init : goal.loop-done-init
loop-done-init c = check_start c.args.kind c.args.count (bits_left c.args.reader) c.check_of_none-check.result c.check_of_none-check.ensures

pub check_more-check-requires : goal.check_more-check-requires
check_more-check-requires c = checked_below c.args.kind c.loop-done.check (bits_left c.args.reader) c.loop-done.done c.loop-done.invariant.value

pub loop-done-preserved : goal.loop-done-preserved
loop-done-preserved c =
    let n : ℕ = c.min-n.result in
    let bs : Bits = bits_left c.loop-done.ahead in
    let few : n ≤ 64 = omega (arith, c.min-n.ensures) in
    let within : c.loop-done.done + n ≤ c.args.count = omega (arith, c.min-n.ensures, c.loop-done.invariant.some) in
    let zeros : List ℕ = replicate 64 0 in
    let wide : length (take n zeros) ≡ n = omega (arith, length-take n zeros, length-replicate {A = ℕ} 64 0) in
    let enough : 8 * n ≤ length bs = omega (arith, ap length c.loop-done.invariant.here, length-drop (8 * c.loop-done.done) (bits_left c.args.reader), c.requires) in
    let done = c.take_octets.ensures.enough.1 (omega arith) in
    let room = block_octets n c.take_octets.new.room bs enough few (OnTrue_at done c.take_octets.ensures.value) in
    let after : bits_left c.take_octets.new.self ≡ drop (8 * n) bs = OnTrue_at done c.take_octets.ensures.after ∙ ap (λ k. drop (8 * k) bs) wide in
    check_step c.args.kind c.args.count n c.loop-done.done c.loop-done.check c.check_more-check.result (bits_left c.args.reader) bs (bits_left c.take_octets.new.self) _
    c.requires c.loop-done.invariant within (block_taken n c.take_octets.new.room (drop n zeros) bs enough room) after c.check_more-check.ensures
