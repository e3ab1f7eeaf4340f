use Rattle.std.proofs.Common.{◌≡◌, ◌↔◌, ◌+◌, ◌*◌, ◌≤◌, false, replicate, length, ap, subst, arith}
use Rattle.std.specs.Prelude.{IsTrue}
use Rattle.std.specs.Bool.{OnTrue}
use Rattle.eds_bits.specs.Bits.{bits_of, low_bits, with_piece}
use Rattle.eds_pack.proofs.Putting.{zeros_next, zeros_put_all}
use Rattle.eds_pack.proofs.leaf.write_padding.Goals as goal

pub loop-done-preserved : goal.loop-done-preserved
loop-done-preserved c =
    let n = c.loop-done.done in let more = c.min-more.result in let at = c.args.at in
    let few : n + more ≤ c.args.bits = omega (arith, c.min-more.ensures, c.loop-done.invariant.few) in
    let fits : at + (n + more) ≤ 8 * length c.args.room.now = let size = (c.requires.room).has.0 in let all = (c.requires.room).fits in omega arith in
    record {
      zeros = zeros_next n more at c.args.room.now c.loop-done.room c.put.new.room c.put.result c.loop-done.invariant.zeros fits
          (subst (λ d. IsTrue c.put.result ↔ (at + d + more ≤ 8 * length c.loop-done.room)) c.from.ensures c.put.ensures.enough)
          (subst (λ d. OnTrue c.put.result (bits_of c.put.new.room ≡ with_piece (at + d) (low_bits more 0) (bits_of c.loop-done.room))) c.from.ensures c.put.ensures.written);
      few = few;
    }

pub returns : goal.returns
returns c =
    let same : c.loop-done.done ≡ c.args.bits = let few = c.loop-done.invariant.few in omega arith in
    zeros_put_all c.args.bits c.args.at _ c.args.room.now c.loop-done.room (subst (λ n. bits_of c.loop-done.room ≡ with_piece c.args.at (replicate n false) (bits_of c.args.room.now)) same c.loop-done.invariant.zeros) (ap (λ n. c.args.at + n) c.from-2.ensures)
