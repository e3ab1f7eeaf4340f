use Rattle.std.proofs.Common.{◌≡◌, ◌≤◌, ◌*◌, ◌+◌, length, take, replicate, length-take, ap, ◌∙◌, arith}
use Rattle.std.proofs.lemmas.Bool.{OnTrue_at}
use Rattle.std.proofs.lemmas.List.{length-replicate}
use Rattle.eds_bits.specs.Bits.{bits_of, with_piece}
use Rattle.eds_codec.proofs.Texts.{copies_more}
use Rattle.eds_codec.proofs.text.put_copies.Goals as goal

pub loop-done-preserved : goal.loop-done-preserved
loop-done-preserved c =
    let size : length (take c.min-n.result (replicate 64 c.args.octet)) ≡ c.min-n.result = omega (arith, length-take c.min-n.result (replicate 64 c.args.octet), length-replicate 64 c.args.octet) in
    let few : c.loop-done.done + c.min-n.result ≤ c.args.count = omega arith in
    record {
      few = few;
      size = c.put_octets.auto.room ∙ c.loop-done.invariant.size;
      written =
          copies_more c.args.octet c.loop-done.done c.min-n.result c.args.room.now c.loop-done.room c.put_octets.new.room c.args.at (omega arith) (omega (arith, c.requires.within)) c.loop-done.invariant.written
          (OnTrue_at (c.put_octets.ensures.enough.1 (omega (arith, c.requires.within, c.loop-done.invariant.size, c.from.ensures))) c.put_octets.ensures.written
          ∙ ap (λ k. with_piece (c.args.at + 8 * k) (bits_of (take c.min-n.result (replicate 64 c.args.octet))) (bits_of c.loop-done.room)) c.from.ensures);
    }
