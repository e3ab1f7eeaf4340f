use Rattle.std.proofs.Common.{◌*◌, ◌+◌, ◌-◌, length, replicate, ap, ◌∙◌, arith}
use Rattle.std.proofs.lemmas.Bool.{OnTrue_at}
use Rattle.std.proofs.lemmas.List.{length-replicate}
use Rattle.eds_bits.specs.Bits.{bits_of, with_piece}
use Rattle.eds_codec.proofs.Texts.{put_behind}
use Rattle.eds_codec.proofs.text.write_octets.Goals as goal

pub returns : goal.returns
returns c =
    put_behind c.args.octets.now (replicate (c.args.count - length c.args.octets.now) c.args.stop) c.args.room.now c.put_octets.new.room c.put_copies.new.room c.args.at
    (omega (arith, length-replicate (c.args.count - length c.args.octets.now) c.args.stop, c.requires.within, c.requires.some))
    (OnTrue_at (c.put_octets.ensures.enough.1 (omega (arith, c.requires.within, c.requires.some))) c.put_octets.ensures.written)
    (c.put_copies.ensures ∙ ap (λ k. with_piece (c.args.at + 8 * k) (bits_of (replicate (c.args.count - length c.args.octets.now) c.args.stop)) (bits_of c.put_octets.new.room)) c.from.ensures)
