use Rattle.std.proofs.Common.{◌∷◌, ◌++◌, [], map, take, sym, ap, subst, ◌∙◌, arith}
use Rattle.std.proofs.lemmas.List.{take_more}
use Rattle.eds_bits.specs.Reader.{bits_left}
use Rattle.eds_unpack.specs.Scalars.{plain_of}
use Rattle.eds_unpack.specs.Templates.{PartsSay}
use Rattle.eds_unpack.proofs.Templates.{say_more_parts}
use Rattle.eds_unpack.proofs.by_template.fill_by.Goals as goal

pub loop-part-preserved : goal.loop-part-preserved
loop-part-preserved c =
    let t = c.args.table.now in
    let b = bits_left c.args.reader.now in
    let m = c.div_ceil-all.result in
    let xs = c.as_slice-parts.result.now in
    let i = c.loop-part.part-index in
    let x = c.part-item.result in
    let so = c.loop-part.invariant in
    let put = c.if-not-put_part.ensures.says in
    let grown = take_more xs i x (omega arith) ∙ ap (λ y. take i xs ++ y ∷ []) (sym c.part-item.is) in
    record {
      say = subst (λ ys. PartsSay t b m ys (map plain_of c.put_part.new.room.items)) (sym grown) (subst (PartsSay t b m (take i xs ++ x ∷ [])) (sym put.1) (say_more_parts t b m (take i xs) x (map plain_of c.loop-part.room.items) put.0 so.say put.2));
      few = omega (arith, c.if-not-put_part.ensures.few, so.few);
      room = omega (arith, c.if-not-put_part.ensures.room, so.room);
    }
