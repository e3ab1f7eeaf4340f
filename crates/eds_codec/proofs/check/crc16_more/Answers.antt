use Rattle.std.proofs.Common.{◌++◌, take, drop, sym, ap, ◌∙◌, append_assoc, arith, length, ◌-◌}
use Rattle.std.proofs.lemmas.List.{length-drop, take-append-drop, take_all}
use Rattle.eds_bits.specs.Scalars.{check_of_octets}
use Rattle.eds_bits.specs.declared.forms.CheckKind.TheVariants.{Crc16Ccitt}
use Rattle.eds_codec.proofs.check.crc16_more.Goals as goal

pub blocks-2-preserved : goal.blocks-2-preserved
blocks-2-preserved c = λ seen h.
    let i = c.blocks-2.invariant seen h in
    let left = c.blocks-2.left.now in
    let rest = take_all (length left - 4) (drop 4 left) (omega (arith, length-drop 4 left)) in (
      i.0 ++ take 4 left,
      i.1 ∙ ap (λ r. i.0 ++ r) (sym (take-append-drop 4 left)) ∙ sym (append_assoc i.0 (take 4 left) (drop 4 left)) ∙ ap (λ r. (i.0 ++ take 4 left) ++ r) (sym rest),
      c.crc16_of_four-check.ensures (seen ++ i.0) i.2 ∙ ap (check_of_octets Crc16Ccitt) (append_assoc seen i.0 (take 4 left)),
    )
