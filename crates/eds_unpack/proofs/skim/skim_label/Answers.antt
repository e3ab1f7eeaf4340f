use Rattle.std.proofs.Common.{◌∙◌, ap, sym, Some, rules}
use Rattle.std.proofs.lemmas.Int.{to_z-of_z}
use Rattle.std.specs.Option.{option_copied}
use mir.Syntax.{w128}
use mir.Val.{SFits}
use Rattle.eds_bits.specs.Reader.{bits_left}
use Rattle.eds_types.specs.Reading.{label_of}
use Rattle.eds_unpack.proofs.Skims.{label_is_listed, label_read}
use Rattle.eds_unpack.proofs.skim.skim_label.Goals as goal

pub returns-in-Some-clause-read : goal.returns-in-Some-clause-read
returns-in-Some-clause-read c =
    let fits : SFits w128 c.in_ok-number.number = search rules in
    let z = to_z-of_z w128 c.in_ok-number.number fits in
    let found = sym (ap option_copied c.in-Some.is) ∙ c.label_of.ensures ∙ ap (label_of c.args.listing.now c.args.listing.now) z in
    (c.in-Some.field-0.now, label_read c.args.listing.now c.args.form (bits_left c.args.reader.now) (bits_left c.number.new.reader) c.in_ok-number.number c.in-Some.field-0.now c.in_ok-number.ensures.read (sym found), label_is_listed c.args.listing.now c.args.listing.now c.in_ok-number.number c.in-Some.field-0.now (sym found) ∙ ap Some (sym z))
