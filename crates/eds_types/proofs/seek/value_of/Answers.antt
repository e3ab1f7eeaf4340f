use Rattle.std.proofs.Common.{◌∙◌, ap, sym, map, refl}
use Rattle.eds_types.specs.Plain.{plain}
use Rattle.eds_types.specs.Rows.{sequence}
use Rattle.eds_types.specs.Seeking.{nth}
use Rattle.eds_types.proofs.FieldsOf.{found}
use Rattle.eds_types.proofs.seek.value_of.Goals as goal

pub returns : goal.returns
returns c =
    c.nth.ensures ∙ ap (nth (map plain c.args.values.now)) c.place_of.ensures
    ∙ sym (found ((c.args.wanted).0).0 (c.args.wanted).1 (sequence c.args.table.now c.args.own.0) (map plain c.args.values.now) 0 (map plain c.args.values.now) refl)
