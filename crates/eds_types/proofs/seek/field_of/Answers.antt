use Rattle.std.proofs.Common.{◌∙◌, ap, sym, map, rules}
use Rattle.eds_types.specs.Fields.{paired, value_at}
use Rattle.eds_types.specs.Plain.{plain}
use Rattle.eds_types.specs.Rows.{sequence}
use Rattle.eds_types.proofs.FieldsOf.{fields_are}
use Rattle.eds_types.proofs.seek.field_of.Goals as goal

pub returns-in-Some-Fields : goal.returns-in-Some-Fields
returns-in-Some-Fields c =
    c.value_of.ensures ∙ ap (λ vs. value_at (paired (sequence c.args.table.now c.in-Some-Fields.own.0) (map plain vs)) ((c.args.wanted).0).0 (c.args.wanted).1) c.as_slice.ensures.value
    ∙ sym (fields_are c.args.table.now c.in-Some-Fields.own c.in-Some-Fields.values ((c.args.wanted).0).0 (c.args.wanted).1)
    ∙ sym (let e = c.in-Some-Fields.is in let f = c.in-Some-Fields.field-0-is in search rules)
