use Rattle.eds_bits.proofs.FormLaws.{fits_form, none_where_bad, packed_bcd_number, bcd_number}
use Rattle.eds_bits.proofs.int_forms.decode_int.Goals as goal

pub reordered-raw-requires : goal.reordered-raw-requires
reordered-raw-requires c = fits_form c.args.form c.args.raw c.if-raw-form-gt1.false

pub returns-in-PackedBcd-clause-none : goal.returns-in-PackedBcd-clause-none
returns-in-PackedBcd-clause-none c =
    none_where_bad c.args.form c.args.raw c.decode-in-PackedBcd.result (fits_form c.args.form c.args.raw c.if-raw-form-gt1.false)
    (packed_bcd_number c.args.form c.args.raw c.reordered-raw.result c.decode-in-PackedBcd.result c.in-PackedBcd.is c.reordered-raw.ensures.bits c.decode-in-PackedBcd.ensures)

pub returns-in-Bcd-clause-none : goal.returns-in-Bcd-clause-none
returns-in-Bcd-clause-none c =
    none_where_bad c.args.form c.args.raw c.decode-in-Bcd.result (fits_form c.args.form c.args.raw c.if-raw-form-gt1.false)
    (bcd_number c.args.form c.args.raw c.reordered-raw.result c.decode-in-Bcd.result c.in-Bcd.is c.reordered-raw.ensures.bits c.decode-in-Bcd.ensures)
