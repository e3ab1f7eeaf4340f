use Rattle.std.proofs.Common.{◌∙◌, ap, sym}
use Rattle.std.specs.Prelude.{◌&&◌, not}
use Rattle.eds_types.specs.Rows.{list_has}
use Rattle.eds_pack.proofs.Scalars.{coded_by}
use Rattle.eds_pack.proofs.plain.text_fits.Goals as goal

pub returns-then-is_coded : goal.returns-then-is_coded
returns-then-is_coded c =
    ap not c.holds_octet.ensures ∙ ap (λ b. b && not (list_has c.args.text.now c.args.form.stop)) (sym c.if-is_coded.true ∙ coded_by c.args.form.ascii c.args.text.now c.is_coded.result c.is_coded.ensures)

pub returns-else-is_coded : goal.returns-else-is_coded
returns-else-is_coded c =
    c.if-is_coded.false ∙ ap (λ b. b && not (list_has c.args.text.now c.args.form.stop)) (sym c.if-is_coded.false ∙ coded_by c.args.form.ascii c.args.text.now c.is_coded.result c.is_coded.ensures)
