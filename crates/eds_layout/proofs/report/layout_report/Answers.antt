use Rattle.std.proofs.Common.{◌≡◌, ◌∙◌, sym, ◌∷◌, []}
use Rattle.eds_types.specs.Rows.{numbers_of}
use Rattle.eds_layout.specs.Layouts.{plain_layout}
use Rattle.eds_layout.specs.Printed.{layouts_text}
use Rattle.eds_layout.specs.Reports.{IsReportOf, IsReport}
use Rattle.eds_layout.proofs.LayoutsMade.{ok_weaker}
use Rattle.eds_layout.proofs.ReportMade.{report_of, plain_report}
use Rattle.eds_layout.proofs.report.layout_report.Goals as goal

pub returns-then-is_container : goal.returns-then-is_container
returns-then-is_container c =
    ok_weaker c.containers_text.result (IsReportOf c.args.table.now (numbers_of c.family_of.result.now) c.args.most) (IsReport c.args.table.now c.args.id.0 c.args.most)
    (λ o h. report_of c.args.table.now c.args.most c.args.id.0 c.family_of.result.now o c.family_of.ensures (sym c.is_container.ensures ∙ c.if-is_container.true) h) c.containers_text.ensures

pub returns : goal.returns
returns c =
    ok_weaker c.plain_text.result (λ text. text ≡ layouts_text c.args.table.now (plain_layout c.args.table.now c.args.id.0 ∷ [])) (IsReport c.args.table.now c.args.id.0 c.args.most)
    (λ o h. plain_report c.args.table.now c.args.most c.args.id.0 o (sym c.is_container.ensures ∙ c.if-is_container.false) h) c.plain_text.ensures
