use Rattle.std.proofs.Common.{◌∙◌}
use Rattle.eds_sheet.specs.Compiled.{seen_sheet}
use Rattle.eds_cmd.specs.Command.{words_of}
use Rattle.eds_cmd.specs.Endings.{ended_of}
use Rattle.eds_cmd.proofs.Reporting.{past_end}
use Rattle.eds_cmd.proofs.SheetFiles.{ended_by_input, ended_by_sheets, handed_on}
use Rattle.eds_cmd.proofs.perform.perform.Goals as goal

pub returns-in_err-sheet-clause-reached : goal.returns-in_err-sheet-clause-reached
returns-in_err-sheet-clause-reached g c = λ firsts tells files told.
    rw (handed_on c.from_residual.result c.in_err-sheet.field-0.0 c.from_residual.ensures.1)
    (ended_by_sheets firsts files (words_of c.args.command.now) c.in_err-sheet.field-0.0 c.requires (c.in_err-sheet.ensures.reached files told))

pub returns-in_err-report-clause-reached : goal.returns-in_err-report-clause-reached
returns-in_err-report-clause-reached g c = λ firsts tells files told.
    let is = c.in_ok-sheet.ensures.told firsts tells files told in
    rw (handed_on c.from_residual-in_err-report.result c.in_err-report.field-0.0 c.from_residual-in_err-report.ensures.1)
    (ended_by_input firsts files (words_of c.args.command.now) (seen_sheet c.in_ok-sheet.sheet) c.in_err-report.field-0.0 c.requires is c.in_err-report.ensures.file)

pub returns-in_err-within_report-clause-told : goal.returns-in_err-within_report-clause-told
returns-in_err-within_report-clause-told g c = λ firsts tells files told.
    let is = c.in_ok-sheet.ensures.told firsts tells files told in
    let does = c.in_ok-report.ensures.told files (c.in_ok-sheet.ensures.files ∙ told) in
    rw (handed_on c.from_residual-in_err-within_report.result (ended_of c.in_err-within_report.field-0.0) c.from_residual-in_err-within_report.ensures.1)
    (past_end firsts files (words_of c.args.command.now) (seen_sheet c.in_ok-sheet.sheet) is c.in_ok-report.report c.in_err-within_report.field-0.0 does c.in_err-within_report.ensures)
