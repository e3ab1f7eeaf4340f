use Rattle.std.proofs.Common.{sym, subst}
use Rattle.eds_sheet.specs.Compiled.{seen_sheet}
use Rattle.eds_cmd.specs.declared.status.Status.TheVariants.{Done}
use Rattle.eds_cmd.specs.Answer.{DoesBy}
use Rattle.eds_cmd.specs.Command.{work_words}
use Rattle.eds_cmd.specs.Endings.{UpToLimit}
use Rattle.eds_cmd.proofs.perform.report_for.Goals as goal

pub returns-in_ok-lay_out-in-Layout-clause-told : goal.returns-in_ok-lay_out-in-Layout-clause-told
returns-in_ok-lay_out-in-Layout-clause-told g c = λ files told.
    subst (λ w. UpToLimit (DoesBy (work_words w) files (seen_sheet c.args.sheet.now)) Done c.in_ok-lay_out-in-Layout.field-0) (sym c.in-Layout.is) c.in_ok-lay_out-in-Layout.ensures
