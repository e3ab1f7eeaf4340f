use Rattle.std.proofs.Common.{List, ℕ, subst}
use Rattle.eds_sheet.specs.Compiled.{seen_sheet}
use Rattle.eds_cmd.specs.declared.status.Status.TheVariants.{Done}
use Rattle.eds_cmd.specs.Answer.{Does}
use Rattle.eds_cmd.specs.Command.{job_words}
use Rattle.eds_cmd.specs.Endings.{UpToLimit}
use Rattle.eds_cmd.proofs.Reporting.{done_on_input}
use Rattle.eds_cmd.proofs.perform.run_job.Goals as goal

pub returns-clause-told : goal.returns-clause-told
returns-clause-told g c = λ files told.
    let job = job_words c.args.job.now in
    let sheet = seen_sheet c.args.sheet.now in
    let does = subst (λ (o : List ℕ). UpToLimit (Does job.task sheet o) Done c.in_ok-do_task.field-0) c.as_slice.ensures c.in_ok-do_task.ensures in
    done_on_input job files sheet c.in_ok-input.input Done c.in_ok-do_task.field-0 (c.in_ok-input.ensures.told files told) does
