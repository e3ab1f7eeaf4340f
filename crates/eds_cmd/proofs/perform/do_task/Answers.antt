use Rattle.std.proofs.Common.{List, ℕ, sym, subst}
use Rattle.eds_sheet.specs.Compiled.{seen_sheet}
use Rattle.eds_cmd.specs.Answer.{Does}
use Rattle.eds_cmd.specs.Command.{task_words}
use Rattle.eds_cmd.specs.Endings.{EndsAs, UpToLimit}
use Rattle.eds_cmd.proofs.perform.do_task.Goals as goal

pub returns-in-ByType : goal.returns-in-ByType
returns-in-ByType c = subst (λ t. EndsAs {X = List ℕ} (λ o. o) (UpToLimit (Does (task_words t) (seen_sheet c.args.sheet.now) c.args.input.now)) c.do_by_type.result) (sym c.in-ByType.is) c.do_by_type.ensures
