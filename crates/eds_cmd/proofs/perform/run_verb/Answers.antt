use Rattle.std.proofs.Common.{sym, subst, string_bytes}
use Rattle.eds_cmd.specs.Answer.{Works}
use Rattle.eds_cmd.specs.Endings.{EndsAs, UpToLimit}
use Rattle.eds_cmd.specs.Target.{type_in}
use Rattle.eds_cmd.proofs.perform.run_verb.Goals as goal

pub returns-in-Split : goal.returns-in-Split
returns-in-Split c = subst (λ v. EndsAs string_bytes (UpToLimit (Works v (type_in c.args.target.now) c.args.input.now)) c.split.result) (sym c.in-Split.is) c.split.ensures
