use Rattle.eds_host.proofs.ClearArguments.{used_clear}
use Rattle.eds_cmd.proofs.perform.components_of.Goals as goal

pub returns-clause-runnable : goal.returns-clause-runnable
returns-clause-runnable c =
    let sheet = c.args.sheet.now in
    record { fits = c.requires.together; clear = used_clear sheet.table sheet.used sheet.plan c.requires.used c.requires.arguments }
