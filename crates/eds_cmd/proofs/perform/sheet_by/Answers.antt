use Rattle.eds_sheet.specs.Compiled.{seen_sheet}
use Rattle.eds_cmd.proofs.Targets.{may_be_read}
use Rattle.eds_cmd.proofs.perform.sheet_by.Goals as goal

pub returns-in-Ok-clause-usable : goal.returns-in-Ok-clause-usable
returns-in-Ok-clause-usable c =
    let e = c.in-Ok.ensures in
    record { named = e.word; readable = may_be_read (seen_sheet c.in-Ok.sheet) e.clear e.solid; together = e.together; used = e.used; arguments = e.arguments }
