use Rattle.eds_sheet.proofs.DefaultsFound.{firsts-told}
use Rattle.eds_sheet.proofs.law.firsts_are_told.Goals as goal

pub returns : goal.returns
returns c = firsts-told
