use Rattle.eds_sheet.proofs.SoundSheets.{used-types-clear}
use Rattle.eds_sheet.proofs.law.used_types_are_clear.Goals as goal

pub returns : goal.returns
returns c = used-types-clear
