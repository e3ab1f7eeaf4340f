use Rattle.eds_sheet.proofs.SoundSheets.{sheets-sound}
use Rattle.eds_sheet.proofs.law.sheets_are_sound.Goals as goal

pub returns : goal.returns
returns c = sheets-sound
