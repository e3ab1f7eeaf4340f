use Rattle.std.proofs.Common.{option_map}
use Rattle.eds_sheet.proofs.SoundSheets.{sheet-carries}
use Rattle.eds_sheet.proofs.sheet.compile.Goals as goal

pub returns-clause-arguments : goal.returns-clause-arguments
returns-clause-arguments c = sheet-carries c.args.files.now (option_map (λ w. w.now) c.args.extra) c.in_ok-judged.judged c.in_ok-judged.ensures.judged c.sheet_of.result c.sheet_of.ensures.sheet
