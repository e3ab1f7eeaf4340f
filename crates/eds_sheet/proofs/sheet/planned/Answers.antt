use Rattle.eds_sheet.proofs.sheet.planned.Goals as goal

pub returns-clause-plan : goal.returns-clause-plan
returns-clause-plan c = λ firsts told. c.read_components.ensures.answers (firsts c.args.judged.now.typed.table) (told c.args.judged.now.typed.table c.keeps_rules.ensures)
