use Rattle.eds_script.proofs.Untied.{empty_line, other_line}
use Rattle.eds_script.proofs.wired.may_tie.Goals as goal

pub returns-in-empty : goal.returns-in-empty
returns-in-empty c = λ h. empty_line c.args.line.now c.in-empty.len_below

pub returns-in-len1-up : goal.returns-in-len1-up
returns-in-len1-up c = λ h. other_line c.args.line.now c.in-len1-up.len_at_least h
