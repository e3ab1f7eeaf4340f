use Rattle.eds_script.proofs.Starting.{from-start}
use Rattle.eds_script.proofs.law.lines_begin.Goals as goal

pub returns : goal.returns
returns c t plan wired before line = from-start t plan wired before line
