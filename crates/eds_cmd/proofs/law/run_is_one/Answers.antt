use Rattle.eds_cmd.proofs.OneRun.{one_way}
use Rattle.eds_cmd.proofs.SomeRun.{some_way, valid_runs}
use Rattle.eds_cmd.proofs.law.run_is_one.Goals as goal

pub returns-clause-one : goal.returns-clause-one
returns-clause-one c = λ t plan text status other report line rules run a b. one_way c.runs_join.ensures.one c.one_line.ensures t plan rules run text status other report line a b

pub returns-clause-some : goal.returns-clause-some
returns-clause-some c = λ t plan text rules run.
    some_way (record { one_outcome = c.runs_join.ensures.one; time = c.lines_take_their_time.ensures; sound = c.lines_keep_sound.ensures.sound; courses = c.lines_keep_sound.ensures.some; handled = c.scripts_may_be_handled.ensures }) t plan rules run text

pub returns-clause-valid : goal.returns-clause-valid
returns-clause-valid c = λ t plan text rules run v.
    valid_runs (record { one_outcome = c.runs_join.ensures.one; time = c.lines_take_their_time.ensures; sound = c.lines_keep_sound.ensures.sound; courses = c.lines_keep_sound.ensures.some; handled = c.scripts_may_be_handled.ensures }) t plan rules run text v
