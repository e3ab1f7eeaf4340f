use Rattle.eds_cmd.proofs.SomeRun.{script_goes}
use Rattle.eds_cmd.proofs.law.scripts_go.Goals as goal

pub returns : goal.returns
returns c = λ t plan text p ties rules run said tied.
    let r = script_goes (record { one_outcome = c.runs_join.ensures.one; time = c.lines_take_their_time.ensures; sound = c.lines_keep_sound.ensures.sound; courses = c.lines_keep_sound.ensures.some; handled = c.scripts_may_be_handled.ensures }) t plan rules run text p ties said tied in
    (r.outs, r.end, r.goes)
