use Rattle.eds_cmd.proofs.OneReplay.{one_replay}
use Rattle.eds_cmd.proofs.ReplayEnds.{only_valid, valid_replays}
use Rattle.eds_cmd.proofs.SomeReplay.{some_replay}
use Rattle.eds_cmd.proofs.law.replay_is_one.Goals as goal

pub returns-clause-one : goal.returns-clause-one
returns-clause-one c = λ t plan session status other report line rules run a b. one_replay c.runs_join.ensures.one c.agree_or_differ.ensures c.one_outcome.ensures t plan rules run session status other report line a b

pub returns-clause-some : goal.returns-clause-some
returns-clause-some c = λ t plan session rules run.
    some_replay (record { one_outcome = c.runs_join.ensures.one; time = c.lines_take_their_time.ensures; sound = c.lines_keep_sound.ensures.sound; courses = c.lines_keep_sound.ensures.some; handled = c.scripts_may_be_handled.ensures })
    c.some_outcome.ensures t plan rules run session

pub returns-clause-valid : goal.returns-clause-valid
returns-clause-valid c = λ t plan session v. valid_replays t plan session v

pub returns-clause-only : goal.returns-clause-only
returns-clause-only c = λ t plan session report d. only_valid t plan session report d
