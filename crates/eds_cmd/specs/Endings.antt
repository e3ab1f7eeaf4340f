-- What ends a command over a shelf before it is done.
use Rattle.std.specs.Prelude.{◌≡◌, ◌<◌, ℕ, List, length, Result, Ok, Err, ⊤, ◌⊎◌}
use Rattle.eds_base.specs.declared.fail.Fail.{Fail}
use Rattle.eds_base.specs.declared.fail.Fail.TheVariants as fails
use Rattle.eds_cmd.specs.declared.ended.Ended.{Ended}
use Rattle.eds_cmd.specs.declared.ended.Ended.TheVariants.{Stopped, Unread, Memory}
use Rattle.eds_cmd.specs.declared.status.Status.{Status}
use Rattle.eds_cmd.specs.declared.status.Status.TheVariants as statuses
use Rattle.eds_cmd.specs.declared.stop.Stop.{Stop}
use Rattle.eds_cmd.specs.Limits.{report_octets}
use Rattle.eds_cmd.specs.Stops.{status_of}

-- the end that a failure is: a stop, or want of memory
abbrev pub ended_of : Fail Stop → Ended
ended_of (fails.Named stop) = Stopped stop
ended_of fails.Memory = Memory

-- the answer is the stop that ended the command, if a stop did
abbrev pub EndedAs : {Y : Type 0} → Ended → Result Y Stop → Type 0
EndedAs (Stopped stop) answer = answer ≡ Err stop
EndedAs (Unread name) answer = ⊤
EndedAs Memory answer = ⊤

-- What a function returned, seen by view, is the answer, unless a read failed or memory ran out.
abbrev pub Comes : {X Y : Type 0} → (X → Y) → Result X Ended → Result Y Stop → Type 0
Comes view (Ok x) answer = answer ≡ Ok (view x)
Comes view (Err ended) answer = EndedAs ended answer

-- where a read failed, the claim holds of the file's name
abbrev pub OnUnread : Ended → (List ℕ → Type 0) → Type 0
OnUnread (Stopped stop) claim = ⊤
OnUnread (Unread name) claim = claim name
OnUnread Memory claim = ⊤

-- ---- the end of a command

-- what is said of the status and the report holds of a stop, unless memory ran out
abbrev pub StopSays : (Status → List ℕ → Type 0) → Fail Stop → Type 0
StopSays Says (fails.Named stop) = Says (status_of stop.cause) stop.report
StopSays Says fails.Memory = ⊤

-- What is said of the status and the report holds of what a function returned: a report, seen by view, or a stop.
abbrev pub EndsAs : {X : Type 0} → (X → List ℕ) → (Status → List ℕ → Type 0) → Result X (Fail Stop) → Type 0
EndsAs view Says (Ok report) = Says statuses.Done (view report)
EndsAs view Says (Err fail) = StopSays Says fail

-- what is said of the status and the report holds of a stop, unless a read failed or memory ran out
abbrev pub EndedSays : (Status → List ℕ → Type 0) → Ended → Type 0
EndedSays Says (Stopped stop) = Says (status_of stop.cause) stop.report
EndedSays Says (Unread name) = ⊤
EndedSays Says Memory = ⊤

-- What is said of the status and the report holds of what a function over a shelf returned: a report, seen by view, or what ended the command.
abbrev pub CommandEndsAs : {X : Type 0} → (X → List ℕ) → (Status → List ℕ → Type 0) → Result X Ended → Type 0
CommandEndsAs view Says (Ok report) = Says statuses.Done (view report)
CommandEndsAs view Says (Err ended) = EndedSays Says ended

-- ---- a report that is too long

-- what is said holds of a report of what is done that is longer than a report may be, and so is this text, which stands for it
pub record IsTooLong (Says : Status → List ℕ → Type 0) (status : Status) (text : List ℕ) : Type 0 where
  pub status_is : status ≡ statuses.Done
  pub past : report_octets < length text
  pub whole : List ℕ
  pub says : Says statuses.Done whole
  pub whole_past : report_octets < length whole

-- What is said of the status and the report holds; a report that is longer than a report may be is perhaps another one that is.
abbrev pub UpToLimit : (Status → List ℕ → Type 0) → Status → List ℕ → Type 0
UpToLimit Says status report = Says status report ⊎ IsTooLong Says status report
