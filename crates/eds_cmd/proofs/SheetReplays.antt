-- Replaying a session over the components of a sheet comes to one thing.
use Rattle.std.proofs.Common.{◌≡◌, ◌⊎◌, ℕ, List, Option, inl, inr}
use Rattle.eds_replay.specs.Alike.{AlikeAgreement, AlikeDifferences}
use Rattle.eds_sheet.specs.Compiled.{SeenSheet}
use Rattle.eds_sheet.specs.Laws.{IsSound}
use Rattle.eds_cmd.specs.Replay.{IsValidReplay, ReplaysSheet}
use Rattle.eds_cmd.specs.ReplayLaws.{OneReplay, SomeReplay, ValidSessionsReplay}
use Rattle.eds_cmd.specs.Run.{HasPlan}
use Rattle.eds_cmd.specs.Stops.{status_of}
use Rattle.eds_cmd.specs.declared.status.Status.{Status}
use Rattle.eds_cmd.specs.declared.status.Status.TheVariants as statuses
use Rattle.eds_cmd.specs.declared.stop.Stop.{Stop}
use Rattle.eds_cmd.proofs.AlikeReplays.{sessions_alike, valid_sessions_alike}
use Rattle.eds_cmd.proofs.AlikeRuns.{AlikeLaws}
use Rattle.eds_cmd.proofs.SheetRuns.{plan_runs, same_seen}

-- the laws of replays
pub record SessionLaws : Type 0 where
  pub alike : AlikeLaws
  pub agree : AlikeAgreement
  pub differ : AlikeDifferences
  pub one : OneReplay
  pub some : SomeReplay
  pub valid : ValidSessionsReplay

module _ (laws : SessionLaws) {word : Option (List ℕ)} (sheet : SeenSheet) (sound : IsSound word sheet) (session : List ℕ) where
  pub one_of_session : (s o : Status) (r l : List ℕ) → ReplaysSheet sheet session s r → ReplaysSheet sheet session o l → (s ≡ o) × (r ≡ l)
  one_of_session s o r l a b =
      laws.one sheet.table b.plan session s o r l sound.rules (plan_runs sheet sound b.plan b.is)
      (sessions_alike laws.alike laws.agree laws.differ sheet.table a.plan b.plan (same_seen laws.alike sheet a.plan b.plan a.is.seen b.is.seen) session s r a.replays) b.replays

  pub some_of_session : HasPlan sheet → ((report : List ℕ) × ReplaysSheet sheet session statuses.Done report) ⊎ ((stop : Stop) × ReplaysSheet sheet session (status_of stop.cause) stop.report)
  some_of_session has = elim (laws.some sheet.table has.0 session sound.rules (plan_runs sheet sound has.0 has.1)) [
    | inl done ↦ inl (done.0, record { plan = has.0; is = has.1; replays = done.1 })
    | inr stop ↦ inr (stop.0, record { plan = has.0; is = has.1; replays = stop.1 })
  ]

  -- a valid session is replayed to its end, where there is a plan to run
  pub valid_of_session : HasPlan sheet → IsValidReplay sheet session → (report : List ℕ) × ReplaysSheet sheet session statuses.Done report
  valid_of_session has v =
      let done = laws.valid sheet.table has.0 session (valid_sessions_alike laws.alike laws.agree laws.differ sheet.table v.plan has.0 (same_seen laws.alike sheet v.plan has.0 v.seen (has.1).seen) session v.valid) in
      (done.0, record { plan = has.0; is = has.1; replays = done.1 })
