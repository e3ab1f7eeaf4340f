-- Running a script over the components of a sheet comes to one thing.
use Rattle.std.proofs.Common.{◌≡◌, ◌∙◌, ◌⊎◌, ℕ, List, Option, inl, inr, sym, subst}
use Rattle.eds_host.specs.Hosts.{RunsHaveOneOutcome}
use Rattle.eds_host.proofs.ClearArguments.{used_clear}
use Rattle.eds_plan.specs.Alike.{AreAlike}
use Rattle.eds_plan.specs.Arguments.{IsUsedClosed}
use Rattle.eds_plan.specs.declared.component.ComponentPlan.{ComponentPlan}
use Rattle.eds_read_comp.specs.NamedTypes.{OnSaidArguments}
use Rattle.eds_read_comp.specs.Plans.{SeenPlan, seen_plan}
use Rattle.eds_read_comp.proofs.Carried.{of-seen}
use Rattle.eds_sheet.specs.Compiled.{SeenSheet}
use Rattle.eds_sheet.specs.Laws.{IsSound}
use Rattle.eds_cmd.specs.declared.status.Status.{Status}
use Rattle.eds_cmd.specs.declared.status.Status.TheVariants as statuses
use Rattle.eds_cmd.specs.declared.stop.Stop.{Stop}
use Rattle.eds_cmd.specs.Run.{HasPlan, IsPlanOf, IsRunnable, IsValidRun, RunsSheet}
use Rattle.eds_cmd.specs.RunLaws.{OneRun, SomeRun, ValidScriptsRun}
use Rattle.eds_cmd.specs.Stops.{status_of}
use Rattle.eds_cmd.proofs.AlikeRuns.{AlikeLaws, scripts_alike, valid_alike}

-- the laws of runs
pub record ScriptLaws : Type 0 where
  pub alike : AlikeLaws
  pub outcome : RunsHaveOneOutcome
  pub one : OneRun
  pub some : SomeRun
  pub valid : ValidScriptsRun

-- a plan of an accepted sheet may be run: its commands' arguments have used types, under which no two containers overlap
pub plan_runs : {word : Option (List ℕ)} (sheet : SeenSheet) → IsSound word sheet → (plan : List ComponentPlan) → IsPlanOf sheet plan → IsRunnable sheet.table plan
plan_runs sheet sound plan is =
    let said = subst (λ (p : SeenPlan). OnSaidArguments (IsUsedClosed sheet.table sheet.used) p.components) (sym is.seen) sound.arguments in
    record { fits = is.fits; clear = used_clear sheet.table sheet.used plan sound.used (of-seen (IsUsedClosed sheet.table sheet.used) plan said) }

-- plans of which the sheet says the same
pub same_seen : AlikeLaws → (sheet : SeenSheet) (p q : List ComponentPlan) → seen_plan p ≡ sheet.plan → seen_plan q ≡ sheet.plan → AreAlike p q
same_seen laws sheet p q a b = laws.seen p q (a ∙ sym b)

module _ (laws : ScriptLaws) {word : Option (List ℕ)} (sheet : SeenSheet) (sound : IsSound word sheet) (text : List ℕ) where
  pub one_of_sheet : (s o : Status) (r l : List ℕ) → RunsSheet sheet text s r → RunsSheet sheet text o l → (s ≡ o) × (r ≡ l)
  one_of_sheet s o r l a b =
      laws.one sheet.table b.plan text s o r l sound.rules (plan_runs sheet sound b.plan b.is)
      (scripts_alike laws.alike sheet.table a.plan b.plan (same_seen laws.alike sheet a.plan b.plan a.is.seen b.is.seen) text s r a.runs) b.runs

  pub some_of_sheet : HasPlan sheet → ((report : List ℕ) × RunsSheet sheet text statuses.Done report) ⊎ ((stop : Stop) × RunsSheet sheet text (status_of stop.cause) stop.report)
  some_of_sheet has = elim (laws.some sheet.table has.0 text sound.rules (plan_runs sheet sound has.0 has.1)) [
    | inl done ↦ inl (done.0, record { plan = has.0; is = has.1; runs = done.1 })
    | inr stop ↦ inr (stop.0, record { plan = has.0; is = has.1; runs = stop.1 })
  ]

  -- a valid script is run to its end, where there is a plan to run
  pub valid_of_sheet : HasPlan sheet → IsValidRun sheet text → (report : List ℕ) × RunsSheet sheet text statuses.Done report
  valid_of_sheet has v =
      let run = laws.valid sheet.table has.0 text sound.rules (plan_runs sheet sound has.0 has.1) (valid_alike laws.alike sheet.table v.plan has.0 (same_seen laws.alike sheet v.plan has.0 v.seen (has.1).seen) text v.valid) in
      (run.0, record { plan = has.0; is = has.1; runs = run.1 })
