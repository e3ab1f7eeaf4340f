-- What a demonstration with so many packets comes to.
use Rattle.std.specs.Prelude.{◌≡◌, ℕ, List, [], ◌∷◌, Some, None, Ok}
use Rattle.eds_host.specs.Systems.{World}
use Rattle.eds_host.specs.declared.wiring.Tie.{Tie}
use Rattle.eds_plan.specs.Outs.{Report}
use Rattle.eds_plan.specs.declared.component.ComponentPlan.{ComponentPlan}
use Rattle.eds_script.specs.Scripts.{Plot, script_of}
use Rattle.eds_sheet.specs.Compiled.{SeenSheet, compiled}
use Rattle.eds_sheet.specs.Firsts.{Firsts}
use Rattle.eds_types.specs.Rows.{Table}
use Rattle.eds_cmd.specs.declared.status.Status.{Status}
use Rattle.eds_cmd.specs.declared.status.Status.TheVariants as statuses
use Rattle.eds_cmd.specs.declared.tally.Tally.{Tally}
use Rattle.eds_cmd.specs.Demo.{demo_script, demo_sheet}
use Rattle.eds_cmd.specs.Reports.{demo_line}
use Rattle.eds_cmd.specs.Run.{IsPlanOf, Runs, all_events, wired}
use Rattle.eds_cmd.specs.Tally.{Counts}

-- the text is a script, and running it over components counts so much and ends at this time
pub record RunsTo (t : Table) (plan : List ComponentPlan) (text : List ℕ) (tally : Tally) (end : ℕ) : Type 0 where
  pub plot : Plot
  pub good : script_of t plan text ≡ Ok plot
  pub ties : List Tie
  pub tied : wired plan plot ≡ Ok ties
  pub outs : List (List Report)
  pub world : World
  pub runs : Runs t plan ties plot.lines outs (Some world)
  pub counted : Counts (all_events outs) tally
  pub end_is : end ≡ world.now

-- The sheet of so many packets is compiled, and its script is run over its components to its end; the line tells what the sheet
-- declares, what is sent and refused, and when the run ends.
pub record IsDemonstrated (firsts : Firsts) (n : ℕ) (status : Status) (report : List ℕ) : Type 0 where
  pub sheet : SeenSheet
  pub sheet_is : compiled firsts (demo_sheet n ∷ []) None ≡ Ok sheet
  pub plan : List ComponentPlan
  pub is : IsPlanOf sheet plan
  pub tally : Tally
  pub end : ℕ
  pub runs : RunsTo sheet.table plan (demo_script n) tally end
  pub status_is : status ≡ statuses.Done
  pub report_is : report ≡ demo_line n sheet.counts tally end
