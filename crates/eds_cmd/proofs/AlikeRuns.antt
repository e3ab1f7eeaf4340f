-- Running a script comes to the same over plans that are seen alike.
use Rattle.std.proofs.Common.{◌≡◌, ◌++◌, ◌∙◌, ℕ, List, [], ◌∷◌, map, Option, Some, None, Result, Ok, Err, inl, inr, refl, sym, ap, ap₂, subst}
use Rattle.eds_host.specs.Alike.{AlikeRuns, AlikeSystems, AlikeWires}
use Rattle.eds_host.specs.Plans.{system}
use Rattle.eds_host.specs.Runs.{RunGoes, unbegun}
use Rattle.eds_host.specs.Hosts.{reading}
use Rattle.eds_plan.specs.States.{StateNow}
use Rattle.eds_host.specs.Systems.{World}
use Rattle.eds_host.specs.Wires.{other_end}
use Rattle.eds_host.specs.declared.wiring.HostFail.{HostFail}
use Rattle.eds_host.specs.declared.wiring.Tie.{Tie}
use Rattle.eds_plan.specs.Alike.{AreAlike, seen_component}
use Rattle.eds_plan.specs.Lines.{Told}
use Rattle.eds_plan.specs.Outs.{Report}
use Rattle.eds_plan.specs.declared.component.ComponentPlan.{ComponentPlan}
use Rattle.eds_plan.proofs.Alike.{firsts_alike, others_alike}
use Rattle.eds_read_comp.specs.Laws.{SeenPlansAreAlike}
use Rattle.eds_script.specs.Alike.{AlikeEvents, AlikeScripts, AlikeStates}
use Rattle.eds_script.specs.Scripts.{Plot, script_of}
use Rattle.eds_script.specs.declared.why.BadLine.{BadLine}
use Rattle.eds_types.specs.Rows.{Table}
use Rattle.eds_cmd.specs.declared.status.Status.{Status}
use Rattle.eds_cmd.specs.Reports.{end_line}
use Rattle.eds_cmd.specs.Run.{AreEventLines, IsValidScript, Runs, RunsOver, RunsPlot, RunsScript, all_events, end_text, states_text, wired}
use Rattle.eds_cmd.specs.Demonstrated.{RunsTo}
use Rattle.eds_cmd.specs.Running.{happenings}
use Rattle.eds_cmd.specs.declared.tally.Tally.{Tally}

-- plans of which a sheet says the same are seen alike, and such plans run and are told alike
pub record AlikeLaws : Type 0 where
  pub seen : SeenPlansAreAlike
  pub systems : AlikeSystems
  pub wires : AlikeWires
  pub runs : AlikeRuns
  pub scripts : AlikeScripts
  pub events : AlikeEvents
  pub states : AlikeStates

module _ (laws : AlikeLaws) (t : Table) (p q : List ComponentPlan) (alike : AreAlike p q) where
  -- ---- what lines come to

  pub runs_alike : (ties : List Tie) (lines : List (ℕ × Told)) (outs : List (List Report)) (end : Option World) → Runs t p ties lines outs end → Runs t q ties lines outs end
  runs_alike ties lines outs end r =
      let same : unbegun (system t p (other_end ties)) ≡ unbegun (system t q (other_end ties)) = ap unbegun (laws.systems t p q alike (other_end ties)) in
      subst (λ w. RunGoes (system t q (other_end ties)) (reading t q) (happenings lines) w outs end) same
      (laws.runs t p q alike (other_end ties) (happenings lines) (unbegun (system t p (other_end ties))) outs end r)

  lines_alike : (rs : List Report) (text : List ℕ) → AreEventLines t p rs text → AreEventLines t q rs text
  lines_alike [] text h = h
  lines_alike (r ∷ rs) text h = (h.0, h.1, laws.events t p q alike r h.0 h.2, lines_alike rs h.1 h.3, h.4)

  -- ---- where components stand

  states_alike : (cs ds : List ComponentPlan) → map seen_component cs ≡ map seen_component ds → (states : List StateNow) → states_text t cs states ≡ states_text t ds states
  states_alike [] [] same states = refl
  states_alike [] (d ∷ ds) same states = absurd cc
  states_alike (c ∷ cs) [] same states = absurd cc
  states_alike (c ∷ cs) (d ∷ ds) same [] = refl
  states_alike (c ∷ cs) (d ∷ ds) same (s ∷ states) =
      ap₂ (λ a b. a ++ b)
      (laws.states t c d (firsts_alike seen_component c d cs ds same) s.machines s.variables s.outstanding)
      (states_alike cs ds (others_alike seen_component c d cs ds same) states)

  end_alike : (w : World) → end_text t p w ≡ end_text t q w
  end_alike w = ap (λ x. end_line w.now ++ x) (states_alike p q alike w.states)

  -- ---- scripts

  over_alike : (ties : Result (List Tie) HostFail) (lines : List (ℕ × Told)) (status : Status) (report : List ℕ) → RunsOver t p ties lines status report → RunsOver t q ties lines status report
  over_alike (Ok ties) lines status report (inl r) = inl (record {
    outs = r.outs;
    world = r.world;
    runs = runs_alike ties lines r.outs (Some r.world) r.runs;
    events = r.events;
    told = lines_alike (all_events r.outs) r.events r.told;
    status_is = r.status_is;
    report_is = r.report_is ∙ ap (λ x. r.events ++ x) (end_alike r.world);
  })
  over_alike (Ok ties) lines status report (inr s) = inr (record {
    outs = s.outs;
    runs = runs_alike ties lines s.outs None s.runs;
    events = s.events;
    told = lines_alike (all_events s.outs) s.events s.told;
    stop = s.stop;
  })
  over_alike (Err fail) lines status report s = s

  plot_alike : (plot : Result Plot BadLine) (status : Status) (report : List ℕ) → RunsPlot t p plot status report → RunsPlot t q plot status report
  plot_alike (Ok plot) status report r =
      subst (λ ties. RunsOver t q ties plot.lines status report) (laws.wires p q alike plot.wires) (over_alike (wired p plot) plot.lines status report r)
  plot_alike (Err bad) status report s = s

  pub scripts_alike : (text : List ℕ) (status : Status) (report : List ℕ) → RunsScript t p text status report → RunsScript t q text status report
  scripts_alike text status report r =
      subst (λ plot. RunsPlot t q plot status report) (laws.scripts t p q alike text) (plot_alike (script_of t p text) status report r)

  unfoldable pub valid_alike : (text : List ℕ) → IsValidScript t p text → IsValidScript t q text
  valid_alike text v = record {
    plot = v.plot;
    good = sym (laws.scripts t p q alike text) ∙ v.good;
    ties = v.ties;
    tied = sym (laws.wires p q alike v.plot.wires) ∙ v.tied;
    outs = v.outs;
    world = v.world;
    calm = runs_alike v.ties v.plot.lines v.outs (Some v.world) v.calm;
  }

  -- so much is counted in it
  pub counted_alike : (text : List ℕ) (tally : Tally) (time : ℕ) → RunsTo t p text tally time → RunsTo t q text tally time
  counted_alike text tally time r = record {
    plot = r.plot;
    good = sym (laws.scripts t p q alike text) ∙ r.good;
    ties = r.ties;
    tied = sym (laws.wires p q alike r.plot.wires) ∙ r.tied;
    outs = r.outs;
    world = r.world;
    runs = runs_alike r.ties r.plot.lines r.outs (Some r.world) r.runs;
    counted = r.counted;
    end_is = r.end_is;
  }
