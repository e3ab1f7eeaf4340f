-- A demonstration comes to one thing.
use Rattle.std.proofs.Common.{◌≡◌, ◌∙◌, ℕ, List, [], ◌∷◌, Some, None, Result, Ok, sym, ap, ap₂, subst}
use Rattle.eds_base.specs.declared.refusal.Refusal.{Refusal}
use Rattle.eds_host.specs.Hosts.{RunsHaveOneOutcome}
use Rattle.eds_host.specs.Plans.{system}
use Rattle.eds_host.specs.Runs.{unbegun}
use Rattle.eds_host.specs.Wires.{other_end}
use Rattle.eds_host.specs.declared.wiring.HostFail.{HostFail}
use Rattle.eds_host.specs.declared.wiring.Tie.{Tie}
use Rattle.eds_plan.specs.Alike.{AreAlike}
use Rattle.eds_plan.specs.Outs.{Report}
use Rattle.eds_plan.specs.declared.component.ComponentPlan.{ComponentPlan}
use Rattle.eds_script.specs.Scripts.{Plot}
use Rattle.eds_script.specs.declared.why.BadLine.{BadLine}
use Rattle.eds_sheet.specs.Compiled.{SeenSheet}
use Rattle.eds_sheet.specs.Firsts.{Firsts}
use Rattle.eds_sheet.specs.Laws.{IsSound, SheetsAreSound}
use Rattle.eds_types.specs.Rows.{Table}
use Rattle.eds_types.specs.Rules.{KeepsRules}
use Rattle.eds_cmd.specs.declared.status.Status.{Status}
use Rattle.eds_cmd.specs.declared.tally.Tally.{Tally}
use Rattle.eds_cmd.specs.Demo.{demo_script, demo_sheet}
use Rattle.eds_cmd.specs.Demonstrated.{IsDemonstrated, RunsTo}
use Rattle.eds_cmd.specs.Reports.{demo_line}
use Rattle.eds_cmd.specs.Run.{IsPlanOf, IsRunnable, Runs, all_events, wired}
use Rattle.eds_cmd.specs.Running.{happenings}
use Rattle.eds_cmd.specs.Tally.{Counts}
use Rattle.eds_cmd.proofs.AlikeRuns.{counted_alike}
use Rattle.eds_cmd.proofs.SheetRuns.{ScriptLaws, plan_runs}

-- what is there is the same where it is the same answer
one_plot : (p q : Plot) (r : Result Plot BadLine) → r ≡ Ok p → r ≡ Ok q → p ≡ q
one_plot p q r a b = cc (a, b)

one_ties : (p q : List Tie) (r : Result (List Tie) HostFail) → r ≡ Ok p → r ≡ Ok q → p ≡ q
one_ties p q r a b = cc (a, b)

one_sheet : (p q : SeenSheet) (r : Result SeenSheet Refusal) → r ≡ Ok p → r ≡ Ok q → p ≡ q
one_sheet p q r a b = cc (a, b)

-- the same events are counted alike
one_tally : (rs qs : List Report) (x y : Tally) → rs ≡ qs → Counts rs x → Counts qs y → x ≡ y
one_tally rs qs x y e a b =
    let same : Counts qs x = subst (λ os. Counts os x) e a in
    ap₂ (λ s r. record { sent = s; rejects = r }) (same.sent ∙ sym b.sent) (same.rejects ∙ sym b.rejects)

one_count : RunsHaveOneOutcome → (t : Table) (plan : List ComponentPlan) → KeepsRules t → IsRunnable t plan → (text : List ℕ) (x y : Tally) (m n : ℕ) → RunsTo t plan text x m → RunsTo t plan text y n → (x ≡ y) × (m ≡ n)
one_count outcome t plan rules run text x y m n a b =
    let plot : a.plot ≡ b.plot = one_plot a.plot b.plot _ a.good b.good in
    let ties : a.ties ≡ b.ties = one_ties a.ties b.ties _ a.tied (ap (wired plan) plot ∙ b.tied) in
    let one : Runs t plan a.ties b.plot.lines a.outs (Some a.world) = subst (λ (p : Plot). Runs t plan a.ties p.lines a.outs (Some a.world)) plot a.runs in
    let two : Runs t plan b.ties b.plot.lines a.outs (Some a.world) = subst (λ ts. Runs t plan ts b.plot.lines a.outs (Some a.world)) ties one in
    let same = outcome t plan (other_end b.ties) (happenings b.plot.lines) (unbegun (system t plan (other_end b.ties))) a.outs b.outs (Some a.world) (Some b.world) rules run.fits run.clear two b.runs in
    let world : a.world ≡ b.world = let e = same.1 in cc in
    (one_tally (all_events a.outs) (all_events b.outs) x y (ap all_events same.0) a.counted b.counted, a.end_is ∙ ap (λ w. w.now) world ∙ sym b.end_is)

pub one_demonstration : ScriptLaws → SheetsAreSound → (firsts : Firsts) (n : ℕ) (s o : Status) (r l : List ℕ) → IsDemonstrated firsts n s r → IsDemonstrated firsts n o l → (s ≡ o) × (r ≡ l)
one_demonstration laws sound firsts n s o r l a b =
    let sheet : a.sheet ≡ b.sheet = one_sheet a.sheet b.sheet _ a.sheet_is b.sheet_is in
    let keeps : IsSound None b.sheet = sound firsts (demo_sheet n ∷ []) None b.sheet b.sheet_is in
    let is : IsPlanOf b.sheet a.plan = subst (λ (x : SeenSheet). IsPlanOf x a.plan) sheet a.is in
    let runs : RunsTo b.sheet.table a.plan (demo_script n) a.tally a.end = subst (λ (x : SeenSheet). RunsTo x.table a.plan (demo_script n) a.tally a.end) sheet a.runs in
    let alike : AreAlike a.plan b.plan = laws.alike.seen a.plan b.plan (is.seen ∙ sym b.is.seen) in
    let both = one_count laws.outcome b.sheet.table b.plan keeps.rules (plan_runs b.sheet keeps b.plan b.is) (demo_script n) a.tally b.tally a.end b.end (counted_alike laws.alike b.sheet.table a.plan b.plan alike (demo_script n) a.tally a.end runs) b.runs in (
      a.status_is ∙ sym b.status_is,
      a.report_is ∙ ap (λ (x : SeenSheet). demo_line n x.counts a.tally a.end) sheet ∙ ap (λ t. demo_line n b.sheet.counts t a.end) both.0 ∙ ap (λ e. demo_line n b.sheet.counts b.tally e) both.1 ∙ sym b.report_is,
    )
