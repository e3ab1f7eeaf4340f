-- A script goes somewhere, its lines come in the order of their numbers, and replaying a session comes to one thing.
use Rattle.std.specs.Prelude.{◌≡◌, ℕ, List, Option, None, Ok, ◌⊎◌}
use Rattle.eds_host.specs.Systems.{World}
use Rattle.eds_host.specs.declared.wiring.Tie.{Tie}
use Rattle.eds_plan.specs.Outs.{Report}
use Rattle.eds_plan.specs.declared.component.ComponentPlan.{ComponentPlan}
use Rattle.eds_script.specs.Scripts.{Plot, script_of}
use Rattle.eds_types.specs.Rows.{Table}
use Rattle.eds_types.specs.Rules.{KeepsRules}
use Rattle.eds_cmd.specs.declared.status.Status.{Status}
use Rattle.eds_cmd.specs.declared.status.Status.TheVariants.{Done}
use Rattle.eds_cmd.specs.declared.stop.Stop.{Stop}
use Rattle.eds_cmd.specs.Replay.{IsValidSession, Replays}
use Rattle.eds_cmd.specs.Replaying.{AreLater}
use Rattle.eds_cmd.specs.Run.{IsRunnable, Runs, wired}
use Rattle.eds_cmd.specs.Stops.{status_of}

-- ---- scripts

-- the numbers of a script's lines rise
abbrev pub NumbersRise : Type 0
NumbersRise = (t : Table) (plan : List ComponentPlan) (text : List ℕ) (p : Plot) → script_of t plan text ≡ Ok p → AreLater None p.lines

-- the lines of a script make something of components that haven't started, over the wires that they ask for
abbrev pub ScriptsGo : Type 0
ScriptsGo = (t : Table) (plan : List ComponentPlan) (text : List ℕ) (p : Plot) (ties : List Tie) → KeepsRules t → IsRunnable t plan → script_of t plan text ≡ Ok p → wired plan p ≡ Ok ties
    → (outs : List (List Report)) × (end : Option World) × Runs t plan ties p.lines outs end

-- ---- replays, over a plan that fits

-- replaying the text of a session comes to a report of what is done, or to a stop
abbrev pub SomeReplay : Type 0
SomeReplay = (t : Table) (plan : List ComponentPlan) (session : List ℕ) → KeepsRules t → IsRunnable t plan
    → ((report : List ℕ) × Replays t plan session Done report) ⊎ ((stop : Stop) × Replays t plan session (status_of stop.cause) stop.report)

-- and to nothing else
abbrev pub OneReplay : Type 0
OneReplay = (t : Table) (plan : List ComponentPlan) (session : List ℕ) (status other : Status) (report line : List ℕ) → KeepsRules t → IsRunnable t plan
    → Replays t plan session status report → Replays t plan session other line → (status ≡ other) × (report ≡ line)

-- a session is replayed to its end exactly where it is valid
abbrev pub ValidSessionsReplay : Type 0
ValidSessionsReplay = (t : Table) (plan : List ComponentPlan) (session : List ℕ) → IsValidSession t plan session → (report : List ℕ) × Replays t plan session Done report

abbrev pub OnlyValidSessionsReplay : Type 0
OnlyValidSessionsReplay = (t : Table) (plan : List ComponentPlan) (session report : List ℕ) → Replays t plan session Done report → IsValidSession t plan session
