-- When a recording agrees with what left a run.
use Rattle.std.specs.Prelude.{◌≡◌, ℕ, List, ◌++◌, codes, Some, ◌⊎◌}
use Rattle.eds_types.specs.Overlap.{IsClear}
use Rattle.eds_types.specs.Rows.{Table}
use Rattle.eds_plan.specs.Arguments.{OnAllArguments}
use Rattle.eds_plan.specs.Outs.{Report}
use Rattle.eds_plan.specs.declared.component.ComponentPlan.{ComponentPlan}
use Rattle.eds_script.specs.Events.{IsEventLine}
use Rattle.eds_script.specs.Frames.{Framed, frame_in}
use Rattle.eds_replay.specs.Frames.{Respells}

-- the text of what left a run is its line without the line feed
abbrev pub IsEventText : Table → List ComponentPlan → Report → List ℕ → Type 0
IsEventText t plan r text = IsEventLine t plan r (text ++ codes "\n")

-- what left a run is a frame, and the text is that of a frame with the same time, end and command, whose octets spell the same value
abbrev pub IsRespelled : Table → List ComponentPlan → Report → (text : List ℕ) → Type 0
IsRespelled t plan r text = (f : Framed) × (frame_in plan r ≡ Some f) × Respells t f text

-- a recording agrees with what left a run, letter by letter or else spelled otherwise: so many times otherwise
abbrev pub Agrees : Table → List ComponentPlan → (text : List ℕ) → Report → (otherwise : ℕ) → Type 0
Agrees t plan text r n = (IsEventText t plan r text × (n ≡ 0)) ⊎ ((IsEventText t plan r text → ⊥) × IsRespelled t plan r text × (n ≡ 1))

-- no two containers overlap under the type of any argument of a command
abbrev pub ArgumentsAreClear : Table → List ComponentPlan → Type 0
ArgumentsAreClear t plan = OnAllArguments (IsClear t) plan
