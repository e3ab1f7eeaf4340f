-- Laws of sessions and their comparison.
use Rattle.std.specs.Prelude.{◌≡◌, ℕ, ◌==◌, Bool, true, not, List, Ok, ◌⊎◌}
use Rattle.std.specs.List.{AllByRecursion, filter, list_any}
use Rattle.eds_types.specs.Rows.{Table}
use Rattle.eds_types.specs.Rules.{KeepsRules}
use Rattle.eds_script.specs.Known.{KnowsTypes}
use Rattle.eds_script.specs.Scripts.{Plot, script_of}
use Rattle.eds_plan.specs.Lines.{Told}
use Rattle.eds_plan.specs.Outs.{Report}
use Rattle.eds_plan.specs.declared.component.ComponentPlan.{ComponentPlan}
use Rattle.eds_replay.specs.declared.differs.Differs.{Differs}
use Rattle.eds_replay.specs.declared.session.Recorded.{Recorded}
use Rattle.eds_replay.specs.Agreement.{ArgumentsAreClear, IsEventText}
use Rattle.eds_replay.specs.Differences.{AllAgree, IsFirstDifference}
use Rattle.eds_script.specs.Lines.{Numbered, script_lines}
use Rattle.eds_replay.specs.Sessions.{is_recording, recordings, script_in}
use Rattle.eds_replay.specs.Shown.{IsShown, shown}

-- octets show the text that is read from the left
abbrev pub ShownIsExact : Type 0
ShownIsExact = (octets : List ℕ) → IsShown octets (shown octets)

-- the lines of a session's script are those of the session that are no recordings, each with its number
abbrev pub LinesStay : Type 0
LinesStay = (octets : List ℕ) → script_lines (script_in octets) ≡ filter (λ (l : Numbered). not (is_recording l.1)) (script_lines octets)

-- where all recordings agree, there is no first difference
abbrev pub AgreeOrDiffer : Type 0
AgreeOrDiffer = (t : Table) (plan : List ComponentPlan) (owner n : ℕ) (xs : List Recorded) (rs : List Report) (d : Differs) → AllAgree t plan xs rs n → IsFirstDifference t plan owner xs rs d → ⊥

-- what left a run has a text
abbrev pub HasText : Table → List ComponentPlan → Report → Type 0
HasText t plan r = (text : List ℕ) × IsEventText t plan r text

-- all recordings agree with what left a run, whose texts are there, or there is a first difference
abbrev pub SomeOutcome : Type 0
SomeOutcome = (t : Table) (plan : List ComponentPlan) (owner : ℕ) (xs : List Recorded) (rs : List Report) → KeepsRules t → KnowsTypes t plan → ArgumentsAreClear t plan → AllByRecursion (HasText t plan) rs
    → ((n : ℕ) × AllAgree t plan xs rs n) ⊎ ((d : Differs) × IsFirstDifference t plan owner xs rs d)

-- there is one first difference at most, and one number of recordings that are spelled otherwise
pub record HasOneOutcome (t : Table) (plan : List ComponentPlan) (owner : ℕ) (xs : List Recorded) (rs : List Report) : Type 0 where
  pub one_count : (n k : ℕ) → AllAgree t plan xs rs n → AllAgree t plan xs rs k → n ≡ k
  pub one_difference : (d e : Differs) → IsFirstDifference t plan owner xs rs d → IsFirstDifference t plan owner xs rs e → d ≡ e

abbrev pub OneOutcome : Type 0
OneOutcome = (t : Table) (plan : List ComponentPlan) (owner : ℕ) (xs : List Recorded) (rs : List Report) → KeepsRules t → KnowsTypes t plan → HasOneOutcome t plan owner xs rs

-- the number is that of one of the lines
abbrev pub is_number_in : List (ℕ × Told) → ℕ → Bool
is_number_in lines n = list_any (λ (l : ℕ × Told). l.0 == n) lines

-- Where the script of a session means something, each recording belongs to one of its lines that happen: to the start, which is
-- line 0, or to another line that is no wire line.
abbrev pub NoneForgotten : Type 0
NoneForgotten = (t : Table) (plan : List ComponentPlan) (octets : List ℕ) (p : Plot) → script_of t plan (script_in octets) ≡ Ok p
    → AllByRecursion (λ (r : Recorded). is_number_in p.lines r.owner ≡ true) (recordings octets)
