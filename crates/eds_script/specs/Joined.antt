-- Texts of scripts that are joined: what the second one has happen is what it has happen where it goes on from the first.
use Rattle.std.specs.Prelude.{◌≡◌, ℕ, suc, ◌+◌, List, [], ◌∷◌, ◌++◌, map, Bool, true, false, if◌then◌else◌, Result, Ok, Err}
use Rattle.std.specs.List.{AllByRecursion}
use Rattle.eds_types.specs.Rows.{Table}
use Rattle.eds_types.specs.Rules.{KeepsRules}
use Rattle.eds_plan.specs.Lines.{Told}
use Rattle.eds_plan.specs.declared.component.ComponentPlan.{ComponentPlan}
use Rattle.eds_plan.specs.declared.run.Wire.{Wire}
use Rattle.eds_script.specs.declared.why.BadLine.{BadLine}
use Rattle.eds_script.specs.Handing.{MayAllHappen, passed}
use Rattle.eds_script.specs.Known.{KnowsTypes}
use Rattle.eds_script.specs.Lines.{Numbered, is_feed, script_lines}
use Rattle.eds_script.specs.Meaning.{begun, is_tie, line_says, meaning, time_of}
use Rattle.eds_script.specs.More.{more_of}
use Rattle.eds_script.specs.Scripts.{Plot, script_of}
use Rattle.eds_script.specs.Words.{form}

-- a text that is empty or ends with a line feed
abbrev pub EndsLines : List ℕ → Type 0
EndsLines [] = Unit {0}
EndsLines (c ∷ []) = is_feed c ≡ true
EndsLines (c ∷ d ∷ cs) = EndsLines (d ∷ cs)

-- how many line feeds a text has
abbrev pub feeds : List ℕ → ℕ
feeds [] = 0
feeds (c ∷ cs) = if is_feed c then suc (feeds cs) else feeds cs

-- no line of it ties ends
abbrev pub HasNoWires : List ℕ → Type 0
HasNoWires text = AllByRecursion (λ (l : Numbered). is_tie (form l.1) ≡ false) (script_lines text)

-- the time to which lines lead
abbrev pub time_told : List (ℕ × Told) → ℕ
time_told [] = 0
time_told (l ∷ ls) = passed l.1 + time_told ls

-- what a line has happen, with a number that is larger by so much
abbrev pub shifted : ℕ → ℕ × Told → ℕ × Told
shifted n l = (n + l.0, l.1)

-- a script with what goes on from it, whose lines have numbers that are larger by so much; or the first bad line of that
abbrev pub joined_with : ℕ → Plot → Result Plot BadLine → Result Plot BadLine
joined_with n p (Ok q) = Ok (record { wires = p.wires; lines = p.lines ++ map (shifted n) q.lines })
joined_with n p (Err b) = Err (record { line = n + b.line; why = b.why })

-- Where the first text is a script and empty or ended by a line feed, and no line of the second one ties ends: the joined text
-- is the script of the first and what the second one has happen that goes on from its end behind its wires.
abbrev pub TextsJoin : Type 0
TextsJoin = (t : Table) (plan : List ComponentPlan) (s u : List ℕ) (p : Plot) → KeepsRules t → KnowsTypes t plan → EndsLines s → HasNoWires u → script_of t plan s ≡ Ok p →
    script_of t plan (s ++ u) ≡ joined_with (feeds s) p (more_of t plan p.wires (time_told p.lines) u)

-- What a text has happen that goes on behind wires fits the plan, keeps away from the ends of these wires and stays within the
-- time; and it has no wires of its own.
abbrev pub MoreMayHappen : Type 0
MoreMayHappen = (t : Table) (plan : List ComponentPlan) (wires : List Wire) (now : ℕ) (octets : List ℕ) (q : Plot) → KeepsRules t → KnowsTypes t plan → more_of t plan wires now octets ≡ Ok q →
    (q.wires ≡ []) × MayAllHappen t plan wires now q.lines

-- What a line means behind the lines that begin a script: it comes at their time, and a wire is too late where one of them is
-- no wire.
abbrev pub LinesBegin : Type 0
LinesBegin = (t : Table) (plan : List ComponentPlan) (wired : List ℕ → Bool) (before : List (List ℕ)) (line : List ℕ) → meaning t plan wired before line ≡ line_says t plan wired (begun before) (time_of before) line
