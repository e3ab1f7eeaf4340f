-- The script that a text stands for, or its first bad line.
use Rattle.std.specs.Prelude.{ℕ, List, [], ◌∷◌, ◌++◌, Bool, false, Result, Ok, Err}
use Rattle.eds_base.specs.Answering.{◌>>=◌}
use Rattle.eds_types.specs.Rows.{Table}
use Rattle.eds_plan.specs.declared.component.ComponentPlan.{ComponentPlan}
use Rattle.eds_plan.specs.declared.run.Wire.{Wire}
use Rattle.eds_plan.specs.Lines.{Told, starts, passes}
use Rattle.eds_script.specs.declared.why.BadLine.{BadLine}
use Rattle.eds_script.specs.declared.why.LineWhy.{LineWhy}
use Rattle.eds_script.specs.Lines.{Numbered, script_lines}
use Rattle.eds_script.specs.Meaning.{Meaning, wire, tick, comes, meaning_from, wired_in}

-- a script as plain data: its wires, and what its lines have happen, each with the number of its line
pub record Plot : Type 0 where
  pub wires : List Wire
  pub lines : List (ℕ × Told)

-- ---- from the meanings of lines

-- the wires that lines mean, each with its line's number, in their order
abbrev pub wires_of : List (ℕ × Meaning) → List Wire
wires_of [] = []
wires_of ((n, wire lower upper) ∷ ms) = record { line = n; lower = lower; upper = upper } ∷ wires_of ms
wires_of ((n, tick k) ∷ ms) = wires_of ms
wires_of ((n, comes x) ∷ ms) = wires_of ms

-- what lines have happen that are no wires, each with its line's number, in their order
abbrev pub happenings_of : List (ℕ × Meaning) → List (ℕ × Told)
happenings_of [] = []
happenings_of ((n, wire lower upper) ∷ ms) = happenings_of ms
happenings_of ((n, tick k) ∷ ms) = (n, passes k) ∷ happenings_of ms
happenings_of ((n, comes x) ∷ ms) = (n, x) ∷ happenings_of ms

-- the start of all components stands first, as line 0
abbrev pub plot_of : List (ℕ × Meaning) → Plot
plot_of ms = record { wires = wires_of ms; lines = (0, starts) ∷ happenings_of ms }

-- a script with what meanings add to it
abbrev pub with_meanings : Plot → List (ℕ × Meaning) → Plot
with_meanings p ms = record { wires = p.wires ++ wires_of ms; lines = p.lines ++ happenings_of ms }

-- ---- from lines

-- what is found in a line, or why nothing is, with the line's number
abbrev pub at_line : {A : Type 0} → ℕ → Result A LineWhy → Result A BadLine
at_line n (Ok x) = Ok x
at_line n (Err w) = Err (record { line = n; why = w })

module _ (t : Table) (plan : List ComponentPlan) (wired : List ℕ → Bool) where
  -- the meanings of lines that go on from a time, each behind those before it, or the first of them that has none; a wire is
  -- too late before all of them or not
  abbrev pub meanings_from : (late : Bool) → (time : ℕ) → (before : List (List ℕ)) → List Numbered → Result (List (ℕ × Meaning)) BadLine
  meanings_from late time before [] = Ok []
  meanings_from late time before (line ∷ lines) = do
    m ← at_line line.0 (meaning_from t plan wired late time before line.1)
    ms ← meanings_from late time (before ++ line.1 ∷ []) lines
    Ok ((line.0, m) ∷ ms)

  -- the meanings of lines that begin a script
  abbrev pub meanings : (before : List (List ℕ)) → List Numbered → Result (List (ℕ × Meaning)) BadLine
  meanings before lines = meanings_from false 0 before lines

  -- a script with what lines mean that go on behind it, or the first of them that means nothing, and why
  abbrev pub plot_from : (late : Bool) → (time : ℕ) → Plot → List Numbered → Result Plot BadLine
  plot_from late time p lines = meanings_from late time [] lines >>= λ ms. Ok (with_meanings p ms)

  -- the script that lines stand for, or the first of them that means nothing, and why
  abbrev pub plot_by : List Numbered → Result Plot BadLine
  plot_by lines = meanings [] lines >>= λ ms. Ok (plot_of ms)

-- the script that lines stand for, or the first bad one, where the ends in their own wires are the wired ones
abbrev pub plot_in : Table → List ComponentPlan → List Numbered → Result Plot BadLine
plot_in t plan lines = plot_by t plan (wired_in lines) lines

-- the script that a text stands for, or its first line that means nothing, and why
abbrev pub script_of : Table → List ComponentPlan → List ℕ → Result Plot BadLine
script_of t plan octets = plot_in t plan (script_lines octets)
