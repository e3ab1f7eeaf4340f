-- What a line means, or why it means nothing: of the reasons that hold of it the first in the order in which they are
-- judged.
use Rattle.std.specs.Prelude.{ℕ, ◌+◌, ◌||◌, not, List, [], ◌∷◌, Bool, true, false, Option, Some, None, Result, Ok, Err, if◌then◌else◌, sum_by}
use Rattle.std.specs.List.{flat_map, list_any}
use Rattle.eds_base.specs.Answering.{◌>>=◌}
use Rattle.eds_base.specs.Reading.{same}
use Rattle.eds_types.specs.Rows.{Table}
use Rattle.eds_plan.specs.declared.component.ComponentPlan.{ComponentPlan}
use Rattle.eds_plan.specs.Lines.{Told}
use Rattle.eds_script.specs.declared.why.LineWhy.{LineWhy}
use Rattle.eds_script.specs.declared.why.LineWhy.TheVariants as why
use Rattle.eds_script.specs.Arrivals.{arrival_told}
use Rattle.eds_script.specs.Lines.{Numbered}
use Rattle.eds_script.specs.Numbers.{number_of, tick_of}
use Rattle.eds_script.specs.Words.{Saying, ties, ticks, arrives, form}

-- a wire between two ends, so many nanoseconds that pass, or what arrives at an end
pub data Meaning : Type 0 where
  wire : (lower upper : List ℕ) → Meaning
  tick : ℕ → Meaning
  comes : Told → Meaning

-- a line means a wire
abbrev pub is_wire : Meaning → Bool
is_wire (wire lower upper) = true
is_wire (tick n) = false
is_wire (comes x) = false

-- how much time goes on by it
abbrev pub ticks_by : Meaning → ℕ
ticks_by (wire lower upper) = 0
ticks_by (tick n) = n
ticks_by (comes x) = 0

-- ---- what a line says, behind others

-- whether the line is a wire line
abbrev pub is_tie : Result Saying LineWhy → Bool
is_tie (Ok (ties lower upper)) = true
is_tie (Ok (ticks number)) = false
is_tie (Ok (arrives verb end name rest)) = false
is_tie (Err w) = false

-- a number, or 0 where there is none
abbrev pub or_zero : Option ℕ → ℕ
or_zero None = 0
or_zero (Some n) = n

-- how much time goes on by a line
abbrev pub ticks_of : Result Saying LineWhy → ℕ
ticks_of (Ok (ties lower upper)) = 0
ticks_of (Ok (ticks number)) = or_zero (number_of number)
ticks_of (Ok (arrives verb end name rest)) = 0
ticks_of (Err w) = 0

-- whether another line than a wire line is among lines
abbrev pub begun : List (List ℕ) → Bool
begun before = list_any (λ line. not (is_tie (form line))) before

-- how much time goes on by lines
abbrev pub time_of : List (List ℕ) → ℕ
time_of before = sum_by (λ line. ticks_of (form line)) before

-- the texts of the ends that stand in a wire line
abbrev pub tied : Result Saying LineWhy → List (List ℕ)
tied (Ok (ties lower upper)) = lower ∷ upper ∷ []
tied (Ok (ticks number)) = []
tied (Ok (arrives verb end name rest)) = []
tied (Err w) = []

-- whether an end stands in a wire line, wherever that stands
abbrev pub wired_in : List Numbered → List ℕ → Bool
wired_in lines end = list_any (same end) (flat_map (λ line. tied (form line.1)) lines)

-- the tick that a text spells, after so much time, or why it spells none
abbrev pub tick_meaning : (time : ℕ) → (number : List ℕ) → Result Meaning LineWhy
tick_meaning time number = tick_of time number >>= λ n. Ok (tick n)

-- a wire between two ends, which is too late behind another line than a wire line
abbrev pub tie_meaning : (late : Bool) → (lower upper : List ℕ) → Result Meaning LineWhy
tie_meaning late lower upper = if late then Err why.Late else Ok (wire lower upper)

module _ (t : Table) (plan : List ComponentPlan) (wired : List ℕ → Bool) where
  -- what a line means that says this, after so much time, and after another line than a wire line or after none
  abbrev pub saying_meaning : (late : Bool) → (time : ℕ) → Saying → Result Meaning LineWhy
  saying_meaning late time (ties lower upper) = tie_meaning late lower upper
  saying_meaning late time (ticks number) = tick_meaning time number
  saying_meaning late time (arrives verb end name rest) = arrival_told t plan wired verb end name rest >>= λ x. Ok (comes x)

  -- what a line means after so much time, and after another line than a wire line or after none
  abbrev pub line_says : (late : Bool) → (time : ℕ) → (line : List ℕ) → Result Meaning LineWhy
  line_says late time line = form line >>= λ s. saying_meaning late time s

  -- what a line means behind the lines before it, which go on from a time, where a wire is too late before all of them or not
  abbrev pub meaning_from : (late : Bool) → (time : ℕ) → (before : List (List ℕ)) → (line : List ℕ) → Result Meaning LineWhy
  meaning_from late time before line = line_says (late || begun before) (time + time_of before) line

  -- what a line means behind the lines before it, which begin a script
  abbrev pub meaning : (before : List (List ℕ)) → (line : List ℕ) → Result Meaning LineWhy
  meaning before line = meaning_from false 0 before line
