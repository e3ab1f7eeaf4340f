-- What the lines of a snapshot's text say.
use Rattle.std.specs.Prelude.{◌≡◌, ◌<◌, ◌+◌, ◌^◌, ℕ, List, [], ◌∷◌, ◌++◌, codes, decimal, map, Bool, true, false, Some, Ok, slice_get}
use Rattle.std.specs.List.{AllByRecursion, flat_map, list_any}
use Rattle.std.specs.Str.{IsUtf8}
use Rattle.eds_types.specs.Plain.{Plain}
use Rattle.eds_types.specs.Rows.{Table}
use Rattle.eds_value.specs.JsonOfValue.{json_text}
use Rattle.eds_plan.specs.Ends.{end_text}
use Rattle.eds_plan.specs.declared.component.ComponentPlan.{ComponentPlan}
use Rattle.eds_plan.specs.declared.component.VarPlan.{VarPlan}
use Rattle.eds_plan.specs.declared.machine.Machine.{Machine}
use Rattle.eds_plan.specs.declared.run.MachineState.{MachineState}
use Rattle.eds_plan.specs.declared.run.Outstanding.{Outstanding}
use Rattle.eds_plan.specs.declared.run.Wire.{Wire}
use Rattle.eds_snap.specs.Lines.{Line, snap_lines}
use Rattle.eds_snap.specs.Readings.{SnapNow}
use Rattle.eds_snap.specs.Texts.{snap_text}
use Rattle.eds_snap.specs.Words.{Saying, begins, ends, ties, stands, holds, waits, form}
use Rattle.eds_plan.specs.States.{StateNow}
use Rattle.eds_script.specs.Lines.{is_feed}
use Rattle.eds_script.specs.Names.{end_name, member_name, state_name, transaction_name}
use Rattle.eds_script.specs.Numbers.{number_of}
use Rattle.eds_script.specs.Words.{is_space}
use Rattle.eds_plan.specs.Names.{IsWord}

-- the rest of a line, in which spaces may stand
pub record IsRest (w : List ℕ) : Type 0 where
  pub feed : list_any is_feed w ≡ false
  pub utf8 : IsUtf8 w

-- a line that a line feed ends
abbrev pub ended_line : ℕ → List ℕ → Line
ended_line n text = record { number = n; text = text; ended = true }

-- a text, a space, and another
abbrev pub spaced : List ℕ → List ℕ → List ℕ
spaced a b = a ++ 32 ∷ b

-- each line says what it was made of, if its names are words
pub record LinesSay : Type 0 where
  pub first : (n : ℕ) → form (ended_line n (spaced (codes "snapshot") (codes "1"))) ≡ Ok begins
  pub time : (n now : ℕ) → now < 2 ^ 63 → form (ended_line n (spaced (codes "end") (decimal now))) ≡ Ok (ends (decimal now))
  pub wire : (n : ℕ) (lower upper : List ℕ) → IsWord lower → IsWord upper → form (ended_line n (spaced (codes "wire") (spaced lower upper))) ≡ Ok (ties lower upper)
  pub machine : (n entered passed : ℕ) (c m s : List ℕ) → IsWord c → IsWord m → IsWord s → entered < 2 ^ 63 → passed < 2 ^ 63 →
      form (ended_line n (spaced (codes "machine") (spaced c (spaced m (spaced s (spaced (decimal entered) (decimal passed))))))) ≡ Ok (stands c m s (decimal entered) (decimal passed))
  pub variable : (n : ℕ) (c x json : List ℕ) → IsWord c → IsWord x → IsRest json → form (ended_line n (spaced (codes "var") (spaced c (spaced x json)))) ≡ Ok (holds c x json)
  pub transaction : (n : ℕ) (e m name : List ℕ) → IsWord e → IsWord m → IsWord name → form (ended_line n (spaced (codes "wait") (spaced e (spaced m name)))) ≡ Ok (waits e m name)
  pub number : (n : ℕ) → n < 2 ^ 63 → number_of (decimal n) ≡ Some n

-- lines in a row, each ended by a line feed
abbrev pub text_of_lines : List (List ℕ) → List ℕ
text_of_lines ls = flat_map (λ (l : List ℕ). l ++ 10 ∷ []) ls

-- lines with their numbers, the first of which is n
abbrev pub ended_from : ℕ → List (List ℕ) → List Line
ended_from n [] = []
ended_from n (l ∷ ls) = ended_line n l ∷ ended_from (n + 1) ls

-- the lines of such a text are those lines, if no line feed stands in them
abbrev pub AreOneLine : List (List ℕ) → Type 0
AreOneLine ls = AllByRecursion (λ (l : List ℕ). list_any is_feed l ≡ false) ls

-- so it is with each text of such lines
abbrev pub TextsHaveLines : Type 0
TextsHaveLines = (ls : List (List ℕ)) → AreOneLine ls → snap_lines (text_of_lines ls) ≡ ended_from 1 ls

-- ---- the lines of a snapshot's text

-- `end T`
abbrev pub time_words : ℕ → List ℕ
time_words now = spaced (codes "end") (decimal now)

-- `wire END END`
abbrev pub wire_words : Wire → List ℕ
wire_words w = spaced (codes "wire") (spaced w.lower w.upper)

-- `machine COMPONENT MACHINE STATE ENTERED PASSED`
abbrev pub machine_words : List ℕ → Machine → MachineState → List ℕ
machine_words component m s = spaced (codes "machine") (spaced component (spaced m.name (spaced (state_name m s.at) (spaced (decimal s.entered) (decimal s.passed)))))

-- `var COMPONENT VARIABLE JSON`
abbrev pub variable_words : Table → List ℕ → VarPlan → Plain → List ℕ
variable_words t component x v = spaced (codes "var") (spaced component (spaced x.name (json_text t v)))

-- `wait END MEMBER NAME`
abbrev pub wait_words : ComponentPlan → Outstanding → List ℕ
wait_words c q = spaced (codes "wait") (spaced (end_text c.name (end_name c q.face)) (spaced (member_name (slice_get c.ends q.face) q.member) (transaction_name c q.name)))

-- of each pair one thing
abbrev pub each_pair : {A B C : Type 0} → (A → B → C) → List A → List B → List C
each_pair f [] bs = []
each_pair f (a ∷ as') [] = []
each_pair f (a ∷ as') (b ∷ bs) = f a b ∷ each_pair f as' bs

-- the lines of a component
abbrev pub component_words : Table → ComponentPlan → StateNow → List (List ℕ)
component_words t c s = each_pair (machine_words c.name) c.machines s.machines ++ (each_pair (variable_words t c.name) c.variables s.variables ++ map (wait_words c) s.outstanding)

-- the lines of all components
abbrev pub all_words : Table → List ComponentPlan → List StateNow → List (List ℕ)
all_words t [] ss = []
all_words t (c ∷ cs) [] = []
all_words t (c ∷ cs) (s ∷ ss) = component_words t c s ++ all_words t cs ss

-- the lines of a snapshot
abbrev pub snap_words : Table → List ComponentPlan → SnapNow → List (List ℕ)
snap_words t plan s = spaced (codes "snapshot") (codes "1") ∷ (time_words s.now ∷ (map wire_words s.wires ++ all_words t plan s.states))

-- the text of a snapshot is that of these lines
abbrev pub TextsAreLines : Type 0
TextsAreLines = (t : Table) (plan : List ComponentPlan) (s : SnapNow) → snap_text t plan s ≡ text_of_lines (snap_words t plan s)
