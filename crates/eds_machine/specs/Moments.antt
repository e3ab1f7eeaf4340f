-- The moments to come of machines.
use Rattle.std.specs.List.{AllByRecursion}
use Rattle.std.specs.Prelude.{◌≡◌, ◌≤◌, ◌+◌, ◌^◌, ℕ, zero, suc, List, [], ◌∷◌, ◌==◌, ◌⊎◌, if◌then◌else◌, nat_lt, Option, Some, None}
use Rattle.eds_plan.specs.declared.machine.Machine.{Machine}
use Rattle.eds_plan.specs.declared.machine.Transition.{Transition}
use Rattle.eds_plan.specs.declared.machine.Trigger.{Trigger}
use Rattle.eds_plan.specs.declared.machine.Trigger.TheVariants as trigger
use Rattle.eds_plan.specs.declared.run.MachineState.{MachineState}

-- the moment of a trigger of so many nanoseconds after entry, while it is to come
abbrev pub moment_by : Trigger → MachineState → Option ℕ
moment_by (trigger.Timer k) m = if nat_lt m.passed (m.entered + k) then Some (m.entered + k) else None
moment_by _ m = None

-- the moment that a transition waits for in the machine's present state
abbrev pub moment : MachineState → Transition → Option ℕ
moment m x = if x.from == m.at then moment_by x.event m else None

-- the less of two moments
abbrev pub sooner : Option ℕ → Option ℕ → Option ℕ
sooner None b = b
sooner (Some a) None = Some a
sooner (Some a) (Some b) = if nat_lt b a then Some b else Some a

-- the least moment to come of a machine
abbrev pub next_moment : MachineState → List Transition → Option ℕ
next_moment m [] = None
next_moment m (x ∷ xs) = sooner (moment m x) (next_moment m xs)

-- of two moments with their machines the sooner one, of equal ones the first
abbrev pub first_due : Option (ℕ × ℕ) → Option (ℕ × ℕ) → Option (ℕ × ℕ)
first_due None b = b
first_due (Some a) None = Some a
first_due (Some a) (Some b) = if nat_lt b.0 a.0 then Some b else Some a

-- a moment, if there is one, with its machine
abbrev pub with_number : ℕ → Option ℕ → Option (ℕ × ℕ)
with_number i None = None
with_number i (Some t) = Some (t, i)

-- the least moment of these machines and the first machine that has it, the first of them being machine i
abbrev pub due_from : ℕ → List Machine → List MachineState → Option (ℕ × ℕ)
due_from i (m ∷ ms) (s ∷ ss) = first_due (with_number i (next_moment s m.transitions)) (due_from (i + 1) ms ss)
due_from i _ _ = None

-- a number of nanoseconds that a timer may have
abbrev pub IsNear : Trigger → Type 0
IsNear (trigger.Timer k) = k ≤ 10 ^ 18
IsNear _ = Unit {0}

-- the machine's timers are such
abbrev pub HasTimers : Machine → Type 0
HasTimers machine = AllByRecursion (λ (x : Transition). IsNear x.event) machine.transitions

-- one of these transitions waits for the moment
abbrev pub AnyHas : MachineState → List Transition → ℕ → Type 0
AnyHas m [] t = ⊥
AnyHas m (x ∷ xs) t = (moment m x ≡ Some t) ⊎ AnyHas m xs t

-- machine i has the moment to come
abbrev pub HasMoment : List Machine → List MachineState → ℕ → ℕ → Type 0
HasMoment (machine ∷ ms) (m ∷ rs) zero t = AnyHas m machine.transitions t
HasMoment (machine ∷ ms) (m ∷ rs) (suc i) t = HasMoment ms rs i t
HasMoment _ _ i t = ⊥

-- the least moment to come, and the first machine that has it
pub record IsNextDue (ms : List Machine) (rs : List MachineState) (d : ℕ × ℕ) : Type 0 where
  pub comes : HasMoment ms rs d.1 d.0
  pub least : (i t : ℕ) → HasMoment ms rs i t → d.0 ≤ t
  pub first : (i : ℕ) → HasMoment ms rs i d.0 → d.1 ≤ i
