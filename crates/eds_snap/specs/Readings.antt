-- The snapshot that a text stands for.
use Rattle.std.specs.Prelude.{ℕ, ◌+◌, List, [], ◌∷◌, ◌++◌, length, map, if◌then◌else◌, Option, Some, Result, Ok, Err, slice_set, unwrap_or}
use Rattle.eds_base.specs.Answering.{◌>>=◌, or_stop}
use Rattle.eds_types.specs.Plain.{Plain, plain}
use Rattle.eds_types.specs.Rows.{Table}
use Rattle.eds_plan.specs.States.{StateNow}
use Rattle.eds_plan.specs.declared.component.ComponentPlan.{ComponentPlan}
use Rattle.eds_plan.specs.declared.component.VarPlan.{VarPlan}
use Rattle.eds_plan.specs.declared.machine.Machine.{Machine}
use Rattle.eds_plan.specs.declared.run.MachineState.{MachineState}
use Rattle.eds_plan.specs.declared.run.Outstanding.{Outstanding}
use Rattle.eds_plan.specs.declared.run.Wire.{Wire}
use Rattle.eds_snap.specs.declared.stage.Stage.{Stage}
use Rattle.eds_snap.specs.declared.stage.Stage.TheVariants.{First}
use Rattle.eds_snap.specs.declared.why.BadSnap.{BadSnap}
use Rattle.eds_snap.specs.declared.why.SnapWhy.{SnapWhy}
use Rattle.eds_snap.specs.declared.why.SnapWhy.TheVariants as why
use Rattle.eds_snap.specs.Entries.{Entry, Told, blank, entry_of, machine_is, nothing_is, time_is, told_of, variable_is, wait_is, wire_is}
use Rattle.eds_snap.specs.Lines.{Line, snap_lines}
use Rattle.eds_snap.specs.Order.{in_order, is_whole}
use Rattle.eds_snap.specs.Stops.{at_line}
use Rattle.eds_snap.specs.Words.{form}

-- ---- what was read so far

-- what was read so far: which lines may come next, the time, the wires, and what was told of each component
pub record Reading : Type 0 where
  pub stage : Stage
  pub now : ℕ
  pub wires : List Wire
  pub told : List Told

-- nothing was read
abbrev pub unread : List ComponentPlan → Reading
unread plan = record { stage = First; now = 0; wires = []; told = map blank plan }

-- ---- lines one after another

-- a machine stands so
abbrev pub with_machine : ℕ → MachineState → Told → Told
with_machine i m told = record told { machines = slice_set told.machines i (Some m) }

-- a variable holds this
abbrev pub with_variable : ℕ → Plain → Told → Told
with_variable i v told = record told { variables = slice_set told.variables i (Some v) }

-- one more transaction is under way
abbrev pub with_wait : Outstanding → Told → Told
with_wait q told = record told { outstanding = told.outstanding ++ q ∷ [] }

-- what was read, with what one more line tells
abbrev pub put : (number : ℕ) → Entry → Reading → Reading
put number nothing_is r = r
put number (time_is n) r = record r { now = n }
put number (wire_is lower upper) r = record r { wires = r.wires ++ record { line = number; lower = lower; upper = upper } ∷ [] }
put number (machine_is comp i m) r = record r { told = slice_set r.told comp (with_machine i m (told_of r.told comp)) }
put number (variable_is comp i v) r = record r { told = slice_set r.told comp (with_variable i v (told_of r.told comp)) }
put number (wait_is comp q) r = record r { told = slice_set r.told comp (with_wait q (told_of r.told comp)) }

-- what is read by one more line, or why it isn't one
abbrev pub read_line : Table → List ComponentPlan → Reading → Line → Result Reading SnapWhy
read_line t plan r l = do
  s ← form l
  stage ← or_stop why.Words (in_order r.stage s)
  e ← entry_of t plan r.now r.told s
  Ok (put l.number e (record r { stage = stage }))

-- what is read by lines, or the first bad one of them
abbrev pub read_lines : Table → List ComponentPlan → Reading → List Line → Result Reading BadSnap
read_lines t plan r [] = Ok r
read_lines t plan r (l ∷ ls) = at_line l.number (read_line t plan r l) >>= λ q. read_lines t plan q ls

-- ---- snapshots

-- a time, wires, and the states of components
pub record SnapNow : Type 0 where
  pub now : ℕ
  pub wires : List Wire
  pub states : List StateNow

-- a variable of which no line told has its first value
abbrev pub values_told : List VarPlan → List (Option Plain) → List Plain
values_told [] os = []
values_told (x ∷ xs) [] = []
values_told (x ∷ xs) (o ∷ os) = unwrap_or o (plain x.initial) ∷ values_told xs os

-- a machine of which no line told is in its entry state, since the time
abbrev pub machines_told : (now : ℕ) → List Machine → List (Option MachineState) → List MachineState
machines_told now [] os = []
machines_told now (m ∷ ms) [] = []
machines_told now (m ∷ ms) (o ∷ os) = unwrap_or o (record { at = m.entry; entered = now; passed = now }) ∷ machines_told now ms os

-- the state that was told of a component
abbrev pub state_told : (now : ℕ) → ComponentPlan → Told → StateNow
state_told now c told = record { variables = values_told c.variables told.variables; machines = machines_told now c.machines told.machines; outstanding = told.outstanding }

-- the states that were told of all components
abbrev pub states_told : (now : ℕ) → List ComponentPlan → List Told → List StateNow
states_told now [] ts = []
states_told now (c ∷ cs) [] = []
states_told now (c ∷ cs) (told ∷ ts) = state_told now c told ∷ states_told now cs ts

-- the snapshot that was read, where the first line and the time have come, and else the line at which they lack
abbrev pub snap_read : List ComponentPlan → (next : ℕ) → Reading → Result SnapNow BadSnap
snap_read plan next r = if is_whole r.stage then Ok (record { now = r.now; wires = r.wires; states = states_told r.now plan r.told }) else Err (record { line = next; why = why.Words })

-- the snapshot that a text stands for, or its first bad line
abbrev pub snap_of : Table → List ComponentPlan → List ℕ → Result SnapNow BadSnap
snap_of t plan octets = read_lines t plan (unread plan) (snap_lines octets) >>= λ r. snap_read plan (length (snap_lines octets) + 1) r
