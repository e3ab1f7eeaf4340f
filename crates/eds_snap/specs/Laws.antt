-- What snapshots are good for: lines may go on from what a text stands for, and the text of a run's end is read again.
use Rattle.std.specs.Prelude.{◌≡◌, ◌≤◌, ◌<◌, ◌+◌, ◌^◌, ℕ, List, [], ◌∷◌, length, false, Some, Ok, slice_get}
use Rattle.std.specs.List.{AllByRecursion}
use Rattle.std.specs.Str.{IsUtf8}
use Rattle.eds_types.specs.Plain.{Plain}
use Rattle.eds_types.specs.Rows.{Table}
use Rattle.eds_types.specs.Rules.{AreDistinct, KeepsRules}
use Rattle.eds_value.specs.Laws.{HasNoTypeEntry}
use Rattle.eds_act.specs.Does.{Conforms}
use Rattle.eds_plan.specs.Fitting.{PlanFits}
use Rattle.eds_plan.specs.declared.component.ComponentPlan.{ComponentPlan}
use Rattle.eds_plan.specs.declared.component.EndPlan.{EndPlan}
use Rattle.eds_plan.specs.declared.machine.Machine.{Machine}
use Rattle.eds_plan.specs.declared.run.MachineState.{MachineState}
use Rattle.eds_plan.specs.declared.run.Outstanding.{Outstanding}
use Rattle.eds_plan.specs.declared.run.Wire.{Wire}
use Rattle.eds_snap.specs.Readings.{SnapNow, snap_of}
use Rattle.eds_plan.specs.States.{StateNow}
use Rattle.eds_script.specs.Fitting.{HaveValues}
use Rattle.eds_script.specs.Pairs.{AllPaired}
use Rattle.eds_snap.specs.Entries.{is_due}
use Rattle.eds_plan.specs.Names.{HasNames, IsWord}
use Rattle.eds_snap.specs.Texts.{snap_text}

-- at a time a machine is in one of its states, which it entered before a moment last passed, and that isn't to come; and it waits
-- for no moment up to the time
pub record StandsAt (now : ℕ) (m : Machine) (s : MachineState) : Type 0 where
  pub at : s.at < length m.states
  pub entered : s.entered ≤ s.passed
  pub passed : s.passed ≤ now
  pub later : is_due now s m ≡ false

-- a state of a component at a time: its variables have values that pack, and its machines stand so
pub record IsStateBy (t : Table) (now : ℕ) (c : ComponentPlan) (s : StateNow) : Type 0 where
  pub values : HaveValues t c.variables s.variables
  pub machines : AllPaired (StandsAt now) c.machines s.machines

-- lines may go on from a snapshot: its time is below 2^63, and each component has a state at that time
pub record MayGoOn (t : Table) (plan : List ComponentPlan) (s : SnapNow) : Type 0 where
  pub early : s.now < 2 ^ 63
  pub states : AllPaired (IsStateBy t s.now) plan s.states

-- so it is with each snapshot that a text stands for
abbrev pub SnapsMayGoOn : Type 0
SnapsMayGoOn = (t : Table) (plan : List ComponentPlan) (octets : List ℕ) (s : SnapNow) → KeepsRules t → PlanFits t (Conforms t) plan → snap_of t plan octets ≡ Ok s → MayGoOn t plan s

-- ---- texts of snapshots

-- a transaction is under way at an end of the component: of a member of it, and by one of the component's names
pub record IsUnderWay (c : ComponentPlan) (q : Outstanding) : Type 0 where
  pub end : EndPlan
  pub there : slice_get c.ends q.face ≡ Some end
  pub member : q.member < length end.instance.members
  pub name : q.name < length c.transactions

-- so it is with these transactions, and none is there twice
pub record AreUnderWay (c : ComponentPlan) (qs : List Outstanding) : Type 0 where
  pub there : AllByRecursion (IsUnderWay c) qs
  pub once : AreDistinct qs

-- the texts of a wire's ends are words
pub record TiesWords (w : Wire) : Type 0 where
  pub lower : IsWord w.lower
  pub upper : IsWord w.upper

-- a snapshot as a run leaves it
pub record MayBeReadAgain (t : Table) (plan : List ComponentPlan) (s : SnapNow) : Type 0 where
  pub goes_on : MayGoOn t plan s
  pub under_way : AllPaired (λ (c : ComponentPlan) (s : StateNow). AreUnderWay c s.outstanding) plan s.states
  pub wires : AllByRecursion TiesWords s.wires

-- wires with the numbers of their lines, the first of which is n
abbrev pub wires_from : ℕ → List Wire → List Wire
wires_from n [] = []
wires_from n (w ∷ ws) = record { line = n; lower = w.lower; upper = w.upper } ∷ wires_from (n + 1) ws

-- and where a plan has names, the text of such a snapshot stands for that snapshot, with the lines of its wires in that text
abbrev pub TextsAreRead : Type 0
TextsAreRead = (t : Table) (plan : List ComponentPlan) (s : SnapNow) → KeepsRules t → HasNoTypeEntry t → HasNames plan → MayBeReadAgain t plan s → IsUtf8 (snap_text t plan s) → snap_of t plan (snap_text t plan s) ≡ Ok (record s { wires = wires_from 3 s.wires })
