-- Lines may go on from each snapshot that a text stands for.
use Rattle.std.proofs.Common.{◌≡◌, ◌≤◌, ◌<◌, ◌+◌, ◌^◌, ℕ, zero, suc, List, [], ◌∷◌, ◌++◌, length, map, Bool, true, false, not, ◌&&◌, Option, Some, None, option_map, slice_get, Result, Ok, Err, refl, sym, ap, subst, ◌∙◌, arith}
use Rattle.std.specs.Prelude.{IfSome, nat_le, nat_lt, slice_set, unwrap_or, ◌==◌, if◌then◌else◌}
use Rattle.std.specs.List.{AllByRecursion, position}
use Rattle.std.proofs.lemmas.Bool.Decides.{nat_tests}
use Rattle.eds_base.specs.Answering.{◌>>=◌, or_stop}
use Rattle.eds_base.specs.Reading as answer
use Rattle.eds_types.specs.PackedSizes.{SizesAreExact, packs}
use Rattle.eds_types.specs.Plain.{Plain, plain}
use Rattle.eds_types.specs.Rows.{Table}
use Rattle.eds_types.specs.Rules.{KeepsRules}
use Rattle.eds_act.specs.Does.{Conforms}
use Rattle.eds_plan.specs.Fitting.{ComponentFits, MachineFits, PlanFits}
use Rattle.eds_plan.specs.Plans.{component_at, machine_at, no_component, no_machine}
use Rattle.eds_plan.specs.declared.component.ComponentPlan.{ComponentPlan}
use Rattle.eds_plan.specs.declared.component.VarPlan.{VarPlan}
use Rattle.eds_plan.specs.declared.machine.Machine.{Machine}
use Rattle.eds_plan.specs.declared.machine.State.{State}
use Rattle.eds_plan.specs.declared.machine.Transition.{Transition}
use Rattle.eds_plan.specs.declared.machine.Trigger.{Trigger}
use Rattle.eds_plan.specs.declared.machine.Trigger.TheVariants as trigger
use Rattle.eds_plan.specs.declared.run.MachineState.{MachineState}
use Rattle.eds_machine.specs.Moments.{moment, moment_by, next_moment, sooner}
use Rattle.eds_snap.specs.Laws.{IsStateBy, MayGoOn, SnapsMayGoOn, StandsAt}
use Rattle.eds_snap.specs.Readings.{machines_told, state_told, states_told, values_told, with_machine, with_variable, with_wait}
use Rattle.eds_script.specs.Fitting.{HaveValues}
use Rattle.eds_script.specs.Pairs.{AllPaired}
use Rattle.eds_snap.specs.Entries.{Told, blank, comes_by, is_due, nothing, told_of}
use Rattle.eds_snap.proofs.Values.{is-value}

-- ---- moments

-- moments to come are later than what has passed
later_by : (t : Trigger) (m : MachineState) (now : ℕ) → m.passed ≡ now → comes_by now (moment_by t m) ≡ false
later_by trigger.Start m now e = refl
later_by (trigger.Command f n) m now e = refl
later_by (trigger.Param f n o) m now e = refl
later_by (trigger.Timer k) m now e = go (nat_lt m.passed (m.entered + k)) refl
  where
    go : (b : Bool) → nat_lt m.passed (m.entered + k) ≡ b → comes_by now (if b then Some (m.entered + k) else None) ≡ false
    go false p = refl
    go true p = grind (arith, nat_tests, e)

later_at : (x : Transition) (m : MachineState) (now : ℕ) → m.passed ≡ now → comes_by now (moment m x) ≡ false
later_at x m now e = go (x.from == m.at)
  where
    go : (b : Bool) → comes_by now (if b then moment_by x.event m else None) ≡ false
    go true = later_by x.event m now e
    go false = refl

both_later : (now : ℕ) (a b : Option ℕ) → comes_by now a ≡ false → comes_by now b ≡ false → comes_by now (sooner a b) ≡ false
both_later now None b h k = k
both_later now (Some a) None h k = h
both_later now (Some a) (Some b) h k = go (nat_lt b a)
  where
    go : (c : Bool) → comes_by now (if c then Some b else Some a) ≡ false
    go true = k
    go false = h

none_due : (now : ℕ) (m : MachineState) (xs : List Transition) → m.passed ≡ now → comes_by now (next_moment m xs) ≡ false
none_due now m [] e = refl
none_due now m (x ∷ xs) e = both_later now (moment m x) (next_moment m xs) (later_at x m now e) (none_due now m xs e)

-- ---- slots

-- what was told is as it may be
abbrev ValueWell : Table → VarPlan → Option Plain → Type 0
ValueWell t x o = IfSome o (λ v. Conforms t x.id.0 v)

abbrev MachineWell : ℕ → Machine → Option MachineState → Type 0
MachineWell now m o = IfSome o (λ s. StandsAt now m s)

pub record Well (t : Table) (now : ℕ) (c : ComponentPlan) (told : Told) : Type 0 where
  pub values : AllPaired (ValueWell t) c.variables told.variables
  pub machines : AllPaired (MachineWell now) c.machines told.machines

abbrev pub AllWell : Table → ℕ → List ComponentPlan → List Told → Type 0
AllWell t now plan ts = AllPaired (Well t now) plan ts

blank_pairs : {A B : Type 0} (P : A → Option B → Type 0) → ((x : A) → P x None) → (xs : List A) → AllPaired P xs (map (λ x. None) xs)
blank_pairs P h [] = tt
blank_pairs P h (x ∷ xs) = (h x, blank_pairs P h xs)

pub blank_well : (t : Table) (now : ℕ) (plan : List ComponentPlan) → AllWell t now plan (map blank plan)
blank_well t now [] = tt
blank_well t now (c ∷ plan) = (record { values = blank_pairs (ValueWell t) (λ x. tt) c.variables; machines = blank_pairs (MachineWell now) (λ m. tt) c.machines }, blank_well t now plan)

-- one pair is changed
set_pair : {A B : Type 0} (P : A → B → Type 0) (xs : List A) (ys : List B) (i : ℕ) (x : A) (y : B) → slice_get xs i ≡ Some x → P x y → AllPaired P xs ys → AllPaired P xs (slice_set ys i y)
set_pair P [] ys i x y e p h = absurd cc
set_pair P (a ∷ xs) [] i x y e p h = absurd h
set_pair P (a ∷ xs) (b ∷ ys) zero x y e p h = (let same : x ≡ a = cc in subst (λ z. P z y) same p, h.1)
set_pair P (a ∷ xs) (b ∷ ys) (suc i) x y e p h = (h.0, set_pair P xs ys i x y e p h.1)

pair_at : {A B : Type 0} (P : A → B → Type 0) (xs : List A) (ys : List B) (i : ℕ) (x : A) (d : B) → slice_get xs i ≡ Some x → AllPaired P xs ys → P x (unwrap_or (slice_get ys i) d)
pair_at P [] ys i x d e h = absurd cc
pair_at P (a ∷ xs) [] i x d e h = absurd h
pair_at P (a ∷ xs) (b ∷ ys) zero x d e h = let same : a ≡ x = cc in subst (λ z. P z b) same h.0
pair_at P (a ∷ xs) (b ∷ ys) (suc i) x d e h = pair_at P xs ys i x d e h.1

-- what was told of one component is changed
pub told_well : (t : Table) (now : ℕ) (plan : List ComponentPlan) (ts : List Told) (comp : ℕ) (c : ComponentPlan) (f : Told → Told) → slice_get plan comp ≡ Some c → ((told : Told) → Well t now c told → Well t now c (f told))
    → AllWell t now plan ts → AllWell t now plan (slice_set ts comp (f (told_of ts comp)))
told_well t now plan ts comp c f e keeps h = set_pair (Well t now) plan ts comp c (f (told_of ts comp)) e (keeps (told_of ts comp) (pair_at (Well t now) plan ts comp c nothing e h)) h

pub machine_well : (t : Table) (now : ℕ) (c : ComponentPlan) (i : ℕ) (m : Machine) (s : MachineState) → slice_get c.machines i ≡ Some m → StandsAt now m s → (told : Told) → Well t now c told → Well t now c (with_machine i s told)
machine_well t now c i m s e k told h = record { values = h.values; machines = set_pair (MachineWell now) c.machines told.machines i m (Some s) e k h.machines }

pub variable_well : (t : Table) (now : ℕ) (c : ComponentPlan) (i : ℕ) (x : VarPlan) (v : Plain) → slice_get c.variables i ≡ Some x → Conforms t x.id.0 v → (told : Told) → Well t now c told → Well t now c (with_variable i v told)
variable_well t now c i x v e k told h = record { values = set_pair (ValueWell t) c.variables told.variables i x (Some v) e k h.values; machines = h.machines }

pub wait_well : (t : Table) (now : ℕ) (c : ComponentPlan) (q : _) (told : Told) → Well t now c told → Well t now c (with_wait q told)
wait_well t now c q told h = record { values = h.values; machines = h.machines }

-- ---- at the end

values_well : (t : Table) (xs : List VarPlan) (os : List (Option Plain)) → AllByRecursion (λ (x : VarPlan). Conforms t x.id.0 (plain x.initial)) xs → AllPaired (ValueWell t) xs os → HaveValues t xs (values_told xs os)
values_well t [] [] first h = tt
values_well t [] (o ∷ os) first h = absurd h
values_well t (x ∷ xs) [] first h = absurd h
values_well t (x ∷ xs) (None ∷ os) first h = (is-value t x.id.0 (plain x.initial) first.0, values_well t xs os first.1 h.1)
values_well t (x ∷ xs) (Some v ∷ os) first h = (is-value t x.id.0 v h.0, values_well t xs os first.1 h.1)

machines_well : (t : Table) (c : ComponentPlan) (now : ℕ) (ms : List Machine) (os : List (Option MachineState)) → AllByRecursion (MachineFits t (Conforms t) c) ms → AllPaired (MachineWell now) ms os → AllPaired (StandsAt now) ms (machines_told now ms os)
machines_well t c now [] [] fits h = tt
machines_well t c now [] (o ∷ os) fits h = absurd h
machines_well t c now (m ∷ ms) [] fits h = absurd h
machines_well t c now (m ∷ ms) (None ∷ os) fits h = (
  record {
    at = fits.0.entry;
    entered = omega arith;
    passed = omega arith;
    later = none_due now (record { at = m.entry; entered = now; passed = now }) m.transitions refl;
  },
  machines_well t c now ms os fits.1 h.1,
)
machines_well t c now (m ∷ ms) (Some s ∷ os) fits h = (h.0, machines_well t c now ms os fits.1 h.1)

pub states_well : (t : Table) (now : ℕ) (plan : List ComponentPlan) (ts : List Told) → AllByRecursion (ComponentFits t (Conforms t)) plan → AllWell t now plan ts → AllPaired (IsStateBy t now) plan (states_told now plan ts)
states_well t now [] [] fits h = tt
states_well t now [] (x ∷ ts) fits h = absurd h
states_well t now (c ∷ plan) [] fits h = absurd h
states_well t now (c ∷ plan) (told ∷ ts) fits h = (
  record { values = values_well t c.variables told.variables fits.0.initial h.0.values; machines = machines_well t c now c.machines told.machines fits.0.machines h.0.machines },
  states_well t now plan ts fits.1 h.1,
)
