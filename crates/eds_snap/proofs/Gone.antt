-- What each line adds to a snapshot is as it may be.
use Rattle.std.proofs.Common.{◌≡◌, ◌≤◌, ◌<◌, ◌+◌, ◌^◌, ℕ, zero, suc, List, [], ◌∷◌, ◌++◌, length, map, Bool, true, false, cond, not, ◌&&◌, Option, Some, None, option_map, slice_get, Result, Ok, Err, refl, sym, ap, subst, ◌∙◌, arith}
use Rattle.std.specs.Prelude.{nat_le, nat_lt, slice_set, unwrap_or}
use Rattle.std.specs.List.{AllByRecursion, position, position_or_len}
use Rattle.std.proofs.lemmas.Bool.Decides.{nat_tests}
use Rattle.eds_base.specs.Answering.{◌>>=◌, or_stop}
use Rattle.eds_base.specs.Reading as answer
use Rattle.eds_base.specs.Reading.{same}
use Rattle.eds_types.specs.PackedSizes.{SizesAreExact, packs}
use Rattle.eds_types.specs.Plain.{Plain, plain}
use Rattle.eds_types.specs.Rows.{Table}
use Rattle.eds_types.specs.Rules.{KeepsRules}
use Rattle.eds_value.specs.Json.{value_in}
use Rattle.eds_act.specs.Does.{Conforms}
use Rattle.eds_act.specs.Does as act
use Rattle.eds_plan.specs.Ends.{found_end}
use Rattle.eds_plan.specs.Fitting.{ComponentFits, PlanFits}
use Rattle.eds_plan.specs.Plans.{component_at, machine_at, no_component, no_machine}
use Rattle.eds_plan.specs.declared.component.ComponentPlan.{ComponentPlan}
use Rattle.eds_plan.specs.declared.component.VarPlan.{VarPlan}
use Rattle.eds_plan.specs.declared.machine.Machine.{Machine}
use Rattle.eds_plan.specs.declared.machine.State.{State}
use Rattle.eds_plan.specs.declared.run.MachineState.{MachineState}
use Rattle.eds_snap.specs.declared.stage.Stage.{Stage}
use Rattle.eds_snap.specs.declared.stage.Stage.TheVariants.{First, Time, Wires, States}
use Rattle.eds_snap.specs.declared.why.BadSnap.{BadSnap}
use Rattle.eds_snap.specs.declared.why.SnapWhy.{SnapWhy}
use Rattle.eds_snap.specs.declared.why.SnapWhy.TheVariants as why
use Rattle.eds_snap.specs.Laws.{IsStateBy, MayGoOn, SnapsMayGoOn, StandsAt}
use Rattle.eds_snap.specs.Lines.{Line, snap_lines}
use Rattle.eds_snap.specs.Readings.{Reading, SnapNow, put, read_line, read_lines, snap_of, snap_read, states_told, unread, with_machine, with_variable, with_wait}
use Rattle.eds_snap.specs.Stops.{at_line}
use Rattle.eds_snap.specs.Words.{Saying, begins, ends, ties, stands, holds, waits, form}
use Rattle.eds_snap.proofs.GoingOn.{AllWell, blank_well, machine_well, states_well, told_well, variable_well, wait_well}
use Rattle.eds_snap.proofs.Values.{is-known}
use Rattle.eds_script.proofs.Steps.{bound, inside, tested, there}
use Rattle.eds_snap.proofs.Slots.{all-there}
use Rattle.eds_script.specs.Numbers.{number_of}
use Rattle.eds_script.specs.Stops.{unless_stop}
use Rattle.eds_snap.specs.Entries.{Entry, Told, blank, entry_of, given_value, in_time, is_due, is_told, machine_entry, machine_is, nothing_is, or_why, stands_at, time_entry, time_is, told_of, type_of, variable_entry, variable_is, wait_entry, wait_is, wire_is}
use Rattle.eds_snap.specs.Order.{first_order, in_order, is_whole, state_order, time_order, wire_order}
use Rattle.eds_snap.specs.Places.{MachinePlace, VariablePlace, WaitPlace, component_named, machine_named, machine_place, state_named, variable_named, variable_place, wait_place}

-- ---- one step after another

-- the same where there may be nothing
found : {A B : Type 0} (o : Option A) (f : A → Option B) (x : B) → answer.◌>>=◌ o f ≡ Some x → (a : A) × (o ≡ Some a) × (f a ≡ Some x)
found None f x h = cc
found (Some a) f x h = (a, refl, h)

mapped : {A B : Type 0} (f : A → B) (o : Option A) (x : B) → option_map f o ≡ Some x → (a : A) × (o ≡ Some a) × (f a ≡ x)
mapped f None x h = cc
mapped f (Some a) x h = (a, refl, cc)

pub both_true : (a b : Bool) → (a && b) ≡ true → (a ≡ true) × (b ≡ true)
both_true true true h = (refl, refl)
both_true true false h = cc
both_true false b h = cc

not_true : (b : Bool) → not b ≡ true → b ≡ false
not_true true h = cc
not_true false h = refl

up_to : (a b : ℕ) → nat_le a b ≡ true → a ≤ b
up_to a b h = grind (arith, nat_tests)

below : (a b : ℕ) → nat_lt a b ≡ true → a < b
below a b h = grind (arith, nat_tests)

-- ---- places

placed : {A : Type 0} (p : A → Bool) (xs : List A) (i : ℕ) → position p xs ≡ Some i → i < length xs
placed p xs i e = go (nat_lt (position_or_len p xs) (length xs)) refl e
  where
    go : (b : Bool) → nat_lt (position_or_len p xs) (length xs) ≡ b → cond b (Some (position_or_len p xs)) None ≡ Some i → i < length xs
    go true q h = let is : position_or_len p xs ≡ i = cc in subst (λ n. n < length xs) is (below (position_or_len p xs) (length xs) q)
    go false q h = cc

pub here : {A : Type 0} (xs : List A) (i : ℕ) → i < length xs → (x : A) × (slice_get xs i ≡ Some x)
here [] i lt = absurd (omega (arith, lt))
here (x ∷ xs) zero lt = (x, refl)
here (x ∷ xs) (suc i) lt = here xs i (omega (arith, lt))

pub component_is : (plan : List ComponentPlan) (comp : ℕ) (c : ComponentPlan) → slice_get plan comp ≡ Some c → component_at plan comp ≡ c
component_is plan comp c e = ap (λ o. unwrap_or o no_component) e

pub machine_of : (c : ComponentPlan) (i : ℕ) (m : Machine) → slice_get c.machines i ≡ Some m → machine_at c i ≡ m
machine_of c i m e = ap (λ o. unwrap_or o no_machine) e

module _ (t : Table) (plan : List ComponentPlan) (exact : SizesAreExact) (rules : KeepsRules t) (fits : PlanFits t (Conforms t) plan) where
  -- ---- entries

  -- what a line tells is as it may be
  abbrev EntryWell : ℕ → Entry → Type 0
  EntryWell now nothing_is = Unit {0}
  EntryWell now (time_is n) = n < 2 ^ 63
  EntryWell now (wire_is lower upper) = Unit {0}
  EntryWell now (machine_is comp i s) = (c : ComponentPlan) × (m : Machine) × (slice_get plan comp ≡ Some c) × (slice_get c.machines i ≡ Some m) × StandsAt now m s
  EntryWell now (variable_is comp i v) = (c : ComponentPlan) × (x : VarPlan) × (slice_get plan comp ≡ Some c) × (slice_get c.variables i ≡ Some x) × Conforms t x.id.0 v
  EntryWell now (wait_is comp q) = Unit {0}

  time_well : (now : ℕ) (number : List ℕ) (e : Entry) → time_entry number ≡ Ok e → EntryWell now e
  time_well now number e h =
      let one = bound (or_stop why.Number (number_of number)) _ e h in
      let two = bound (unless_stop why.Time (nat_lt one.0 (2 ^ 63))) _ e one.2 in
      subst (EntryWell now) (inside (time_is one.0) e two.2) (below one.0 (2 ^ 63) (tested why.Time (nat_lt one.0 (2 ^ 63)) two.0 two.1))

  machine_entry_well : (now : ℕ) (told : List Told) (component own state entered passed : List ℕ) (e : Entry) → machine_entry t plan now told component own state entered passed ≡ Ok e → EntryWell now e
  unfolding machine_entry
  machine_entry_well now told component own state entered passed e h =
      let one = bound (or_stop why.Number (number_of entered)) _ e h in
      let two = bound (or_stop why.Number (number_of passed)) _ e one.2 in
      let three = bound (or_stop why.Name (machine_place plan component own state)) _ e two.2 in
      let p : MachinePlace = three.0 in
      let s : MachineState = record { at = p.at; entered = one.0; passed = two.0 } in
      let four = bound (unless_stop why.Twice (not (is_told (told_of told p.comp).machines p.machine))) _ e three.2 in
      let five = bound (unless_stop why.Time (in_time now s)) _ e four.2 in
      let six = bound (unless_stop why.Due (not (is_due now s (machine_at (component_at plan p.comp) p.machine)))) _ e five.2 in
      let times = both_true (nat_le s.entered s.passed) (nat_le s.passed now) (tested why.Time (in_time now s) five.0 five.1) in
      let late = not_true (is_due now s (machine_at (component_at plan p.comp) p.machine)) (tested why.Due (not (is_due now s (machine_at (component_at plan p.comp) p.machine))) six.0 six.1) in
      subst (EntryWell now) (inside (machine_is p.comp p.machine s) e six.2) (at_place p s (there why.Name (machine_place plan component own state) p three.1) refl (up_to s.entered s.passed times.0) (up_to s.passed now times.1) late)
    where
      at_place : (p : MachinePlace) (s : MachineState) → machine_place plan component own state ≡ Some p → s.at ≡ p.at → s.entered ≤ s.passed → s.passed ≤ now → is_due now s (machine_at (component_at plan p.comp) p.machine) ≡ false → EntryWell now (machine_is p.comp p.machine s)
      at_place p s f at entered_by passed_by late =
          let one = found (component_named plan component) _ p f in
          let two = found (machine_named (component_at plan one.0) own) _ p one.2 in
          let three = mapped _ (state_named (machine_at (component_at plan one.0) two.0) state) p two.2 in
          let comp_is : one.0 ≡ p.comp = ap (λ (q : MachinePlace). q.comp) three.2 in
          let machine_is' : two.0 ≡ p.machine = ap (λ (q : MachinePlace). q.machine) three.2 in
          let at_is : three.0 ≡ p.at = ap (λ (q : MachinePlace). q.at) three.2 in
          let c = here plan one.0 (placed _ plan one.0 one.1) in
          let own_is = component_is plan one.0 c.0 c.1 in
          let m = here (component_at plan one.0).machines two.0 (placed _ (component_at plan one.0).machines two.0 two.1) in
          let c_there : slice_get plan p.comp ≡ Some (component_at plan one.0) = ap (slice_get plan) (sym comp_is) ∙ c.1 ∙ ap Some (sym own_is) in
          let m_there : slice_get (component_at plan one.0).machines p.machine ≡ Some m.0 = ap (slice_get (component_at plan one.0).machines) (sym machine_is') ∙ m.1 in
          let same_machine : machine_at (component_at plan one.0) two.0 ≡ m.0 = machine_of (component_at plan one.0) two.0 m.0 m.1 in
          let within : three.0 < length m.0.states = subst (λ (k : Machine). three.0 < length k.states) same_machine (placed _ (machine_at (component_at plan one.0) two.0).states three.0 three.1) in (
            component_at plan one.0,
            m.0,
            c_there,
            m_there,
            record {
              at = omega (arith, within, at, at_is);
              entered = entered_by;
              passed = passed_by;
              later = subst (λ (k : Machine). is_due now s k ≡ false) (ap (λ n. machine_at (component_at plan n) p.machine) (sym comp_is) ∙ ap (machine_at (component_at plan one.0)) (sym machine_is') ∙ same_machine) late;
            },
          )

  variable_entry_well : (now : ℕ) (told : List Told) (component own json : List ℕ) (e : Entry) → variable_entry t plan now told component own json ≡ Ok e → EntryWell now e
  unfolding variable_entry
  variable_entry_well now told component own json e h =
      let one = bound (or_stop why.Name (variable_place plan component own)) _ e h in
      let p : VariablePlace = one.0 in
      let two = bound (unless_stop why.Twice (not (is_told (told_of told p.comp).variables p.variable))) _ e one.2 in
      let three = bound (given_value t (type_of (slice_get (component_at plan p.comp).variables p.variable)) json) _ e two.2 in
      let four = bound (or_why (value_in t (type_of (slice_get (component_at plan p.comp).variables p.variable)) json)) _ three.0 three.1 in
      let five = bound (unless_stop why.Value (packs t (type_of (slice_get (component_at plan p.comp).variables p.variable)) four.0)) _ three.0 four.2 in
      let packed : packs t (type_of (slice_get (component_at plan p.comp).variables p.variable)) four.0 ≡ true = tested why.Value _ five.0 five.1 in
      let same_value : four.0 ≡ three.0 = inside four.0 three.0 five.2 in
      subst (EntryWell now) (inside (variable_is p.comp p.variable three.0) e three.2) (at_place p three.0 (there why.Name (variable_place plan component own) p one.1) (ap (packs t (type_of (slice_get (component_at plan p.comp).variables p.variable))) (sym same_value) ∙ packed))
    where
      at_place : (p : VariablePlace) (v : Plain) → variable_place plan component own ≡ Some p → packs t (type_of (slice_get (component_at plan p.comp).variables p.variable)) v ≡ true → EntryWell now (variable_is p.comp p.variable v)
      at_place p v f packed =
          let one = found (component_named plan component) _ p f in
          let two = mapped _ (variable_named (component_at plan one.0) own) p one.2 in
          let comp_is : one.0 ≡ p.comp = ap (λ (q : VariablePlace). q.comp) two.2 in
          let variable_is' : two.0 ≡ p.variable = ap (λ (q : VariablePlace). q.variable) two.2 in
          let c = here plan one.0 (placed _ plan one.0 one.1) in
          let own_is = component_is plan one.0 c.0 c.1 in
          let x = here (component_at plan one.0).variables two.0 (placed _ (component_at plan one.0).variables two.0 two.1) in
          let c_there : slice_get plan p.comp ≡ Some (component_at plan one.0) = ap (slice_get plan) (sym comp_is) ∙ c.1 ∙ ap Some (sym own_is) in
          let x_there : slice_get (component_at plan one.0).variables p.variable ≡ Some x.0 = ap (slice_get (component_at plan one.0).variables) (sym variable_is') ∙ x.1 in
          let type_is : type_of (slice_get (component_at plan p.comp).variables p.variable) ≡ x.0.id.0 = ap (λ n. type_of (slice_get (component_at plan n).variables p.variable)) (sym comp_is) ∙ ap type_of x_there in
          let own_fits : ComponentFits t (Conforms t) (component_at plan one.0) = all-there (ComponentFits t (Conforms t)) plan p.comp (component_at plan one.0) fits.components c_there in
          let first : Conforms t x.0.id.0 (plain x.0.initial) = all-there (λ (y : VarPlan). Conforms t y.id.0 (plain y.initial)) (component_at plan one.0).variables p.variable x.0 own_fits.initial x_there in
          let known = is-known t x.0.id.0 (plain x.0.initial) first in
          (component_at plan one.0, x.0, c_there, x_there, (exact t x.0.id.0 rules known v).bool.0 (ap (λ n. packs t n v) (sym type_is) ∙ packed))

  wait_entry_well : (now : ℕ) (told : List Told) (end own name : List ℕ) (e : Entry) → wait_entry t plan now told end own name ≡ Ok e → EntryWell now e
  unfolding wait_entry
  wait_entry_well now told end own name e h =
      let one = bound (or_stop why.Name (wait_place plan end own name)) _ e h in
      let p : WaitPlace = one.0 in
      let two = bound (unless_stop why.Twice (not (act.waits (told_of told p.comp).outstanding p.waiting.face p.waiting.member p.waiting.name))) _ e one.2 in
      subst (EntryWell now) (inside (wait_is one.0.comp one.0.waiting) e two.2) tt

  entry_well : (now : ℕ) (told : List Told) (s : Saying) (e : Entry) → entry_of t plan now told s ≡ Ok e → EntryWell now e
  entry_well now told begins e h = subst (EntryWell now) (inside nothing_is e h) tt
  entry_well now told (ends number) e h = time_well now number e h
  entry_well now told (ties lower upper) e h = subst (EntryWell now) (inside (wire_is lower upper) e h) tt
  entry_well now told (stands component own state entered passed) e h = machine_entry_well now told component own state entered passed e h
  entry_well now told (holds component own json) e h = variable_entry_well now told component own json e h
  entry_well now told (waits end own name) e h = wait_entry_well now told end own name e h

  -- ---- lines

  -- a time comes before anything is told of components
  abbrev InOrder : Stage → Stage → Entry → Type 0
  InOrder old new nothing_is = is_whole old ≡ false
  InOrder old new (time_is n) = (is_whole old ≡ false) × (is_whole new ≡ true)
  InOrder old new (wire_is lower upper) = is_whole new ≡ true
  InOrder old new (machine_is comp i s) = is_whole new ≡ true
  InOrder old new (variable_is comp i v) = is_whole new ≡ true
  InOrder old new (wait_is comp q) = is_whole new ≡ true

  first_is : (a b : Stage) → first_order a ≡ Some b → is_whole a ≡ false
  first_is First b e = refl
  first_is Time b e = cc
  first_is Wires b e = cc
  first_is States b e = cc

  then_time : (a b : Stage) → time_order a ≡ Some b → (is_whole a ≡ false) × (is_whole b ≡ true)
  then_time First b e = cc
  then_time Time b e = (refl, let same : Wires ≡ b = cc in subst (λ s. is_whole s ≡ true) same refl)
  then_time Wires b e = cc
  then_time States b e = cc

  then_wire : (a b : Stage) → wire_order a ≡ Some b → is_whole b ≡ true
  then_wire First b e = cc
  then_wire Time b e = cc
  then_wire Wires b e = let same : Wires ≡ b = cc in subst (λ s. is_whole s ≡ true) same refl
  then_wire States b e = cc

  then_state : (a b : Stage) → state_order a ≡ Some b → is_whole b ≡ true
  then_state First b e = cc
  then_state Time b e = cc
  then_state Wires b e = let same : States ≡ b = cc in subst (λ s. is_whole s ≡ true) same refl
  then_state States b e = let same : States ≡ b = cc in subst (λ s. is_whole s ≡ true) same refl

  -- what was read so far is as it may be
  record Sound (r : Reading) : Type 0 where
    early : r.now < 2 ^ 63
    told : AllWell t r.now plan r.told
    none : is_whole r.stage ≡ false → r.told ≡ map blank plan

  whole_none : (s : Stage) (a b : List Told) → is_whole s ≡ true → is_whole s ≡ false → a ≡ b
  whole_none s a b e f = absurd (let g = sym e ∙ f in cc)

  put_sound : (n : ℕ) (r : Reading) (stage : Stage) (e : Entry) → InOrder r.stage stage e → EntryWell r.now e → Sound r → Sound (put n e (record r { stage = stage }))
  put_sound n r stage nothing_is o w k = record { early = k.early; told = k.told; none = λ f. k.none o }
  put_sound n r stage (time_is m) o w k = record { early = w; told = subst (AllWell t m plan) (sym (k.none o.0)) (blank_well t m plan); none = whole_none stage r.told (map blank plan) o.1 }
  put_sound n r stage (wire_is lower upper) o w k = record { early = k.early; told = k.told; none = whole_none stage r.told (map blank plan) o }
  put_sound n r stage (machine_is comp i s) o w k = record {
    early = k.early;
    told = told_well t r.now plan r.told comp w.0 (with_machine i s) w.2 (machine_well t r.now w.0 i w.1 s w.3 w.4) k.told;
    none = whole_none stage (slice_set r.told comp (with_machine i s (told_of r.told comp))) (map blank plan) o;
  }
  put_sound n r stage (variable_is comp i v) o w k = record {
    early = k.early;
    told = told_well t r.now plan r.told comp w.0 (with_variable i v) w.2 (variable_well t r.now w.0 i w.1 v w.3 w.4) k.told;
    none = whole_none stage (slice_set r.told comp (with_variable i v (told_of r.told comp))) (map blank plan) o;
  }
  put_sound n r stage (wait_is comp q) o w k = record {
    early = k.early;
    told = waited (slice_get plan comp) refl;
    none = whole_none stage (slice_set r.told comp (with_wait q (told_of r.told comp))) (map blank plan) o;
  }
    where
      past : (xs : List ComponentPlan) (ys : List Told) (i : ℕ) (y : Told) → slice_get xs i ≡ None → AllWell t r.now xs ys → AllWell t r.now xs (slice_set ys i y)
      past [] [] i y e h = tt
      past [] (b ∷ ys) i y e h = absurd h
      past (a ∷ xs) [] i y e h = absurd h
      past (a ∷ xs) (b ∷ ys) zero y e h = cc
      past (a ∷ xs) (b ∷ ys) (suc i) y e h = (h.0, past xs ys i y e h.1)

      waited : (o : Option ComponentPlan) → slice_get plan comp ≡ o → AllWell t r.now plan (slice_set r.told comp (with_wait q (told_of r.told comp)))
      waited None e = past plan r.told comp (with_wait q (told_of r.told comp)) e k.told
      waited (Some c) e = told_well t r.now plan r.told comp c (with_wait q) e (wait_well t r.now c q) k.told

  -- an entry stands in order where its line does
  ordered : (now : ℕ) (told : List Told) (old new : Stage) (s : Saying) (e : Entry) → in_order old s ≡ Some new → entry_of t plan now told s ≡ Ok e → InOrder old new e
  unfolding machine_entry variable_entry wait_entry
  ordered now told old new begins e o h = subst (InOrder old new) (inside nothing_is e h) (first_is old new o)
  ordered now told old new (ends number) e o h =
      let one = bound (or_stop why.Number (number_of number)) _ e h in
      let two = bound (unless_stop why.Time (nat_lt one.0 (2 ^ 63))) _ e one.2 in
      subst (InOrder old new) (inside (time_is one.0) e two.2) (then_time old new o)
  ordered now told old new (ties lower upper) e o h = subst (InOrder old new) (inside (wire_is lower upper) e h) (then_wire old new o)
  ordered now told old new (stands component own state entered passed) e o h =
      let one = bound (or_stop why.Number (number_of entered)) _ e h in
      let two = bound (or_stop why.Number (number_of passed)) _ e one.2 in
      let three = bound (or_stop why.Name (machine_place plan component own state)) _ e two.2 in
      let p : MachinePlace = three.0 in
      let s : MachineState = record { at = p.at; entered = one.0; passed = two.0 } in
      let four = bound (unless_stop why.Twice (not (is_told (told_of told p.comp).machines p.machine))) _ e three.2 in
      let five = bound (unless_stop why.Time (in_time now s)) _ e four.2 in
      let six = bound (unless_stop why.Due (not (is_due now s (machine_at (component_at plan p.comp) p.machine)))) _ e five.2 in
      subst (InOrder old new) (inside (machine_is p.comp p.machine s) e six.2) (then_state old new o)
  ordered now told old new (holds component own json) e o h =
      let one = bound (or_stop why.Name (variable_place plan component own)) _ e h in
      let p : VariablePlace = one.0 in
      let two = bound (unless_stop why.Twice (not (is_told (told_of told p.comp).variables p.variable))) _ e one.2 in
      let three = bound (given_value t (type_of (slice_get (component_at plan p.comp).variables p.variable)) json) _ e two.2 in
      subst (InOrder old new) (inside (variable_is one.0.comp one.0.variable three.0) e three.2) (then_state old new o)
  ordered now told old new (waits end own name) e o h =
      let one = bound (or_stop why.Name (wait_place plan end own name)) _ e h in
      let p : WaitPlace = one.0 in
      let two = bound (unless_stop why.Twice (not (act.waits (told_of told p.comp).outstanding p.waiting.face p.waiting.member p.waiting.name))) _ e one.2 in
      subst (InOrder old new) (inside (wait_is one.0.comp one.0.waiting) e two.2) (then_state old new o)

  line_sound : (r q : Reading) (l : Line) → read_line t plan r l ≡ Ok q → Sound r → Sound q
  line_sound r q l h k =
      let one = bound (form l) _ q h in
      let two = bound (or_stop why.Words (in_order r.stage one.0)) _ q one.2 in
      let three = bound (entry_of t plan r.now r.told one.0) _ q two.2 in
      subst Sound (inside (put l.number three.0 (record r { stage = two.0 })) q three.2)
      (put_sound l.number r two.0 three.0 (ordered r.now r.told r.stage two.0 one.0 three.0 (there why.Words (in_order r.stage one.0) two.0 two.1) three.1) (entry_well r.now r.told one.0 three.0 three.1) k)

  at-line : {A : Type 0} (n : ℕ) (r : Result A SnapWhy) (x : A) → at_line n r ≡ Ok x → r ≡ Ok x
  at-line n (Ok y) x h = ap Ok (inside y x h)
  at-line n (Err w) x h = cc

  lines_sound : (ls : List Line) (r q : Reading) → read_lines t plan r ls ≡ Ok q → Sound r → Sound q
  lines_sound [] r q h k = subst Sound (inside r q h) k
  lines_sound (l ∷ ls) r q h k =
      let one = bound (at_line l.number (read_line t plan r l)) _ q h in
      lines_sound ls one.0 q one.2 (line_sound r one.0 l (at-line l.number (read_line t plan r l) one.0 one.1) k)

  snap_well : (next : ℕ) (r : Reading) (s : SnapNow) → snap_read plan next r ≡ Ok s → Sound r → MayGoOn t plan s
  snap_well next r s h k = go (is_whole r.stage) h
    where
      bad : BadSnap
      bad = record { line = next; why = why.Words }

      whole : SnapNow
      whole = record { now = r.now; wires = r.wires; states = states_told r.now plan r.told }

      go : (b : Bool) → cond b (Ok whole) (Err bad) ≡ Ok s → MayGoOn t plan s
      go true e = subst (MayGoOn t plan) (inside whole s e) (record { early = k.early; states = states_well t r.now plan r.told fits.components k.told })
      go false e = cc

  unread_sound : Sound (unread plan)
  unread_sound = record { early = omega arith; told = blank_well t 0 plan; none = λ e. refl }

  pub may_go_on : (octets : List ℕ) (s : SnapNow) → snap_of t plan octets ≡ Ok s → MayGoOn t plan s
  may_go_on octets s h =
      let one = bound (read_lines t plan (unread plan) (snap_lines octets)) _ s h in
      snap_well (length (snap_lines octets) + 1) one.0 s one.2 (lines_sound (snap_lines octets) (unread plan) one.0 one.1 unread_sound)

pub snaps_may_go_on : SizesAreExact → SnapsMayGoOn
snaps_may_go_on exact t plan octets s rules fits h = may_go_on t plan exact rules fits octets s h
