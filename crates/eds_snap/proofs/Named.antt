-- Things of a plan are found by their names.
use Rattle.std.proofs.Common.{◌≡◌, ◌+◌, ℕ, List, [], Option, Some, None, option_map, slice_get, refl, sym, ap, subst, ◌∙◌}
use Rattle.std.specs.Prelude.{unwrap_or}
use Rattle.eds_base.specs.Reading.{◌>>=◌}
use Rattle.eds_plan.specs.Ends.{end_text, found_end}
use Rattle.eds_plan.specs.Plans.{component_at, machine_at}
use Rattle.eds_plan.specs.declared.component.ComponentPlan.{ComponentPlan}
use Rattle.eds_plan.specs.declared.component.EndPlan.{EndPlan}
use Rattle.eds_plan.specs.declared.component.VarPlan.{VarPlan}
use Rattle.eds_plan.specs.declared.instance.Member.{Member}
use Rattle.eds_plan.specs.declared.machine.Machine.{Machine}
use Rattle.eds_plan.specs.declared.machine.State.{State}
use Rattle.eds_plan.specs.declared.run.Outstanding.{Outstanding}
use Rattle.eds_snap.proofs.Gone.{component_is, machine_of}
use Rattle.eds_plan.specs.Names.{IsWord, name_of_member}
use Rattle.eds_script.specs.Names.{end_name, member_name, state_name, transaction_name}
use Rattle.eds_snap.specs.Places.{MachinePlace, VariablePlace, WaitPlace, component_named, machine_named, machine_place, member_named, state_named, transaction_named, variable_named, variable_place, wait_place}

-- a name is a word, by which the thing at a place is found
pub record IsName (name : List ℕ) (found : Option ℕ) (place : ℕ) : Type 0 where
  pub word : IsWord name
  pub at : found ≡ Some place

-- a machine and its states are found by their names
pub record MachineNamed (c : ComponentPlan) (i : ℕ) (m : Machine) : Type 0 where
  pub name : IsName m.name (machine_named c m.name) i
  pub states : (at : ℕ) (s : State) → slice_get m.states at ≡ Some s → IsName s.name (state_named m s.name) at

-- an end is found by its text, and its members by their names
pub record EndNamed (plan : List ComponentPlan) (comp : ℕ) (c : ComponentPlan) (face : ℕ) (e : EndPlan) : Type 0 where
  pub word : IsWord (end_text c.name e.name)
  pub at : found_end plan (end_text c.name e.name) ≡ Some (record { comp = record { 0 = comp }; face = face }, e)
  pub members : (i : ℕ) (m : Member) → slice_get e.instance.members i ≡ Some m → IsName (name_of_member m) (member_named e (name_of_member m)) i

-- what a component has is found by its name
pub record ComponentNamed (plan : List ComponentPlan) (comp : ℕ) (c : ComponentPlan) : Type 0 where
  pub name : IsName c.name (component_named plan c.name) comp
  pub machines : (i : ℕ) (m : Machine) → slice_get c.machines i ≡ Some m → MachineNamed c i m
  pub variables : (i : ℕ) (x : VarPlan) → slice_get c.variables i ≡ Some x → IsName x.name (variable_named c x.name) i
  pub ends : (face : ℕ) (e : EndPlan) → slice_get c.ends face ≡ Some e → EndNamed plan comp c face e
  pub transactions : (i : ℕ) (n : List ℕ) → slice_get c.transactions i ≡ Some n → IsName n (transaction_named c n) i

-- so it is in the whole plan
abbrev pub AllNamed : List ComponentPlan → Type 0
AllNamed plan = (comp : ℕ) (c : ComponentPlan) → slice_get plan comp ≡ Some c → ComponentNamed plan comp c

-- ---- by the names that are printed

pub state-named : (m : Machine) (at : ℕ) (s : State) → slice_get m.states at ≡ Some s → IsName s.name (state_named m s.name) at → IsName (state_name m at) (state_named m (state_name m at)) at
state-named m at s e h = subst (λ name. IsName name (state_named m name) at) (sym (ap (λ o. unwrap_or (option_map (λ (x : State). x.name) o) []) e)) h

module _ (plan : List ComponentPlan) (comp : ℕ) (c : ComponentPlan) (there : slice_get plan comp ≡ Some c) (named : ComponentNamed plan comp c) where
  own : component_at plan comp ≡ c
  own = component_is plan comp c there

  pub machine-placed : (i : ℕ) (m : Machine) (at : ℕ) (state : List ℕ) → slice_get c.machines i ≡ Some m → state_named m state ≡ Some at → machine_place plan c.name m.name state ≡ Some (record { comp = comp; machine = i; at = at })
  machine-placed i m at state e s =
      ap (λ o. o >>= λ k. machine_named (component_at plan k) m.name >>= λ j. option_map (λ (a : ℕ). place k j a) (state_named (machine_at (component_at plan k) j) state)) named.name.at
      ∙ ap (λ (k : ComponentPlan). machine_named k m.name >>= λ j. option_map (λ (a : ℕ). place comp j a) (state_named (machine_at k j) state)) own
      ∙ ap (λ o. o >>= λ j. option_map (λ (a : ℕ). place comp j a) (state_named (machine_at c j) state)) (named.machines i m e).name.at
      ∙ ap (λ (k : Machine). option_map (λ (a : ℕ). place comp i a) (state_named k state)) (machine_of c i m e)
      ∙ ap (option_map (λ (a : ℕ). place comp i a)) s
    where
      place : ℕ → ℕ → ℕ → MachinePlace
      place k j a = record { comp = k; machine = j; at = a }

  pub variable-placed : (i : ℕ) (x : VarPlan) → slice_get c.variables i ≡ Some x → variable_place plan c.name x.name ≡ Some (record { comp = comp; variable = i })
  variable-placed i x e =
      ap (λ o. o >>= λ k. option_map (λ (a : ℕ). place k a) (variable_named (component_at plan k) x.name)) named.name.at
      ∙ ap (λ (k : ComponentPlan). option_map (λ (a : ℕ). place comp a) (variable_named k x.name)) own
      ∙ ap (option_map (λ (a : ℕ). place comp a)) (named.variables i x e).at
    where
      place : ℕ → ℕ → VariablePlace
      place k a = record { comp = k; variable = a }

  pub wait-placed : (q : Outstanding) (e : EndPlan) (m : Member) (n : List ℕ) → slice_get c.ends q.face ≡ Some e → slice_get e.instance.members q.member ≡ Some m → slice_get c.transactions q.name ≡ Some n
      → wait_place plan (end_text c.name e.name) (name_of_member m) n ≡ Some (record { comp = comp; waiting = q })
  wait-placed q e m n at_end at_member at_name =
      let end = named.ends q.face e at_end in
      ap (λ o. o >>= λ p. member_named p.1 (name_of_member m) >>= λ j. option_map (λ (k : ℕ). place p.0.comp.0 p.0.face j k) (transaction_named (component_at plan p.0.comp.0) n)) end.at
      ∙ ap (λ o. o >>= λ j. option_map (λ (k : ℕ). place comp q.face j k) (transaction_named (component_at plan comp) n)) (end.members q.member m at_member).at
      ∙ ap (λ (d : ComponentPlan). option_map (λ (k : ℕ). place comp q.face q.member k) (transaction_named d n)) own
      ∙ ap (option_map (λ (k : ℕ). place comp q.face q.member k)) (named.transactions q.name n at_name).at
    where
      place : ℕ → ℕ → ℕ → ℕ → WaitPlace
      place k face j name = record { comp = k; waiting = record { face = face; member = j; name = name } }

-- the texts of a transaction's end, member and name
pub end-is : (c : ComponentPlan) (face : ℕ) (e : EndPlan) → slice_get c.ends face ≡ Some e → end_name c face ≡ e.name
end-is c face e h = ap (λ o. unwrap_or (option_map (λ (x : EndPlan). x.name) o) []) h

pub member-is : (c : ComponentPlan) (face member : ℕ) (e : EndPlan) (m : Member) → slice_get c.ends face ≡ Some e → slice_get e.instance.members member ≡ Some m → member_name (slice_get c.ends face) member ≡ name_of_member m
member-is c face member e m h k = ap (λ o. member_name o member) h ∙ ap (λ o. unwrap_or (option_map name_of_member o) []) k

pub transaction-is : (c : ComponentPlan) (name : ℕ) (n : List ℕ) → slice_get c.transactions name ≡ Some n → transaction_name c name ≡ n
transaction-is c name n h = ap (λ o. unwrap_or o []) h
