-- What leaves a run, and where components stand, has values of its types.
use Rattle.std.proofs.Common.{◌≡◌, ◌<◌, ℕ, suc, List, [], ◌∷◌, map, length, Bool, true, false, Some, slice_get, refl, sym, ap, subst, ◌∙◌}
use Rattle.std.specs.List.{AllByRecursion}
use Rattle.std.proofs.lemmas.Option.{slice_get_within}
use Rattle.eds_base.specs.declared.ids.TypeId.{TypeId}
use Rattle.eds_types.specs.Plain.{Plain}
use Rattle.eds_types.specs.Rows.{Table}
use Rattle.eds_types.specs.Spelling.{SpellsWithin}
use Rattle.eds_plan.specs.Carried.{OpFits, carried, carried_fields, carried_of, goes}
use Rattle.eds_plan.specs.Fitting.{ComponentFits, MemberKnown}
use Rattle.eds_plan.specs.Outs.{Signal, left, stopped, refused}
use Rattle.eds_plan.specs.Plans.{component_at}
use Rattle.eds_plan.specs.declared.activity.Op.{Op}
use Rattle.eds_plan.specs.declared.activity.Op.TheVariants as op
use Rattle.eds_plan.specs.declared.component.ComponentPlan.{ComponentPlan}
use Rattle.eds_plan.specs.declared.component.EndPlan.{EndPlan}
use Rattle.eds_plan.specs.declared.component.VarPlan.{VarPlan}
use Rattle.eds_plan.specs.declared.instance.Argument.{Argument}
use Rattle.eds_plan.specs.declared.instance.Member.{Member}
use Rattle.eds_plan.specs.declared.instance.Member.TheVariants as member
use Rattle.eds_plan.specs.declared.run.Way.{Way}
use Rattle.eds_plan.specs.declared.run.Way.TheVariants.{Down, Up}
use Rattle.eds_act.specs.Does.{AllConform, Conforms}
use Rattle.eds_script.specs.Fitting.{AreValuesOf, FitsMember, FitsParameter, HaveValues, IsValueOf}
use Rattle.eds_script.specs.Known.{AreKnown, IsKnown}
use Rattle.eds_script.specs.Names.{member_at, member_in}
use Rattle.eds_host.specs.Machines.{IsStateOf}
use Rattle.eds_cmd.specs.RunLaws.{OutsMayBePrinted, PlansKnowTypes, StatesMayBePrinted}

-- ---- values

-- a type as which a value packs is there
known : (t : Table) (id : ℕ) (v : Plain) → Conforms t id v → id < length t
unfolding SpellsWithin
known t id v h = slice_get_within t id ((h.1).1).0 (((h.1).1).1)

value : (t : Table) (id : ℕ) (v : Plain) → Conforms t id v → IsValueOf t id v
value t id v c = record { known = known t id v c; size = c.0; packs = c.1 }

carried_values : (t : Table) (way : Way) (args : List Argument) (vs : List Plain) → AllConform t (carried_of way args) vs → AreValuesOf t (carried_fields way args) vs
carried_values t way [] [] h = tt
carried_values t way [] (v ∷ vs) h = absurd h
carried_values t way (a ∷ as') vs h = go (goes way a.mode) refl vs h (λ ws g. carried_values t way as' ws g)
  where
    go : (b : Bool) → goes way a.mode ≡ b → (vs : List Plain) → AllConform t (carried_of way (a ∷ as')) vs
        → ((ws : List Plain) → AllConform t (carried_of way as') ws → AreValuesOf t (carried_fields way as') ws) → AreValuesOf t (carried_fields way (a ∷ as')) vs
    go false e vs h on = rw e (on vs (rw e at h))
    go true e [] h on = let none = rw e at h in absurd none
    go true e (v ∷ vs) h on = let k = rw e at h in rw e (value t a.id.0 v k.0, on vs k.1)

-- ---- outs

parameter_fits : (t : Table) (name : List ℕ) (id : TypeId) (read_only : Bool) (o : Op) (way : Way) (vs : List Plain) → OpFits o way (member.Parameter name id read_only)
    → AllConform t (carried o way (Some (member.Parameter name id read_only))) vs → FitsParameter t id o vs
parameter_fits t name id read_only op.Command Down vs fit h = absurd fit
parameter_fits t name id read_only op.Command Up vs fit h = absurd fit
parameter_fits t name id read_only op.Get way [] fit h = refl
parameter_fits t name id read_only op.Get way (v ∷ vs) fit h = absurd h
parameter_fits t name id read_only op.Set way [] fit h = absurd h
parameter_fits t name id read_only op.Set way (v ∷ []) fit h = value t id.0 v h.0
parameter_fits t name id read_only op.Set way (v ∷ w ∷ vs) fit h = absurd h.1
parameter_fits t name id read_only op.Val way [] fit h = absurd h
parameter_fits t name id read_only op.Val way (v ∷ []) fit h = value t id.0 v h.0
parameter_fits t name id read_only op.Val way (v ∷ w ∷ vs) fit h = absurd h.1

command_fits : (t : Table) (name : List ℕ) (args : List Argument) (o : Op) (way : Way) (vs : List Plain) → OpFits o way (member.Command name args)
    → AllConform t (carried o way (Some (member.Command name args))) vs → (o ≡ op.Command) × AreValuesOf t (carried_fields way args) vs
command_fits t name args op.Command way vs fit h = (refl, carried_values t way args vs h)
command_fits t name args op.Get Down vs fit h = absurd fit
command_fits t name args op.Get Up vs fit h = absurd fit
command_fits t name args op.Set Down vs fit h = absurd fit
command_fits t name args op.Set Up vs fit h = absurd fit
command_fits t name args op.Val Down vs fit h = absurd fit
command_fits t name args op.Val Up vs fit h = absurd fit

member_fits : (t : Table) (s : Signal) (m : Member) → OpFits s.op s.way m → AllConform t (carried s.op s.way (Some m)) s.arguments → FitsMember t s (Some m)
member_fits t s (member.Parameter name id read_only) fit h = parameter_fits t name id read_only s.op s.way s.arguments fit h
member_fits t s (member.Command name args) fit h = command_fits t name args s.op s.way s.arguments fit h

pub outs_may_be_printed : OutsMayBePrinted
outs_may_be_printed t plan (left time s) h =
    let is : member_at plan s.end s.member ≡ Some h.member = ap (λ e. member_in e s.member) h.here ∙ h.there in
    subst (FitsMember t s) (sym is) (member_fits t s h.member h.op h.values)
outs_may_be_printed t plan (stopped time component machine halt) h = tt
outs_may_be_printed t plan (refused time e member fault) h = tt

-- ---- states

variable_values : (t : Table) (xs : List VarPlan) (vs : List Plain) → AllConform t (map (λ (x : VarPlan). x.id.0) xs) vs → HaveValues t xs vs
variable_values t [] [] h = tt
variable_values t [] (v ∷ vs) h = absurd h
variable_values t (x ∷ xs) [] h = absurd h
variable_values t (x ∷ xs) (v ∷ vs) h = (value t x.id.0 v h.0, variable_values t xs vs h.1)

pub states_may_be_printed : StatesMayBePrinted
unfolding IsStateOf
states_may_be_printed t plan comp now s h = variable_values t (component_at plan comp).variables s.variables h.0

-- ---- plans

each : {A : Type 0} (P : A → Type 0) (xs : List A) → ((i : ℕ) (x : A) → slice_get xs i ≡ Some x → P x) → AllByRecursion P xs
each P [] f = tt
each P (x ∷ xs) f = (f 0 x refl, each P xs (λ i y e. f (suc i) y e))

member_known : (t : Table) (m : Member) → MemberKnown t (Some m) → IsKnown t m
member_known t (member.Parameter name id read_only) h = h
member_known t (member.Command name args) h = h

end_known : (t : Table) (e : EndPlan) → ((j : ℕ) → MemberKnown t (slice_get e.instance.members j)) → AreKnown t e
end_known t e f = each (IsKnown t) e.instance.members (λ j m is. member_known t m (subst (MemberKnown t) is (f j)))

components_known : (t : Table) (cs : List ComponentPlan) → AllByRecursion (ComponentFits t (Conforms t)) cs → AllByRecursion (λ (c : ComponentPlan). AllByRecursion (AreKnown t) c.ends) cs
components_known t [] h = tt
components_known t (c ∷ cs) h = (each (AreKnown t) c.ends (λ i e is. end_known t e (λ j. h.0.members i j e is)), components_known t cs h.1)

pub plans_know_types : PlansKnowTypes
plans_know_types t plan h = components_known t plan h.components
