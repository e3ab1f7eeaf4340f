-- What a plan that fits its table gives to the functions that run it.
use Rattle.std.proofs.Common.{◌≡◌, ℕ, zero, suc, ◌<◌, List, [], ◌∷◌, length, map, Bool, true, false, Option, Some, subst}
use Rattle.std.specs.Prelude.{if◌then◌else◌}
use Rattle.std.specs.List.{AllByRecursion}
use Rattle.std.proofs.lemmas.Option.{slice_get_within}
use Rattle.eds_types.specs.Plain.{Plain, plain}
use Rattle.eds_types.specs.Rows.{Table}
use Rattle.eds_types.specs.Spelling.{SpellsWithin}
use Rattle.eds_plan.specs.declared.activity.Op.{Op}
use Rattle.eds_plan.specs.declared.activity.Op.TheVariants as op
use Rattle.eds_plan.specs.declared.component.ComponentPlan.{ComponentPlan}
use Rattle.eds_plan.specs.declared.component.VarPlan.{VarPlan}
use Rattle.eds_plan.specs.declared.instance.Argument.{Argument}
use Rattle.eds_plan.specs.declared.instance.Member.{Member}
use Rattle.eds_plan.specs.declared.instance.Member.TheVariants as member
use Rattle.eds_plan.specs.declared.run.Way.{Way}
use Rattle.eds_plan.specs.Fitting.{ComponentFits, MemberKnown}
use Rattle.eds_plan.specs.Carried.{carried, carried_of, goes}
use Rattle.eds_act.specs.Does.{Conforms, way_of}
use Rattle.eds_act.specs.Running.{IsKnown, Fits}

known_by : (t : Table) (id : ℕ) (v : Plain) → Conforms t id v → id < length t
unfolding SpellsWithin
known_by t id v h = slice_get_within t id ((h.1).1).0 (((h.1).1).1)

variables_known : (t : Table) (xs : List VarPlan) → AllByRecursion (λ (x : VarPlan). Conforms t x.id.0 (plain x.initial)) xs → IsKnown t (map (λ (x : VarPlan). x.id.0) xs)
variables_known t [] h i id at = absurd cc
variables_known t (x ∷ xs) h zero id at = let e : x.id.0 ≡ id = cc in let P : ℕ → Type 0 = λ n. n < length t in subst P e (known_by t x.id.0 (plain x.initial) h.0)
variables_known t (x ∷ xs) h (suc i) id at = variables_known t xs h.1 i id at

one_known : (t : Table) (n : ℕ) → n < length t → IsKnown t (n ∷ [])
one_known t n lt zero id at = let e : n ≡ id = cc in let P : ℕ → Type 0 = λ m. m < length t in subst P e lt
one_known t n lt (suc i) id at = absurd cc

none_known : (t : Table) → IsKnown t []
none_known t i id at = absurd cc

more_known : (t : Table) (n : ℕ) (ids : List ℕ) → n < length t → IsKnown t ids → IsKnown t (n ∷ ids)
more_known t n ids lt h zero id at = let e : n ≡ id = cc in let P : ℕ → Type 0 = λ m. m < length t in subst P e lt
more_known t n ids lt h (suc i) id at = h i id at

carried_known : (t : Table) (way : Way) (args : List Argument) → AllByRecursion (λ (a : Argument). a.id.0 < length t) args → IsKnown t (carried_of way args)
carried_known t way [] h = none_known t
carried_known t way (a ∷ args) h = go (goes way a.mode) (carried_known t way args h.1)
  where
    go : (b : Bool) → IsKnown t (carried_of way args) → IsKnown t (if b then a.id.0 ∷ carried_of way args else carried_of way args)
    go true ih = more_known t a.id.0 (carried_of way args) h.0 ih
    go false ih = ih

member_known : (t : Table) (way : Way) (o : Op) (m : Member) → MemberKnown t (Some m) → IsKnown t (carried o way (Some m))
member_known t way op.Command (member.Parameter name id read_only) h = none_known t
member_known t way op.Get (member.Parameter name id read_only) h = none_known t
member_known t way op.Set (member.Parameter name id read_only) h = one_known t id.0 h
member_known t way op.Val (member.Parameter name id read_only) h = one_known t id.0 h
member_known t way op.Command (member.Command name args) h = carried_known t way args h
member_known t way op.Get (member.Command name args) h = none_known t
member_known t way op.Set (member.Command name args) h = none_known t
member_known t way op.Val (member.Command name args) h = none_known t

pub fitted : (t : Table) (c : ComponentPlan) → ComponentFits t (Conforms t) c → Fits t c
fitted t c f = record {
  variables = variables_known t c.variables f.initial;
  members = λ i j e m o at at'. member_known t (way_of e) o m (let P : Option Member → Type 0 = MemberKnown t in subst P at' (f.members i j e at));
  arguments = λ i a at j id at'. f.known i j a id at at';
}
