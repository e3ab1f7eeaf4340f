-- What the parameter map stores conforms.
use Rattle.std.proofs.Common.{◌≡◌, ℕ, zero, suc, List, [], ◌∷◌, map, Bool, true, false, Option, Some, None, slice_get, refl, sym, ap, subst, ◌∙◌}
use Rattle.std.specs.Prelude.{slice_set, OnOk, OnErr, Result, Ok, Err, if◌then◌else◌}
use Rattle.std.specs.List.{AllByRecursion, find}
use Rattle.std.proofs.lemmas.Bool.Decides.{nat_tests}
use Rattle.std.proofs.Common.{arith}
use Rattle.eds_base.specs.declared.fail.Memory.{Memory}
use Rattle.eds_base.specs.declared.ids.TypeId.{TypeId}
use Rattle.eds_types.specs.declared.value.Value.{Value}
use Rattle.eds_types.specs.Plain.{Plain, plain}
use Rattle.eds_types.specs.Rows.{Table}
use Rattle.eds_plan.specs.declared.activity.Op.{Op}
use Rattle.eds_plan.specs.declared.activity.Op.TheVariants as op
use Rattle.eds_plan.specs.declared.component.ComponentPlan.{ComponentPlan}
use Rattle.eds_plan.specs.declared.component.EndPlan.{EndPlan}
use Rattle.eds_plan.specs.declared.component.MapPlan.{MapPlan}
use Rattle.eds_plan.specs.declared.component.VarPlan.{VarPlan}
use Rattle.eds_plan.specs.declared.instance.Member.{Member}
use Rattle.eds_plan.specs.declared.instance.Member.TheVariants as member
use Rattle.eds_plan.specs.declared.run.CompState.{CompState}
use Rattle.eds_plan.specs.declared.run.Primitive.{Primitive}
use Rattle.eds_plan.specs.declared.run.Send.{Send}
use Rattle.eds_plan.specs.declared.run.Way.{Way}
use Rattle.eds_plan.specs.Carried.{carried}
use Rattle.eds_plan.specs.Plans.{variable_types}
use Rattle.eds_act.specs.Does.{Conforms, AllConform}
use Rattle.eds_act.proofs.Conforming.{conform_set}
use Rattle.eds_plan.specs.Fitting.{MapFits}
use Rattle.eds_machine.specs.Conditions.{MachinesFit, Arrives}
use Rattle.eds_machine.specs.Reactions.{Reacting, reacting, stored, mapped, mapped_by, map_reacts, maps_to, is_required}

-- a number of a list of types is that of its variable
variable_of : (xs : List VarPlan) (i : ℕ) (id : ℕ) → slice_get (map (λ (x : VarPlan). x.id.0) xs) i ≡ Some id → (x : VarPlan) × (slice_get xs i ≡ Some x) × (x.id.0 ≡ id)
variable_of [] i id h = absurd cc
variable_of (x ∷ xs) zero id h = (x, refl, cc)
variable_of (x ∷ xs) (suc i) id h = variable_of xs i id h

-- nothing is set where there is no variable
none_set : (t : Table) (ids : List ℕ) (vs : List Plain) (i : ℕ) (v : Plain) → AllConform t ids vs → slice_get ids i ≡ None → AllConform t ids (slice_set vs i v)
none_set t [] [] i v all h = tt
none_set t [] (u ∷ vs) i v all h = absurd all
none_set t (x ∷ ids) [] i v all h = all
none_set t (x ∷ ids) (u ∷ vs) zero v all h = absurd cc
none_set t (x ∷ ids) (u ∷ vs) (suc i) v all h = (all.0, none_set t ids vs i v all.1 h)

module _ (t : Table) (c : ComponentPlan) where
  -- a value of the parameter's type goes to a variable of that type
  set_conforms : (x : ℕ) (id : ℕ) (v : Plain) (vars : List Plain) → ((y : VarPlan) → slice_get c.variables x ≡ Some y → y.id.0 ≡ id) → Conforms t id v → AllConform t (variable_types c) vars → AllConform t (variable_types c) (slice_set vars x v)
  set_conforms x id v vars same h all = go (slice_get (variable_types c) x) refl
    where
      go : (o : Option ℕ) → slice_get (variable_types c) x ≡ o → AllConform t (variable_types c) (slice_set vars x v)
      go None e = none_set t (variable_types c) vars x v all e
      go (Some k) e =
          let y = variable_of c.variables x k e in
          let is : k ≡ id = sym y.2 ∙ same y.0 y.1 in
          conform_set t (variable_types c) vars x k v all e (subst (λ n. Conforms t n v) (sym is) h)

  -- the types that a stored primitive carries are the parameter's alone
  stored_conforms : (o : Op) (way : Way) (m : Option Member) (x : ℕ) (args vars : List Plain) → (o ≡ op.Command → ⊥) → (o ≡ op.Get → ⊥) → ((name : List ℕ) (id : TypeId) (read_only : Bool) → m ≡ Some (member.Parameter name id read_only) → (y : VarPlan) → slice_get c.variables x ≡ Some y → y.id ≡ id) → AllConform t (carried o way m) args → AllConform t (variable_types c) vars → AllConform t (variable_types c) (stored x args vars)
  stored_conforms op.Command way m x args vars no_command no_get same h all = absurd (no_command refl)
  stored_conforms op.Get way m x args vars no_command no_get same h all = absurd (no_get refl)
  stored_conforms op.Set way m x [] vars no_command no_get same h all = all
  stored_conforms op.Val way m x [] vars no_command no_get same h all = all
  stored_conforms op.Set way None x (v ∷ vs) vars no_command no_get same h all = absurd h
  stored_conforms op.Val way None x (v ∷ vs) vars no_command no_get same h all = absurd h
  stored_conforms op.Set way (Some (member.Command name as')) x (v ∷ vs) vars no_command no_get same h all = absurd h
  stored_conforms op.Val way (Some (member.Command name as')) x (v ∷ vs) vars no_command no_get same h all = absurd h
  stored_conforms op.Set way (Some (member.Parameter name id read_only)) x (v ∷ vs) vars no_command no_get same h all = set_conforms x id.0 v vars (λ y at. ap (λ (k : TypeId). k.0) (same name id read_only refl y at)) h.0 all
  stored_conforms op.Val way (Some (member.Parameter name id read_only)) x (v ∷ vs) vars no_command no_get same h all = set_conforms x id.0 v vars (λ y at. ap (λ (k : TypeId). k.0) (same name id read_only refl y at)) h.0 all

  -- what a map makes of a primitive
  pub mapped_conforms : (required : Bool) (o : Op) (way : Way) (e : Option Member) (face number x : ℕ) (args : List Plain) (r : Reacting) → ((name : List ℕ) (id : TypeId) (read_only : Bool) → e ≡ Some (member.Parameter name id read_only) → (y : VarPlan) → slice_get c.variables x ≡ Some y → y.id ≡ id) → AllConform t (carried o way e) args → AllConform t (variable_types c) r.world.variables → AllConform t (variable_types c) (mapped required o args face number x r).world.variables
  mapped_conforms true op.Command way e face number x args r same h all = all
  mapped_conforms false op.Command way e face number x args r same h all = all
  mapped_conforms false op.Get way e face number x args r same h all = all
  mapped_conforms false op.Set way e face number x args r same h all = stored_conforms op.Set way e x args r.world.variables (λ q. cc) (λ q. cc) same h all
  mapped_conforms false op.Val way e face number x args r same h all = all
  mapped_conforms true op.Get way e face number x args r same h all = all
  mapped_conforms true op.Set way e face number x args r same h all = all
  mapped_conforms true op.Val way e face number x args r same h all = stored_conforms op.Val way e x args r.world.variables (λ q. cc) (λ q. cc) same h all

  -- a map that is found fits, and is of the end and member
  pub found_fits : (face number : ℕ) (ms : List MapPlan) (m : MapPlan) → find (maps_to face number) ms ≡ Some m → AllByRecursion (MapFits c) ms → MapFits c m × (m.face ≡ face) × (m.member ≡ number)
  found_fits face number [] m e h = absurd cc
  found_fits face number (y ∷ ys) m e h = go (maps_to face number y) refl e (λ f. found_fits face number ys m f h.1)
    where
      go : (b : Bool) → maps_to face number y ≡ b → (if b then Some y else find (maps_to face number) ys) ≡ Some m → (find (maps_to face number) ys ≡ Some m → MapFits c m × (m.face ≡ face) × (m.member ≡ number)) → MapFits c m × (m.face ≡ face) × (m.member ≡ number)
      go true p f rest = let same : y ≡ m = cc in (subst (MapFits c) same h.0, ap (λ (k : MapPlan). k.face) (sym same) ∙ grind (arith, nat_tests), ap (λ (k : MapPlan). k.member) (sym same) ∙ grind (arith, nat_tests))
      go false p f rest = rest f

  -- the parameter of the map has the type of its variable
  pub mapped_type : (m : MapPlan) (e : EndPlan) (number : ℕ) → MapFits c m → Some e ≡ slice_get c.ends m.face → m.member ≡ number → (name : List ℕ) (id : TypeId) (read_only : Bool) → slice_get e.instance.members number ≡ Some (member.Parameter name id read_only) → (y : VarPlan) → slice_get c.variables m.variable ≡ Some y → y.id ≡ id
  mapped_type m e number fits at same name id read_only is y there =
      let end : e ≡ fits.end = let f = at ∙ fits.end_is in cc in
      let own : Some (member.Parameter fits.name fits.id fits.read_only) ≡ Some (member.Parameter name id read_only) =
      sym fits.member_is ∙ ap (slice_get fits.end.instance.members) same ∙ ap (λ (x : EndPlan). slice_get x.instance.members number) (sym end) ∙ is in
      let same_id : fits.id ≡ id = cc in
      let one : y ≡ fits.variable = let f = sym there ∙ fits.variable_is in cc in
      ap (λ (x : VarPlan). x.id) one ∙ fits.same ∙ same_id

  reacts_conforms : (p : Primitive) (e : EndPlan) (r : Reacting) → AllByRecursion (MapFits c) c.maps → slice_get c.ends p.end.face ≡ Some e → AllConform t (carried p.op p.way (slice_get e.instance.members p.member)) (map plain p.arguments) → AllConform t (variable_types c) r.world.variables → AllConform t (variable_types c) (map_reacts c p.end.face p.member p.op (map plain p.arguments) r).world.variables
  reacts_conforms p e r fits at h all = go (find (maps_to p.end.face p.member) c.maps) refl
    where
      go : (o : Option MapPlan) → find (maps_to p.end.face p.member) c.maps ≡ o → AllConform t (variable_types c) (mapped_by (is_required c p.end.face) p.op (map plain p.arguments) p.end.face p.member o r).world.variables
      go None q = all
      go (Some m) q =
          let f = found_fits p.end.face p.member c.maps m q fits in
          mapped_conforms (is_required c p.end.face) p.op p.way (slice_get e.instance.members p.member) p.end.face p.member m.variable (map plain p.arguments) r
          (mapped_type m e p.member (f.0) (sym (ap (slice_get c.ends) f.1 ∙ at)) f.2) h all

  pub map_conforms : (res : Result (Unit {0}) Memory) (comp : ℕ) (p : Primitive) (s s' : CompState) (out out' : List Send) (left : ℕ) → MachinesFit t c → Arrives t comp c p → AllConform t (variable_types c) (map plain s.variables) → OnErr res (s'.variables ≡ s.variables) → OnOk res (reacting comp s' out' left ≡ map_reacts c p.end.face p.member p.op (map plain p.arguments) (reacting comp s out left)) → AllConform t (variable_types c) (map plain s'.variables)
  map_conforms (Ok u) comp p s s' out out' left fits a all kept ok = subst (AllConform t (variable_types c)) (sym (ap (λ (r : Reacting). r.world.variables) ok)) (reacts_conforms p a.end (reacting comp s out left) fits.maps a.end_is a.arguments all)
  map_conforms (Err e) comp p s s' out out' left fits a all kept ok = subst (λ (vs : List Value). AllConform t (variable_types c) (map plain vs)) (sym kept) all
