-- What arrives at an end is what the list of all has there.
use Rattle.std.proofs.Common.{◌≡◌, ℕ, suc, ◌+◌, Bool, true, false, Option, Some, None, List, [], ◌∷◌, ◌++◌, map, option_map, slice_get, refl, sym, ap, ◌∙◌, arith}
use Rattle.std.proofs.lemmas.List.{append_assoc}
use Rattle.std.proofs.lemmas.Option.{slice_get-map}
use Rattle.eds_base.specs.Reading.{◌>>=◌, same}
use Rattle.eds_types.specs.Rows.{Table}
use Rattle.eds_plan.specs.Carried.{arriving, carried_fields}
use Rattle.eds_plan.specs.declared.component.ComponentPlan.{ComponentPlan}
use Rattle.eds_plan.specs.declared.component.EndPlan.{EndPlan}
use Rattle.eds_plan.specs.declared.instance.Member.{Member}
use Rattle.eds_plan.specs.declared.instance.Member.TheVariants as member
use Rattle.eds_plan.specs.declared.run.End.{End}
use Rattle.eds_script.specs.Carries.{Fields, component_fields, end_fields, fields_there, member_fields, plan_fields}
use Rattle.eds_plan.specs.Ends.{end_at, found_end}
use Rattle.eds_script.specs.Known.{AreFieldsKnown, AreKnown}
use Rattle.eds_script.specs.Members.{Carrying, Commanded, command_from, command_place, commanded}
use Rattle.eds_script.proofs.Knowing.{command-known, fields-known, found-there}

-- those of an end are those that the list of all has there
pub fields-there : (plan : List ComponentPlan) (e : End) → fields_there (plan_fields plan) e ≡ option_map end_fields (end_at plan e)
fields-there plan e = ap (λ (o : Option (List (List Fields))). o >>= λ c. slice_get c e.face) (slice_get-map component_fields plan e.comp.0) ∙ at_comp (slice_get plan e.comp.0)
  where
    at_comp : (o : Option ComponentPlan) → (option_map component_fields o >>= λ c. slice_get c e.face) ≡ option_map end_fields (o >>= λ c. slice_get c.ends e.face)
    at_comp None = refl
    at_comp (Some c) = slice_get-map end_fields c.ends e.face

-- so what arrives there is in the list of all
pub found-fields : (plan : List ComponentPlan) (all : List (List (List Fields))) (text : List ℕ) (e : End) (p : EndPlan) → found_end plan text ≡ Some (e, p) → all ≡ plan_fields plan
    → fields_there all e ≡ Some (end_fields p)
found-fields plan all text e p found is =
    ap (λ (fs : List (List (List Fields))). fields_there fs e) is ∙ fields-there plan e ∙ ap (option_map end_fields) (found-there plan text e p found)

-- ---- lists of what is found for each

-- one more is found
pub mapped-step : {A B : Type 0} (f : A → B) (rest after : List A) (x : A) (so_far next whole : List B) (y : B)
    → rest ≡ x ∷ after → next ≡ so_far ++ y ∷ [] → y ≡ f x → so_far ++ map f rest ≡ whole → next ++ map f after ≡ whole
mapped-step f rest after x so_far next whole y split pushed found all =
    ap (λ xs. xs ++ map f after) (pushed ∙ ap (λ z. so_far ++ z ∷ []) found)
    ∙ append_assoc so_far (f x ∷ []) (map f after)
    ∙ ap (λ xs. so_far ++ map f xs) (sym split) ∙ all

-- ---- commands

abbrev Stands : Bool → List Member → ℕ → Commanded → Type 0
Stands required ms i m = (k : ℕ) × (m.place ≡ i + k) × (slice_get (map (member_fields required) ms) k ≡ Some (carried_fields (arriving required) m.arguments))

stands-behind : (required : Bool) (x : Member) (ms : List Member) (i : ℕ) (m : Commanded) → Stands required ms (i + 1) m → Stands required (x ∷ ms) i m
stands-behind required x ms i m h = (suc h.0, (let at = h.1 in omega (arith, at)), h.2)

stands : (required : Bool) (name : List ℕ) (i : ℕ) (ms : List Member) (m : Commanded) → command_from name i ms ≡ Some m → Stands required ms i m
stands required name i [] m e = cc
stands required name i (member.Parameter n id read_only ∷ ms) m e = stands-behind required (member.Parameter n id read_only) ms i m (stands required name (i + 1) ms m e)
stands required name i (member.Command n args ∷ ms) m e = go (same n name) refl (λ h. stands required name (i + 1) ms m h)
  where
    go : (b : Bool) → same n name ≡ b → (command_from name (i + 1) ms ≡ Some m → Stands required ms (i + 1) m) → Stands required (member.Command n args ∷ ms) i m
    go true h others =
        let found : ◌≡◌ {A = Commanded} (record { place = i; arguments = args }) m = (let here = rw h at e in cc) in
        (0, (let at = ap (λ (x : Commanded). x.place) found in omega (arith, at)), ap (λ (x : Commanded). Some (carried_fields (arriving required) x.arguments)) found)
    go false h others = stands-behind required (member.Command n args) ms i m (others (rw h at e))

-- a command that is found, with what is held at its place
abbrev IsFound : EndPlan → List ℕ → (place : ℕ) → (held : Option Fields) → Type 0
IsFound p name place held = (m : Commanded) × (command_from name 0 p.instance.members ≡ Some m) × (m.place ≡ place) × (held ≡ Some (carried_fields (arriving p.required) m.arguments))

found-command : (p : EndPlan) (name : List ℕ) (place : ℕ) (all : List Fields) → all ≡ end_fields p → command_place name 0 p.instance.members ≡ Some place → IsFound p name place (slice_get all place)
found-command p name place all is e = go (command_from name 0 p.instance.members) refl e
  where
    go : (o : Option Commanded) → command_from name 0 p.instance.members ≡ o → option_map (λ (m : Commanded). m.place) o ≡ Some place → IsFound p name place (slice_get all place)
    go None found h = cc
    go (Some m) found h =
        let here : m.place ≡ place = cc in
        let s = stands p.required name 0 p.instance.members m found in
        let at : place ≡ s.0 = (let where_is = s.1 in omega (arith, where_is, here)) in
        (m, found, here, ap (λ (fs : List Fields). slice_get fs place) is ∙ ap (slice_get (end_fields p)) at ∙ s.2)

-- its place is one of the list
pub fields-there-are : (p : EndPlan) (name : List ℕ) (place : ℕ) (all : List Fields) → all ≡ end_fields p → command_place name 0 p.instance.members ≡ Some place → slice_get all place ≡ None → ⊥
fields-there-are p name place all is e none =
    let found = found-command p name place all is e in
    let there = found.3 in
    cc

-- with the fields there it is the command that arrives
pub command-carries : (p : EndPlan) (name : List ℕ) (place : ℕ) (all : List Fields) (fields : Fields) → all ≡ end_fields p → command_place name 0 p.instance.members ≡ Some place → slice_get all place ≡ Some fields
    → Some (record { place = place; fields = fields }) ≡ commanded p name
command-carries p name place all fields is e held =
    let found = found-command p name place all is e in
    let same : fields ≡ carried_fields (arriving p.required) found.0.arguments = (let there = found.3 in cc) in
    let here : found.0.place ≡ place = found.2 in
    rw (found.1, here, same) refl

-- where no command is found, none arrives
pub none-carries : (p : EndPlan) (name : List ℕ) → command_place name 0 p.instance.members ≡ None → commanded p name ≡ None
none-carries p name e = go (command_from name 0 p.instance.members) refl e
  where
    go : (o : Option Commanded) → command_from name 0 p.instance.members ≡ o → option_map (λ (m : Commanded). m.place) o ≡ None → commanded p name ≡ None
    go None found h = rw found refl
    go (Some m) found h = cc

-- the types of a command's fields are known
pub commanded-known : (t : Table) (p : EndPlan) (name : List ℕ) (m : Carrying) → commanded p name ≡ Some m → AreKnown t p → AreFieldsKnown t m.fields
commanded-known t p name m e known = go (command_from name 0 p.instance.members) refl e
  where
    go : (o : Option Commanded) → command_from name 0 p.instance.members ≡ o → option_map {U = Carrying} (λ (x : Commanded). record { place = x.place; fields = carried_fields (arriving p.required) x.arguments }) o ≡ Some m → AreFieldsKnown t m.fields
    go None is h = cc
    go (Some x) is h =
        let found : ◌≡◌ {A = Carrying} (record { place = x.place; fields = carried_fields (arriving p.required) x.arguments }) m = cc in
        let fields : carried_fields (arriving p.required) x.arguments ≡ m.fields = ap (λ (y : Carrying). y.fields) found in
        rw (← fields) (fields-known t (arriving p.required) x.arguments (command-known t name 0 p.instance.members x is known))
