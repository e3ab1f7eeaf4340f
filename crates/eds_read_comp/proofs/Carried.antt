-- What holds of each type that the interfaces of a sheet and the maps of its ends name holds of the types of all arguments of commands.
use Rattle.std.proofs.Common.{◌≡◌, ℕ, true, List, [], ◌∷◌, map, slice_get, Option, Some, None, refl, subst}
use Rattle.std.specs.Prelude.{Ok}
use Rattle.std.specs.List.{AllByRecursion, flat_map}
use Rattle.eds_base.specs.declared.refusal.Refusal.{Refusal}
use Rattle.eds_base.specs.Refusals.{least}
use Rattle.eds_tree.specs.declared.tree.Node.{Node}
use Rattle.eds_names.specs.declared.declared.Declared.{Declared}
use Rattle.eds_names.specs.Declarations.{comps_in}
use Rattle.eds_names.specs.LookUp.{Names}
use Rattle.eds_types.specs.Plain.{Plain}
use Rattle.eds_types.specs.Rows.{Table}
use Rattle.eds_plan.specs.Arguments.{OnAllArguments, OnArguments}
use Rattle.eds_plan.specs.declared.component.ComponentPlan.{ComponentPlan}
use Rattle.eds_plan.specs.declared.component.EndPlan.{EndPlan}
use Rattle.eds_generic.specs.declared.used.FaceUse.{FaceUse}
use Rattle.eds_generic.specs.Every.{own_cycles, alone_breaks}
use Rattle.eds_generic.specs.NamedTypes.{is_named, named_types, used_types}
use Rattle.eds_generic.specs.Reading.{faces_of}
use Rattle.eds_generic.specs.Sheets.{bases_of}
use Rattle.eds_generic.specs.Uses.{use_breaks, use_instance}
use Rattle.eds_generic.proofs.NamedTypes.{TypeHas, all-themselves, use-carries}
use Rattle.eds_generic.proofs.NameBreaks.{least-none}
use Rattle.eds_read_comp.specs.declared.end.EndElement.{EndElement}
use Rattle.eds_read_comp.specs.EndPlans.{end_plan}
use Rattle.eds_read_comp.specs.Ends.{end_elements, use_at}
use Rattle.eds_read_comp.specs.NamedTypes.{OnSaidArguments, PlansCarryNamedTypes, types_named_in}
use Rattle.eds_read_comp.specs.Plans.{SaidComponent, SeenPlan, component_by, component_of, component_breaks, inner_breaks, plan_read, plan_said, said_component, seen_plan, unless}
use Rattle.eds_read_comp.specs.Uses.{all_uses, end_breaks, uses_at, uses_by}
use Rattle.eds_read_comp.proofs.Lists.{all-apart, all-joined, all-mapped, all-unmapped, append-none, flat-none}
use Rattle.eds_read_comp.proofs.Staging.{staged-none}

-- what is read is the plan, where nothing is broken
plan-unbroken : (firsts : ℕ → Option (List ℕ) → Option Plain) (trees : List (List Node)) (names : Names) (table : Table) (plan : SeenPlan) → plan_read firsts trees names table ≡ Ok plan
    → (component_breaks firsts trees names table ≡ []) × (plan_said firsts trees names table (faces_of trees names) ≡ plan)
plan-unbroken firsts trees names table plan h = go (least (component_breaks firsts trees names table)) refl h
  where
    go : (o : Option Refusal) → least (component_breaks firsts trees names table) ≡ o → unless o (plan_said firsts trees names table (faces_of trees names)) ≡ Ok plan
        → (component_breaks firsts trees names table ≡ []) × (plan_said firsts trees names table (faces_of trees names) ≡ plan)
    go None e k = (least-none (component_breaks firsts trees names table) e, cc)
    go (Some r) e k = absurd cc

module _ (P : ℕ → Type 0) (trees : List (List Node)) (names : Names) (table : Table) where
  -- the commands of what is used carry such types
  abbrev UseHas : FaceUse → Type 0
  UseHas u = AllByRecursion (OnArguments P) (use_instance (faces_of trees names) u).members

  abbrev EndHas : EndPlan → Type 0
  EndHas e = AllByRecursion (OnArguments P) e.instance.members

  abbrev ComponentHas : SaidComponent → Type 0
  ComponentHas c = AllByRecursion EndHas c.ends

  uses-have : (us : List FaceUse) → AllByRecursion (TypeHas P) (named_types (faces_of trees names)) → AllByRecursion (TypeHas P) (flat_map used_types us)
      → AllByRecursion (λ u. use_breaks (faces_of trees names) (bases_of table) u ≡ []) us → AllByRecursion UseHas us
  uses-have [] named given none = tt
  uses-have (u ∷ us) named given none =
      let parts = all-apart (TypeHas P) (used_types u) (flat_map used_types us) given in
      (use-carries P trees names (bases_of table) u named parts.0 none.0, uses-have us named parts.1 none.1)

  component-has : (d : Declared) → AllByRecursion UseHas (uses_at trees names d.place) → AllByRecursion ComponentHas (component_of trees names table (faces_of trees names) d)
  component-has d h = go (slice_get trees d.place.file) h
    where
      go : (o : Option (List Node)) → AllByRecursion UseHas (uses_by names d.place o) → AllByRecursion ComponentHas (component_by trees names table (faces_of trees names) d o)
      go None h = tt
      go (Some t) h =
          let elements = end_elements t d.place.node in
          let used = all-unmapped (λ (e : EndElement). UseHas (use_at t names d.place.file e.node)) UseHas (λ (e : EndElement). use_at t names d.place.file e.node) (λ e k. k) elements h in
          (all-mapped (λ (e : EndElement). UseHas (use_at t names d.place.file e.node)) EndHas (end_plan trees names (faces_of trees names) t d.place.file) (λ e k. k) elements used, tt)

  components-have : (ds : List Declared) → AllByRecursion UseHas (flat_map (uses_at trees names) (map (λ d. d.place) ds)) → AllByRecursion ComponentHas (flat_map (component_of trees names table (faces_of trees names)) ds)
  components-have [] h = tt
  components-have (d ∷ ds) h =
      let parts = all-apart UseHas (uses_at trees names d.place) (flat_map (uses_at trees names) (map (λ d. d.place) ds)) h in
      all-joined ComponentHas (component_of trees names table (faces_of trees names) d) (flat_map (component_of trees names table (faces_of trees names)) ds) (component-has d parts.0) (components-have ds parts.1)

  -- so do those of a plan that is read
  pub plan-has : (firsts : ℕ → Option (List ℕ) → Option Plain) (plan : SeenPlan) → plan_read firsts trees names table ≡ Ok plan → AllByRecursion (TypeHas P) (types_named_in trees names) → OnSaidArguments P plan.components
  plan-has firsts plan read h =
      let whole = plan-unbroken firsts trees names table plan read in
      let named = all-apart (TypeHas P) (named_types (faces_of trees names)) (flat_map used_types (all_uses trees names)) h in
      let ends = staged-none (end_breaks trees names table) (inner_breaks firsts trees names table (faces_of trees names)) whole.0 in
      let used = staged-none (own_cycles (faces_of trees names)) _ ends.0 in
      let clean = append-none (alone_breaks (faces_of trees names) (bases_of table)) (flat_map (use_breaks (faces_of trees names) (bases_of table)) (all_uses trees names)) used.1 in
      let uses = uses-have (all_uses trees names) named.0 named.1 (flat-none (use_breaks (faces_of trees names) (bases_of table)) (all_uses trees names) clean.1) in
      subst (λ (p : SeenPlan). OnSaidArguments P p.components) whole.1 (components-have (comps_in names.declared) uses)

pub plans-carry : PlansCarryNamedTypes
plans-carry firsts trees names table plan read =
    let types = types_named_in trees names in
    plan-has (λ id. is_named types id ≡ true) trees names table firsts plan read (all-themselves types types (λ id k. k))

-- ---- a plan that is seen so

-- what holds of the arguments that a plan is said to carry holds of those that it carries
pub of-seen : (P : ℕ → Type 0) (plan : List ComponentPlan) → OnSaidArguments P (seen_plan plan).components → OnAllArguments P plan
of-seen P plan h =
    all-unmapped (λ (c : ComponentPlan). AllByRecursion (λ (e : EndPlan). AllByRecursion (OnArguments P) e.instance.members) c.ends)
    (λ (c : SaidComponent). AllByRecursion (λ (e : EndPlan). AllByRecursion (OnArguments P) e.instance.members) c.ends) said_component (λ c k. k) plan h
