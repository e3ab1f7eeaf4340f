-- One interface under equal maps has the same members at each end of a plan.
use Rattle.std.proofs.Common.{◌≡◌, ℕ, ◌<◌, ◌-◌, Bool, true, false, ◌&&◌, List, [], ◌∷◌, ◌++◌, map, Option, Some, None, refl, sym, ap, subst, ◌∙◌, arith}
use Rattle.std.specs.List.{AllByRecursion, flat_map}
use Rattle.std.specs.Prelude.{slice_get, ◌==◌}
use Rattle.std.proofs.lemmas.Bool.{eqb-true}
use Rattle.eds_base.specs.Reading.{◌>>=◌}
use Rattle.eds_base.specs.declared.ids.FaceId.{FaceId}
use Rattle.eds_base.specs.declared.ids.TypeId.{TypeId}
use Rattle.eds_tree.specs.declared.tree.Node.{Node}
use Rattle.eds_names.specs.LookUp.{Names}
use Rattle.eds_names.specs.declared.declared.Declared.{Declared}
use Rattle.eds_types.specs.Rows.{Table}
use Rattle.eds_plan.specs.declared.component.ComponentPlan.{ComponentPlan}
use Rattle.eds_plan.specs.declared.component.EndPlan.{EndPlan}
use Rattle.eds_plan.specs.declared.instance.Instance.{Instance}
use Rattle.eds_plan.specs.declared.run.End.{End}
use Rattle.eds_plan.specs.Ends.{end_at}
use Rattle.eds_plan.specs.Interfaces.{same_interface, same_map}
use Rattle.eds_generic.specs.declared.face.Face.{Face}
use Rattle.eds_generic.specs.declared.pair.Pair.{Pair}
use Rattle.eds_generic.specs.declared.used.FaceUse.{FaceUse}
use Rattle.eds_generic.specs.Members.{members, under}
use Rattle.eds_base.specs.declared.rule.Rule.TheVariants.{UnknownGeneric}
use Rattle.eds_generic.specs.declared.pair.Further.{Further}
use Rattle.eds_generic.specs.NameRules.{keeping, names_under, unknown_at, breaks_unmapped, breaks_unknown, breaks_generic_base, duplicates_of, limit_of}
use Rattle.eds_generic.specs.Pairs.{most, reached, below}
use Rattle.eds_generic.specs.Resolved.{instance_of}
use Rattle.eds_generic.specs.Uses.{use_breaks}
use Rattle.eds_generic.proofs.Judging.{reached-next}
use Rattle.eds_read_comp.specs.declared.end.EndElement.{EndElement}
use Rattle.eds_read_comp.specs.EndPlans.{end_plan}
use Rattle.eds_read_comp.specs.Ends.{use_at, uses_of, end_elements}
use Rattle.eds_read_comp.specs.Plans.{SaidComponent, said_component, component_by, component_of}
use Rattle.eds_read_comp.specs.Uses.{uses_by, uses_at}
use Rattle.eds_read_comp.proofs.Lists.{append-none, map-none, flat-none, all-apart, all-joined, all-of, all-mapped, all-unmapped}
use Rattle.eds_read_comp.proofs.SameMembers.{under-same}

-- ---- one use

module _ (faces : List Face) (types : List (Option TypeId)) where
  -- where nothing is broken at a use, its map names nothing but generic names of its interface
  use-clean : (u : FaceUse) → use_breaks faces types u ≡ [] → (under faces u.face u.map).further ≡ []
  use-clean u e =
      let p : Pair = under faces u.face u.map in
      let ms = members faces p in
      let limit = limit_of u.place ms in
      let twice = duplicates_of u.place ms in
      let unmapped = breaks_unmapped faces types u.place p in
      let unknown = breaks_unknown faces types u.place p in
      let bases = breaks_generic_base faces types u.place p in
      let a = append-none (limit ++ twice ++ unmapped ++ unknown) bases e in
      let g = append-none (limit ++ twice ++ unmapped) unknown a.0 in
      let names : names_under unknown_at faces types p ≡ [] = map-none (keeping UnknownGeneric u.place) (names_under unknown_at faces types p) g.1 in
      let some : 0 < most faces = omega arith in
      let first : unknown_at faces types p ++ flat_map (unknown_at faces types) (flat_map (reached (most faces - 1) faces) (below faces p)) ≡ [] = sym (ap (flat_map (unknown_at faces types)) (reached-next (most faces) faces p some)) ∙ names in
      let here = append-none (unknown_at faces types p) (flat_map (unknown_at faces types) (flat_map (reached (most faces - 1) faces) (below faces p))) first in
      map-none (λ (f : Further). f.name) p.further here.0

  -- an instance under such a map
  pub record IsKept (i : Instance) : Type 0 where
    pub face : FaceId
    pub given : List (List ℕ × TypeId)
    pub is : i ≡ instance_of faces face given
    pub clean : (under faces face given).further ≡ []

  same-kept : (i j : Instance) → IsKept i → IsKept j → same_interface i j ≡ true → j.members ≡ i.members
  same-kept i j h k e =
      let both : same_interface (instance_of faces h.face h.given) (instance_of faces k.face k.given) ≡ true = subst (λ x. same_interface (instance_of faces h.face h.given) x ≡ true) k.is (subst (λ x. same_interface x j ≡ true) h.is e) in
      let one : h.face.0 ≡ k.face.0 = eqb-true h.face.0 k.face.0 (and-left _ _ both) in
      let face : h.face ≡ k.face = ap (λ (n : ℕ). record { 0 = n }) one in
      let pairs : under faces h.face h.given ≡ under faces h.face k.given = under-same faces h.face h.given k.given (and-right (h.face.0 == k.face.0) (same_map h.given k.given) both) h.clean (subst (λ f. (under faces f k.given).further ≡ []) (sym face) k.clean) in
      ap (λ (x : Instance). x.members) k.is ∙ ap (λ f. members faces (under faces f k.given)) (sym face) ∙ sym (ap (members faces) pairs) ∙ sym (ap (λ (x : Instance). x.members) h.is)
    where
      and-left : (a b : Bool) → (a && b) ≡ true → a ≡ true
      and-left true b e = refl
      and-left false b e = cc

      and-right : (a b : Bool) → (a && b) ≡ true → b ≡ true
      and-right true b e = e
      and-right false b e = cc

  -- ---- a plan

  abbrev pub EndsKept : List EndPlan → Type 0
  EndsKept es = AllByRecursion (λ (e : EndPlan). IsKept e.instance) es

  pub ends-same : (plan : List ComponentPlan) → AllByRecursion (λ (c : ComponentPlan). EndsKept c.ends) plan → (a b : End) (x y : EndPlan) → end_at plan a ≡ Some x → end_at plan b ≡ Some y
      → same_interface x.instance y.instance ≡ true → y.instance.members ≡ x.instance.members
  ends-same plan h a b x y e f s = same-kept x.instance y.instance (at a x e) (at b y f) s
    where
      at : (a : End) (x : EndPlan) → end_at plan a ≡ Some x → IsKept x.instance
      at a x e = go (slice_get plan a.comp.0) refl e
        where
          go : (o : Option ComponentPlan) → slice_get plan a.comp.0 ≡ o → (o >>= λ c. slice_get c.ends a.face) ≡ Some x → IsKept x.instance
          go None i e = cc
          go (Some c) i e = all-of (λ (z : EndPlan). IsKept z.instance) c.ends a.face x (all-of (λ (d : ComponentPlan). EndsKept d.ends) plan a.comp.0 c h i) e

-- ---- the plan of a sheet

module _ (trees : List (List Node)) (names : Names) (table : Table) (faces : List Face) (types : List (Option TypeId)) where
  -- the ends of a component whose uses break nothing
  element-kept : (t : List Node) (file n : ℕ) → AllByRecursion (λ u. use_breaks faces types u ≡ []) (uses_of t names file n) → EndsKept faces types (map (end_plan trees names faces t file) (end_elements t n))
  element-kept t file n h =
      all-mapped (λ (e : EndElement). use_breaks faces types (use_at t names file e.node) ≡ []) (λ (e : EndPlan). IsKept faces types e.instance) (end_plan trees names faces t file)
      (λ e k. record {
        face = (use_at t names file e.node).face;
        given = (use_at t names file e.node).map;
        is = refl;
        clean = use-clean faces types (use_at t names file e.node) k;
      })
      (end_elements t n)
      (all-unmapped (λ (e : EndElement). use_breaks faces types (use_at t names file e.node) ≡ []) (λ u. use_breaks faces types u ≡ []) (λ (e : EndElement). use_at t names file e.node) (λ e k. k) (end_elements t n) h)

  component-kept : (d : Declared) → AllByRecursion (λ u. use_breaks faces types u ≡ []) (uses_at trees names d.place) → AllByRecursion (λ (s : SaidComponent). EndsKept faces types s.ends) (component_of trees names table faces d)
  component-kept d h = go (slice_get trees d.place.file) h
    where
      go : (o : Option (List Node)) → AllByRecursion (λ u. use_breaks faces types u ≡ []) (uses_by names d.place o) → AllByRecursion (λ (s : SaidComponent). EndsKept faces types s.ends) (component_by trees names table faces d o)
      go None h = tt
      go (Some t) h = (element-kept t d.place.file d.place.node h, tt)

  components-kept : (ds : List Declared) → AllByRecursion (λ u. use_breaks faces types u ≡ []) (flat_map (uses_at trees names) (map (λ d. d.place) ds))
      → AllByRecursion (λ (s : SaidComponent). EndsKept faces types s.ends) (flat_map (component_of trees names table faces) ds)
  components-kept [] h = tt
  components-kept (d ∷ ds) h =
      let p = all-apart (λ u. use_breaks faces types u ≡ []) (uses_at trees names d.place) _ h in
      all-joined (λ (s : SaidComponent). EndsKept faces types s.ends) (component_of trees names table faces d) _ (component-kept d p.0) (components-kept ds p.1)

  -- the ends of a plan that holds what the elements say, where the uses of all ends break nothing
  pub plan-kept : (ds : List Declared) (plan : List ComponentPlan) → flat_map (use_breaks faces types) (flat_map (uses_at trees names) (map (λ d. d.place) ds)) ≡ []
      → map said_component plan ≡ flat_map (component_of trees names table faces) ds → AllByRecursion (λ (c : ComponentPlan). EndsKept faces types c.ends) plan
  plan-kept ds plan clean said =
      all-unmapped (λ (c : ComponentPlan). EndsKept faces types c.ends) (λ (s : SaidComponent). EndsKept faces types s.ends) said_component (λ c k. k) plan
      (subst (AllByRecursion (λ (s : SaidComponent). EndsKept faces types s.ends)) (sym said) (components-kept ds (flat-none (use_breaks faces types) (flat_map (uses_at trees names) (map (λ d. d.place) ds)) clean)))
