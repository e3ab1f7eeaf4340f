-- Ends that use one interface under one map have one instance.
use Rattle.std.proofs.Common.{◌≡◌, ℕ, zero, suc, true, List, [], ◌∷◌, ◌++◌, map, Some, refl, sym, ap, subst, ◌∙◌}
use Rattle.std.specs.Prelude.{slice_get, ◌==◌}
use Rattle.std.proofs.lemmas.Bool.{eqb-true, and_parts}
use Rattle.std.proofs.lemmas.Slice.Eq.{bytes_eq-Decides}
use Rattle.eds_base.specs.Reading.{same}
use Rattle.eds_base.specs.declared.ids.TypeId.{TypeId}
use Rattle.eds_tree.specs.declared.tree.Node.{Node}
use Rattle.eds_names.specs.LookUp.{Names}
use Rattle.eds_plan.specs.declared.component.EndPlan.{EndPlan}
use Rattle.eds_plan.specs.declared.instance.Instance.{Instance}
use Rattle.eds_generic.specs.declared.face.Face.{Face}
use Rattle.eds_generic.specs.declared.used.FaceUse.{FaceUse}
use Rattle.eds_generic.specs.Resolved.{instance_of}
use Rattle.eds_generic.specs.Uses.{use_instance}
use Rattle.eds_read_comp.specs.declared.end.EndElement.{EndElement}
use Rattle.eds_read_comp.specs.EndPlans.{IsWhole, same_entry, same_entries, is_used, end_plan}

pair-one : (p q : List ℕ × TypeId) → p.0 ≡ q.0 → (p.1).0 ≡ (q.1).0 → p ≡ q
pair-one p q name id =
    let sort : p.1 ≡ q.1 = ap (λ (n : ℕ). record { 0 = n }) id in
    rw (name, sort) refl

entry-one : (p q : List ℕ × TypeId) → same_entry p q ≡ true → p ≡ q
entry-one p q e =
    let both = and_parts (same p.0 q.0) ((p.1).0 == (q.1).0) e in
    pair-one p q ((bytes_eq-Decides p.0 q.0).0 both.0) (eqb-true (p.1).0 (q.1).0 both.1)

entries-one : (ps qs : List (List ℕ × TypeId)) → same_entries ps qs ≡ true → ps ≡ qs
entries-one [] [] e = refl
entries-one [] (q ∷ qs) e = cc
entries-one (p ∷ ps) [] e = cc
entries-one (p ∷ ps) (q ∷ qs) e =
    let both = and_parts (same_entry p q) (same_entries ps qs) e in
    let first : p ≡ q = entry-one p q both.0 in
    let rest : ps ≡ qs = entries-one ps qs both.1 in
    ap (λ x. x ∷ ps) first ∙ ap (λ xs. q ∷ xs) rest

-- an instance that is what is used has its map
pub used_map : (i : Instance) (u : FaceUse) → is_used i u ≡ true → u.map ≡ i.map
used_map i u e = sym (entries-one i.map u.map (and_parts (i.face.0 == u.face.0) (same_entries i.map u.map) e).1)

-- and is the instance of what is used
pub used_one : (faces : List Face) (i : Instance) (u : FaceUse) → IsWhole faces i → is_used i u ≡ true → i ≡ use_instance faces u
used_one faces i u h e =
    let both = and_parts (i.face.0 == u.face.0) (same_entries i.map u.map) e in
    let face : i.face ≡ u.face = ap (λ (n : ℕ). record { 0 = n }) (eqb-true i.face.0 u.face.0 both.0) in
    h ∙ ap (λ f. instance_of faces f i.map) face ∙ ap (instance_of faces u.face) (entries-one i.map u.map both.1)

-- ends that are planned have whole instances
pub planned-whole : (trees : List (List Node)) (names : Names) (faces : List Face) (t : List Node) (file : ℕ) (es : List EndElement) (xs ys : List EndPlan)
    → xs ++ ys ≡ map (end_plan trees names faces t file) es → (k : ℕ) (e : EndPlan) → slice_get xs k ≡ Some e → IsWhole faces e.instance
planned-whole trees names faces t file es [] ys h k e g = cc
planned-whole trees names faces t file [] (x ∷ xs) ys h k e g = cc
planned-whole trees names faces t file (d ∷ es) (x ∷ xs) ys h zero e g =
    let first : x ≡ end_plan trees names faces t file d = cc in
    let is : x ≡ e = cc in
    subst (λ (z : EndPlan). IsWhole faces z.instance) (sym first ∙ is) refl
planned-whole trees names faces t file (d ∷ es) (x ∷ xs) ys h (suc k) e g =
    let rest : xs ++ ys ≡ map (end_plan trees names faces t file) es = cc in
    planned-whole trees names faces t file es xs ys rest k e g
