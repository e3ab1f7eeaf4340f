-- The stages of judging components.
use Rattle.std.proofs.Common.{◌≡◌, ℕ, List, [], ◌∷◌, ◌++◌, map, Option, Some, None, refl, sym, ap, subst, ◌∙◌}
use Rattle.std.specs.List.{flat_map}
use Rattle.std.specs.Prelude.{Result, Ok, Err, IfOk}
use Rattle.eds_base.specs.Answering.{Answers}
use Rattle.eds_base.specs.declared.fail.Fail.{Fail}
use Rattle.eds_base.specs.declared.ids.TypeId.{TypeId}
use Rattle.eds_base.specs.declared.refusal.Refusal.{Refusal}
use Rattle.eds_base.specs.Refusals.{first_of, least}
use Rattle.eds_tree.proofs.Least.{least-joined}
use Rattle.eds_tree.specs.declared.tree.Node.{Node}
use Rattle.eds_names.specs.Declarations.{comps_in}
use Rattle.eds_names.specs.LookUp.{Names}
use Rattle.eds_types.specs.Plain.{Plain}
use Rattle.eds_types.specs.Rows.{Table}
use Rattle.eds_fits.specs.Fitting.{ComponentsFit}
use Rattle.eds_plan.specs.declared.component.ComponentPlan.{ComponentPlan}
use Rattle.eds_generic.specs.declared.face.Face.{Face}
use Rattle.eds_generic.specs.declared.used.FaceUse.{FaceUse}
use Rattle.eds_generic.specs.Every.{own_cycles, alone_breaks}
use Rattle.eds_generic.specs.Reading.{faces_of}
use Rattle.eds_generic.specs.Resolved.{judged_first}
use Rattle.eds_generic.specs.Uses.{use_breaks, breaks_with_uses}
use Rattle.eds_generic.proofs.NameBreaks.{least-none}
use Rattle.eds_read_comp.specs.FirstValues.{WhereTold}
use Rattle.eds_read_comp.specs.Plans.{SeenPlan, said_component, firsts_of, seen_plan, component_of, breaks_of, firsts_at, unvalued_of, unless, inner_breaks, inner_read, plan_said, plan_read}
use Rattle.eds_read_comp.specs.Together.{HoldsTogether}
use Rattle.eds_read_comp.specs.Uses.{all_uses, end_breaks}
use Rattle.eds_read_comp.proofs.Lists.{append-none}
use Rattle.eds_read_comp.proofs.SameEnds.{plan-kept, ends-same}

pub staged-none : (xs ys : List Refusal) → judged_first xs ys ≡ [] → (xs ≡ []) × (ys ≡ [])
staged-none [] ys e = (refl, e)
staged-none (x ∷ xs) ys e = cc

staged-some : (xs ys : List Refusal) (r : Refusal) → least xs ≡ Some r → least (judged_first xs ys) ≡ Some r
staged-some [] ys r e = cc
staged-some (x ∷ xs) ys r e = e

-- where the interfaces and their uses break nothing, none is its own base, and no use breaks a rule
pub uses-clean : (faces : List Face) (types : List (Option TypeId)) (uses : List FaceUse) → least (breaks_with_uses faces types uses) ≡ None → (own_cycles faces ≡ []) × (flat_map (use_breaks faces types) uses ≡ [])
uses-clean faces types uses e =
    let p = staged-none (own_cycles faces) (alone_breaks faces types ++ flat_map (use_breaks faces types) uses) (least-none (breaks_with_uses faces types uses) e) in
    (p.0, (append-none (alone_breaks faces types) (flat_map (use_breaks faces types) uses) p.1).1)

module _ (firsts : ℕ → Option (List ℕ) → Option Plain) (trees : List (List Node)) (names : Names) (table : Table) where
  -- what interfaces and ends break is the first break of all
  pub refused-first : (r : Refusal) → least (end_breaks trees names table) ≡ Some r → plan_read firsts trees names table ≡ Err r
  refused-first r e =
      ap (λ o. unless o (plan_said firsts trees names table (faces_of trees names))) (staged-some (end_breaks trees names table) (inner_breaks firsts trees names table (faces_of trees names)) r e)

  -- where they break nothing, the others are judged
  pub judged-next : least (end_breaks trees names table) ≡ None → plan_read firsts trees names table ≡ inner_read firsts trees names table (faces_of trees names)
  judged-next e =
      ap (λ bs. unless (least (judged_first bs (inner_breaks firsts trees names table (faces_of trees names)))) (plan_said firsts trees names table (faces_of trees names))) (least-none (end_breaks trees names table) e)

-- ---- variables and the others

plan-made : (x y : SeenPlan) → x.components ≡ y.components → x.firsts ≡ y.firsts → x ≡ y
plan-made x y c f = rw (c, f) refl

module _ (firsts : ℕ → Option (List ℕ) → Option Plain) (trees : List (List Node)) (names : Names) (table : Table) (faces : List Face) (unvalued other found : Option Refusal)
    (a : unvalued ≡ least (flat_map (unvalued_of firsts trees names) (comps_in names.declared)))
    (b : other ≡ least (flat_map (breaks_of trees names table faces) (comps_in names.declared))) (f : found ≡ first_of unvalued other) where
  joined : found ≡ least (inner_breaks firsts trees names table faces)
  joined = least-joined (flat_map (unvalued_of firsts trees names) (comps_in names.declared)) (flat_map (breaks_of trees names table faces) (comps_in names.declared)) unvalued other found a b f

  pub inner-refused : (r : Refusal) → found ≡ Some r → inner_read firsts trees names table faces ≡ Err r
  inner-refused r e = ap (λ o. unless o (plan_said firsts trees names table faces)) (sym joined ∙ e)

  pub inner-accepted : (plan : List ComponentPlan) → found ≡ None → map said_component plan ≡ flat_map (component_of trees names table faces) (comps_in names.declared)
      → map firsts_of plan ≡ flat_map (firsts_at firsts trees names) (comps_in names.declared) → inner_read firsts trees names table faces ≡ Ok (seen_plan plan)
  inner-accepted plan e c v =
      ap (λ o. unless o (plan_said firsts trees names table faces)) (sym joined ∙ e) ∙ ap Ok (plan-made (plan_said firsts trees names table faces) (seen_plan plan) (sym c) (sym v))

-- ---- the whole

module _ (trees ts : List (List Node)) (names : Names) (table : Table) (faces : List Face) (is : ts ≡ trees) where
  pub answered : (r : Result (List ComponentPlan) (Fail Refusal)) → faces ≡ faces_of trees names → least (end_breaks trees names table) ≡ None
      → WhereTold table (λ firsts. Answers seen_plan r (inner_read firsts ts names table faces)) → WhereTold table (λ firsts. Answers seen_plan r (plan_read firsts trees names table))
  answered r f e h = λ firsts told.
      let same : inner_read firsts ts names table faces ≡ plan_read firsts trees names table = rw (is, f) (sym (judged-next firsts trees names table e)) in
      subst (Answers seen_plan r) same (h firsts told)

  pub together : (types : List (Option TypeId)) (uses : List FaceUse) (r : Result (List ComponentPlan) (Fail Refusal)) → uses ≡ all_uses ts names → flat_map (use_breaks faces types) uses ≡ []
      → IfOk r (λ p. map said_component p ≡ flat_map (component_of ts names table faces) (comps_in names.declared))
      → IfOk r (λ p. ComponentsFit table p) → IfOk r (λ p. HoldsTogether table p)
  together types uses (Ok p) u e said fits = record {
    few = fits.few;
    components = fits.components;
    same = ends-same faces types p (plan-kept ts names table faces types (comps_in names.declared) p (ap (flat_map (use_breaks faces types)) (sym u) ∙ e) said);
  }
  together types uses (Err e) u h said fits = tt
