-- Ends that no wire names are tied to none.
use Rattle.std.proofs.Common.{◌≡◌, ◌≢◌, ◌≤◌, ◌+◌, ◌-◌, ℕ, suc, List, [], ◌∷◌, ◌++◌, map, Bool, true, false, cond, Option, Some, None, slice_get, refl, sym, ap, subst, ◌∙◌, arith, inl, inr}
use Rattle.std.specs.Prelude.{Result, Ok, Err, option_map, ◌⊎◌}
use Rattle.std.specs.Str.{bytes_eq}
use Rattle.std.proofs.lemmas.Slice.Eq.{bytes_eq-Decides}
use Rattle.eds_base.specs.Reading.{◌>>=◌}
use Rattle.eds_types.specs.Rows.{or_else}
use Rattle.eds_plan.specs.Ends.{Called, all_ends, called, end_at, end_called, end_named, end_text, ends_from, first_called}
use Rattle.eds_plan.specs.declared.component.ComponentPlan.{ComponentPlan}
use Rattle.eds_plan.specs.declared.component.EndPlan.{EndPlan}
use Rattle.eds_plan.specs.declared.run.End.{End}
use Rattle.eds_plan.specs.declared.run.Wire.{Wire}
use Rattle.eds_plan.proofs.Called.{first_append}
use Rattle.eds_host.specs.declared.wiring.Tie.{Tie}
use Rattle.eds_host.specs.declared.wiring.WireWhy.{WireWhy}
use Rattle.eds_host.specs.Hosts.{IsUnnamed, UnnamedEndsAreOutside, asked_by}
use Rattle.eds_host.specs.Wires.{other_end, same_end, tie_at, tie_next, tie_of, tie_unless, ties_behind, wrong_between}
use Rattle.eds_host.proofs.Tying.{same_is}

-- ---- one end, one text

end_is : (a b : End) → Some a ≡ Some b → a ≡ b
end_is a b e = cc

-- the text of an end, from its place among the components from a number on
abbrev text_from : ℕ → List ComponentPlan → End → Option (List ℕ)
text_from comp plan e = slice_get plan (e.comp.0 - comp) >>= λ c. option_map (λ (x : EndPlan). end_text c.name x.name) (slice_get c.ends e.face)

-- an end of a component that has the text
record IsOf (component : List ℕ) (comp face : ℕ) (es : List EndPlan) (text : List ℕ) (e : End) : Type 0 where
  here : e.comp.0 ≡ comp
  behind : face ≤ e.face
  plan : EndPlan
  there : slice_get es (e.face - face) ≡ Some plan
  text_is : end_text component plan.name ≡ text

called_is : (c : Called) (text : List ℕ) (e : End) → end_called c text ≡ Some e → (c.0 ≡ text) × (c.1 ≡ e)
called_is c text e h = go (bytes_eq text c.0) refl h
  where
    go : (b : Bool) → bytes_eq text c.0 ≡ b → cond b (Some c.1) None ≡ Some e → (c.0 ≡ text) × (c.1 ≡ e)
    go true p q = (sym ((bytes_eq-Decides text c.0).0 p), end_is c.1 e q)
    go false p q = absurd cc

either : (a b : Option End) (e : End) → or_else a b ≡ Some e → (a ≡ Some e) ⊎ ((a ≡ None) × (b ≡ Some e))
either None b e h = inr (refl, h)
either (Some x) b e h = inl h

of_component : (component : List ℕ) (comp face : ℕ) (es : List EndPlan) (text : List ℕ) (e : End) → first_called (ends_from component comp face es) text ≡ Some e → IsOf component comp face es text e
of_component component comp face [] text e h = absurd cc
of_component component comp face (x ∷ es) text e h = elim (either (end_called (called component comp face x) text) (first_called (ends_from component comp (face + 1) es) text) e h) [
  | inl q ↦ first (called_is (called component comp face x) text e q)
  | inr q ↦ next (of_component component comp (face + 1) es text e q.1)
]
  where
    first : (end_text component x.name ≡ text) × ((called component comp face x).1 ≡ e) → IsOf component comp face (x ∷ es) text e
    first q =
        let at : face ≡ e.face = ap (λ (k : End). k.face) q.1 in
        let zeroth : e.face - face ≡ 0 = omega (arith, at) in
        record {
          here = sym (ap (λ (k : End). k.comp.0) q.1);
          behind = omega (arith, at);
          plan = x;
          there = ap (slice_get (x ∷ es)) zeroth;
          text_is = q.0;
        }

    next : IsOf component comp (face + 1) es text e → IsOf component comp face (x ∷ es) text e
    next k =
        let more : e.face - face ≡ suc (e.face - (face + 1)) = omega (arith, k.behind) in
        record {
          here = k.here;
          behind = omega (arith, k.behind);
          plan = k.plan;
          there = ap (slice_get (x ∷ es)) more ∙ k.there;
          text_is = k.text_is;
        }

of_all : (comp : ℕ) (plan : List ComponentPlan) (text : List ℕ) (e : End) → first_called (all_ends comp plan) text ≡ Some e → (comp ≤ e.comp.0) × (text_from comp plan e ≡ Some text)
of_all comp [] text e h = absurd cc
of_all comp (c ∷ cs) text e h = elim (either (first_called (ends_from c.name comp 0 c.ends) text) (first_called (all_ends (comp + 1) cs) text) e (sym (first_append (ends_from c.name comp 0 c.ends) (all_ends (comp + 1) cs) text) ∙ h)) [
  | inl q ↦ first (of_component c.name comp 0 c.ends text e q)
  | inr q ↦ next (of_all (comp + 1) cs text e q.1)
]
  where
    first : IsOf c.name comp 0 c.ends text e → (comp ≤ e.comp.0) × (text_from comp (c ∷ cs) e ≡ Some text)
    first k =
        let zeroth : e.comp.0 - comp ≡ 0 = omega (arith, k.here) in
        let at : e.face ≡ e.face - 0 = omega arith in (
          omega (arith, k.here),
          ap (λ n. slice_get (c ∷ cs) n >>= λ d. option_map (λ (x : EndPlan). end_text d.name x.name) (slice_get d.ends e.face)) zeroth
              ∙ ap (λ n. option_map (λ (x : EndPlan). end_text c.name x.name) (slice_get c.ends n)) at
              ∙ ap (λ o. option_map (λ (x : EndPlan). end_text c.name x.name) o) k.there
              ∙ ap (λ (n : List ℕ). Some n) k.text_is,
        )

    next : (comp + 1 ≤ e.comp.0) × (text_from (comp + 1) cs e ≡ Some text) → (comp ≤ e.comp.0) × (text_from comp (c ∷ cs) e ≡ Some text)
    next k =
        let le = k.0 in
        let more : e.comp.0 - comp ≡ suc (e.comp.0 - (comp + 1)) = omega (arith, le) in
        (omega (arith, le), ap (λ n. slice_get (c ∷ cs) n >>= λ d. option_map (λ (x : EndPlan). end_text d.name x.name) (slice_get d.ends e.face)) more ∙ k.1)

-- two texts of one end are one
pub one_text : (plan : List ComponentPlan) (a b : List ℕ) (e : End) → end_named plan a ≡ Some e → end_named plan b ≡ Some e → a ≡ b
one_text plan a b e h k = let q : Some a ≡ Some b = sym (of_all 0 plan a e h).1 ∙ (of_all 0 plan b e k).1 in cc

-- ---- ties

-- a wire ties the ends that it asks for
tied_asked : (plan : List ComponentPlan) (ts : List Tie) (l u : Option End) (t : Tie) → tie_of plan ts l u ≡ Ok t → (l ≡ Some t.lower) × (u ≡ Some t.upper)
tied_asked plan ts None u t e = absurd cc
tied_asked plan ts (Some l) None t e = absurd cc
tied_asked plan ts (Some l) (Some u) t e = found (end_at plan l) (end_at plan u) e
  where
    judged : (w : Option WireWhy) → tie_unless w l u ≡ Ok t → (Some l ≡ Some t.lower) × (Some u ≡ Some t.upper)
    judged None e = let q : record { lower = l; upper = u } ≡ t = cc in (ap (λ (k : Tie). Some k.lower) q, ap (λ (k : Tie). Some k.upper) q)
    judged (Some why) e = absurd cc

    found : (x y : Option EndPlan) → tie_at ts l u x y ≡ Ok t → (Some l ≡ Some t.lower) × (Some u ≡ Some t.upper)
    found None y e = absurd cc
    found (Some x) None e = absurd cc
    found (Some x) (Some y) e = judged (wrong_between ts l u x y) e

-- one more tie, of other ends
one_more : (ts : List Tie) (t : Tie) (e : End) → other_end ts e ≡ None → same_end t.lower e ≡ false → same_end t.upper e ≡ false → other_end (ts ++ t ∷ []) e ≡ None
one_more [] t e h l u = ap (λ b. cond b (Some t.upper) (cond (same_end t.upper e) (Some t.lower) None)) l ∙ ap (λ b. cond b (Some t.lower) None) u
one_more (x ∷ xs) t e h l u = go (λ k. one_more xs t e k l u) (same_end x.lower e) (same_end x.upper e) h
  where
    go : (other_end xs e ≡ None → other_end (xs ++ t ∷ []) e ≡ None) → (a b : Bool) → cond a (Some x.upper) (cond b (Some x.lower) (other_end xs e)) ≡ None → cond a (Some x.upper) (cond b (Some x.lower) (other_end (xs ++ t ∷ []) e)) ≡ None
    go on true b k = absurd cc
    go on false true k = absurd cc
    go on false false k = on k

apart : (a e : End) → (a ≡ e → ⊥) → same_end a e ≡ false
apart a e no_path = go (same_end a e) refl
  where
    go : (b : Bool) → same_end a e ≡ b → b ≡ false
    go true h = absurd (no_path (same_is a e h))
    go false h = refl

module _ (plan : List ComponentPlan) (text : List ℕ) (e : End) (named : end_named plan text ≡ Some e) where
  other_text : (w : List ℕ) (a : End) → (w ≢ text) → end_named plan w ≡ Some a → a ≡ e → ⊥
  other_text w a differs is same = differs (one_text plan w text e (is ∙ ap (λ (k : End). Some k) same) named)

  outside : (ts : List Tie) (ws : List Wire) (all : List Tie) → other_end ts e ≡ None → IsUnnamed text ws → ties_behind plan ts (map (asked_by plan) ws) ≡ Ok all → other_end all e ≡ None
  outside ts [] all h k q = let same : ts ≡ all = cc in subst (λ (xs : List Tie). other_end xs e ≡ None) same h
  outside ts (w ∷ ws) all h k q = go (λ t g r. outside (ts ++ t ∷ []) ws all g k.1 r) (tie_of plan ts (end_named plan w.lower) (end_named plan w.upper)) refl q
    where
      go : ((t : Tie) → other_end (ts ++ t ∷ []) e ≡ None → ties_behind plan (ts ++ t ∷ []) (map (asked_by plan) ws) ≡ Ok all → other_end all e ≡ None)
          → (r : Result Tie WireWhy) → tie_of plan ts (end_named plan w.lower) (end_named plan w.upper) ≡ r → tie_next w.line r (λ t. ties_behind plan (ts ++ t ∷ []) (map (asked_by plan) ws)) ≡ Ok all → other_end all e ≡ None
      go on (Err why) is f = absurd cc
      go on (Ok t) is f =
          let ends = tied_asked plan ts (end_named plan w.lower) (end_named plan w.upper) t is in
          on t (one_more ts t e h (apart t.lower e (other_text w.lower t.lower k.0.0 ends.0)) (apart t.upper e (other_text w.upper t.upper k.0.1 ends.1))) f

pub unnamed_are_outside : UnnamedEndsAreOutside
unnamed_are_outside plan wires ts text e q named k = outside plan text e named [] wires ts refl k q
