-- What has a name of its own is found by it.
use Rattle.std.proofs.Common.{◌≡◌, ◌≢◌, ◌+◌, ◌<◌, ℕ, zero, suc, List, [], ◌∷◌, ◌++◌, length, map, Bool, true, false, cond, Option, Some, None, option_map, slice_get, refl, sym, ap, subst, ◌∙◌, arith}
use Rattle.std.specs.Prelude.{nat_lt}
use Rattle.std.specs.List.{AllByRecursion, position, position_or_len}
use Rattle.std.proofs.lemmas.Bool.Decides.{nat_tests}
use Rattle.std.proofs.lemmas.List.{append_assoc}
use Rattle.std.proofs.lemmas.Option.{slice_get_within}
use Rattle.std.proofs.lemmas.Slice.Eq.{bytes_eq-Decides}
use Rattle.eds_base.specs.Reading.{◌>>=◌, same}
use Rattle.eds_bits.specs.Lists.{Has}
use Rattle.eds_types.specs.Rows.{or_else}
use Rattle.eds_types.specs.Rules.{AreDistinct}
use Rattle.eds_plan.specs.Ends.{Called, all_ends, called, end_at, end_called, end_named, end_text, ends_from, first_called, found_end}
use Rattle.eds_plan.specs.Names.{AreNames, ComponentHasNames, HasNames, IsWord, name_of_member}
use Rattle.eds_plan.specs.declared.component.ComponentPlan.{ComponentPlan}
use Rattle.eds_plan.specs.declared.component.EndPlan.{EndPlan}
use Rattle.eds_plan.specs.declared.component.VarPlan.{VarPlan}
use Rattle.eds_plan.specs.declared.instance.Member.{Member}
use Rattle.eds_plan.specs.declared.machine.Machine.{Machine}
use Rattle.eds_plan.specs.declared.machine.State.{State}
use Rattle.eds_plan.specs.declared.run.End.{End}
use Rattle.eds_snap.proofs.Named.{AllNamed, ComponentNamed, EndNamed, IsName, MachineNamed}
use Rattle.eds_snap.proofs.Slots.{all-there}
use Rattle.eds_snap.specs.Places.{component_named, machine_named, member_named, state_named, transaction_named, variable_named}

-- ---- in a list

has-on : {A : Type 0} (y : A) (xs : List A) (x : A) → Has xs x → Has (y ∷ xs) x
has-on y xs x h = record { before = y ∷ h.before; after = h.after; is = ap (λ us. y ∷ us) h.is }

has-behind : {A : Type 0} (ys xs : List A) (x : A) → Has xs x → Has (ys ++ xs) x
has-behind [] xs x h = h
has-behind (y ∷ ys) xs x h = has-on y (ys ++ xs) x (has-behind ys xs x h)

has-before : {A : Type 0} (xs ys : List A) (x : A) → Has xs x → Has (xs ++ ys) x
has-before xs ys x h = record { before = h.before; after = h.after ++ ys; is = ap (λ us. us ++ ys) h.is ∙ append_assoc h.before (x ∷ h.after) ys }

has-at : {A B : Type 0} (f : A → B) (xs : List A) (i : ℕ) (x : A) → slice_get xs i ≡ Some x → Has (map f xs) (f x)
has-at f [] i x e = cc
has-at f (y ∷ ys) zero x e = let is : y ≡ x = cc in record { before = []; after = map f ys; is = ap (λ z. f z ∷ map f ys) is }
has-at f (y ∷ ys) (suc i) x e = has-on (f y) (map f ys) (f x) (has-at f ys i x e)

all-at : {A B : Type 0} (P : B → Type 0) (f : A → B) (xs : List A) (i : ℕ) (x : A) → AllByRecursion P (map f xs) → slice_get xs i ≡ Some x → P (f x)
all-at P f [] i x h e = cc
all-at P f (y ∷ ys) zero x h e = let is : y ≡ x = cc in subst (λ z. P (f z)) is h.0
all-at P f (y ∷ ys) (suc i) x h e = all-at P f ys i x h.1 e

-- ---- the first of its name

same-self : (x : List ℕ) → same x x ≡ true
same-self x = (bytes_eq-Decides x x).1 refl

differs : (x y : List ℕ) → (x ≡ y → ⊥) → same x y ≡ false
differs x y never = go (same x y) refl
  where
    go : (b : Bool) → same x y ≡ b → same x y ≡ false
    go true e = absurd (never ((bytes_eq-Decides x y).0 e))
    go false e = e

module _ {A : Type 0} (name : A → List ℕ) where
  first-at : (xs : List A) (i : ℕ) (x : A) → AreDistinct (map name xs) → slice_get xs i ≡ Some x → position_or_len (λ y. same (name y) (name x)) xs ≡ i
  first-at [] i x d e = cc
  first-at (y ∷ ys) zero x d e = let is : y ≡ x = cc in rw (ap (λ z. same (name z) (name x)) is ∙ same-self (name x)) refl
  first-at (y ∷ ys) (suc i) x d e =
      let other = differs (name y) (name x) (λ is. d.0 (subst (Has (map name ys)) (sym is) (has-at name ys i x e))) in
      let rest = first-at ys i x d.1 e in
      let one : position_or_len (λ z. same (name z) (name x)) (y ∷ ys) ≡ 1 + position_or_len (λ z. same (name z) (name x)) ys = rw other refl in
      omega (arith, one, rest)

  found-at : (xs : List A) (i : ℕ) (x : A) → AreNames (map name xs) → slice_get xs i ≡ Some x → IsName (name x) (position (λ y. same (name y) (name x)) xs) i
  found-at xs i x names e =
      let at = first-at xs i x names.differ e in
      let within : i < length xs = slice_get_within xs i x e in
      let less : nat_lt (position_or_len (λ y. same (name y) (name x)) xs) (length xs) ≡ true = grind (arith, nat_tests, at, within) in
      record { word = all-at IsWord name xs i x names.words e; at = ap (λ b. cond b (Some (position_or_len (λ y. same (name y) (name x)) xs)) None) less ∙ ap Some at }

-- ---- ends

-- the end of a text that no other has
first-called-is : (cs : List Called) (k : Called) → AreDistinct (map (λ (c : Called). c.0) cs) → Has cs k → first_called cs k.0 ≡ Some k.1
first-called-is [] k d h = absurd (none h.before h.after h.is)
  where
    none : (before after : List Called) → [] ≡ before ++ k ∷ after → ⊥
    none [] after e = cc
    none (b ∷ before) after e = cc
first-called-is (c ∷ cs) k d h = go h.before h.after h.is (λ x. first-called-is cs k d.1 x)
  where
    texts : List Called → List (List ℕ)
    texts xs = map (λ (x : Called). x.0) xs

    text-there : (before after : List Called) → cs ≡ before ++ k ∷ after → Has (texts cs) k.0
    text-there before after e = subst (λ xs. Has (texts xs) k.0) (sym e) (inside before)
      where
        inside : (before : List Called) → Has (texts (before ++ k ∷ after)) k.0
        inside [] = record { before = []; after = texts after; is = refl }
        inside (b ∷ before) = has-on b.0 (texts (before ++ k ∷ after)) k.0 (inside before)

    go : (before after : List Called) → c ∷ cs ≡ before ++ k ∷ after → (Has cs k → first_called cs k.0 ≡ Some k.1) → first_called (c ∷ cs) k.0 ≡ Some k.1
    go [] after e others = let is : c ≡ k = cc in rw (ap (λ (x : Called). same k.0 x.0) is ∙ same-self k.0, is) refl
    go (b ∷ before) after e others =
        let rest : cs ≡ before ++ k ∷ after = cc in
        let other : same k.0 c.0 ≡ false = differs k.0 c.0 (λ is. d.0 (subst (Has (texts cs)) is (text-there before after rest))) in
        rw other (others (record { before = before; after = after; is = rest }))

ends-have : (name : List ℕ) (comp n : ℕ) (es : List EndPlan) (face : ℕ) (e : EndPlan) → slice_get es face ≡ Some e → Has (ends_from name comp n es) (called name comp (n + face) e)
ends-have name comp n [] face e h = cc
ends-have name comp n (x ∷ es) zero e h = let is : x ≡ e = cc in let at : n + 0 ≡ n = omega arith in
    record { before = []; after = ends_from name comp (n + 1) es; is = ap (λ y. called name comp n y ∷ ends_from name comp (n + 1) es) is ∙ ap (λ k. called name comp k e ∷ ends_from name comp (n + 1) es) (sym at) }
ends-have name comp n (x ∷ es) (suc face) e h =
    let at : (n + 1) + face ≡ n + suc face = omega arith in
    has-on (called name comp n x) (ends_from name comp (n + 1) es) (called name comp (n + suc face) e) (subst (λ k. Has (ends_from name comp (n + 1) es) (called name comp k e)) at (ends-have name comp (n + 1) es face e h))

all-have : (n : ℕ) (plan : List ComponentPlan) (comp : ℕ) (c : ComponentPlan) (face : ℕ) (e : EndPlan) → slice_get plan comp ≡ Some c → slice_get c.ends face ≡ Some e → Has (all_ends n plan) (called c.name (n + comp) face e)
all-have n [] comp c face e h k = cc
all-have n (d ∷ plan) zero c face e h k =
    let is : c ≡ d = cc in let at : n + 0 ≡ n = omega arith in
    has-before (ends_from d.name n 0 d.ends) (all_ends (n + 1) plan) (called c.name (n + 0) face e)
    (subst (λ m. Has (ends_from d.name n 0 d.ends) (called c.name m face e)) (sym at) (subst (λ (x : ComponentPlan). Has (ends_from x.name n 0 x.ends) (called c.name n face e)) is (let z : 0 + face ≡ face = omega arith in subst (λ j. Has (ends_from c.name n 0 c.ends) (called c.name n j e)) z (ends-have c.name n 0 c.ends face e k))))
all-have n (d ∷ plan) (suc comp) c face e h k =
    let at : (n + 1) + comp ≡ n + suc comp = omega arith in
    has-behind (ends_from d.name n 0 d.ends) (all_ends (n + 1) plan) (called c.name (n + suc comp) face e)
    (subst (λ m. Has (all_ends (n + 1) plan) (called c.name m face e)) at (all-have (n + 1) plan comp c face e h k))

end-there : (plan : List ComponentPlan) (comp : ℕ) (c : ComponentPlan) (face : ℕ) (e : EndPlan) → slice_get plan comp ≡ Some c → slice_get c.ends face ≡ Some e → Has (all_ends 0 plan) (called c.name comp face e)
end-there plan comp c face e h k = let z : 0 + comp ≡ comp = omega arith in subst (λ n. Has (all_ends 0 plan) (called c.name n face e)) z (all-have 0 plan comp c face e h k)

end-found : (plan : List ComponentPlan) (comp : ℕ) (c : ComponentPlan) (face : ℕ) (e : EndPlan) → HasNames plan → slice_get plan comp ≡ Some c → slice_get c.ends face ≡ Some e
    → found_end plan (end_text c.name e.name) ≡ Some (record { comp = record { 0 = comp }; face = face }, e)
end-found plan comp c face e names h k =
    ap (λ o. o >>= λ x. option_map (λ p. (x, p)) (end_at plan x)) (first-called-is (all_ends 0 plan) (called c.name comp face e) names.ends.differ (end-there plan comp c face e h k))
    ∙ ap (λ o. option_map (λ (p : EndPlan). (record { comp = record { 0 = comp }; face = face }, p)) (o >>= λ x. slice_get x.ends face)) h
    ∙ ap (λ o. option_map (λ (p : EndPlan). (record { comp = record { 0 = comp }; face = face }, p)) o) k

-- ---- the whole plan

pub all-named : (plan : List ComponentPlan) → HasNames plan → AllNamed plan
all-named plan names comp c h =
    let own : ComponentHasNames c = all-there ComponentHasNames plan comp c names.each h in
    record {
      name = found-at (λ (x : ComponentPlan). x.name) plan comp c names.components h;
      machines = λ i m e. record {
        name = found-at (λ (x : Machine). x.name) c.machines i m own.machines e;
        states = λ at s k. found-at (λ (x : State). x.name) m.states at s (all-there (λ (x : Machine). AreNames (map (λ (s : State). s.name) x.states)) c.machines i m own.states e) k;
      };
      variables = λ i x e. found-at (λ (y : VarPlan). y.name) c.variables i x own.variables e;
      ends = λ face e k. record {
        word = all-words (called c.name comp face e) (end-there plan comp c face e h k);
        at = end-found plan comp c face e names h k;
        members = λ i m q. found-at name_of_member e.instance.members i m (all-there (λ (x : EndPlan). AreNames (map name_of_member x.instance.members)) c.ends face e own.members k) q;
      };
      transactions = λ i n e. found-at-self c.transactions i n own.transactions e;
    }
  where
    all-words : (k : Called) → Has (all_ends 0 plan) k → IsWord k.0
    all-words k x = inside (all_ends 0 plan) x.before x.after x.is names.ends.words
      where
        inside : (cs before after : List Called) → cs ≡ before ++ k ∷ after → AllByRecursion IsWord (map (λ (e : Called). e.0) cs) → IsWord k.0
        inside [] [] after e w = cc
        inside [] (b ∷ before) after e w = cc
        inside (c ∷ cs) [] after e w = let is : c ≡ k = cc in subst (λ (y : Called). IsWord y.0) is w.0
        inside (c ∷ cs) (b ∷ before) after e w = let rest : cs ≡ before ++ k ∷ after = cc in inside cs before after rest w.1

    map-self : (xs : List (List ℕ)) → map (λ x. x) xs ≡ xs
    map-self [] = refl
    map-self (x ∷ xs) = ap (λ ys. x ∷ ys) (map-self xs)

    found-at-self : (xs : List (List ℕ)) (i : ℕ) (x : List ℕ) → AreNames xs → slice_get xs i ≡ Some x → IsName x (position (λ y. same y x) xs) i
    found-at-self xs i x names e = found-at (λ y. y) xs i x (subst AreNames (sym (map-self xs)) names) e
