-- What plans that are seen alike have in common.
use Rattle.std.proofs.Common.{◌≡◌, ℕ, ◌+◌, List, [], ◌∷◌, ◌++◌, map, Bool, true, false, Option, Some, None, slice_get, option_map, refl, sym, ap, ◌∙◌}
use Rattle.std.specs.Prelude.{if◌then◌else◌, unwrap_or}
use Rattle.std.specs.List.{find}
use Rattle.std.proofs.Math.Path.{fun_ext}
use Rattle.std.proofs.lemmas.Option.{same_Some, slice_get-map}
use Rattle.eds_base.specs.Reading.{◌>>=◌}
use Rattle.eds_plan.specs.declared.component.ComponentPlan.{ComponentPlan}
use Rattle.eds_plan.specs.declared.run.End.{End}
use Rattle.eds_plan.specs.Alike.{SeenComponent, seen_component, seen_variable, SeenVariable, IsAlike, AreAlike, AlikeEnds}
use Rattle.eds_plan.specs.Ends.{all_ends, ends_from, end_at, end_named, first_called}
use Rattle.eds_plan.specs.Plans.{component_at, no_component, variable_types}

-- ---- options and lists whose values are seen alike

-- what is the same of two values that are seen alike is the same of two that may be there
pub by_option {ℓ} : {A B : Type 0} {C : Type ℓ} (see : A → B) (f g : Option A → C) → f None ≡ g None → ((x y : A) → see x ≡ see y → f (Some x) ≡ g (Some y)) → (x y : Option A) → option_map see x ≡ option_map see y → f x ≡ g y
by_option see f g none some None None e = none
by_option see f g none some None (Some y) e = absurd cc
by_option see f g none some (Some x) None e = absurd cc
by_option see f g none some (Some x) (Some y) e = some x y (same_Some (see x) (see y) e)

-- lists that are seen alike are so at each place
pub at_place : {A B : Type 0} (see : A → B) (xs ys : List A) → map see xs ≡ map see ys → (i : ℕ) → option_map see (slice_get xs i) ≡ option_map see (slice_get ys i)
at_place see xs ys e i = sym (slice_get-map see xs i) ∙ ap (λ zs. slice_get zs i) e ∙ slice_get-map see ys i

first_or : {A : Type 0} → A → List A → A
first_or a [] = a
first_or a (x ∷ xs) = x

behind_first : {A : Type 0} → List A → List A
behind_first [] = []
behind_first (x ∷ xs) = xs

-- the first of them are seen alike
pub firsts_alike : {A B : Type 0} (see : A → B) (x y : A) (xs ys : List A) → map see (x ∷ xs) ≡ map see (y ∷ ys) → see x ≡ see y
unfolding first_or
firsts_alike see x y xs ys e = ap (first_or (see x)) e

-- and the others
pub others_alike : {A B : Type 0} (see : A → B) (x y : A) (xs ys : List A) → map see (x ∷ xs) ≡ map see (y ∷ ys) → map see xs ≡ map see ys
unfolding behind_first
others_alike see x y xs ys e = ap behind_first e

map_after : {A B C : Type 0} (f : B → C) (see : A → B) (xs : List A) → map f (map see xs) ≡ map (λ x. f (see x)) xs
map_after f see [] = refl
map_after f see (x ∷ xs) = ap (λ l. f (see x) ∷ l) (map_after f see xs)

-- what is told of what is seen is the same
pub told_alike : {A B C : Type 0} (see : A → B) (f : B → C) (xs ys : List A) → map see xs ≡ map see ys → map (λ x. f (see x)) xs ≡ map (λ x. f (see x)) ys
told_alike see f xs ys e = sym (map_after f see xs) ∙ ap (map f) e ∙ map_after f see ys

-- the first that passes a test is seen alike, where the test comes to the same for those that are seen alike
pub found_alike : {A B : Type 0} (see : A → B) (p q : A → Bool) → ((x y : A) → see x ≡ see y → p x ≡ q y) → (xs ys : List A) → map see xs ≡ map see ys → option_map see (find p xs) ≡ option_map see (find q ys)
found_alike see p q same [] [] e = refl
found_alike see p q same [] (y ∷ ys) e = absurd cc
found_alike see p q same (x ∷ xs) [] e = absurd cc
found_alike see p q same (x ∷ xs) (y ∷ ys) e = chosen (p x) (q y) (same x y (firsts_alike see x y xs ys e)) (found_alike see p q same xs ys (others_alike see x y xs ys e))
  where
    chosen : (a b : Bool) → a ≡ b → option_map see (find p xs) ≡ option_map see (find q ys) → option_map see (if a then Some x else find p xs) ≡ option_map see (if b then Some y else find q ys)
    chosen true true h rest = ap Some (firsts_alike see x y xs ys e)
    chosen false false h rest = rest
    chosen true false h rest = absurd cc
    chosen false true h rest = absurd cc

-- ---- components

-- the types of their variables are the same
pub types_alike : (c d : ComponentPlan) → IsAlike c d → variable_types c ≡ variable_types d
types_alike c d h = told_alike seen_variable (λ (s : SeenVariable). s.id.0) c.variables d.variables (ap (λ (s : SeenComponent). s.variables) h)

-- ---- plans

-- the components of a number are seen alike
pub components_alike : (p q : List ComponentPlan) → AreAlike p q → (comp : ℕ) → IsAlike (component_at p comp) (component_at q comp)
components_alike p q h comp =
    by_option seen_component (λ o. seen_component (unwrap_or o no_component)) (λ o. seen_component (unwrap_or o no_component)) refl (λ c d e. e) (slice_get p comp) (slice_get q comp) (at_place seen_component p q h comp)

-- they have the same ends
pub ends_alike : (p q : List ComponentPlan) → AreAlike p q → (e : End) → end_at p e ≡ end_at q e
ends_alike p q h e =
    by_option seen_component (λ o. o >>= λ c. slice_get c.ends e.face) (λ o. o >>= λ c. slice_get c.ends e.face) refl (λ c d same. ap (λ (s : SeenComponent). slice_get s.ends e.face) same) (slice_get p e.comp.0) (slice_get q e.comp.0) (at_place seen_component p q h e.comp.0)

called_alike : (comp : ℕ) (p q : List ComponentPlan) → AreAlike p q → all_ends comp p ≡ all_ends comp q
called_alike comp [] [] h = refl
called_alike comp [] (d ∷ ds) h = absurd cc
called_alike comp (c ∷ cs) [] h = absurd cc
called_alike comp (c ∷ cs) (d ∷ ds) h =
    ap (λ (s : SeenComponent). ends_from s.name comp 0 s.ends ++ all_ends (comp + 1) cs) (firsts_alike seen_component c d cs ds h)
    ∙ ap (λ es. ends_from d.name comp 0 d.ends ++ es) (called_alike (comp + 1) cs ds (others_alike seen_component c d cs ds h))

-- and of the same texts
pub names_alike : (p q : List ComponentPlan) → AreAlike p q → (text : List ℕ) → end_named p text ≡ end_named q text
names_alike p q h text = ap (λ es. first_called es text) (called_alike 0 p q h)

pub alike_ends : AlikeEnds
alike_ends p q h text =
    ap (λ o. o >>= λ e. option_map (λ at. (e, at)) (end_at p e)) (names_alike p q h text)
    ∙ ap (λ (at : End → Option _). end_named q text >>= λ e. option_map (λ x. (e, x)) (at e)) (fun_ext (ends_alike p q h))
