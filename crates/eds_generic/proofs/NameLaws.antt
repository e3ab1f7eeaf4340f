-- The rules of names are broken alike by two that are the same.
use Rattle.std.proofs.Common.{◌≡◌, true, List, [], ◌∷◌, map, refl, ap, ◌∙◌}
use Rattle.eds_generic.specs.declared.pair.Further.{Further}
use Rattle.eds_generic.specs.Faces.{generics}
use Rattle.eds_generic.specs.Pairs.{same_types, all_within}
use Rattle.eds_generic.specs.NameRules.{IsAlike, unmapped_of, unmapped_at, unknown_at, refused_of, refused_at}
use Rattle.eds_generic.proofs.Once.{and-right}
use Rattle.eds_generic.proofs.Same.{pair-face, pair-types}

pub unmapped-alike : IsAlike unmapped_at
unmapped-alike faces types p q s e = ap (λ f. unmapped_of (generics faces f) p.types) (pair-face p q s) ∙ ap (unmapped_of (generics faces q.face.0)) (pair-types p q s) ∙ e

pub refused-alike : IsAlike refused_at
refused-alike faces types p q s e = ap (λ f. refused_of types (generics faces f) p.types) (pair-face p q s) ∙ ap (refused_of types (generics faces q.face.0)) (pair-types p q s) ∙ e

none-within : (more less : List Further) → all_within more less ≡ true → more ≡ [] → less ≡ []
none-within more [] h e = refl
none-within [] (f ∷ fs) h e = cc
none-within (m ∷ ms) (f ∷ fs) h e = cc

map-none : {A B : Type 0} (f : A → B) (xs : List A) → map f xs ≡ [] → xs ≡ []
map-none f [] e = refl
map-none f (x ∷ xs) e = cc

pub unknown-alike : IsAlike unknown_at
unknown-alike faces types p q s e =
    let within : all_within q.further p.further ≡ true = and-right (all_within p.further q.further) (all_within q.further p.further) (and-right (same_types p.types q.types) _ (and-right _ _ s)) in
    ap (map (λ (f : Further). f.name)) (none-within q.further p.further within (map-none (λ (f : Further). f.name) q.further e))
