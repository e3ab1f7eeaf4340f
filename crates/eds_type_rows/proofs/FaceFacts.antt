-- The own generic names of an interface.
use Rattle.std.proofs.Common.{◌≡◌, ℕ, ◌+◌, ◌<◌, Bool, true, false, ◌||◌, List, [], ◌∷◌, length, map, drop, get_or, refl, sym, ap, ◌∙◌}
use Rattle.eds_base.specs.Reading.{same}
use Rattle.eds_names.specs.Repeats.{is_among}
use Rattle.eds_names.proofs.RepeatsLemmas.{SameNames, opened}

or-false : (b : Bool) → (b || false) ≡ b
or-false true = refl
or-false false = refl

or-turn : (a b c : Bool) → ((a || b) || c) ≡ (b || (a || c))
or-turn true true c = refl
or-turn true false c = refl
or-turn false b c = refl

-- the names that are noted, with those that are to come, are all names
pub names-next : {A : Type 0} (f : A → List ℕ) (xs : List A) (i : ℕ) (x d : A) (name : List ℕ) (old new : List (List ℕ))
    → i < length xs → x ≡ get_or xs i d → name ≡ f x → SameNames new (name ∷ old)
    → ((q : List ℕ) → (is_among old q || is_among (map f (drop i xs)) q) ≡ is_among (map f xs) q)
    → (q : List ℕ) → (is_among new q || is_among (map f (drop (i + 1) xs)) q) ≡ is_among (map f xs) q
names-next f xs i x d name old new lt is k s inv q =
    ap (λ b. b || is_among (map f (drop (i + 1) xs)) q) (s q ∙ ap (λ n. same q n || is_among old q) k)
    ∙ or-turn (same q (f x)) (is_among old q) (is_among (map f (drop (i + 1) xs)) q)
    ∙ ap (λ ks. is_among old q || is_among ks q) (sym (opened f xs i x d lt is)) ∙ inv q

-- at the end nothing is to come
pub names-all : (old names : List (List ℕ)) → ((q : List ℕ) → (is_among old q || is_among [] q) ≡ is_among names q) → SameNames old names
names-all old names h q = sym (or-false (is_among old q)) ∙ h q
