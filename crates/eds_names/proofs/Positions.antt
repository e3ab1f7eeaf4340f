-- Names by their positions, as an index has them.
use Rattle.std.proofs.Common.{◌≡◌, ℕ, ◌+◌, ◌<◌, length, get_or, drop, drop-cons, add-one, Bool, true, false, List, ◌∷◌, Option, Some, None, refl, sym, ap, ◌∙◌, is_some}
use Rattle.std.specs.Map.{update}
use Rattle.std.specs.Str.{bytes_eq}
use Rattle.std.proofs.lemmas.Slice.Eq.{bytes_eq-Decides}
use Rattle.eds_base.specs.Reading.{same}
use Rattle.eds_names.specs.Positions.{place_from, place_among, or_else, entry_at}
use Rattle.eds_names.proofs.LookUpLemmas.{or_else-none, none_of}

or_else-assoc : (a b c : Option ℕ) → or_else (or_else a b) c ≡ or_else a (or_else b c)
or_else-assoc None b c = refl
or_else-assoc (Some k) b c = refl

over-some : (o other : Option ℕ) → is_some o ≡ true → o ≡ or_else o other
over-some None other h = cc
over-some (Some k) other h = refl

-- a name that is there adds nothing
pub kept : (old : List ℕ → Option ℕ) (k : ℕ) (one q : List ℕ) → is_some (old one) ≡ true → old q ≡ or_else (old q) (entry_at k one q)
kept old k one q there = go (same one q) refl
  where
    go : (b : Bool) → same one q ≡ b → old q ≡ or_else (old q) (entry_at k one q)
    go true h = let is : one ≡ q = (bytes_eq-Decides one q).0 h in over-some (old q) (entry_at k one q) (ap (λ n. is_some (old n)) (sym is) ∙ there)
    go false h = rw h (sym (or_else-none (old q)))

-- a new name has its position
pub noted : (old new : List ℕ → Option ℕ) (k : ℕ) (one q : List ℕ) → new q ≡ update bytes_eq old one (Some k) q → is_some (old one) ≡ false → new q ≡ or_else (old q) (entry_at k one q)
noted old new k one q e absent = go (bytes_eq one q) refl
  where
    go : (b : Bool) → bytes_eq one q ≡ b → new q ≡ or_else (old q) (entry_at k one q)
    go true h =
        let is : one ≡ q = (bytes_eq-Decides one q).0 h in
        let none : old q ≡ None = ap old (sym is) ∙ none_of (old one) absent in
        e ∙ rw (h, none) refl
    go false h = e ∙ rw h (sym (or_else-none (old q)))

place-split : (k : ℕ) (one : List ℕ) (names : List (List ℕ)) (q : List ℕ) → place_from k (one ∷ names) q ≡ or_else (entry_at k one q) (place_from (k + 1) names q)
place-split k one names q = go (same one q) refl
  where
    go : (b : Bool) → same one q ≡ b → place_from k (one ∷ names) q ≡ or_else (entry_at k one q) (place_from (k + 1) names q)
    go true h = rw h refl
    go false h = rw h refl

pub place-next : (old new : List ℕ → Option ℕ) (names : List (List ℕ)) (k : ℕ) (d one : List ℕ) → k < length names → one ≡ get_or names k d
    → ((q : List ℕ) → new q ≡ or_else (old q) (entry_at k one q)) → ((q : List ℕ) → or_else (old q) (place_from k (drop k names) q) ≡ place_among names q)
    → (q : List ℕ) → or_else (new q) (place_from (k + 1) (drop (k + 1) names) q) ≡ place_among names q
place-next old new names k d one lt is more all q =
    let opened : drop k names ≡ one ∷ drop (k + 1) names = drop-cons names k d lt ∙ rw (add-one, ← is) refl in
    ap (λ o. or_else o (place_from (k + 1) (drop (k + 1) names) q)) (more q)
    ∙ or_else-assoc (old q) (entry_at k one q) (place_from (k + 1) (drop (k + 1) names) q)
    ∙ ap (or_else (old q)) (sym (place-split k one (drop (k + 1) names) q) ∙ ap (λ ns. place_from k ns q) (sym opened)) ∙ all q
