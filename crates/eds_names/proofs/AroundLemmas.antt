-- Names by their positions, and a table of them.
use Rattle.std.proofs.Common.{◌≡◌, ℕ, zero, suc, ◌+◌, ◌<◌, List, [], ◌∷◌, ◌++◌, length, map, take, drop, get_or, replicate, Option, Some, None, refl, sym, ap, ◌∙◌, subst, add-one, drop-cons, slice_get, arith}
use Rattle.std.proofs.Math.ListN.{set}
use Rattle.std.proofs.lemmas.List.{map-set, take-append-drop, length-append}
use Rattle.eds_names.specs.Around.{name_in, IsIn}
use Rattle.eds_names.specs.Standings.{written}

-- all positions are of the names
abbrev pub AllIn : List (List ℕ) → List (Option ℕ) → Type 0
AllIn names [] = Unit {0}
AllIn names (p ∷ ps) = IsIn names p × AllIn names ps

-- ---- more names

slice_get-append : {A : Type 0} (xs ys : List A) (k : ℕ) → k < length xs → slice_get (xs ++ ys) k ≡ slice_get xs k
slice_get-append [] ys k h = absurd (omega (arith, h))
slice_get-append (x ∷ xs) ys zero h = refl
slice_get-append (x ∷ xs) ys (suc k) h = slice_get-append xs ys k (omega (arith, h))

name_in-append : (names more : List (List ℕ)) (p : Option ℕ) → IsIn names p → name_in (names ++ more) p ≡ name_in names p
name_in-append names more None h = refl
name_in-append names more (Some k) h = slice_get-append names more k h

IsIn-append : (names more : List (List ℕ)) (p : Option ℕ) → IsIn names p → IsIn (names ++ more) p
IsIn-append names more None h = tt
IsIn-append names more (Some k) h = omega (arith, h, length-append names more)

AllIn-append : (names more : List (List ℕ)) (ps : List (Option ℕ)) → AllIn names ps → AllIn (names ++ more) ps
AllIn-append names more [] h = tt
AllIn-append names more (p ∷ ps) h = (IsIn-append names more p h.0, AllIn-append names more ps h.1)

map-name_in-append : (names more : List (List ℕ)) (ps : List (Option ℕ)) → AllIn names ps → map (name_in (names ++ more)) ps ≡ map (name_in names) ps
map-name_in-append names more [] h = refl
map-name_in-append names more (p ∷ ps) h = rw (name_in-append names more p h.0, map-name_in-append names more ps h.1) refl

-- the names that are kept are the front of the new ones
grown : {A : Type 0} (old new : List A) → take (length old) new ≡ old → new ≡ old ++ drop (length old) new
grown old new kept = sym (take-append-drop (length old) new) ∙ ap (λ xs. xs ++ drop (length old) new) kept

pub AllIn-kept : (old new : List (List ℕ)) (ps : List (Option ℕ)) → take (length old) new ≡ old → AllIn old ps → AllIn new ps
AllIn-kept old new ps kept h = subst (λ names. AllIn names ps) (sym (grown old new kept)) (AllIn-append old (drop (length old) new) ps h)

pub map-kept : (old new : List (List ℕ)) (ps : List (Option ℕ)) → take (length old) new ≡ old → AllIn old ps → map (name_in new) ps ≡ map (name_in old) ps
map-kept old new ps kept h = ap (λ names. map (name_in names) ps) (grown old new kept) ∙ map-name_in-append old (drop (length old) new) ps h

-- ---- the table

pub AllIn-set : (names : List (List ℕ)) (ps : List (Option ℕ)) (n : ℕ) (p : Option ℕ) → AllIn names ps → IsIn names p → AllIn names (set ps n p)
AllIn-set names [] n p h k = tt
AllIn-set names (q ∷ ps) zero p h k = (k, h.1)
AllIn-set names (q ∷ ps) (suc n) p h k = (h.0, AllIn-set names ps n p h.1 k)

pub AllIn-none : (names : List (List ℕ)) (n : ℕ) → AllIn names (replicate n None)
AllIn-none names zero = tt
AllIn-none names (suc n) = (tt, AllIn-none names n)

pub map-none : (names : List (List ℕ)) (n : ℕ) → map (name_in names) (replicate n None) ≡ replicate n None
map-none names zero = refl
map-none names (suc n) = ap (λ ps. None ∷ ps) (map-none names n)

-- one entry more
pub written-next : {A : Type 0} (entry : A → ℕ × Option (List ℕ)) (xs : List A) (i : ℕ) (x d : A) (old new : List (List ℕ)) (table more : List (Option ℕ)) (p : Option ℕ) (whole : List (Option (List ℕ)))
    → i < length xs → x ≡ get_or xs i d → take (length old) new ≡ old → AllIn old table → more ≡ set table (entry x).0 p → name_in new p ≡ (entry x).1
    → written (map (name_in old) table) (map entry (drop i xs)) ≡ whole
    → written (map (name_in new) more) (map entry (drop (i + 1) xs)) ≡ whole
written-next entry xs i x d old new table more p whole lt is kept all set_to name done =
    let here : map (name_in new) more ≡ set (map (name_in old) table) (entry x).0 (entry x).1 =
    ap (map (name_in new)) set_to ∙ map-set (name_in new) table (entry x).0 p ∙ ap (λ q. set (map (name_in new) table) (entry x).0 q) name ∙ ap (λ t. set t (entry x).0 (entry x).1) (map-kept old new table kept all) in
    let opened : map entry (drop i xs) ≡ entry x ∷ map entry (drop (i + 1) xs) = ap (map entry) (drop-cons xs i d lt) ∙ rw (add-one, ← is) refl in
    ap (λ t. written t (map entry (drop (i + 1) xs))) here ∙ sym (ap (written (map (name_in old) table)) opened) ∙ done
