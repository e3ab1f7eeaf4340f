-- An index of paths holds as paths are put behind others, and it finds each path.
use Rattle.std.proofs.Common.{◌≡◌, ◌≢◌, ℕ, zero, suc, ◌+◌, ◌<◌, ◌≤◌, ◌==◌, List, [], ◌∷◌, ◌++◌, length, get_or, set, drop, Bool, true, false, cond, Some, refl, sym, ap, subst, ◌∙◌, append_assoc, append-nil, length-append, get_or-set_same, get_or-set_other, inl, inr, arith}
use Rattle.std.specs.Prelude.{slice_get, flat_map}
use Rattle.std.specs.List.{AllByRecursion, range_with_len}
use Rattle.std.proofs.lemmas.List.{drop_more, drop_all}
use Rattle.std.proofs.lemmas.Bool.{both_ways, eqb-true, eq-eqb}
use Rattle.std.proofs.lemmas.Grind.{flat_map-append}
use Rattle.std.proofs.lemmas.Option.{slice_get_within, same_Some, none-some}
use Rattle.eds_base.specs.declared.ids.TypeId.{TypeId}
use Rattle.eds_bits.specs.Lists.{HasOne}
use Rattle.eds_types.specs.declared.row.Constraint.{Constraint}
use Rattle.eds_types.specs.declared.row.Part.{Part}
use Rattle.eds_types.specs.Rows.{Table, id_of, constraints_of, entries_of, trailers_of}
use Rattle.eds_overlap.specs.Common.{each_once}
use Rattle.eds_overlap.specs.Pairs.{Steps, same_path}
use Rattle.eds_overlap.proofs.CommonFound.{once_new, once_old, once_in, once_from}
use Rattle.eds_overlap.proofs.Solutions.{same_is, same_not}
use Rattle.eds_unpack.specs.Asked.{asked, asked_by, asked_in, tellers_of}
use Rattle.eds_unpack.specs.Index.{Among, is_among, with_path, with_paths, begins_in, positions_from, positions, BeginsIn, HasStep, IsIndex}

-- ---- among others

pub among_is : (paths : List Steps) (p : Steps) → is_among paths p ≡ true → Among paths p
among_is [] p e = absurd cc
among_is (q ∷ paths) p e = go (same_path q p) refl e (among_is paths p)
  where
    go : (b : Bool) → same_path q p ≡ b → cond b true (is_among paths p) ≡ true → (is_among paths p ≡ true → Among paths p) → Among (q ∷ paths) p
    go true h k ih = inl (same_is q p h)
    go false h k ih = inr (ih k)

pub among_not : (paths : List Steps) (p : Steps) → is_among paths p ≡ false → Among paths p → ⊥
among_not [] p e h = h
among_not (q ∷ paths) p e h = go (same_path q p) refl e h (among_not paths p)
  where
    go : (b : Bool) → same_path q p ≡ b → cond b true (is_among paths p) ≡ false → Among (q ∷ paths) p → (is_among paths p ≡ false → Among paths p → ⊥) → ⊥
    go true f k m ih = cc
    go false f k (inl m) ih = same_not q p f m
    go false f k (inr m) ih = ih k m

-- where it stands
pub among_at : (paths : List Steps) (p : Steps) → Among paths p → (at : ℕ) × (slice_get paths at ≡ Some p)
among_at [] p h = absurd h
among_at (q ∷ paths) p (inl h) = (0, ap Some h)
among_at (q ∷ paths) p (inr h) = let r = among_at paths p h in (suc r.0, r.1)

at_among : (paths : List Steps) (p : Steps) (at : ℕ) → slice_get paths at ≡ Some p → Among paths p
at_among [] p at e = absurd (none-some p e)
at_among (q ∷ paths) p zero e = inl (same_Some q p e)
at_among (q ∷ paths) p (suc at) e = inr (at_among paths p at e)

-- one that was found adds nothing
pub found_path : (paths : List Steps) (p : Steps) (at : ℕ) → slice_get paths at ≡ Some p → paths ≡ with_path paths p
found_path paths p at e = go (is_among paths p) refl
  where
    go : (b : Bool) → is_among paths p ≡ b → paths ≡ cond b paths (paths ++ p ∷ [])
    go true h = refl
    go false h = absurd (among_not paths p h (at_among paths p at e))

-- one that wasn't comes last
pub new_path : (paths : List Steps) (p : Steps) → (Among paths p → ⊥) → paths ++ p ∷ [] ≡ with_path paths p
new_path paths p new = go (is_among paths p) refl
  where
    go : (b : Bool) → is_among paths p ≡ b → paths ++ p ∷ [] ≡ cond b paths (paths ++ p ∷ [])
    go true h = absurd (new (among_is paths p h))
    go false h = refl

-- ---- each once

with_path_once : (done : List Steps) (p : Steps) → with_path (each_once done) p ≡ each_once (done ++ p ∷ [])
with_path_once done p = go (is_among (each_once done) p) refl
  where
    go : (b : Bool) → is_among (each_once done) p ≡ b → cond b (each_once done) (each_once done ++ p ∷ []) ≡ each_once (done ++ p ∷ [])
    go true h = sym (once_old done p (once_from done p (among_is (each_once done) p h)))
    go false h = sym (once_new done p (λ k. among_not (each_once done) p h (once_in done p k)))

with_paths_once : (done more : List Steps) → with_paths (each_once done) more ≡ each_once (done ++ more)
with_paths_once done [] = ap each_once (sym (append-nil done))
with_paths_once done (p ∷ more) =
    ap (λ ps. with_paths ps more) (with_path_once done p) ∙ with_paths_once (done ++ p ∷ []) more ∙ ap each_once (append_assoc done (p ∷ []) more)

pub with_append : (paths xs ys : List Steps) → with_paths paths (xs ++ ys) ≡ with_paths (with_paths paths xs) ys
with_append paths [] ys = refl
with_append paths (x ∷ xs) ys = with_append (with_path paths x) xs ys

-- ---- type by type

range_more : (a n : ℕ) → range_with_len a (suc n) ≡ range_with_len a n ++ (a + n) ∷ []
range_more a zero = ap (λ x. x ∷ []) (omega arith)
range_more a (suc n) = ap (λ xs. a ∷ xs) (range_more (a + 1) n ∙ ap (λ x. range_with_len (a + 1) n ++ x ∷ []) (omega arith))

range_next : (n : ℕ) → range_with_len 0 (suc n) ≡ range_with_len 0 n ++ n ∷ []
range_next n = range_more 0 n ∙ ap (λ x. range_with_len 0 n ++ x ∷ []) (omega arith)

-- what the first n types ask for, each once
abbrev pub asked_up_to : Table → ℕ → List Steps
asked_up_to t n = with_paths [] (flat_map (asked_in t) (range_with_len 0 n))

pub asked_next : (t : Table) (n m : ℕ) (old new : List Steps) → m ≡ n + 1 → old ≡ asked_up_to t n → new ≡ with_paths old (asked_in t n) → new ≡ asked_up_to t m
asked_next t n m old new up e w =
    let more : List Steps = flat_map (asked_in t) (range_with_len 0 n) in
    let next : suc n ≡ m = omega arith in
    w ∙ ap (λ ps. with_paths ps (asked_in t n)) e ∙ sym (with_append [] more (asked_in t n))
    ∙ ap (with_paths []) (ap (λ xs. more ++ xs) (sym (append-nil (asked_in t n))) ∙ sym (flat_map-append (asked_in t) (range_with_len 0 n) (n ∷ [])) ∙ ap (flat_map (asked_in t)) (sym (range_next n)))
    ∙ ap (asked_up_to t) next

pub asked_end : (t : Table) (n : ℕ) (paths : List Steps) → n ≡ length t → paths ≡ asked_up_to t n → paths ≡ each_once (asked t)
asked_end t n paths all e = e ∙ ap (asked_up_to t) all ∙ with_paths_once [] (asked t)

-- ---- positions

positions_more : (n y : ℕ) (paths : List Steps) (p : Steps) → positions_from n y (paths ++ p ∷ []) ≡ positions_from n y paths ++ cond (begins_in y p) ((n + length paths) ∷ []) []
positions_more n y [] p = ap (λ m. cond (begins_in y p) (m ∷ []) []) (omega arith)
positions_more n y (q ∷ paths) p = go (begins_in y q) (positions_more (n + 1) y paths p ∙ ap (λ m. positions_from (n + 1) y paths ++ cond (begins_in y p) (m ∷ []) []) (omega arith))
  where
    go : (b : Bool) → positions_from (n + 1) y (paths ++ p ∷ []) ≡ positions_from (n + 1) y paths ++ cond (begins_in y p) ((n + suc (length paths)) ∷ []) []
        → cond b (n ∷ positions_from (n + 1) y (paths ++ p ∷ [])) (positions_from (n + 1) y (paths ++ p ∷ [])) ≡ cond b (n ∷ positions_from (n + 1) y paths) (positions_from (n + 1) y paths) ++ cond (begins_in y p) ((n + suc (length paths)) ∷ []) []
    go true ih = ap (λ xs. n ∷ xs) ih
    go false ih = ih

positions_last : (y : ℕ) (paths : List Steps) (p : Steps) → positions y (paths ++ p ∷ []) ≡ positions y paths ++ cond (begins_in y p) (length paths ∷ []) []
positions_last y paths p = positions_more 0 y paths p ∙ ap (λ m. positions y paths ++ cond (begins_in y p) (m ∷ []) []) (omega arith)

all_more : (paths : List Steps) (p : Steps) → AllByRecursion HasStep paths → HasStep p → AllByRecursion HasStep (paths ++ p ∷ [])
all_more [] p h k = (k, tt)
all_more (q ∷ paths) p h k = (h.0, all_more paths p h.1 k)

-- the index goes on with one path more
index_more : (paths : List Steps) (lists : List (List ℕ)) (step : TypeId × ℕ) (path : Steps) → IsIndex paths lists → length paths < 4294967295 → (step.0).0 < length lists
    → IsIndex (paths ++ (step ∷ path) ∷ []) (set lists (step.0).0 (get_or lists (step.0).0 [] ++ length paths ∷ []))
index_more paths lists step path is few within = record {
  steps = all_more paths (step ∷ path) is.steps tt;
  few = omega (arith, length-append paths ((step ∷ path) ∷ []));
  each = λ y. at y ((step.0).0 == y) refl ∙ sym (positions_last y paths (step ∷ path));
}
  where
    at : (y : ℕ) (b : Bool) → ((step.0).0 == y) ≡ b → get_or (set lists (step.0).0 (get_or lists (step.0).0 [] ++ length paths ∷ [])) y [] ≡ positions y paths ++ cond b (length paths ∷ []) []
    at y true h =
        let same : (step.0).0 ≡ y = eqb-true (step.0).0 y h in
        subst (λ z. get_or (set lists (step.0).0 (get_or lists (step.0).0 [] ++ length paths ∷ [])) z [] ≡ positions z paths ++ length paths ∷ []) same
        (get_or-set_same lists (step.0).0 (get_or lists (step.0).0 [] ++ length paths ∷ []) [] within ∙ ap (λ ns. ns ++ length paths ∷ []) (is.each (step.0).0))
    at y false h =
        let other : y ≢ (step.0).0 = λ e. both_ways ((step.0).0 == y) h (eq-eqb (step.0).0 y (sym e)) in
        get_or-set_other lists (step.0).0 y (get_or lists (step.0).0 [] ++ length paths ∷ []) [] other ∙ is.each y ∙ sym (append-nil (positions y paths))

pub path_front : (path : Steps) (d : TypeId × ℕ) → 1 ≤ length path → path ≡ get_or path 0 d ∷ drop 1 path
path_front [] d l = absurd (omega arith)
path_front (step ∷ path) d l = refl

pub index_put : (paths pushed : List Steps) (lists put new : List (List ℕ)) (path : Steps) (d : TypeId × ℕ) → IsIndex paths lists → 1 ≤ length path → length paths < 4294967295 → ((get_or path 0 d).0).0 < length lists
    → pushed ≡ paths ++ path ∷ [] → put ≡ set lists ((get_or path 0 d).0).0 (get_or lists ((get_or path 0 d).0).0 [] ++ length paths ∷ []) → new ≡ put → IsIndex pushed new
index_put paths pushed lists put new path d is l few within e k f =
    subst (λ ps. IsIndex ps new) (sym (e ∙ ap (λ p. paths ++ p ∷ []) (path_front path d l)))
    (subst (IsIndex (paths ++ (get_or path 0 d ∷ drop 1 path) ∷ [])) (sym (f ∙ k)) (index_more paths lists (get_or path 0 d) (drop 1 path) is few within))

pub index_none : (lists : List (List ℕ)) → ((y : ℕ) → get_or lists y [] ≡ []) → IsIndex [] lists
index_none lists e = record { steps = tt; few = omega arith; each = e }

-- ---- what an index finds

sound_from : (all rest : List Steps) (n : ℕ) (y : TypeId) → ((k : ℕ) (p : Steps) → slice_get rest k ≡ Some p → slice_get all (n + k) ≡ Some p) → AllByRecursion (BeginsIn all y) (positions_from n y.0 rest)
sound_from all [] n y h = tt
sound_from all (p ∷ rest) n y h = go p refl (sound_from all rest (n + 1) y (λ k q e. ap (slice_get all) (omega arith) ∙ h (suc k) q e))
  where
    begun : (step : TypeId × ℕ) (path : Steps) → p ≡ step ∷ path → (b : Bool) → ((step.0).0 == y.0) ≡ b → AllByRecursion (BeginsIn all y) (positions_from (n + 1) y.0 rest)
        → AllByRecursion (BeginsIn all y) (cond b (n ∷ positions_from (n + 1) y.0 rest) (positions_from (n + 1) y.0 rest))
    begun step path e true f ih =
        let same : step.0 ≡ y = ap id_of (eqb-true (step.0).0 y.0 f) in
        ((step.1, path, ap (slice_get all) (omega arith) ∙ h 0 p refl ∙ ap Some (e ∙ ap (λ (z : TypeId). (z, step.1) ∷ path) same)), ih)
    begun step path e false f ih = ih

    go : (q : Steps) → p ≡ q → AllByRecursion (BeginsIn all y) (positions_from (n + 1) y.0 rest) → AllByRecursion (BeginsIn all y) (cond (begins_in y.0 q) (n ∷ positions_from (n + 1) y.0 rest) (positions_from (n + 1) y.0 rest))
    go [] e ih = ih
    go (step ∷ path) e ih = begun step path e ((step.0).0 == y.0) refl ih

pub positions_sound : (all : List Steps) (y : TypeId) → AllByRecursion (BeginsIn all y) (positions y.0 all)
positions_sound all y = sound_from all all 0 y (λ k p e. ap (slice_get all) (omega arith) ∙ e)

complete_from : (paths : List Steps) (n k : ℕ) (y : TypeId) (place : ℕ) (rest : Steps) → slice_get paths k ≡ Some ((y, place) ∷ rest) → HasOne (λ m. m ≡ n + k) (positions_from n y.0 paths)
complete_from [] n k y place rest e = absurd (none-some ((y, place) ∷ rest) e)
complete_from (p ∷ paths) n zero y place rest e =
    let same : p ≡ (y, place) ∷ rest = same_Some p ((y, place) ∷ rest) e in
    let begins : begins_in y.0 p ≡ true = ap (begins_in y.0) same ∙ eq-eqb y.0 y.0 refl in
    subst (λ b. HasOne (λ m. m ≡ n + 0) (cond b (n ∷ positions_from (n + 1) y.0 paths) (positions_from (n + 1) y.0 paths))) (sym begins) (inl (omega arith))
complete_from (p ∷ paths) n (suc k) y place rest e =
    go (begins_in y.0 p) (subst (λ i. HasOne (λ m. m ≡ i) (positions_from (n + 1) y.0 paths)) (omega arith) (complete_from paths (n + 1) k y place rest e))
  where
    go : (b : Bool) → HasOne (λ m. m ≡ n + suc k) (positions_from (n + 1) y.0 paths) → HasOne (λ m. m ≡ n + suc k) (cond b (n ∷ positions_from (n + 1) y.0 paths) (positions_from (n + 1) y.0 paths))
    go true h = inr h
    go false h = h

pub positions_complete : (all : List Steps) (y : TypeId) (at place : ℕ) (rest : Steps) → slice_get all at ≡ Some ((y, place) ∷ rest) → HasOne (λ m. m ≡ at) (positions y.0 all)
positions_complete all y at place rest e = subst (λ i. HasOne (λ m. m ≡ i) (positions y.0 all)) (omega arith) (complete_from all 0 at y place rest e)

-- what begins in a container is there
pub all_within : (paths : List Steps) (y : TypeId) (ns : List ℕ) → AllByRecursion (BeginsIn paths y) ns → AllByRecursion (λ n. n < length paths) ns
all_within paths y [] h = tt
all_within paths y (n ∷ ns) h = (slice_get_within paths n ((y, (h.0).0) ∷ (h.0).1) (h.0).2, all_within paths y ns h.1)

pub none_empty : (all : List Steps) (p : Steps) → AllByRecursion HasStep all → length p < 1 → Among all p → ⊥
none_empty [] p h l k = k
none_empty (q ∷ all) p h l (inl e) = go p l (subst HasStep e h.0)
  where
    go : (r : Steps) → length r < 1 → HasStep r → ⊥
    go [] m k = k
    go (s ∷ r) m k = omega arith
none_empty (q ∷ all) p h l (inr k) = none_empty all p h.1 l k

-- another path stands at one of some positions
pub not_here : (all : List Steps) (path here : Steps) (ns : List ℕ) (i : ℕ) → i < length ns → slice_get all (get_or ns i 0) ≡ Some here → same_path here path ≡ false
    → ((at : ℕ) → slice_get all at ≡ Some path → HasOne (λ n. n ≡ at) (drop i ns)) → (at : ℕ) → slice_get all at ≡ Some path → HasOne (λ n. n ≡ at) (drop (i + 1) ns)
not_here all path here ns i l s d h at e = go (subst (HasOne (λ n. n ≡ at)) (drop_more ns i 0 l) (h at e))
  where
    go : HasOne (λ n. n ≡ at) (get_or ns i 0 ∷ drop (i + 1) ns) → HasOne (λ n. n ≡ at) (drop (i + 1) ns)
    go (inl k) = absurd (same_not here path d (same_Some here path (sym s ∙ ap (slice_get all) k ∙ e)))
    go (inr k) = k

-- none stands at no position
pub not_there : (all : List Steps) (path : Steps) (ns : List ℕ) (i : ℕ) → length ns ≤ i → ((at : ℕ) → slice_get all at ≡ Some path → HasOne (λ n. n ≡ at) (drop i ns)) → Among all path → ⊥
not_there all path ns i l h k = let r = among_at all path k in subst (HasOne (λ n. n ≡ r.0)) (drop_all i ns l) (h r.0 r.1)

-- ---- what is asked, part by part

left_is : {A : Type 0} (xs : List A) (i : ℕ) (x : A) → i < length xs → x ≡ get_or xs i x → drop i xs ≡ x ∷ drop (i + 1) xs
left_is xs i x l e = drop_more xs i x l ∙ ap (λ y. y ∷ drop (i + 1) xs) (sym e)

pub with_next : {A : Type 0} (asks : A → List Steps) (xs : List A) (i : ℕ) (x : A) (old new whole : List Steps) → i < length xs → x ≡ get_or xs i x → new ≡ with_paths old (asks x)
    → with_paths old (flat_map asks (drop i xs)) ≡ whole → with_paths new (flat_map asks (drop (i + 1) xs)) ≡ whole
with_next asks xs i x old new whole l e added all =
    let left : List Steps = flat_map asks (drop (i + 1) xs) in
    ap (λ ps. with_paths ps left) added ∙ sym (with_append old (asks x) left) ∙ ap (λ ys. with_paths old (flat_map asks ys)) (sym (left_is xs i x l e)) ∙ all

pub asked_by_type : (t : Table) (y : ℕ) (old mid new : List Steps) (cs : List Constraint) (es ts : List Part) → cs ≡ constraints_of t y → es ≡ entries_of t y → ts ≡ trailers_of t y
    → mid ≡ with_paths old (flat_map asked_by cs) → new ≡ with_paths mid (flat_map tellers_of es) → with_paths new (flat_map tellers_of ts) ≡ with_paths old (asked_in t y)
asked_by_type t y old mid new cs es ts ce ee te m n =
    ap (λ ps. with_paths ps (flat_map tellers_of ts)) (n ∙ ap (λ ps. with_paths ps (flat_map tellers_of es)) m)
    ∙ sym (with_append (with_paths old (flat_map asked_by cs)) (flat_map tellers_of es) (flat_map tellers_of ts))
    ∙ sym (with_append old (flat_map asked_by cs) (flat_map tellers_of es ++ flat_map tellers_of ts))
    ∙ ap (λ xs. with_paths old (flat_map asked_by cs ++ xs)) (sym (flat_map-append tellers_of es ts))
    ∙ ap (λ ds. with_paths old (flat_map asked_by ds ++ flat_map tellers_of (es ++ ts))) ce
    ∙ ap (λ ps. with_paths old (flat_map asked_by (constraints_of t y) ++ flat_map tellers_of (ps ++ ts))) ee
    ∙ ap (λ ps. with_paths old (flat_map asked_by (constraints_of t y) ++ flat_map tellers_of (entries_of t y ++ ps))) te
