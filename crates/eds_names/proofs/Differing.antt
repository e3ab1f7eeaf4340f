-- In a sheet that is not refused names differ, and a reference from no place is looked up by itself.
use Rattle.std.proofs.Common.{◌≡◌, ℕ, Bool, true, false, ◌||◌, List, [], ◌∷◌, ◌++◌, length, ◌≤◌, map, Option, Some, None, Ok, refl, sym, ap, ◌∙◌, subst, arith}
use Rattle.std.proofs.lemmas.Option.{slice_get_past}
use Rattle.std.proofs.lemmas.List.{length-map}
use Rattle.eds_base.specs.declared.refusal.Refusal.{Refusal}
use Rattle.eds_base.specs.Reading.{same}
use Rattle.eds_base.specs.Refusals.{first_of, least}
use Rattle.eds_tree.specs.declared.tree.Node.{Node}
use Rattle.eds_names.specs.declared.declared.Declared.{Declared}
use Rattle.eds_names.specs.Declarations.{named_of, declared_in}
use Rattle.eds_names.specs.Standings.{arounds_of}
use Rattle.eds_names.specs.Repeats.{Named, is_among, duplicate, repeat_of, repeats, repeats_from}
use Rattle.eds_names.specs.LookUp.{Names, AreApart, NamesDiffer, duplicates, unless, names_of, names_in, look_up, item_named}
use Rattle.eds_names.proofs.LookUpLemmas.{or_else-none, bytes_eq-sym}

-- ---- no least, no refusals

least-none : (rs : List Refusal) → least rs ≡ None → rs ≡ []
least-none [] h = refl
least-none (r ∷ rs) h = go (least rs) h
  where
    go : (o : Option Refusal) → first_of (Some r) o ≡ None → r ∷ rs ≡ []
    go None k = cc
    go (Some q) k = cc

append-none : {A : Type 0} (xs ys : List A) → xs ++ ys ≡ [] → (xs ≡ []) × (ys ≡ [])
append-none [] ys h = (refl, h)
append-none (x ∷ xs) ys h = cc

-- ---- no repeats, names apart

-- the names of some elements are not among others
abbrev NoneAmong : List (List ℕ) → List Named → Type 0
NoneAmong before [] = Unit {0}
NoneAmong before (n ∷ ns) = (is_among before n.key ≡ false) × NoneAmong before ns

repeat_of-none : (before : List (List ℕ)) (n : Named) → repeat_of before n ≡ [] → is_among before n.key ≡ false
repeat_of-none before n h = go (is_among before n.key) refl
  where
    go : (b : Bool) → is_among before n.key ≡ b → is_among before n.key ≡ false
    go false e = e
    go true e = let some : duplicate n ∷ [] ≡ [] = sym (rw e refl) ∙ h in cc

no_repeats : (before : List (List ℕ)) (ns : List Named) → repeats before ns ≡ [] → NoneAmong before ns × AreApart (map (λ n. n.key) ns)
no_repeats before [] h = (tt, tt)
no_repeats before (n ∷ ns) h =
    let parts = append-none (repeat_of before n) (repeats (n.key ∷ before) ns) h in
    let rest = no_repeats (n.key ∷ before) ns parts.1 in
    ((repeat_of-none before n parts.0, fewer ns rest.0), (apart ns rest.0, rest.1))
  where
    -- what is not among more names is not among fewer
    fewer : (ms : List Named) → NoneAmong (n.key ∷ before) ms → NoneAmong before ms
    fewer [] k = tt
    fewer (m ∷ ms) k = (either (same m.key n.key) (is_among before m.key) k.0, fewer ms k.1)
      where
        either : (a b : Bool) → (a || b) ≡ false → b ≡ false
        either true b e = cc
        either false b e = e

    -- and the first of the names is none of theirs
    apart : (ms : List Named) → NoneAmong (n.key ∷ before) ms → is_among (map (λ m. m.key) ms) n.key ≡ false
    apart [] k = refl
    apart (m ∷ ms) k = let other : same n.key m.key ≡ false = bytes_eq-sym n.key m.key ∙ first (same m.key n.key) (is_among before m.key) k.0 in rw other (apart ms k.1)
      where
        first : (a b : Bool) → (a || b) ≡ false → a ≡ false
        first true b e = cc
        first false b e = refl

-- ---- the laws

not_refused : (trees : List (List Node)) (names : Names) → names_in trees ≡ Ok names → (least (duplicates trees) ≡ None) × (names_of trees ≡ names)
unfolding names_in
not_refused trees names h = go (least (duplicates trees)) refl h
  where
    go : (o : Option Refusal) → least (duplicates trees) ≡ o → unless o (names_of trees) ≡ Ok names → (least (duplicates trees) ≡ None) × (names_of trees ≡ names)
    go None e k = (e, cc)
    go (Some r) e k = cc

keys_are : (ds : List Declared) → map (λ (n : Named). n.key) (map named_of ds) ≡ map (λ (d : Declared). d.name) ds
keys_are [] = refl
keys_are (d ∷ ds) = ap (λ names. d.name ∷ names) (keys_are ds)

pub apart_by_repeats : (ds : List Declared) → repeats [] (map named_of ds) ≡ [] → NamesDiffer ds
apart_by_repeats ds h = subst AreApart (keys_are ds) (no_repeats [] (map named_of ds) h).1

pub apart_by_least : (ds : List Declared) (repeated found : Option Refusal) → None ≡ first_of repeated found → repeated ≡ least (repeats [] (map named_of ds)) → NamesDiffer ds
apart_by_least ds repeated found e h = apart_by_repeats ds (least-none (repeats [] (map named_of ds)) (sym h ∙ neither repeated found e))
  where
    neither : (o p : Option Refusal) → None ≡ first_of o p → o ≡ None
    neither None p k = refl
    neither (Some r) None k = cc
    neither (Some r) (Some q) k = cc

pub differ : (trees : List (List Node)) (names : Names) → names_in trees ≡ Ok names → NamesDiffer names.declared
differ trees names h =
    let parts = not_refused trees names h in
    let none = append-none (repeats [] (map named_of (declared_in trees))) (repeats_from 0 trees) (least-none (duplicates trees) parts.0) in
    subst (λ (n : Names). NamesDiffer n.declared) parts.1 (apart_by_repeats (declared_in trees) none.0)

pub by_itself : (trees : List (List Node)) (text : List ℕ) (names : Names) (node : ℕ) → names_in trees ≡ Ok names → look_up names (record { file = length trees; node = node }) text ≡ item_named names.declared text
unfolding look_up
by_itself trees text names node h =
    let parts = not_refused trees names h in
    let count : length names.arounds ≤ length trees = omega (arith, ap (λ (n : Names). length n.arounds) parts.1, length-map trees arounds_of) in
    rw (slice_get_past names.arounds (length trees) count) (or_else-none (item_named names.declared text))

pub declared_of : (trees : List (List Node)) (names : Names) → names_in trees ≡ Ok names → declared_in trees ≡ names.declared
declared_of trees names h = ap (λ (n : Names). n.declared) (not_refused trees names h).1
