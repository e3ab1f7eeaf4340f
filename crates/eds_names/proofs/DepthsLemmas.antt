-- How many slashes names have.
use Rattle.std.proofs.Common.{◌≡◌, ◌≢◌, ℕ, zero, suc, ◌+◌, ◌<◌, nat_eq, length, get_or, set, drop, map, arith, Bool, true, false, List, [], ◌∷◌, ◌++◌, Some, refl, sym, ap, ◌∙◌, drop-cons, add-one, cond}
use Rattle.std.specs.Prelude.{if◌then◌else◌}
use Rattle.std.specs.Str.{bytes_eq}
use Rattle.std.proofs.lemmas.List.{length-append, length-map}
use Rattle.std.proofs.lemmas.List.Sums.{sum_by-append, sum_by-cons}
use Rattle.std.proofs.lemmas.Slice.Eq.{bytes_eq-Decides}
use Rattle.eds_names.specs.declared.declared.Declared.{Declared}
use Rattle.eds_names.specs.LookUp.{item_named, fronts, longest, slashes, is_marked}
use Rattle.eds_names.specs.Standings.{joined}
use Rattle.eds_names.proofs.LookUpLemmas.{fronts-longest}

-- ---- slashes

abbrev one_slash : ℕ → ℕ
one_slash c = cond (nat_eq c 47) 1 0

pub slashes-joined : (first second : List ℕ) → slashes (joined first second) ≡ slashes first + 1 + slashes second
slashes-joined first second = sum_by-append one_slash first (47 ∷ second) ∙ ap (λ n. slashes first + n) (sum_by-cons one_slash 47 second) ∙ omega arith

-- each slash ends a front
slashes-fronts : (s : List ℕ) → slashes s ≡ length (fronts s)
slashes-fronts [] = refl
slashes-fronts (c ∷ cs) =
    sum_by-cons one_slash c cs ∙ ap (λ n. one_slash c + n) (slashes-fronts cs) ∙ sym (
    length-append (map (λ front. c ∷ front) (fronts cs)) (if nat_eq c 47 then [] ∷ [] else []) ∙ ap (λ n. n + length {A = List ℕ} (if nat_eq c 47 then [] ∷ [] else [])) (length-map (fronts cs) (λ front. c ∷ front)) ∙ last (nat_eq c 47) (length (fronts cs))
    )
  where
    last : (b : Bool) (n : ℕ) → n + length {A = List ℕ} (if b then [] ∷ [] else []) ≡ cond b 1 0 + n
    last true n = omega arith
    last false n = omega arith

pub slashes-shorter : (s front : List ℕ) → longest (fronts s) ≡ Some front → slashes s ≡ suc (slashes front)
slashes-shorter s front h = slashes-fronts s ∙ ap length (fronts-longest s front h) ∙ ap suc (sym (slashes-fronts front))

-- ---- marked numbers

pub marked-more : (table : List Bool) (k : ℕ) → is_marked (table ++ false ∷ []) k ≡ is_marked table k
marked-more [] zero = refl
marked-more [] (suc k) = refl
marked-more (b ∷ table) zero = refl
marked-more (b ∷ table) (suc k) = marked-more table k

pub marked-set : (table : List Bool) (depth k : ℕ) → depth < length table → is_marked (set table depth true) k ≡ false → (k ≢ depth) × (is_marked table k ≡ false)
marked-set [] depth k lt h = absurd (omega (arith, lt))
marked-set (b ∷ table) zero zero lt h = cc
marked-set (b ∷ table) zero (suc k) lt h = (λ e. omega (arith, e), h)
marked-set (b ∷ table) (suc depth) zero lt h = (λ e. omega (arith, e), h)
marked-set (b ∷ table) (suc depth) (suc k) lt h =
    let rest = marked-set table depth k (omega (arith, lt)) h in
    (λ e. rest.0 (omega (arith, e)), rest.1)

-- ---- the depths of declared names

differs : (x y : List ℕ) → x ≢ y → bytes_eq x y ≡ false
differs x y h = go (bytes_eq x y) refl
  where
    go : (b : Bool) → bytes_eq x y ≡ b → bytes_eq x y ≡ false
    go true e = absurd (h ((bytes_eq-Decides x y).0 e))
    go false e = e

-- a name whose depth is not marked is none of those that are left, unless it is one of all
pub depths-next : (declared : List Declared) (i : ℕ) (one d : Declared) (old new : List Bool) (depth : ℕ) → i < length declared → one ≡ get_or declared i d → depth ≡ slashes one.name
    → ((k : ℕ) → is_marked new k ≡ false → (k ≢ depth) × (is_marked old k ≡ false))
    → ((q : List ℕ) → is_marked old (slashes q) ≡ false → item_named (drop i declared) q ≡ item_named declared q)
    → (q : List ℕ) → is_marked new (slashes q) ≡ false → item_named (drop (i + 1) declared) q ≡ item_named declared q
depths-next declared i one d old new depth lt is deep marked all q h =
    let both = marked (slashes q) h in
    let other : bytes_eq q one.name ≡ false = differs q one.name (λ e. both.0 (ap slashes e ∙ sym deep)) in
    let opened : drop i declared ≡ one ∷ drop (i + 1) declared = drop-cons declared i d lt ∙ rw (add-one, ← is) refl in
    sym (ap (λ ds. item_named ds q) opened ∙ rw other refl) ∙ all q both.1
