-- What is found under a name.
use Rattle.std.proofs.Common.{◌≡◌, ◌≢◌, ℕ, suc, ◌<◌, nat_eq, length, get_or, take, drop, map, arith, Bool, true, false, List, [], ◌∷◌, ◌++◌, Option, Some, None, refl, sym, ap, ◌∙◌, is_some}
use Rattle.std.specs.Prelude.{if◌then◌else◌}
use Rattle.std.specs.Map.{update}
use Rattle.std.specs.Str.{bytes_eq}
use Rattle.std.specs.Bool.{one_answer}
use Rattle.std.proofs.lemmas.List.{take-append-drop}
use Rattle.std.proofs.lemmas.Bool.Decides.{nat_tests}
use Rattle.std.proofs.lemmas.Slice.Eq.{bytes_eq-Decides}
use Rattle.eds_names.specs.declared.declared.Item.{Item}
use Rattle.eds_names.specs.declared.declared.Declared.{Declared}
use Rattle.eds_names.specs.LookUp.{or_else, entry_named, item_named, first_found, candidates, fronts, longest}
use Rattle.eds_names.specs.Standings.{joined}

pub or_else-none : {A : Type 0} (o : Option A) → or_else o None ≡ o
or_else-none None = refl
or_else-none (Some x) = refl

pub none_of : {A : Type 0} (o : Option A) → is_some o ≡ false → o ≡ None
none_of None h = refl
none_of (Some x) h = cc

pub bytes_eq-sym : (x y : List ℕ) → bytes_eq x y ≡ bytes_eq y x
bytes_eq-sym x y = one_answer {P = x ≡ y} (bytes_eq x y) (bytes_eq y x) (bytes_eq-Decides x y) (λ h. sym ((bytes_eq-Decides y x).0 h), λ p. (bytes_eq-Decides y x).1 (sym p))

-- an item put under a name that nothing had
pub noted : (old new : List ℕ → Option Item) (one : Declared) (q : List ℕ) → new q ≡ update bytes_eq old one.name (Some one.item) q → is_some (old one.name) ≡ false → new q ≡ or_else (old q) (entry_named one q)
noted old new one q e absent = go (bytes_eq one.name q) refl
  where
    go : (b : Bool) → bytes_eq one.name q ≡ b → new q ≡ or_else (old q) (entry_named one q)
    go true h =
        let k : one.name ≡ q = (bytes_eq-Decides one.name q).0 h in
        let none : old q ≡ None = ap old (sym k) ∙ none_of (old one.name) absent in
        let here : bytes_eq q one.name ≡ true = bytes_eq-sym q one.name ∙ h in
        e ∙ rw (h, none, here) refl
    go false h =
        let here : bytes_eq q one.name ≡ false = bytes_eq-sym q one.name ∙ h in
        e ∙ rw (h, here) (sym (or_else-none (old q)))

-- ---- fronts

abbrev pub NoSlash : List ℕ → Type 0
NoSlash s = (i : ℕ) → i < length s → get_or s i 0 ≢ 47

pub fronts-none : (s : List ℕ) → NoSlash s → fronts s ≡ []
fronts-none [] h = refl
fronts-none (c ∷ cs) h =
    let rest : fronts cs ≡ [] = fronts-none cs (λ i lt. h (suc i) (omega (arith, lt))) in
    let other : nat_eq c 47 ≡ false = differs c (h 0 (omega arith)) in
    rw (rest, other) refl
  where
    differs : (c : ℕ) → c ≢ 47 → nat_eq c 47 ≡ false
    differs c h = grind (arith, nat_tests)

-- the fronts of a name with a slash are what stands before the last one, and the fronts of that
pub fronts-split : (a b : List ℕ) → NoSlash b → fronts (a ++ 47 ∷ b) ≡ a ∷ fronts a
fronts-split [] b h = rw (fronts-none b h) refl
fronts-split (c ∷ a) b h = rw (fronts-split a b h) refl

pub longest-split : (s : List ℕ) (i j : ℕ) → drop i s ≡ 47 ∷ drop j s → NoSlash (drop j s) → longest (fronts s) ≡ Some (take i s)
longest-split s i j split h =
    let parts : s ≡ take i s ++ 47 ∷ drop j s = sym (take-append-drop i s) ∙ ap (λ d. take i s ++ d) split in
    ap (λ t. longest (fronts t)) parts ∙ ap longest (fronts-split (take i s) (drop j s) h)

-- the longest front goes before those of its own
pub fronts-longest : (s front : List ℕ) → longest (fronts s) ≡ Some front → fronts s ≡ front ∷ fronts front
fronts-longest [] front h = cc
fronts-longest (c ∷ cs) front h = go (fronts cs) refl (fronts-longest cs)
  where
    at_slash : (b : Bool) → longest (if b then [] ∷ [] else []) ≡ Some front → (if b then [] ∷ [] else []) ≡ front ∷ fronts front
    at_slash true k = let e : front ≡ [] = cc in rw e refl
    at_slash false k = cc

    go : (fs : List (List ℕ)) → fronts cs ≡ fs → ((f : List ℕ) → longest (fronts cs) ≡ Some f → fronts cs ≡ f ∷ fronts f) → fronts (c ∷ cs) ≡ front ∷ fronts front
    go [] e deeper = rw e (at_slash (nat_eq c 47) (rw e at h))
    go (f ∷ fs) e deeper =
        let first : c ∷ f ≡ front = cc (rw e at h) in
        let below : fronts cs ≡ f ∷ fronts f = deeper f (ap longest e) in
        rw (below, ← first) refl

pub longest-shorter : (s front : List ℕ) → longest (fronts s) ≡ Some front → length front < length s
longest-shorter [] front h = cc
longest-shorter (c ∷ cs) front h = go (fronts cs) refl (longest-shorter cs)
  where
    at_slash : (b : Bool) → longest (if b then [] ∷ [] else []) ≡ Some front → length front < suc (length cs)
    at_slash true k = let e : front ≡ [] = cc in rw e (omega arith)
    at_slash false k = cc

    go : (fs : List (List ℕ)) → fronts cs ≡ fs → ((f : List ℕ) → longest (fronts cs) ≡ Some f → length f < length cs) → length front < suc (length cs)
    go [] e deeper = at_slash (nat_eq c 47) (rw e at h)
    go (f ∷ fs) e deeper =
        let first : c ∷ f ≡ front = cc (rw e at h) in
        let below : length f < length cs = deeper f (ap longest e) in
        rw (← first) (omega (arith, below))

-- where nothing is found below a name, what is found below its longest front is found
pub found-next : (declared : List Declared) (front next name text : List ℕ) (found : Option Item) (whole : Option Item) → longest (fronts front) ≡ Some next → name ≡ joined front text → found ≡ item_named declared name → is_some found ≡ false
    → first_found declared (candidates (Some front) text) ≡ whole → first_found declared (candidates (Some next) text) ≡ whole
found-next declared front next name text found whole longer is here none all =
    let nothing : item_named declared (joined front text) ≡ None = ap (item_named declared) (sym is) ∙ sym here ∙ none_of found none in
    let more : fronts front ≡ next ∷ fronts next = fronts-longest front next longer in
    sym (ap (λ fs. first_found declared (map (λ f. joined f text) (front ∷ fs) ++ text ∷ [])) more ∙ rw nothing refl) ∙ all
