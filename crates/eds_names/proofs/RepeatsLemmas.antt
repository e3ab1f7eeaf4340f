-- Names that come a second time.
use Rattle.std.proofs.Common.{◌≡◌, ℕ, ◌+◌, ◌<◌, Bool, true, false, cond, ◌||◌, List, [], ◌∷◌, ◌++◌, length, map, drop, get_or, Option, Some, None, refl, sym, ap, ◌∙◌, drop-cons, add-one}
use Rattle.std.specs.List.{list_any, flat_map}
use Rattle.std.proofs.lemmas.List.{map-append}
use Rattle.std.proofs.lemmas.Slice.Eq.{bytes_eq-Decides}
use Rattle.eds_base.specs.declared.refusal.Refusal.{Refusal}
use Rattle.eds_base.specs.Reading.{same}
use Rattle.eds_base.specs.Refusals.{first_of, least}
use Rattle.eds_base.proofs.LeastLaws.{first_assoc, least-append}
use Rattle.eds_names.specs.Repeats.{Named, is_among, duplicate, repeat_of, repeats}

-- a name is among texts exactly where it is among their bytes
pub among-map : {A : Type 0} (f : A → List ℕ) (xs : List A) (key : List ℕ) → is_among (map f xs) key ≡ list_any (λ x. same key (f x)) xs
among-map f [] key = refl
among-map f (x ∷ xs) key = rw (among-map f xs key) refl

-- ---- one name more

pub repeat_of-present : (before : List (List ℕ)) (n : Named) → is_among before n.key ≡ true → repeat_of before n ≡ duplicate n ∷ []
repeat_of-present before n h = rw h refl

pub repeat_of-absent : (before : List (List ℕ)) (n : Named) → is_among before n.key ≡ false → repeat_of before n ≡ []
repeat_of-absent before n h = rw h refl

-- the same names, in whatever order and however often
abbrev pub SameNames : List (List ℕ) → List (List ℕ) → Type 0
SameNames xs ys = (q : List ℕ) → is_among xs q ≡ is_among ys q

-- a name that is there adds nothing
pub names-present : (before : List (List ℕ)) (key : List ℕ) → is_among before key ≡ true → SameNames before (key ∷ before)
names-present before key h q = go (same q key) refl
  where
    go : (b : Bool) → same q key ≡ b → is_among before q ≡ is_among (key ∷ before) q
    go true e = let is : q ≡ key = (bytes_eq-Decides q key).0 e in ap (is_among before) is ∙ h ∙ sym (rw e refl)
    go false e = sym (rw e refl)

-- a name that goes last goes among the others as one that goes first
pub names-last : (before : List (List ℕ)) (key : List ℕ) → SameNames (before ++ key ∷ []) (key ∷ before)
names-last [] key q = refl
names-last (x ∷ xs) key q = ap (λ b. same q x || b) (names-last xs key q) ∙ swapped (same q x) (same q key) (is_among xs q)
  where
    swapped : (a b c : Bool) → (a || (b || c)) ≡ (b || (a || c))
    swapped true true c = refl
    swapped true false c = refl
    swapped false true c = refl
    swapped false false c = refl

repeats-same : (before others : List (List ℕ)) (ns : List Named) → SameNames before others → repeats before ns ≡ repeats others ns
repeats-same before others [] s = refl
repeats-same before others (n ∷ ns) s = rw (s n.key, repeats-same (n.key ∷ before) (n.key ∷ others) ns (λ q. ap (λ b. same q n.key || b) (s q))) refl

-- what was found, and the least of what is to come, after one name more
pub least-next_name : (before next : List (List ℕ)) (n : Named) (ns : List Named) (found here whole : Option Refusal)
    → SameNames next (n.key ∷ before) → here ≡ first_of found (least (repeat_of before n)) → first_of found (least (repeats before (n ∷ ns))) ≡ whole
    → first_of here (least (repeats next ns)) ≡ whole
least-next_name before next n ns found here whole names now all =
    rw (now, repeats-same next (n.key ∷ before) ns names) (first_assoc found (least (repeat_of before n)) (least (repeats (n.key ∷ before) ns)) ∙ ap (first_of found) (sym (least-append (repeat_of before n) (repeats (n.key ∷ before) ns))) ∙ all)

pub first_of-none : (o : Option Refusal) → first_of o None ≡ o
first_of-none None = refl
first_of-none (Some r) = refl

-- an item whose text is new goes last
pub inserted : {A : Type 0} (f : A → List ℕ) (old new : List A) (x : A) (key : List ℕ) → f x ≡ key → is_among (map f old) key ≡ false → new ≡ cond (list_any (λ y. same (f x) (f y)) old) old (old ++ x ∷ []) → SameNames (map f new) (key ∷ map f old)
inserted f old new x key is absent e q =
    let none : list_any (λ y. same (f x) (f y)) old ≡ false = sym (among-map f old (f x)) ∙ ap (is_among (map f old)) is ∙ absent in
    let last : new ≡ old ++ x ∷ [] = e ∙ ap (λ b. cond b old (old ++ x ∷ [])) none in
    ap (λ ys. is_among (map f ys) q) last ∙ ap (λ ks. is_among ks q) (map-append f old (x ∷ []) ∙ ap (λ k. map f old ++ k ∷ []) is) ∙ names-last (map f old) key q

-- ---- over a list

pub opened : {A B : Type 0} (f : A → B) (xs : List A) (i : ℕ) (x d : A) → i < length xs → x ≡ get_or xs i d → map f (drop i xs) ≡ f x ∷ map f (drop (i + 1) xs)
opened f xs i x d lt is = ap (map f) (drop-cons xs i d lt) ∙ rw (add-one, ← is) refl

pub least-next : {A : Type 0} (f : A → Named) (xs : List A) (i : ℕ) (x d : A) (key own : List ℕ) (before next : List (List ℕ)) (found here whole : Option Refusal)
    → i < length xs → x ≡ get_or xs i d → key ≡ (f x).key → own ≡ (f x).own → SameNames next (key ∷ before) → here ≡ first_of found (least (repeat_of before (record { key = key; own = own; place = (f x).place })))
    → first_of found (least (repeats before (map f (drop i xs)))) ≡ whole
    → first_of here (least (repeats next (map f (drop (i + 1) xs)))) ≡ whole
least-next f xs i x d key own before next found here whole lt is k o names now all =
    least-next_name before next (f x) (map f (drop (i + 1) xs)) found here whole (rw (← k) names) (rw (k, o) at now) (rw (opened f xs i x d lt is) at all)

-- the same where each item has refusals of its own
pub least-next_item : {A B : Type 0} (f : B → List Refusal) (g : A → B) (xs : List A) (i : ℕ) (x d : A) (found here next whole : Option Refusal)
    → i < length xs → x ≡ get_or xs i d → here ≡ least (f (g x)) → next ≡ first_of found here
    → first_of found (least (flat_map f (map g (drop i xs)))) ≡ whole
    → first_of next (least (flat_map f (map g (drop (i + 1) xs)))) ≡ whole
least-next_item f g xs i x d found here next whole lt is now more all =
    let rest = flat_map f (map g (drop (i + 1) xs)) in
    let split : least (flat_map f (map g (drop i xs))) ≡ first_of here (least rest) = ap (λ ys. least (flat_map f ys)) (opened g xs i x d lt is) ∙ least-append (f (g x)) rest ∙ ap (λ o. first_of o (least rest)) (sym now) in
    ap (λ o. first_of o (least rest)) more ∙ first_assoc found here (least rest) ∙ ap (first_of found) (sym split) ∙ all

pub map-same : {A : Type 0} (xs : List A) → map (λ x. x) xs ≡ xs
map-same [] = refl
map-same (x ∷ xs) = ap (λ ys. x ∷ ys) (map-same xs)

pub least-next_of : {A : Type 0} (f : A → List Refusal) (xs : List A) (i : ℕ) (x d : A) (found here next whole : Option Refusal)
    → i < length xs → x ≡ get_or xs i d → here ≡ least (f x) → next ≡ first_of found here
    → first_of found (least (flat_map f (drop i xs))) ≡ whole
    → first_of next (least (flat_map f (drop (i + 1) xs))) ≡ whole
least-next_of f xs i x d found here next whole lt is now more all =
    rw map-same at (least-next_item f (λ y. y) xs i x d found here next whole lt is now more (rw map-same all))
