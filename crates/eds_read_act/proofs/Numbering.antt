-- Items by their names, in other lists; the first of some elements.
use Rattle.std.proofs.Common.{◌≡◌, ℕ, suc, ◌+◌, ◌-◌, Bool, true, false, List, [], ◌∷◌, map, Option, Some, None, refl, ap, ◌∙◌, arith, is_some}
use Rattle.std.specs.Prelude.{slice_get, option_map, if◌then◌else◌}
use Rattle.std.specs.List.{list_any}
use Rattle.std.proofs.lemmas.Option.{slice_get-map}
use Rattle.eds_base.specs.Reading.{◌>>=◌, same}
use Rattle.eds_names.specs.Positions.{place_from, place_among}
use Rattle.eds_read_act.specs.BadReference.{is_field}
use Rattle.eds_read_act.specs.Numbered.{item_at, item_named}
use Rattle.eds_read_act.specs.Scopes.{Field}
use Rattle.eds_read_act.specs.Carrying.{field_type}

map-map : {A B C : Type 0} (f : A → B) (g : B → C) (xs : List A) → map g (map f xs) ≡ map (λ x. g (f x)) xs
map-map f g [] = refl
map-map f g (x ∷ xs) = ap (λ ys. g (f x) ∷ ys) (map-map f g xs)

item_at-map : {A B : Type 0} (f : A → B) (xs : List A) (k : ℕ) → item_at (map f xs) k ≡ option_map {U = ℕ × B} (λ (p : ℕ × A). (p.0, f p.1)) (item_at xs k)
item_at-map {A = A} {B = B} f xs k = ap (option_map {U = ℕ × B} (λ (y : B). (k, y))) (slice_get-map f xs k) ∙ there (slice_get xs k)
  where
    there : (o : Option A) → option_map {U = ℕ × B} (λ (y : B). (k, y)) (option_map f o) ≡ option_map {U = ℕ × B} (λ (p : ℕ × A). (p.0, f p.1)) (option_map {U = ℕ × A} (λ (x : A). (k, x)) o)
    there None = refl
    there (Some x) = refl

item-mapped : {A B : Type 0} (f : A → B) (xs : List A) (o : Option ℕ) → (o >>= item_at (map f xs)) ≡ option_map {U = ℕ × B} (λ (p : ℕ × A). (p.0, f p.1)) (o >>= item_at xs)
item-mapped f xs None = refl
item-mapped f xs (Some k) = item_at-map f xs k

-- an item of a list that is made of another
pub item_named-map : {A B : Type 0} (f : A → B) (name_of : B → List ℕ) (xs : List A) (q : List ℕ)
    → item_named name_of (map f xs) q ≡ option_map {U = ℕ × B} (λ (p : ℕ × A). (p.0, f p.1)) (item_named (λ x. name_of (f x)) xs q)
item_named-map f name_of xs q = ap (λ ns. place_among ns q >>= item_at (map f xs)) (map-map f name_of xs) ∙ item-mapped f xs (place_among (map (λ x. name_of (f x)) xs) q)

-- ---- the first of a name

pub place-shift : (k : ℕ) (ns : List (List ℕ)) (q : List ℕ) → place_from (k + 1) ns q ≡ option_map (λ i. i + 1) (place_from k ns q)
place-shift k [] q = refl
place-shift k (n ∷ ns) q = go (same n q) refl (place-shift (k + 1) ns q)
  where
    go : (b : Bool) → same n q ≡ b → place_from (k + 1 + 1) ns q ≡ option_map (λ i. i + 1) (place_from (k + 1) ns q) → place_from (k + 1) (n ∷ ns) q ≡ option_map (λ i. i + 1) (place_from k (n ∷ ns) q)
    go true e others = rw e refl
    go false e others = rw e others

-- the first of some items that has a name
abbrev pub first_by : {A : Type 0} → (A → List ℕ) → List A → List ℕ → Option A
first_by f [] q = None
first_by f (x ∷ xs) q = if same (f x) q then Some x else first_by f xs q

pub one-further : {A : Type 0} (x : A) (xs : List A) (o : Option ℕ) → (option_map (λ i. i + 1) o >>= λ k. slice_get (x ∷ xs) k) ≡ (o >>= λ k. slice_get xs k)
one-further x xs None = refl
one-further x xs (Some k) = let next : k + 1 ≡ suc k = omega arith in ap (slice_get (x ∷ xs)) next

named-first : {A : Type 0} (f : A → List ℕ) (xs : List A) (q : List ℕ) → (place_among (map f xs) q >>= λ k. slice_get xs k) ≡ first_by f xs q
named-first f [] q = refl
named-first {A = A} f (x ∷ xs) q = go (same (f x) q) refl (named-first f xs q)
  where
    go : (b : Bool) → same (f x) q ≡ b → (place_among (map f xs) q >>= λ k. slice_get xs k) ≡ first_by f xs q → (place_among (map f (x ∷ xs)) q >>= λ k. slice_get (x ∷ xs) k) ≡ first_by f (x ∷ xs) q
    go true e others = rw e refl
    go false e others = rw e (ap (λ o. o >>= λ k. slice_get (x ∷ xs) k) (place-shift 0 (map f xs) q) ∙ one-further x xs (place_among (map f xs) q) ∙ others)

-- the first of some items that a name has stands at the name's position
pub first-named : {A : Type 0} (f : A → List ℕ) (xs : List A) (q : List ℕ) (found : Option A) → found ≡ (place_among (map f xs) q >>= λ k. slice_get xs k) → found ≡ first_by f xs q
first-named f xs q found e = e ∙ named-first f xs q

-- ---- fields

kept-type : (k : ℕ) (o : Option Field) → option_map (λ (p : ℕ × Field). (p.1).1) (option_map {U = ℕ × Field} (λ (x : Field). (k, x)) o) ≡ option_map (λ (f : Field). f.1) o
kept-type k None = refl
kept-type k (Some f) = refl

types-kept : (fields : List Field) (o : Option ℕ) → option_map (λ (p : ℕ × Field). (p.1).1) (o >>= item_at fields) ≡ (o >>= λ k. option_map (λ (f : Field). f.1) (slice_get fields k))
types-kept fields None = refl
types-kept fields (Some k) = kept-type k (slice_get fields k)

type-further : (f : Field) (fs : List Field) (o : Option ℕ) → (option_map (λ i. i + 1) o >>= λ k. option_map (λ (g : Field). g.1) (slice_get (f ∷ fs) k)) ≡ (o >>= λ k. option_map (λ (g : Field). g.1) (slice_get fs k))
type-further f fs None = refl
type-further f fs (Some k) = let next : k + 1 ≡ suc k = omega arith in ap (λ i. option_map (λ (g : Field). g.1) (slice_get (f ∷ fs) i)) next

type-first : (fs : List Field) (q : List ℕ) → (place_among (map (λ (f : Field). f.0) fs) q >>= λ k. option_map (λ (f : Field). f.1) (slice_get fs k)) ≡ field_type fs q
type-first [] q = refl
type-first (f ∷ fs) q = go (same f.0 q) refl (type-first fs q)
  where
    go : (b : Bool) → same f.0 q ≡ b → (place_among (map (λ (g : Field). g.0) fs) q >>= λ k. option_map (λ (g : Field). g.1) (slice_get fs k)) ≡ field_type fs q
        → (place_among (map (λ (g : Field). g.0) (f ∷ fs)) q >>= λ k. option_map (λ (g : Field). g.1) (slice_get (f ∷ fs) k)) ≡ field_type (f ∷ fs) q
    go true e others = rw e refl
    go false e others = rw e (ap (λ o. o >>= λ k. option_map (λ (g : Field). g.1) (slice_get (f ∷ fs) k)) (place-shift 0 (map (λ (g : Field). g.0) fs) q) ∙ type-further f fs (place_among (map (λ (g : Field). g.0) fs) q) ∙ others)

-- the type of a field, where the field is found by its name
pub field-named : (fields : List Field) (q : List ℕ) → option_map (λ (p : ℕ × Field). (p.1).1) (item_named (λ (f : Field). f.0) fields q) ≡ field_type fields q
field-named fields q = types-kept fields (place_among (map (λ (f : Field). f.0) fields) q) ∙ type-first fields q

-- a field of a name is there exactly where it has a type
pub field-there : (fields : List Field) (q : List ℕ) → list_any (is_field q) fields ≡ is_some (field_type fields q)
field-there [] q = refl
field-there (f ∷ fs) q = go (same f.0 q) refl (field-there fs q)
  where
    go : (b : Bool) → same f.0 q ≡ b → list_any (is_field q) fs ≡ is_some (field_type fs q) → list_any (is_field q) (f ∷ fs) ≡ is_some (field_type (f ∷ fs) q)
    go true e others = rw e refl
    go false e others = rw e others
