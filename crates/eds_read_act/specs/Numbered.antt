-- Items of a list with their numbers: the first that is wanted, and the first of a name.
use Rattle.std.specs.Prelude.{ℕ, ◌+◌, List, [], ◌∷◌, map, Option, Some, None, option_map, slice_get}
use Rattle.eds_base.specs.Reading.{◌>>=◌}
use Rattle.eds_names.specs.Positions.{place_among}

-- what is wanted of the item of a number, or else the first behind it
abbrev pub first_numbered : {B : Type 0} → ℕ → Option B → (behind : Option (ℕ × B)) → Option (ℕ × B)
first_numbered k None behind = behind
first_numbered k (Some b) behind = Some (k, b)

-- what is wanted of the first item that has it, with the item's number, where the list starts with the number k
abbrev pub numbered : {A B : Type 0} → (A → Option B) → ℕ → List A → Option (ℕ × B)
numbered p k [] = None
numbered p k (x ∷ xs) = first_numbered k (p x) (numbered p (k + 1) xs)

-- the item of a number, with it
abbrev pub item_at : {A : Type 0} → List A → ℕ → Option (ℕ × A)
item_at xs k = option_map (λ x. (k, x)) (slice_get xs k)

-- the first item of a name, with its number
abbrev pub item_named : {A : Type 0} → (A → List ℕ) → List A → List ℕ → Option (ℕ × A)
item_named name_of xs name = place_among (map name_of xs) name >>= item_at xs

-- the item of a number, if one is given
abbrev pub at_number : {A : Type 0} → List A → Option ℕ → Option A
at_number xs None = None
at_number xs (Some k) = slice_get xs k
