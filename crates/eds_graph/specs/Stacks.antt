-- Lists whose first item is on top.
use Rattle.std.specs.Prelude.{List, [], ◌∷◌, Option, Some, None}

-- the item on top of a stack
abbrev pub top : {A : Type 0} → List A → Option A
top [] = None
top (x ∷ xs) = Some x

-- with some items put on top one after another
abbrev pub pushed : {A : Type 0} → List A → List A → List A
pushed [] ys = ys
pushed (x ∷ xs) ys = pushed xs (x ∷ ys)

-- with another item on top in place of the one there
abbrev pub with_top : {A : Type 0} → A → List A → List A
with_top y [] = []
with_top y (x ∷ xs) = y ∷ xs
