-- Texts in byte order.
use Rattle.std.specs.Prelude.{ℕ, List, [], ◌∷◌, Bool, Option, Some, None, if◌then◌else◌}
use Rattle.std.specs.Ordering.{nat_cmp, is_lt}
use Rattle.std.specs.Cmp.Lexicographic.{slice_cmp}

-- one text comes before another
abbrev pub precedes : List ℕ → List ℕ → Bool
precedes a b = is_lt (slice_cmp nat_cmp a b)

-- the first of two texts, of which the one may not be there
abbrev pub first_of : Option (List ℕ) → List ℕ → Option (List ℕ)
first_of None b = Some b
first_of (Some a) b = if precedes b a then Some b else Some a

-- the first of some texts and of one that is found already
abbrev pub first_from : Option (List ℕ) → List (List ℕ) → Option (List ℕ)
first_from found [] = found
first_from found (text ∷ texts) = first_from (first_of found text) texts

-- the first of some texts
abbrev pub first_in_order : List (List ℕ) → Option (List ℕ)
first_in_order texts = first_from None texts
