-- Containers whose value is that of their entries alone, one after another.
use Rattle.std.specs.Prelude.{ℕ, List, [], ◌∷◌, length, Bool, false, is_none, ◌==◌, ◌&&◌}
use Rattle.std.specs.List.{list_all}
use Rattle.eds_types.specs.declared.row.Part.{Part}
use Rattle.eds_types.specs.declared.row.Part.TheVariants as part
use Rattle.eds_types.specs.Rows.{Table, chain, family, is_concrete, constraints_of, entries_of, trailers_of}
use Rattle.eds_types.specs.Sizes.{tail_of}

-- an entry with a value, which is no open binary
abbrev pub is_straight_entry : Table → Part → Bool
is_straight_entry t (part.Plain name id) = is_none (tail_of t (part.Plain name id))
is_straight_entry t (part.Fixed name id v) = false
is_straight_entry t (part.Pad n) = false
is_straight_entry t (part.List name id y i) = false
is_straight_entry t (part.Length name id c0 c1) = false
is_straight_entry t (part.Check name id k) = false

-- the number, and no other, is in the list
abbrev pub is_only : ℕ → List ℕ → Bool
is_only x [] = false
is_only x (y ∷ []) = y == x
is_only x (y ∷ z ∷ ys) = false

-- the container derives from none and none derives from it, and it has such entries alone
abbrev pub is_straight : Table → ℕ → Bool
is_straight t x = is_concrete t x && (is_only x (family t x) && (is_only x (chain t x) && ((length (constraints_of t x) == 0) && ((length (trailers_of t x) == 0) && list_all (is_straight_entry t) (entries_of t x)))))
