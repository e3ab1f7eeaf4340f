-- Types of containers that may be spelled by no bits (CCSDS 876.0-B, container data types).
use Rattle.std.specs.Prelude.{ℕ, List, [], ◌∷◌, length, Bool, true, false, not, ◌&&◌, nat_lt}
use Rattle.std.specs.List.{list_all}
use Rattle.eds_types.specs.declared.row.Part.{Part}
use Rattle.eds_types.specs.Rows.{Table, entries_of, trailers_of, is_concrete, chain}
use Rattle.eds_read_types.specs.Kin.{passes_under}

-- some parts are none
abbrev pub is_empty : List Part → Bool
is_empty [] = true
is_empty (p ∷ ps) = false

-- the container of a type has no parts of its own
abbrev pub is_bare : Table → ℕ → Bool
is_bare t y = is_empty (entries_of t y) && is_empty (trailers_of t y)

-- a concrete container derives from a type
abbrev pub has_further : Table → ℕ → Bool
has_further t k = passes_under t false (is_concrete t) k

-- a concrete container without parts, as its bases are, from which no concrete one derives: one that does would be chosen
abbrev pub is_void : Table → ℕ → Bool
is_void t k = is_concrete t k && (list_all (is_bare t) (chain t k) && not (has_further t k))

-- a type, if it is there, is such a container, or one derives from it
abbrev pub is_hollow : Table → ℕ → Bool
is_hollow t id = nat_lt id (length t) && passes_under t true (is_void t) id
