-- The parts of containers by their names, as an index has them: of several parts of one name the first.
use Rattle.std.specs.Prelude.{ℕ, ◌+◌, List, [], ◌∷◌, length, map, Option, Some, None, slice_get}
use Rattle.eds_base.specs.Reading.{◌>>=◌}
use Rattle.eds_names.specs.Positions.{place_among}
use Rattle.eds_types.specs.declared.row.Part.{Part}
use Rattle.eds_types.specs.declared.row.Part.TheVariants as part
use Rattle.eds_types.specs.Rows.{Table, entries_of, trailers_of, numbers}
use Rattle.eds_read_act.specs.declared.entry_names.NamedParts.{NamedParts}
use Rattle.eds_read_act.specs.declared.entry_names.OwnNames.{OwnNames}

-- the name of a part, where it has one
abbrev pub name_of : Part → Option (List ℕ)
name_of (part.Plain own id) = Some own
name_of (part.Fixed own id v) = own
name_of (part.Pad n) = None
name_of (part.List own id y i) = Some own
name_of (part.Length own id c0 c1) = Some own
name_of (part.Check own id k) = Some own

-- a name with a place before others, where there is a name
abbrev pub with_name : Option (List ℕ) → ℕ → List (List ℕ × ℕ) → List (List ℕ × ℕ)
with_name None i named = named
with_name (Some own) i named = (own, i) ∷ named

-- the names of some parts with their places, of which the first is i; parts without a name are left out
abbrev pub named_from : ℕ → List Part → List (List ℕ × ℕ)
named_from i [] = []
named_from i (p ∷ ps) = with_name (name_of p) i (named_from (i + 1) ps)

-- the names of some parts, and beside them their places
abbrev pub index_from : ℕ → List Part → NamedParts
index_from i ps = record { names = map (λ n. n.0) (named_from i ps); places = map (λ n. n.1) (named_from i ps) }

-- the place of the first part of a name
abbrev pub place_in : NamedParts → List ℕ → Option ℕ
place_in index name = place_among index.names name >>= slice_get index.places

-- the names of the entries of a type and those of its trailers, whose places go on from its entries
abbrev pub index_of : Table → ℕ → OwnNames
index_of t y = record { entries = index_from 0 (entries_of t y); trailers = index_from (length (entries_of t y)) (trailers_of t y) }

-- the same of all types
abbrev pub index_of_all : Table → List OwnNames
index_of_all t = map (index_of t) (numbers t)
