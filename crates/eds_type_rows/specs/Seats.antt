-- The parts of a container and of its bases as elements, in the order of their bits (CCSDS 876.0-B, container data types).
use Rattle.std.specs.Prelude.{ℕ, ◌+◌, List, [], ◌∷◌, ◌++◌, length, reverse, Option, Some, None, slice_get}
use Rattle.std.specs.List.{flat_map}
use Rattle.eds_base.specs.declared.ids.Place.{Place}
use Rattle.eds_tree.specs.declared.tree.Node.{Node}
use Rattle.eds_names.specs.LookUp.{Names}
use Rattle.eds_type_rows.specs.declared.seat.Seat.{Seat}
use Rattle.eds_type_rows.specs.Places.{type_places}
use Rattle.eds_type_rows.specs.Entries.{entries_at, trailers_at}
use Rattle.eds_type_rows.specs.Bases.{bases_of, bases_within}

-- some elements of a container with their positions, the first at position i
abbrev pub seats_from : (container i : ℕ) → List Place → List Seat
seats_from y i [] = []
seats_from y i (at ∷ ats) = record { container = y; place = i; at = at } ∷ seats_from y (i + 1) ats

-- what an element holds, where there is one
abbrev pub held_by : (Place → List Place) → Option Place → List Place
held_by held None = []
held_by held (Some at) = held at

module _ (trees : List (List Node)) (names : Names) where
  -- the entries of the type of a number, none where it is no container
  abbrev pub entries_of : ℕ → List Place
  entries_of y = held_by (entries_at trees) (slice_get (type_places names) y)

  -- its trailers
  abbrev pub trailers_of : ℕ → List Place
  trailers_of y = held_by (trailers_at trees) (slice_get (type_places names) y)

  -- the entries with their positions
  abbrev pub entry_seats : ℕ → List Seat
  entry_seats y = seats_from y 0 (entries_of y)

  -- the trailers, whose positions go on from the entries
  abbrev pub trailer_seats : ℕ → List Seat
  trailer_seats y = seats_from y (length (entries_of y)) (trailers_of y)

  -- a type and its bases, from the type up; no chain has more than 16 types
  abbrev pub lineage : ℕ → List ℕ
  lineage id = id ∷ bases_within 15 (bases_of trees names) id

  -- the entries from the root of the bases down to the container, and then the trailers from the container up to the root
  abbrev pub seats_of : ℕ → List Seat
  seats_of id = flat_map entry_seats (reverse (lineage id)) ++ flat_map trailer_seats (lineage id)
