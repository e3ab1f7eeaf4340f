-- The part that tells the number of a list's items, by its container and its position (CCSDS 876.0-B, list entries).
use Rattle.std.specs.Prelude.{◌≡◌, ◌⊎◌, ℕ, false, ◌+◌, nat_le, List, [], ◌∷◌, codes, if◌then◌else◌, Option, Some, None, slice_get}
use Rattle.std.specs.List.{list_any}
use Rattle.eds_base.specs.Reading.{◌>>=◌, same}
use Rattle.eds_base.specs.declared.ids.Place.{Place}
use Rattle.eds_base.specs.declared.ids.TypeId.{TypeId}
use Rattle.eds_tree.specs.declared.tree.Node.{Node}
use Rattle.eds_types.specs.Rows.{or_else}
use Rattle.eds_type_rows.specs.declared.seat.Seat.{Seat}
use Rattle.eds_type_rows.specs.Places.{attribute, own_name}
use Rattle.eds_type_rows.specs.Entries.{has_name, is_list}

-- the position of a part of this name, if it is asked for
abbrev pub place_if : (own : List ℕ) → ℕ → List ℕ → Option ℕ
place_if own n name = if same name own then Some n else None

-- the position of a part, if it has a name
abbrev pub place_named : List (List Node) → ℕ → Place → List ℕ → Option ℕ
place_named trees n at name = if has_name trees at then place_if (own_name trees at) n name else None

-- the position of the first of some parts that has a name; the first of all has the position n
abbrev pub place_from : List (List Node) → ℕ → List Seat → List ℕ → Option ℕ
place_from trees n [] name = None
place_from trees n (s ∷ seats) name = or_else (place_named trees n s.at name) (place_from trees (n + 1) seats name)

-- where the first part of a name stands
abbrev pub seat_named : List (List Node) → List Seat → List ℕ → Option Seat
seat_named trees seats name = place_from trees 0 seats name >>= λ n. slice_get seats n

-- where the part stands that a list names as its field, which is looked for among the parts of the container and of its bases
abbrev pub field_seat : List (List Node) → List Seat → Place → Option Seat
field_seat trees seats at = attribute trees (codes "listLengthField") at >>= seat_named trees seats

-- the type of a number; no sheet has so many types that one has no such number
abbrev pub type_number : ℕ → TypeId
type_number id = record { 0 = if nat_le id 4294967295 then id else 4294967295 }

-- a position as a row holds it; no container has a part of the position 65,535
abbrev pub short : ℕ → ℕ
short n = if nat_le n 65535 then n else 65535

-- the container of the field, or the list's own where there is no field
abbrev pub field_container : (container : ℕ) → Option Seat → TypeId
field_container container None = type_number container
field_container container (Some s) = type_number s.container

-- the field's position, or 65,535 where there is none
abbrev pub field_place : Option Seat → ℕ
field_place None = 65535
field_place (Some s) = short s.place

-- Some seats will do for the parts of a container, of whose sequence all seats are given: they are all of them, or no part is a
-- list, and no other part looks for a field.
abbrev pub AreEnough : List (List Node) → (all seats : List Seat) → List Place → Type 0
AreEnough trees all seats parts = (seats ≡ all) ⊎ (list_any (is_list trees) parts ≡ false)
