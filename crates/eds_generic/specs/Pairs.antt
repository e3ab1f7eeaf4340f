-- Interfaces under maps of their generic names.
use Rattle.std.specs.Prelude.{◌≡◌, ℕ, zero, suc, List, [], ◌∷◌, ◌++◌, map, length, Bool, true, false, ◌&&◌, ◌==◌, if◌then◌else◌, Option, Some, None, slice_get, set}
use Rattle.std.specs.List.{flat_map, list_any, list_all, range_with_len}
use Rattle.eds_base.specs.declared.ids.FaceId.{FaceId}
use Rattle.eds_base.specs.Reading.{same}
use Rattle.eds_generic.specs.declared.face.Face.{Face}
use Rattle.eds_generic.specs.declared.face.Base.{Base}
use Rattle.eds_generic.specs.declared.face.Generic.{Generic}
use Rattle.eds_generic.specs.declared.face.Mapped.{Mapped}
use Rattle.eds_generic.specs.declared.face.Source.{Source}
use Rattle.eds_generic.specs.declared.face.Source.TheVariants as source
use Rattle.eds_generic.specs.declared.pair.Bound.{Bound}
use Rattle.eds_generic.specs.declared.pair.Bound.TheVariants as bound
use Rattle.eds_generic.specs.declared.pair.Further.{Further}
use Rattle.eds_generic.specs.declared.pair.Pair.{Pair}
use Rattle.eds_generic.specs.Faces.{generics, bases, mapped}

-- ---- what a name stands for

-- what the generic name of an interface at a position hands on: the name itself, where no map gives it a type; and what
-- it stands for, be it a type or a name that was handed to it
abbrev pub handed : FaceId → ℕ → Option Bound → Bound
handed face k None = bound.Unknown face k
handed face k (Some bound.Unmapped) = bound.Unknown face k
handed face k (Some (bound.Unknown f j)) = bound.Unknown f j
handed face k (Some (bound.Sort id)) = bound.Sort id

-- a type as an interface names it, where its own generic names stand for these
abbrev pub meant : FaceId → List Bound → Source → Bound
meant face types (source.Generic k) = handed face k (slice_get types k)
meant face types (source.Sort id) = bound.Sort id

-- what an own generic name stands for by what the map of a base says of it, which may be nothing
abbrev pub meant_by : FaceId → List Bound → Option Source → Bound
meant_by face types None = bound.Unmapped
meant_by face types (Some s) = meant face types s

-- ---- the map of a base, rewritten by the outer map

-- what the generic names of a base stand for, in their own order
abbrev pub bound_types : FaceId → List Bound → List Mapped → List Generic → List Bound
bound_types face types maps own = map (λ k. meant_by face types (mapped maps k)) (range_with_len 0 (length own))

-- a name that is no generic name of the base is a further one
abbrev pub further_by : Option ℕ → Further → List Further
further_by None f = f ∷ []
further_by (Some k) f = []

-- a name of a map, where it is no generic name of its interface, with what it stands for
abbrev pub further_of : FaceId → List Bound → Mapped → List Further
further_of face types m = further_by m.generic (record { name = m.name; bound = meant face types m.source })

-- a base of an interface under the base's own map, whose types are first replaced by the outer map
abbrev pub below_by : List Face → FaceId → List Bound → Base → Pair
below_by faces face types b = record {
  face = b.face;
  types = bound_types face types b.maps (generics faces b.face.0);
  further = flat_map (further_of face types) b.maps;
}

-- the bases of an interface under a map, in order
abbrev pub below : List Face → Pair → List Pair
below faces p = map (below_by faces p.face p.types) (bases faces p.face.0)

-- ---- all that is reached

-- an interface under a map with all its bases, each of them with its own bases before it, over fewer than n steps
unfoldable pub gathered : ℕ → List Face → Pair → List Pair
gathered zero faces p = []
gathered (suc n) faces p = flat_map (gathered n faces) (below faces p) ++ p ∷ []

-- the same with each interface before its bases
unfoldable pub reached : ℕ → List Face → Pair → List Pair
reached zero faces p = []
reached (suc n) faces p = p ∷ flat_map (reached n faces) (below faces p)

-- ---- the ways up

-- all ways from an interface to its bases, their bases and so on end within so many interfaces, itself among them
unfoldable pub ends_within : ℕ → List Face → ℕ → Bool
ends_within zero faces f = false
ends_within (suc n) faces f = list_all (λ (b : Base). ends_within n faces b.face.0) (bases faces f)

-- no way is longer where no interface is its own base
abbrev pub most : List Face → ℕ
most faces = suc (suc (length faces))

-- ---- two of one interface under one map

-- two names both stand for nothing, or for one name that no map gives a type, or for one type
abbrev pub same_bound : Bound → Bound → Bool
same_bound bound.Unmapped bound.Unmapped = true
same_bound (bound.Unknown f k) (bound.Unknown g j) = (f.0 == g.0) && (k == j)
same_bound (bound.Sort a) (bound.Sort b) = a.0 == b.0
same_bound _ _ = false

-- two lists of what generic names stand for are equal
abbrev pub same_types : List Bound → List Bound → Bool
same_types [] [] = true
same_types (a ∷ xs) (b ∷ ys) = same_bound a b && same_types xs ys
same_types _ _ = false

-- two further names of maps are equal and stand for the same
abbrev pub same_further : Further → Further → Bool
same_further a b = same a.name b.name && same_bound a.bound b.bound

-- each of the second names stands among the first
abbrev pub all_within : List Further → List Further → Bool
all_within more less = list_all (λ f. list_any (same_further f) more) less

-- maps are compared as finite maps: the order of their names is none of their own
abbrev pub same_pair : Pair → Pair → Bool
same_pair p q = (p.face.0 == q.face.0) && (same_types p.types q.types && (all_within p.further q.further && all_within q.further p.further))

-- ---- each counts once

-- an interface under a map is among those that were found
abbrev pub is_among : List Pair → Pair → Bool
is_among found p = list_any (same_pair p) found

-- puts one last, unless it is there
abbrev pub put : List Pair → Pair → List Pair
put found p = if is_among found p then found else found ++ p ∷ []

-- the same of some, one after another
abbrev pub put_all : List Pair → List Pair → List Pair
put_all found [] = found
put_all found (p ∷ ps) = put_all (put found p) ps

-- Some interfaces under maps of which each has all its bases among them.
abbrev pub IsClosed : List Face → List Pair → Type 0
IsClosed faces found = (p : Pair) → is_among found p ≡ true → list_all (is_among found) (gathered (most faces) faces p) ≡ true

-- ---- what the code notes of a map

-- what generic names stand for, with this at one position; the same as before where no position is given
abbrev pub set_at : Option ℕ → Bound → List Bound → List Bound
set_at None b bound = bound
set_at (Some k) b bound = set bound k b

-- what generic names stand for, where one name of a map is said anew
abbrev pub noted : FaceId → List Bound → Mapped → List Bound → List Bound
noted face types m bound = set_at m.generic (meant face types m.source) bound
