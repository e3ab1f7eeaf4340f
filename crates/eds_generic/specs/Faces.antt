-- What interfaces say themselves, by their numbers.
use Rattle.std.specs.Prelude.{ℕ, List, [], ◌∷◌, map, Bool, false, ◌==◌, Option, Some, None, slice_get, if◌then◌else◌}
use Rattle.eds_generic.specs.declared.face.Face.{Face}
use Rattle.eds_generic.specs.declared.face.Base.{Base}
use Rattle.eds_generic.specs.declared.face.Generic.{Generic}
use Rattle.eds_generic.specs.declared.face.Mapped.{Mapped}
use Rattle.eds_generic.specs.declared.face.Source.{Source}
use Rattle.eds_generic.specs.declared.face.OwnMember.{OwnMember}

-- the generic names that an interface declares, none where there is no interface
abbrev pub generics_by : Option Face → List Generic
generics_by None = []
generics_by (Some f) = f.generics

-- the generic names of an interface, in document order
abbrev pub generics : List Face → ℕ → List Generic
generics faces f = generics_by (slice_get faces f)

-- the bases that an interface names, none where there is no interface
abbrev pub bases_by : Option Face → List Base
bases_by None = []
bases_by (Some f) = f.bases

-- its bases, in document order
abbrev pub bases : List Face → ℕ → List Base
bases faces f = bases_by (slice_get faces f)

-- the members that an interface declares itself, none where there is no interface
abbrev pub own_by : Option Face → List OwnMember
own_by None = []
own_by (Some f) = f.members

-- its own members
abbrev pub own : List Face → ℕ → List OwnMember
own faces f = own_by (slice_get faces f)

-- the names of some generic types
abbrev pub names_of : List Generic → List (List ℕ)
names_of gs = map (λ g. g.name) gs

-- a position that is known, and is the one asked for
abbrev pub is_at : Option ℕ → ℕ → Bool
is_at None k = false
is_at (Some g) k = g == k

-- what a map says of the generic name at a position, of several of one name the first
abbrev pub mapped : List Mapped → ℕ → Option Source
mapped [] k = None
mapped (m ∷ ms) k = if is_at m.generic k then Some m.source else mapped ms k
