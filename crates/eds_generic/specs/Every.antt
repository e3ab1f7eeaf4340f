-- All interfaces of a sheet.
use Rattle.std.specs.Prelude.{ℕ, ◌+◌, List, [], ◌∷◌, ◌++◌, Option}
use Rattle.eds_base.specs.declared.ids.Place.{Place}
use Rattle.eds_base.specs.declared.ids.TypeId.{TypeId}
use Rattle.eds_base.specs.declared.refusal.Refusal.{Refusal}
use Rattle.eds_generic.specs.declared.face.Face.{Face}
use Rattle.eds_generic.specs.declared.face.Generic.{Generic}
use Rattle.eds_generic.specs.Cycles.{is_own_base, cycle_if}
use Rattle.eds_generic.specs.Members.{under}
use Rattle.eds_generic.specs.Resolved.{pair_breaks}

-- a rule at each of some interfaces, of which the first has the number g
abbrev pub over_from : (ℕ → Face → List Refusal) → ℕ → List Face → List Refusal
over_from breaks g [] = []
over_from breaks g (x ∷ xs) = breaks g x ++ over_from breaks (g + 1) xs

-- no interface is its own base
abbrev pub own_cycle_at : List Face → ℕ → Face → List Refusal
own_cycle_at faces g x = cycle_if (is_own_base faces g) x.place

-- each interface that is its own base, in document order
abbrev pub own_cycles : List Face → List Refusal
own_cycles faces = over_from (own_cycle_at faces) 0 faces

-- an interface without own generic names keeps the rules under the empty map
abbrev pub pair_at : List Face → ℕ → List (Option TypeId) → Place → List Generic → List Refusal
pair_at faces g types at [] = pair_breaks faces types at (under faces (record { 0 = g }) [])
pair_at faces g types at (x ∷ xs) = []

-- what an interface without own generic names breaks under the empty map, at its place
abbrev pub alone_at : List Face → List (Option TypeId) → ℕ → Face → List Refusal
alone_at faces types g x = pair_at faces g types x.place x.generics

-- the same of all interfaces
abbrev pub alone_breaks : List Face → List (Option TypeId) → List Refusal
alone_breaks faces types = over_from (alone_at faces types) 0 faces
