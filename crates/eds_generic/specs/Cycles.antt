-- Interfaces that are their own bases.
use Rattle.std.specs.Prelude.{ℕ, ◌+◌, List, [], ◌∷◌, ◌++◌, map, Bool, false, if◌then◌else◌, Option, Some, None, slice_get}
use Rattle.eds_base.specs.declared.ids.Place.{Place}
use Rattle.eds_base.specs.declared.refusal.Refusal.{Refusal}
use Rattle.eds_base.specs.declared.refusal.Kept.TheVariants.{Nothing}
use Rattle.eds_base.specs.declared.rule.Rule.TheVariants.{InterfaceCycle}
use Rattle.eds_graph.specs.declared.course.Course.{Course}
use Rattle.eds_graph.specs.Ways.{is_on_circle, is_circle_met, is_circular}
use Rattle.eds_generic.specs.declared.face.Base.{Base}
use Rattle.eds_generic.specs.declared.face.Face.{Face}

-- the numbers of the bases of an interface
abbrev pub base_numbers : List Base → List ℕ
base_numbers bs = map (λ b. b.face.0) bs

-- each interface leads to its bases
abbrev pub graph_of : List Face → List (List ℕ)
graph_of faces = map (λ x. base_numbers x.bases) faces

-- an interface is its own base over one step or more
abbrev pub is_own_base : List Face → ℕ → Bool
is_own_base faces f = is_on_circle (graph_of faces) f

-- the refusal of an interface that is its own base
abbrev pub cycle_of : Place → Refusal
cycle_of at = record { rule = InterfaceCycle; place = at; kept = Nothing }

-- the break at a place, where there is one
abbrev pub cycle_if : Bool → Place → List Refusal
cycle_if b at = if b then cycle_of at ∷ [] else []

-- g is f or one of its bases, their bases and so on, and is its own base
abbrev pub cycle_at : List Face → ℕ → ℕ → Place → List Refusal
cycle_at faces f g at = cycle_if (is_circle_met (graph_of faces) f g) at

-- the same of some interfaces, of which the first has the number g
abbrev pub cycles_from : List Face → ℕ → ℕ → List Face → List Refusal
cycles_from faces f g [] = []
cycles_from faces f g (x ∷ xs) = cycle_at faces f g x.place ++ cycles_from faces f (g + 1) xs

-- each interface that is its own base, among f and those that f has as bases
abbrev pub breaks_cycle : List Face → ℕ → List Refusal
breaks_cycle faces f = cycles_from faces f 0 faces

-- ---- what the search gives

-- a course is known, and its number leads to itself
abbrev pub circular_by : Option Course → Bool
circular_by None = false
circular_by (Some c) = is_circular c

-- what is known of the course of a number
abbrev pub circular_at : List Course → ℕ → Bool
circular_at courses f = circular_by (slice_get courses f)

-- a mark, false where there is none
abbrev pub marked_by : Option Bool → Bool
marked_by None = false
marked_by (Some b) = b

-- whether a number is marked
abbrev pub marked_at : List Bool → ℕ → Bool
marked_at marks f = marked_by (slice_get marks f)
