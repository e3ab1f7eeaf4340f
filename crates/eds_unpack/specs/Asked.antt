-- Which numbers the constraints and lists of a table ask for.
use Rattle.std.specs.Prelude.{ℕ, List, [], ◌∷◌, ◌++◌, length, flat_map}
use Rattle.eds_types.specs.declared.row.Constraint.{Constraint}
use Rattle.eds_types.specs.declared.row.Part.{Part}
use Rattle.eds_types.specs.declared.row.Part.TheVariants as part
use Rattle.eds_types.specs.Rows.{Table, numbers, constraints_of, entries_of, trailers_of}
use Rattle.eds_overlap.specs.Common.{each_once}
use Rattle.eds_overlap.specs.Pairs.{Steps}

-- a path and what is left of it behind each of its steps but the last
abbrev pub tails : Steps → List Steps
tails [] = []
tails (step ∷ path) = (step ∷ path) ∷ tails path

-- the path to the entry that tells how many items a list has; no other part asks for a number
abbrev pub tellers_of : Part → List Steps
tellers_of (part.Plain name id) = []
tellers_of (part.Fixed name id v) = []
tellers_of (part.Pad n) = []
tellers_of (part.List name id y i) = ((y, i) ∷ []) ∷ []
tellers_of (part.Length name id c0 c1) = []
tellers_of (part.Check name id kind) = []

-- what a constraint asks for: the number at the end of its path, by the whole path and from each container on the way
abbrev pub asked_by : Constraint → List Steps
asked_by c = tails c.path

-- what a container's own constraints and lists ask for
abbrev pub asked_in : Table → ℕ → List Steps
asked_in t y = flat_map asked_by (constraints_of t y) ++ flat_map tellers_of (entries_of t y ++ trailers_of t y)

-- what all constraints and lists of a table ask for, in the order of the types
abbrev pub asked : Table → List Steps
asked t = flat_map (asked_in t) (numbers t)

-- how many numbers they ask for
abbrev pub slots_of : Table → ℕ
slots_of t = length (each_once (asked t))
