-- The element trees of some files.
use Rattle.std.specs.Prelude.{ℕ, ◌+◌, List, [], ◌∷◌, ◌++◌, Result, Ok, Err}
use Rattle.eds_base.specs.declared.refusal.Refusal.{Refusal}
use Rattle.eds_base.specs.Answering.{◌>>=◌}
use Rattle.eds_tree.specs.declared.tree.Node.{Node}
use Rattle.eds_tree.specs.Reading.{tree_in}

-- the trees of some files, of which the first has this number, or the rule that the first of them breaks which is no
-- element tree
abbrev pub trees_from : ℕ → List (List ℕ) → Result (List (List Node)) Refusal
trees_from file [] = Ok []
trees_from file (octets ∷ rest) = tree_in file octets >>= λ tree. trees_from (file + 1) rest >>= λ trees. Ok (tree ∷ trees)

-- the trees of the files of a sheet
abbrev pub trees_in : List (List ℕ) → Result (List (List Node)) Refusal
trees_in files = trees_from 0 files

-- the rule that a file breaks, if it breaks one
abbrev pub break_in : Result (List Node) Refusal → List Refusal
break_in (Ok tree) = []
break_in (Err r) = r ∷ []

-- all breaks of the rules that a file is JSON and an element tree, in some files, of which the first has this number
abbrev pub breaks_from : ℕ → List (List ℕ) → List Refusal
breaks_from file [] = []
breaks_from file (octets ∷ rest) = break_in (tree_in file octets) ++ breaks_from (file + 1) rest

-- the same in the files of a sheet
abbrev pub reading_breaks : List (List ℕ) → List Refusal
reading_breaks files = breaks_from 0 files
