-- All elements of a tree that are not passed over, said by their ancestors.
use Rattle.std.specs.Prelude.{◌≡◌, ◌≤◌, ◌+◌, ℕ, List, [], ◌∷◌}
use Rattle.std.specs.List.{IsAmong}
use Rattle.eds_tree.specs.declared.tree.Node.{Node}
use Rattle.eds_tree.specs.Trees.{children_of}

-- An element has these ancestors, from its parent up to the root: it is a child of the first, each is a child of the
-- next, and no child on the way is passed over.
abbrev pub Descends : List Node → ℕ → List ℕ → Type 0
Descends t n [] = n ≡ 0
Descends t n (parent ∷ above) = IsAmong (children_of t parent) n × Descends t parent above

-- the numbers rise from a number on
abbrev pub RiseFrom : ℕ → List ℕ → Type 0
RiseFrom low [] = Unit {0}
RiseFrom low (n ∷ ns) = (low ≤ n) × RiseFrom (n + 1) ns
