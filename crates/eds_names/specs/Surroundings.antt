-- Where the elements of a file stand, said by their ancestors.
use Rattle.std.specs.Prelude.{◌≡◌, ℕ, List, [], ◌∷◌, codes, if◌then◌else◌}
use Rattle.eds_base.specs.Reading.{same}
use Rattle.eds_tree.specs.declared.tree.Node.{Node}
use Rattle.eds_tree.specs.Trees.{name_at}
use Rattle.eds_tree.specs.Walks.{Descends}
use Rattle.eds_names.specs.declared.standing.Standing.{Standing}

-- the first of some elements that has a name, and 0 where none has it
abbrev pub nearest : List Node → List ℕ → List ℕ → ℕ
nearest t name [] = 0
nearest t name (n ∷ ns) = if same (name_at t n) name then n else nearest t name ns

-- the package and the component around an element are the nearest of its ancestors
pub record IsSurrounded (t : List Node) (s : Standing) : Type 0 where
  pub ancestors : List ℕ
  pub descends : Descends t s.node ancestors
  pub in_package : s.in_package ≡ nearest t (codes "Package") ancestors
  pub in_component : s.in_component ≡ nearest t (codes "Component") ancestors
