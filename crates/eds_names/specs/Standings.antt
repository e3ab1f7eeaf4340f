-- Elements with the package and the component around them, and the names that these have.
use Rattle.std.specs.Prelude.{ℕ, zero, suc, List, [], ◌∷◌, ◌++◌, length, map, replicate, slice_set, codes, if◌then◌else◌, nat_eq, Option, Some, None, unwrap_or}
use Rattle.std.specs.List.{flat_map}
use Rattle.eds_base.specs.Reading.{same}
use Rattle.eds_tree.specs.declared.tree.Node.{Node}
use Rattle.eds_tree.specs.Trees.{name_at, attribute_at, children_of}
use Rattle.eds_names.specs.declared.standing.Standing.{Standing}

-- the name that an element gives itself, empty where it gives none
abbrev pub own_name : List Node → ℕ → List ℕ
own_name t n = unwrap_or (attribute_at t n (codes "name")) []

-- ---- where an element stands

-- the element, where it has this name, and else what stands around it
abbrev pub innermost : List Node → List ℕ → ℕ → ℕ → ℕ
innermost t name n around = if same (name_at t n) name then n else around

-- where a child of an element stands
abbrev pub below : List Node → Standing → ℕ → Standing
below t s child = record {
  parent = s.node;
  node = child;
  in_package = innermost t (codes "Package") s.node s.in_package;
  in_component = innermost t (codes "Component") s.node s.in_component;
}

-- an element and then all below it that aren't passed over, in document order, down to a depth
abbrev pub standings_from : List Node → (depth : ℕ) → Standing → List Standing
standings_from t zero s = []
standings_from t (suc depth) s = s ∷ flat_map (λ child. standings_from t depth (below t s child)) (children_of t s.node)

-- all elements of a tree that aren't passed over, in document order; around the root there is nothing, which the number 0 says
unfoldable pub standings_of : List Node → List Standing
standings_of t = standings_from t (length t) (record { parent = 0; node = 0; in_package = 0; in_component = 0 })

-- ---- the names around an element

-- one name after another
abbrev pub joined : List ℕ → List ℕ → List ℕ
joined first second = first ++ 47 ∷ second

-- the name of a package; the root has none
abbrev pub package_name : List Node → ℕ → Option (List ℕ)
package_name t n = if nat_eq n 0 then None else Some (own_name t n)

-- the qualified name of a component, or of its package where there is no component
abbrev pub name_around : List Node → ℕ → ℕ → Option (List ℕ)
name_around t in_package in_component = if nat_eq in_component 0 then package_name t in_package else Some (joined (own_name t in_package) (own_name t in_component))

-- the qualified name of the component around an element, or of its package where it stands in no component
abbrev pub around : List Node → Standing → Option (List ℕ)
around t s = name_around t s.in_package s.in_component

-- a name below the one around it
abbrev pub qualified : Option (List ℕ) → List ℕ → List ℕ
qualified None own = own
qualified (Some around) own = joined around own

-- a list with some of its items written anew
abbrev pub written : {A : Type 0} → List A → List (ℕ × A) → List A
written xs [] = xs
written xs (w ∷ ws) = written (slice_set xs w.0 w.1) ws

-- an element's number with the name around it
abbrev pub around_entry : List Node → Standing → ℕ × Option (List ℕ)
around_entry t s = (s.node, around t s)

-- for each element the name around it: none for the root, outside packages, and for what is passed over
abbrev pub arounds_of : List Node → List (Option (List ℕ))
arounds_of t = written (replicate (length t) None) (map (around_entry t) (standings_of t))
