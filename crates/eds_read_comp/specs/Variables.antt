-- The variables of components (CCSDS 876.0-B, variables), but for their first values.
use Rattle.std.specs.Prelude.{ℕ, List, [], map, codes, unwrap_or}
use Rattle.std.specs.List.{flat_map}
use Rattle.eds_tree.specs.declared.tree.Node.{Node}
use Rattle.eds_tree.specs.Trees.{attribute_at}
use Rattle.eds_names.specs.LookUp.{Names}
use Rattle.eds_generic.specs.Reading.{held, held_in, own_name, here, type_found, type_or_first, is_yes}
use Rattle.eds_read_act.specs.declared.variable.VariableHead.{VariableHead}

-- what the sets of a name hold in the implementation of a component
abbrev pub implemented : List Node → (set name : List ℕ) → ℕ → List ℕ
implemented t set name n = flat_map (held_in t set name) (held t (codes "Implementation") n)

-- its variables, in document order
abbrev pub variable_nodes : List Node → ℕ → List ℕ
variable_nodes t n = implemented t (codes "VariableSet") (codes "Variable") n

-- the text of an attribute, empty where there is none
abbrev pub text_at : List Node → List ℕ → ℕ → List ℕ
text_at t name n = unwrap_or (attribute_at t n name) []

module _ (t : List Node) (names : Names) (file : ℕ) where
  -- what the element of a variable says of it
  abbrev pub variable_at : ℕ → VariableHead
  variable_at n = record {
    name = own_name t n;
    id = type_or_first (type_found names (here t names file n) (text_at t (codes "type") n));
    read_only = is_yes (text_at t (codes "readOnly") n);
  }

  -- the variables of a component, in document order
  abbrev pub variables_of : ℕ → List VariableHead
  variables_of n = map variable_at (variable_nodes t n)
