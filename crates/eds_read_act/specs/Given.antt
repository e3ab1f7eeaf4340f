-- What the code keeps of the children that give arguments their values.
use Rattle.std.specs.Prelude.{◌≡◌, ℕ, List, map, codes}
use Rattle.eds_tree.specs.declared.tree.Node.{Node}
use Rattle.eds_read_act.specs.declared.given.Given.{Given}
use Rattle.eds_read_act.specs.Inside.{text_at, givers}

-- the argument to which an element gives its value
abbrev pub given_name : List Node → ℕ → List ℕ
given_name t n = text_at t n (codes "name")

-- these are the children that give arguments their values, and the names of these
pub record TellsGiven (t : List Node) (g : Given) : Type 0 where
  pub nodes : g.nodes.items ≡ givers t g.holder
  pub names : g.names ≡ map (given_name t) g.nodes.items
