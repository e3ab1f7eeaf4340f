-- What the implementation of a component holds, and what its activities name.
use Rattle.std.specs.Prelude.{ℕ, List, map, codes}
use Rattle.eds_tree.specs.declared.tree.Node.{Node}
use Rattle.eds_names.specs.LookUp.{Names}
use Rattle.eds_generic.specs.Reading.{held, own_name}
use Rattle.eds_read_act.specs.declared.component.Head.{Head}
use Rattle.eds_read_comp.specs.Ends.{mapped_at}
use Rattle.eds_read_comp.specs.Variables.{implemented}

-- the activities of a component, in document order
abbrev pub activity_nodes : List Node → ℕ → List ℕ
activity_nodes t n = implemented t (codes "ActivitySet") (codes "Activity") n

-- its state machines, in document order
abbrev pub machine_nodes : List Node → ℕ → List ℕ
machine_nodes t n = implemented t (codes "StateMachineSet") (codes "StateMachine") n

module _ (t : List Node) (names : Names) (file : ℕ) where
  -- the name and the arguments of an activity
  abbrev pub head_at : ℕ → Head
  head_at n = record { name = own_name t n; arguments = map (mapped_at t names file) (held t (codes "Argument") n) }

  -- those of the activities of a component
  abbrev pub heads_of : ℕ → List Head
  heads_of n = map head_at (activity_nodes t n)
