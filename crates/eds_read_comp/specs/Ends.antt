-- The ends of components (CCSDS 876.0-B, provided and required interfaces).
use Rattle.std.specs.Prelude.{ℕ, List, [], map, filter, codes, ◌||◌, Bool, unwrap_or}
use Rattle.std.specs.List.{flat_map}
use Rattle.eds_base.specs.declared.ids.TypeId.{TypeId}
use Rattle.eds_tree.specs.declared.tree.Node.{Node}
use Rattle.eds_tree.specs.Trees.{children_at, attribute_at, is_named}
use Rattle.eds_names.specs.LookUp.{Names}
use Rattle.eds_generic.specs.declared.used.FaceUse.{FaceUse}
use Rattle.eds_generic.specs.Reading.{held, held_in, own_name, here, type_found, type_or_first, base_face}
use Rattle.eds_read_comp.specs.declared.end.EndElement.{EndElement}

-- ---- its elements

-- a set of ends
abbrev pub is_end_set : List Node → ℕ → Bool
is_end_set t n = is_named t (codes "ProvidedInterfaceSet") n || is_named t (codes "RequiredInterfaceSet") n

-- the ends that a set holds
abbrev pub ends_in : List Node → (set : ℕ) → List EndElement
ends_in t set = map (λ n. record { node = n; required = is_named t (codes "RequiredInterfaceSet") set }) (held t (codes "Interface") set)

-- the ends of a component, in document order over both sets
abbrev pub end_elements : List Node → ℕ → List EndElement
end_elements t n = flat_map (ends_in t) (filter (is_end_set t) (children_at t n))

-- ---- what an end says

module _ (t : List Node) (names : Names) (file : ℕ) where
  -- what a generic name stands for
  abbrev pub mapped_at : ℕ → List ℕ × TypeId
  mapped_at n = (own_name t n, type_or_first (type_found names (here t names file n) (unwrap_or (attribute_at t n (codes "type")) [])))

  -- an end uses the interface that it names, under the map that it gives
  abbrev pub use_at : ℕ → FaceUse
  use_at n = record {
    place = here t names file n;
    face = base_face t names file n;
    map = map mapped_at (held_in t (codes "GenericTypeMapSet") (codes "GenericTypeMap") n);
  }

  -- those of a component
  abbrev pub uses_of : ℕ → List FaceUse
  uses_of n = map (λ e. use_at e.node) (end_elements t n)
