-- The ends of components as plans have them.
use Rattle.std.specs.Prelude.{◌≡◌, ℕ, List, [], ◌∷◌, map, codes, Bool, true, false, ◌&&◌, ◌==◌, if◌then◌else◌, Option, Some, None, slice_get, unwrap_or}
use Rattle.eds_base.specs.Reading.{same}
use Rattle.eds_base.specs.declared.ids.FaceId.{FaceId}
use Rattle.eds_base.specs.declared.ids.TypeId.{TypeId}
use Rattle.eds_tree.specs.declared.tree.Node.{Node}
use Rattle.eds_tree.specs.Trees.{attribute_at}
use Rattle.eds_names.specs.LookUp.{Names}
use Rattle.eds_plan.specs.declared.component.EndPlan.{EndPlan}
use Rattle.eds_plan.specs.declared.component.Level.{Level}
use Rattle.eds_plan.specs.declared.component.Level.TheVariants.{Application, Functional, Access, Subnetwork}
use Rattle.eds_plan.specs.declared.instance.Instance.{Instance}
use Rattle.eds_generic.specs.declared.face.Face.{Face}
use Rattle.eds_generic.specs.declared.used.FaceUse.{FaceUse}
use Rattle.eds_generic.specs.Reading.{own_name}
use Rattle.eds_generic.specs.Resolved.{instance_of}
use Rattle.eds_generic.specs.Uses.{use_instance}
use Rattle.eds_read_comp.specs.declared.end.EndElement.{EndElement}
use Rattle.eds_read_comp.specs.Ends.{end_elements, use_at}

-- ---- levels

-- the level that a word names, that of applications where it names none
abbrev pub level_named : List ℕ → Level
level_named text = if same text (codes "functional") then Functional else if same text (codes "access") then Access else if same text (codes "subnetwork") then Subnetwork else Application

-- the level that the element of an interface says
abbrev pub level_in : Option (List Node) → ℕ → Level
level_in None n = Application
level_in (Some t) n = level_named (unwrap_or (attribute_at t n (codes "level")) [])

-- the level of an interface, that of applications where there is none
abbrev pub level_by : List (List Node) → Option Face → Level
level_by trees None = Application
level_by trees (Some f) = level_in (slice_get trees f.place.file) f.place.node

-- that of the interface of a number
abbrev pub level_of : List (List Node) → List Face → FaceId → Level
level_of trees faces id = level_by trees (slice_get faces id.0)

-- ---- instances

-- an instance is its interface under its map, with all its members
abbrev pub IsWhole : List Face → Instance → Type 0
IsWhole faces i = i ≡ instance_of faces i.face i.map

-- two entries of maps are equal
abbrev pub same_entry : List ℕ × TypeId → List ℕ × TypeId → Bool
same_entry a b = same a.0 b.0 && (a.1).0 == (b.1).0

-- two maps have the same entries in the same order
abbrev pub same_entries : List (List ℕ × TypeId) → List (List ℕ × TypeId) → Bool
same_entries [] [] = true
same_entries (a ∷ xs) (b ∷ ys) = same_entry a b && same_entries xs ys
same_entries _ _ = false

-- an instance is one of the interface that is used, under the same map
abbrev pub is_used : Instance → FaceUse → Bool
is_used i u = i.face.0 == u.face.0 && same_entries i.map u.map

-- ---- ends

module _ (trees : List (List Node)) (names : Names) (faces : List Face) (t : List Node) (file : ℕ) where
  -- an end as a plan has it: its name, whether it is required, and the level and the instance of its interface
  abbrev pub end_plan : EndElement → EndPlan
  end_plan e = record {
    name = own_name t e.node;
    required = e.required;
    level = level_of trees faces (use_at t names file e.node).face;
    instance = use_instance faces (use_at t names file e.node);
  }

  -- those of a component, in document order
  abbrev pub end_plans : ℕ → List EndPlan
  end_plans n = map end_plan (end_elements t n)
