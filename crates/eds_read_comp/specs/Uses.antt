-- The interfaces that the ends of all components use, and what they break.
use Rattle.std.specs.Prelude.{List, [], map, Option, Some, None, slice_get}
use Rattle.std.specs.List.{flat_map}
use Rattle.eds_base.specs.declared.ids.Place.{Place}
use Rattle.eds_base.specs.declared.refusal.Refusal.{Refusal}
use Rattle.eds_tree.specs.declared.tree.Node.{Node}
use Rattle.eds_names.specs.Declarations.{comps_in}
use Rattle.eds_names.specs.LookUp.{Names}
use Rattle.eds_types.specs.Rows.{Table}
use Rattle.eds_generic.specs.declared.used.FaceUse.{FaceUse}
use Rattle.eds_generic.specs.Reading.{faces_of}
use Rattle.eds_generic.specs.Sheets.{bases_of}
use Rattle.eds_generic.specs.Uses.{breaks_with_uses}
use Rattle.eds_read_comp.specs.Ends.{uses_of}

-- the elements of the components, in the order of files and elements
abbrev pub component_places : Names → List Place
component_places names = map (λ d. d.place) (comps_in names.declared)

-- what the ends of one use; each component stands in one of the files
abbrev pub uses_by : Names → Place → Option (List Node) → List FaceUse
uses_by names at None = []
uses_by names at (Some t) = uses_of t names at.file at.node

-- what the ends of the component at a place use
abbrev pub uses_at : List (List Node) → Names → Place → List FaceUse
uses_at trees names at = uses_by names at (slice_get trees at.file)

-- what the ends of all of them use
abbrev pub all_uses : List (List Node) → Names → List FaceUse
all_uses trees names = flat_map (uses_at trees names) (component_places names)

-- All that the interfaces of a sheet break: one is its own base; or, where none is, one breaks a rule under the map of an
-- end, or without own generic names under the empty map.
abbrev pub end_breaks : List (List Node) → Names → Table → List Refusal
end_breaks trees names table = breaks_with_uses (faces_of trees names) (bases_of table) (all_uses trees names)
