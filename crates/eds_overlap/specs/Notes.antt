-- The refusal of a sheet with two containers that overlap.
use Rattle.std.specs.Prelude.{ℕ, List, [], map, Option, Some, None, slice_get}
use Rattle.eds_base.specs.declared.ids.Place.{Place}
use Rattle.eds_base.specs.declared.refusal.CommonNumber.{CommonNumber}
use Rattle.eds_base.specs.declared.refusal.OverlapNote.{OverlapNote}
use Rattle.eds_base.specs.declared.refusal.Refusal.{Refusal}
use Rattle.eds_base.specs.declared.refusal.Kept.TheVariants as kept
use Rattle.eds_base.specs.declared.rule.Rule.TheVariants as rule
use Rattle.eds_types.specs.declared.row.TypeRow.{TypeRow}
use Rattle.eds_types.specs.Rows.{Table}
use Rattle.eds_overlap.specs.declared.common.Common.{Common}
use Rattle.eds_overlap.specs.declared.find.Overlap.{Overlap}
use Rattle.eds_overlap.specs.PathTexts.{path_text}

-- the name of a row, empty where there is none
abbrev pub name_in : Option TypeRow → List ℕ
name_in None = []
name_in (Some row) = row.name

-- the qualified name of a type
abbrev pub type_name : Table → ℕ → List ℕ
type_name t id = name_in (slice_get t id)

-- a common number with the text of its path
abbrev pub common_note : Table → Common → CommonNumber
common_note t c = record { path = path_text t c.path; number = c.number }

-- both containers, their nearest common base and their common numbers, by names
abbrev pub note_of : Table → Overlap → OverlapNote
note_of t o = record { first = type_name t o.first.0; second = type_name t o.second.0; ancestor = type_name t o.ancestor.0; common = map (common_note t) o.common }

-- the refusal of an overlap, at a place
abbrev pub refusal_of : Table → Overlap → Place → Refusal
refusal_of t o place = record { rule = rule.Overlap; place = place; kept = kept.Overlap (note_of t o) }
