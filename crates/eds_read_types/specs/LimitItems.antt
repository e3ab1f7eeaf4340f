-- An array has at most 65,536 items. The rule is judged where the sizes of all its dimensions are known: where no index type, and
-- no base of one, is its own base or has no form.
use Rattle.std.specs.Prelude.{List, [], ◌∷◌, codes, nat_lt, Bool, false, if◌then◌else◌, Option, Some, None, slice_get}
use Rattle.eds_base.specs.declared.refusal.Refusal.{Refusal}
use Rattle.eds_base.specs.declared.rule.Rule.TheVariants.{Limit}
use Rattle.eds_tree.specs.declared.tree.Node.{Node}
use Rattle.eds_names.specs.LookUp.{Names}
use Rattle.eds_types.specs.declared.row.TypeRow.{TypeRow}
use Rattle.eds_types.specs.declared.row.Kind.{Kind}
use Rattle.eds_types.specs.declared.row.Kind.TheVariants as kind
use Rattle.eds_read_types.specs.Breaks.{broken_with}
use Rattle.eds_read_types.specs.Parts.{RowJudgement, at_rows}

-- the kind is that of an array of more than 65,536 items
abbrev pub has_too_many : Kind → Bool
has_too_many (kind.Int form spans) = false
has_too_many (kind.Enum form listing) = false
has_too_many (kind.Bool form) = false
has_too_many (kind.Str form) = false
has_too_many (kind.Bin n free) = false
has_too_many (kind.Arr item n) = nat_lt 65536 n
has_too_many (kind.Con c) = false

-- the type is an array of more than 65,536 items
abbrev pub is_too_large : Option TypeRow → Bool
is_too_large None = false
is_too_large (Some row) = has_too_many row.kind

-- at one type, by its number
abbrev pub items_limit_at : RowJudgement
items_limit_at trees t id at = if is_too_large (slice_get t id) then broken_with Limit at (codes "items") ∷ [] else []

-- at all types
abbrev pub breaks_items : List (List Node) → Names → List Refusal
breaks_items trees names = at_rows items_limit_at trees names
