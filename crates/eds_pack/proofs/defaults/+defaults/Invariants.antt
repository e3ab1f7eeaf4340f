use Rattle.std.proofs.Common.{◌+◌, ◌*◌, Some, map, take}
use Rattle.eds_bits.specs.Style.{canonical}
use Rattle.eds_types.specs.Fields.{constraints_along}
use Rattle.eds_types.specs.Plain.{plain}
use Rattle.eds_types.specs.Rows.{sequence}
use Rattle.eds_types.specs.Spelling.{SpellsWithin}
use Rattle.eds_pack.specs.Building.{Built, PartsHold}
use Rattle.eds_pack.specs.Defaults.{DefaultsWithin, PartsDefault}
use Rattle.eds_pack.proofs.defaults.+defaults.Given as goal

abbrev pub decreases-default_within : goal.decreases-default_within
decreases-default_within l = 8 * l.depth

abbrev pub decreases-default_items : goal.decreases-default_items
decreases-default_items l = 8 * l.depth + 1

abbrev pub decreases-asked_default : goal.decreases-asked_default
decreases-asked_default l = 8 * l.depth + 1

abbrev pub decreases-default_entry : goal.decreases-default_entry
decreases-default_entry l = 8 * l.depth + 2

abbrev pub decreases-add_default : goal.decreases-add_default
decreases-add_default l = 8 * l.depth + 3

abbrev pub decreases-default_values : goal.decreases-default_values
decreases-default_values l = 8 * l.depth + 4

abbrev pub decreases-default_fields : goal.decreases-default_fields
decreases-default_fields l = 8 * l.depth + 5

abbrev pub decreases-default_of_kind : goal.decreases-default_of_kind
decreases-default_of_kind l = 8 * l.depth + 6

-- the values of the parts before this place are built
abbrev pub invariant-default_values-loop-place : goal.invariant-default_values-loop-place
invariant-default_values-loop-place l =
    Built (PartsDefault l.table (DefaultsWithin l.depth l.table) (constraints_along l.table l.fn.id.0) (take l.place-index (sequence l.table l.fn.id.0))) (PartsHold (SpellsWithin l.depth canonical l.table) (take l.place-index (sequence l.table l.fn.id.0))) l.fn.left l.left (Some (map plain l.values.items))
