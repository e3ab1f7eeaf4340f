-- The type of an error control is an integer type that is unsigned, has the bits of the check, and no range. Nothing is kept.
use Rattle.std.specs.Prelude.{ℕ, ◌==◌, List, codes, Bool, true, false, not, ◌&&◌, is_some, Option, Some, None, slice_get}
use Rattle.eds_base.specs.declared.ids.Place.{Place}
use Rattle.eds_base.specs.declared.refusal.Refusal.{Refusal}
use Rattle.eds_base.specs.declared.rule.Rule.TheVariants.{ErrorControl}
use Rattle.eds_bits.specs.declared.forms.Encoding.{Encoding}
use Rattle.eds_bits.specs.declared.forms.Encoding.TheVariants.{Unsigned, TwosComplement, SignMagnitude, OnesComplement, PackedBcd, Bcd}
use Rattle.eds_bits.specs.declared.forms.IntForm.{IntForm}
use Rattle.eds_bits.specs.declared.forms.CheckKind.{CheckKind}
use Rattle.eds_bits.specs.Scalars.{check_bits}
use Rattle.eds_tree.specs.declared.tree.Node.{Node}
use Rattle.eds_names.specs.LookUp.{Names}
use Rattle.eds_type_rows.specs.Held.{child_named}
use Rattle.eds_type_rows.specs.Places.{is_element, type_places}
use Rattle.eds_type_rows.specs.Forms.{int_form_of}
use Rattle.eds_type_rows.specs.ScalarKinds.{is_integer}
use Rattle.eds_read_types.specs.Breaks.{broken_where}
use Rattle.eds_type_rows.specs.Checks.{check_at}
use Rattle.eds_type_rows.specs.PartRows.{entry_id}
use Rattle.eds_read_types.specs.PartElements.{ElementJudgement, at_part_elements}

-- ---- the type of a check

-- an encoding is that of unsigned numbers
abbrev pub is_unsigned : Encoding → Bool
is_unsigned Unsigned = true
is_unsigned TwosComplement = false
is_unsigned SignMagnitude = false
is_unsigned OnesComplement = false
is_unsigned PackedBcd = false
is_unsigned Bcd = false

-- a form is unsigned and has the bits of a check
abbrev pub fits_check : CheckKind → Option IntForm → Bool
fits_check check None = false
fits_check check (Some form) = is_unsigned form.encoding && (form.bits == check_bits check)

-- an element is an integer type of such a form, and has no range
abbrev pub holds_check : CheckKind → List Node → ℕ → Bool
holds_check check t n = is_integer t n && (not (is_some (child_named t n (codes "Range"))) && fits_check check (int_form_of t n))

-- an element of a file, if there is such a file, is a type that holds a check
abbrev pub holds_check_in : CheckKind → Option (List Node) → ℕ → Bool
holds_check_in check None n = false
holds_check_in check (Some t) n = holds_check check t n

-- the element at a place, if there is such a place, is a type that holds a check
abbrev pub holds_check_at : List (List Node) → CheckKind → Option Place → Bool
holds_check_at trees check None = false
holds_check_at trees check (Some at) = holds_check_in check (slice_get trees at.file) at.node

-- ---- the rule

-- the type of the error control at a place holds its check
abbrev pub is_held : List (List Node) → Names → Place → Bool
is_held trees names at = holds_check_at trees (check_at trees at) (slice_get (type_places names) (entry_id trees names at).0)

-- at one part
abbrev pub error_control_at : ElementJudgement
error_control_at trees names at = broken_where (is_element trees (codes "ErrorControlEntry") at && not (is_held trees names at)) ErrorControl at

-- at the parts of all containers
abbrev pub breaks_check : List (List Node) → Names → List Refusal
breaks_check trees names = at_part_elements error_control_at trees names
