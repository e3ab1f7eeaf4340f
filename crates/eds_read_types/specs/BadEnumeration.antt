-- An enumerated type has labels and values. Nothing is kept of what breaks the rule.
use Rattle.std.specs.Prelude.{ℕ, ℤ, List, Bool, false, not, if◌then◌else◌, Option, Some, None}
use Rattle.eds_base.specs.declared.ids.Place.{Place}
use Rattle.eds_base.specs.declared.refusal.Refusal.{Refusal}
use Rattle.eds_base.specs.declared.rule.Rule.TheVariants.{BadEnumeration}
use Rattle.eds_bits.specs.declared.forms.IntForm.{IntForm}
use Rattle.eds_tree.specs.declared.tree.Node.{Node}
use Rattle.eds_names.specs.LookUp.{Names}
use Rattle.eds_type_rows.specs.Forms.{int_form_of}
use Rattle.eds_type_rows.specs.Listings.{listing_of, is_listing}
use Rattle.eds_type_rows.specs.ScalarKinds.{is_enumerated}
use Rattle.eds_read_types.specs.Breaks.{broken_where, breaks_each}

-- These are none that a type of the form may list. Without a form the lower rule is broken.
abbrev pub misses_listing_by : Option IntForm → List (List ℕ × ℤ) → Bool
misses_listing_by None listing = false
misses_listing_by (Some form) listing = not (is_listing form listing)

-- the element is an enumerated type, and its labels and values are none that it may list
abbrev pub misses_listing : List Node → ℕ → Bool
misses_listing t n = if is_enumerated t n then misses_listing_by (int_form_of t n) (listing_of t n) else false

-- at one type of a file
abbrev pub enumeration_breaks : List Node → Place → List Refusal
enumeration_breaks t at = broken_where (misses_listing t at.node) BadEnumeration at

-- at all types
abbrev pub breaks_enumeration : List (List Node) → Names → List Refusal
breaks_enumeration trees names = breaks_each enumeration_breaks trees names
