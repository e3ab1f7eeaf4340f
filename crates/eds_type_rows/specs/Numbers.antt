-- The forms and domains of integer types and sub-ranges by their numbers among all types.
use Rattle.std.specs.Prelude.{ℕ, zero, suc, List, Option, Some, None, slice_get, true, false, refl, if◌then◌else◌}
use Rattle.std.specs.Option.{unwrap_or}
use Rattle.std.proofs.Common.{leb-true}
use Rattle.eds_base.specs.declared.ids.Place.{Place}
use Rattle.eds_base.specs.declared.ids.TypeId.{TypeId}
use Rattle.eds_bits.specs.declared.forms.Encoding.TheVariants.{TwosComplement}
use Rattle.eds_bits.specs.declared.forms.ByteOrder.TheVariants.{Big}
use Rattle.eds_bits.specs.declared.forms.IntForm.{IntForm}
use Rattle.eds_bits.specs.declared.forms.BoolForm.{BoolForm}
use Rattle.eds_bits.specs.declared.forms.TextForm.{TextForm}
use Rattle.eds_tree.specs.declared.tree.Node.{Node}
use Rattle.eds_type_rows.specs.declared.numbers.FormAndDomain.{FormAndDomain}
use Rattle.eds_domains.specs.declared.range.Range.{Range}
use Rattle.eds_type_rows.specs.Sizes.{is_form, some_bits, few_bits}
use Rattle.eds_type_rows.specs.Forms.{int_form_of}
use Rattle.eds_domains.specs.Ranges.{no_range}
use Rattle.eds_type_rows.specs.Ranges.{range_of}
use Rattle.eds_domains.specs.Domains.{domain_of, narrowed}
use Rattle.eds_type_rows.specs.ScalarKinds.{is_integer}
use Rattle.eds_type_rows.specs.Bases.{base_at}

-- ---- forms

-- 64 bits in two's complement
abbrev pub wide_form : IntForm
wide_form = record { bits = 64; encoding = TwosComplement; order = Big; valid = is_form 64 TwosComplement Big refl }

-- a form, or the wide one where there is none; in a sheet that is not refused each type has its form
abbrev pub form_or_wide : Option IntForm → IntForm
form_or_wide form = unwrap_or form wide_form

-- 8 bits, of which zero is false
abbrev pub octet_form : BoolForm
octet_form = record { bits = 8; zero_is_false = true; some = some_bits 8 refl; few = few_bits 8 refl }

-- the same for truth values
abbrev pub truth_or_octet : Option BoolForm → BoolForm
truth_or_octet form = unwrap_or form octet_form

-- a fixed string of one octet in UTF-8
abbrev pub octet_text : TextForm
octet_text = record { length = 1; fixed = true; ascii = false; stop = 0; some = leb-true 1 1 refl; few = leb-true 1 65536 refl; plain = leb-true 0 127 refl }

-- the same for strings
abbrev pub text_or_octet : Option TextForm → TextForm
text_or_octet form = unwrap_or form octet_text

-- ---- one type

-- the numbers of a form that a range admits
abbrev pub numbers_with : IntForm → Range → FormAndDomain
numbers_with form range = record { form = form; spans = domain_of form range }

-- all numbers of 64 bits in two's complement
abbrev pub all_numbers : FormAndDomain
all_numbers = numbers_with wide_form no_range

-- the numbers of an integer type; whatever is none is read as one without an encoding and a range
abbrev pub own_numbers : List Node → ℕ → FormAndDomain
own_numbers t n = if is_integer t n then numbers_with (form_or_wide (int_form_of t n)) (range_of t n) else all_numbers

-- the numbers of the type that an element is, and all numbers where there is no such file
abbrev pub own_numbers_in : Option (List Node) → ℕ → FormAndDomain
own_numbers_in None n = all_numbers
own_numbers_in (Some t) n = own_numbers t n

-- the own numbers of the type at a place, and all numbers where there is no such place
abbrev pub own_numbers_at : List (List Node) → Option Place → FormAndDomain
own_numbers_at trees None = all_numbers
own_numbers_at trees (Some at) = own_numbers_in (slice_get trees at.file) at.node

-- the range of the type that an element is, which admits any number where there is no such file
abbrev pub range_held_in : Option (List Node) → ℕ → Range
range_held_in None n = no_range
range_held_in (Some t) n = range_of t n

-- the range of the type at a place
abbrev pub range_at : List (List Node) → Option Place → Range
range_at trees None = no_range
range_at trees (Some at) = range_held_in (slice_get trees at.file) at.node

-- ---- a type and its bases

-- the base's form, and the base's numbers that a range admits
abbrev pub narrowed_numbers : Range → FormAndDomain → FormAndDomain
narrowed_numbers range base = record { form = base.form; spans = narrowed range base.spans }

-- the numbers of a type: its own, or, where it has a base, those of the base that its range admits
abbrev pub numbers_by : (ℕ → FormAndDomain) → Range → FormAndDomain → Option TypeId → FormAndDomain
numbers_by up range own None = own
numbers_by up range own (Some base) = narrowed_numbers range (up base.0)

-- the same over at most n bases; places and bases are those of all types
unfoldable pub numbers_within : ℕ → List (List Node) → List Place → List (Option TypeId) → ℕ → FormAndDomain
numbers_within zero trees places bases id = own_numbers_at trees (slice_get places id)
numbers_within (suc n) trees places bases id = numbers_by (numbers_within n trees places bases) (range_at trees (slice_get places id)) (own_numbers_at trees (slice_get places id)) (base_at bases id)

-- the form and the domain of the type of a number: no chain is longer than 16 types
abbrev pub numbers_of : List (List Node) → List Place → List (Option TypeId) → ℕ → FormAndDomain
numbers_of trees places bases id = numbers_within 16 trees places bases id
