-- The kinds of scalar types as rows hold them: of those whose values texts stand for.
use Rattle.std.specs.Prelude.{ℕ, List, ◌||◌, if◌then◌else◌, Option, Some, None, slice_get}
use Rattle.std.specs.Option.{unwrap_or}
use Rattle.eds_base.specs.Reading.{◌>>=◌}
use Rattle.eds_base.specs.declared.ids.Place.{Place}
use Rattle.eds_tree.specs.declared.tree.Node.{Node}
use Rattle.eds_tree.specs.Trees.{name_at}
use Rattle.eds_names.specs.LookUp.{Names}
use Rattle.eds_types.specs.declared.row.Kind.{Kind}
use Rattle.eds_types.specs.declared.row.Kind.TheVariants as kind
use Rattle.eds_type_rows.specs.declared.numbers.FormAndDomain.{FormAndDomain}
use Rattle.eds_type_rows.specs.declared.sort.Sort.{Sort}
use Rattle.eds_type_rows.specs.declared.sort.Sort.TheVariants as sort
use Rattle.eds_type_rows.specs.Places.{is_container, is_array, type_places}
use Rattle.eds_type_rows.specs.Sorts.{sort_of}
use Rattle.eds_type_rows.specs.Forms.{int_form_of, bool_form_of}
use Rattle.eds_type_rows.specs.Listings.{listing_of}
use Rattle.eds_type_rows.specs.TextForms.{text_form_of, is_open, binary_bits_of}
use Rattle.eds_type_rows.specs.Bases.{bases_of}
use Rattle.eds_type_rows.specs.Numbers.{form_or_wide, truth_or_octet, text_or_octet, numbers_of}

-- ---- by the element

-- a binary of the bits that it says, or of an octet; in a sheet that is not refused each binary has a size
abbrev pub binary_kind : List Node → ℕ → Kind
binary_kind t n = kind.Bin (unwrap_or (binary_bits_of t n) 8) (is_open t n)

-- an enumerated or boolean type, a string, a binary, or a type of such numbers
abbrev pub scalar_kind_by : Option Sort → List Node → ℕ → FormAndDomain → Kind
scalar_kind_by None t n numbers = kind.Int numbers.form numbers.spans
scalar_kind_by (Some sort.Integer) t n numbers = kind.Int numbers.form numbers.spans
scalar_kind_by (Some sort.Enumerated) t n numbers = kind.Enum (form_or_wide (int_form_of t n)) (listing_of t n)
scalar_kind_by (Some sort.Boolean) t n numbers = kind.Bool (truth_or_octet (bool_form_of t n))
scalar_kind_by (Some sort.Text) t n numbers = kind.Str (text_or_octet (text_form_of t n))
scalar_kind_by (Some sort.Binary) t n numbers = binary_kind t n
scalar_kind_by (Some sort.Array) t n numbers = kind.Int numbers.form numbers.spans
scalar_kind_by (Some sort.SubRange) t n numbers = kind.Int numbers.form numbers.spans
scalar_kind_by (Some sort.Container) t n numbers = kind.Int numbers.form numbers.spans

-- what a type is that is no container and no array: by its element, or a type of these numbers
abbrev pub scalar_kind : List Node → ℕ → FormAndDomain → Kind
scalar_kind t n numbers = scalar_kind_by (sort_of (name_at t n)) t n numbers

-- what the type of an element is, or a type of these numbers where there is no such file
abbrev pub scalar_kind_in : Option (List Node) → ℕ → FormAndDomain → Kind
scalar_kind_in None n numbers = kind.Int numbers.form numbers.spans
scalar_kind_in (Some t) n numbers = scalar_kind t n numbers

-- ---- by the number of the type

-- the kind of the scalar type at a place, of which the number among all types is given
abbrev pub scalar_at : List (List Node) → Names → ℕ → Place → Kind
scalar_at trees names id at = scalar_kind_in (slice_get trees at.file) at.node (numbers_of trees (type_places names) (bases_of trees names) id)

-- the same where the type is neither a container nor an array
abbrev pub scalar_if : List (List Node) → Names → ℕ → Place → Option Kind
scalar_if trees names id at = if is_container trees at || is_array trees at then None else Some (scalar_at trees names id at)

-- the kind of the type of a number, if there is such a type and it is neither a container nor an array
abbrev pub scalar_of : List (List Node) → Names → ℕ → Option Kind
scalar_of trees names id = slice_get (type_places names) id >>= scalar_if trees names id
