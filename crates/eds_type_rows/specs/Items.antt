-- How many items an array has: the product of its dimensions (CCSDS 876.0-B, array data types).
use Rattle.std.specs.Prelude.{◌≡◌, ℕ, suc, ◌+◌, ◌*◌, max, nat_le, ℤ, ◌-ℤ◌, nat_abs, List, [], ◌∷◌, length, map, codes, Bool, ◌||◌, if◌then◌else◌, Option, Some, None, option_map, slice_get}
use Rattle.std.specs.List.{flat_map, list_any}
use Rattle.std.specs.Ordering.{int_eq}
use Rattle.eds_base.specs.Reading.{◌>>=◌}
use Rattle.eds_base.specs.Numbers.{whole_number}
use Rattle.eds_base.specs.declared.ids.Place.{Place}
use Rattle.eds_base.specs.declared.ids.TypeId.{TypeId}
use Rattle.eds_base.specs.declared.spans.Span.{Span}
use Rattle.eds_tree.specs.declared.tree.Node.{Node}
use Rattle.eds_names.specs.LookUp.{Names}
use Rattle.eds_type_rows.specs.Places.{held, attribute, type_places}
use Rattle.eds_type_rows.specs.ReadTypes.{id_found}
use Rattle.eds_type_rows.specs.TextForms.{natural}
use Rattle.eds_type_rows.specs.Listings.{listing_of, value}
use Rattle.eds_type_rows.specs.ScalarKinds.{is_enumerated, is_boolean}
use Rattle.eds_type_rows.specs.Bases.{all_bases, bases_of, meets_cycle}
use Rattle.eds_type_rows.specs.LackingForms.{lacks_form_at}
use Rattle.eds_type_rows.specs.Numbers.{numbers_within}

-- ---- the values of an index type

-- how many numbers an interval has
abbrev pub span_size : Span → ℕ
span_size s = nat_abs (s.high -ℤ s.low) + 1

-- how many numbers a set has
abbrev pub set_size : List Span → ℕ
set_size [] = 0
set_size (s ∷ spans) = span_size s + set_size spans

-- how many of some numbers there are, each counted once, without those that stood before
abbrev pub different_after : (before : List ℤ) → List ℤ → ℕ
different_after before [] = 0
different_after before (x ∷ xs) = if list_any (int_eq x) before then different_after before xs else suc (different_after (x ∷ before) xs)

-- how many different numbers there are
abbrev pub different : List ℤ → ℕ
different xs = different_after [] xs

-- how many values a type has: an enumerated type's different numbers, two truth values, or a domain's numbers
abbrev pub values_in : Option (List Node) → ℕ → List Span → ℕ
values_in None n spans = set_size spans
values_in (Some t) n spans =
    if is_enumerated t n then different (map value (listing_of t n)) else
    if is_boolean t n then 2 else set_size spans

-- how many values the type at a place has; where there is no place, as many as its domain has numbers
abbrev pub values_at : List (List Node) → Option Place → List Span → ℕ
values_at trees None spans = set_size spans
values_at trees (Some at) spans = values_in (slice_get trees at.file) at.node spans

module _ (trees : List (List Node)) (places : List Place) (bases : List (Option TypeId)) where
  -- the type of a number has no form
  abbrev pub lacks_own_form : ℕ → Bool
  lacks_own_form id = lacks_form_at trees (slice_get places id)

  -- it or one of its bases is its own base, or has no form: what values it has is not known
  abbrev pub is_valueless : ℕ → Bool
  is_valueless id = meets_cycle bases id || (lacks_own_form id || list_any lacks_own_form (all_bases bases id))

  -- how many values the type has, over all its bases
  abbrev pub values_of : ℕ → Option ℕ
  values_of id = if is_valueless id then None else Some (values_at trees (slice_get places id) (numbers_within (length bases) trees places bases id).spans)

-- how many values the type that a reference finds has
abbrev pub values_found : List (List Node) → Names → Option TypeId → Option ℕ
values_found trees names id = id >>= λ (id : TypeId). values_of trees (type_places names) (bases_of trees names) id.0

-- ---- dimensions

-- the size that a text gives, or another where there is no text
abbrev pub size_or : Option ℕ → Option (List ℕ) → Option ℕ
size_or other None = other
size_or other (Some text) = whole_number text >>= natural

-- the size of a dimension: the number that it gives, or else that of the values of its index type
abbrev pub dimension_at : List (List Node) → Names → Place → Option ℕ
dimension_at trees names at = size_or (values_found trees names (id_found names at (attribute trees (codes "indexTypeRef") at))) (attribute trees (codes "size") at)

-- the dimensions of an array, in document order
abbrev pub dimensions_of : List (List Node) → Place → List Place
dimensions_of trees at = flat_map (held trees (codes "Dimension")) (held trees (codes "DimensionList") at)

-- the product of a number and of some dimensions, if the sizes of all are known
abbrev pub product_with : ℕ → List (Option ℕ) → Option ℕ
product_with n [] = Some n
product_with n (None ∷ sizes) = None
product_with n (Some size ∷ sizes) = product_with (n * size) sizes

-- how many items an array has, where the sizes of all its dimensions are known
abbrev pub items_at : List (List Node) → Names → Place → Option ℕ
items_at trees names at = product_with 1 (map (dimension_at trees names) (dimensions_of trees at))

-- ---- in a row

-- a number, or 65,537 in place of every greater one: an array has at most 65,536 items
abbrev pub few : ℕ → ℕ
few n = if nat_le n 65536 then n else 65537

-- what is kept of some types is how many values they have, told in such numbers
abbrev pub AreKnown : List (List Node) → List Place → List (Option TypeId) → List (Option (Option ℕ)) → Type 0
AreKnown trees places bases known = (id : ℕ) (n : Option ℕ) → slice_get known id ≡ Some (Some n) → n ≡ option_map few (values_of trees places bases id)

-- the number of items as a row holds it; in a sheet that is not refused it is known, and at least one
abbrev pub row_items : Option ℕ → ℕ
row_items None = 1
row_items (Some n) = max 1 (few n)
