-- An integer type or sub-range has numbers. Nothing is kept of what breaks the rule.
use Rattle.std.specs.Prelude.{ℕ, List, [], ◌∷◌, Bool, false, not, ◌&&◌, ◌||◌, if◌then◌else◌, Option, Some, None, slice_get}
use Rattle.std.specs.List.{list_any}
use Rattle.eds_base.specs.declared.ids.Place.{Place}
use Rattle.eds_base.specs.declared.ids.TypeId.{TypeId}
use Rattle.eds_base.specs.declared.refusal.Refusal.{Refusal}
use Rattle.eds_base.specs.declared.rule.Rule.TheVariants.{EmptyRange}
use Rattle.eds_bits.specs.declared.forms.IntForm.{IntForm}
use Rattle.eds_tree.specs.declared.tree.Node.{Node}
use Rattle.eds_names.specs.LookUp.{Names}
use Rattle.eds_domains.specs.declared.range.Range.{Range}
use Rattle.eds_type_rows.specs.Places.{is_sub_range, type_places}
use Rattle.eds_read_types.specs.Breaks.{broken, breaks_over, broken_where, breaks_each}
use Rattle.eds_type_rows.specs.Forms.{int_form_of}
use Rattle.eds_type_rows.specs.Ranges.{range_of}
use Rattle.eds_domains.specs.Domains.{domain_of, has_none}
use Rattle.eds_type_rows.specs.Bases.{bases_of, bases_within}
use Rattle.eds_type_rows.specs.ScalarKinds.{is_integer}
use Rattle.eds_type_rows.specs.LackingForms.{lacks_form_at}
use Rattle.eds_type_rows.specs.Numbers.{numbers_of}

-- ---- integer types

-- The range admits no number of the form. Without a form the lower rule is broken.
abbrev pub lacks_numbers_by : Option IntForm → Range → Bool
lacks_numbers_by None range = false
lacks_numbers_by (Some form) range = has_none (domain_of form range)

-- the element is an integer type, and its range admits no number of its form
abbrev pub lacks_numbers : List Node → ℕ → Bool
lacks_numbers t n = if is_integer t n then lacks_numbers_by (int_form_of t n) (range_of t n) else false

-- at one type of a file that is no sub-range
abbrev pub range_breaks : List Node → Place → List Refusal
range_breaks t at = broken_where (lacks_numbers t at.node) EmptyRange at

-- at all such types
abbrev pub breaks_range : List (List Node) → Names → List Refusal
breaks_range trees names = breaks_each range_breaks trees names

-- ---- sub-ranges

module _ (trees : List (List Node)) (places : List Place) (bases : List (Option TypeId)) where
  -- the type of a number has no numbers
  abbrev pub is_empty_type : ℕ → Bool
  is_empty_type id = has_none (numbers_of trees places bases id).spans

  -- it or one of its bases breaks a rule on forms or numbers
  abbrev pub is_faulty : ℕ → Bool
  is_faulty id = lacks_form_at trees (slice_get places id) || is_empty_type id

  -- it has no numbers, and this is its own fault and none of a base
  abbrev pub is_empty_by_itself : ℕ → Bool
  is_empty_by_itself id = is_empty_type id && not (list_any is_faulty (bases_within 16 bases id))

  -- at one sub-range, by its number
  abbrev pub sub_range_at : ℕ → Place → List Refusal
  sub_range_at id at = if is_sub_range trees at && is_empty_by_itself id then broken EmptyRange at ∷ [] else []

-- at all sub-ranges
abbrev pub breaks_sub_range : List (List Node) → Names → List Refusal
breaks_sub_range trees names = breaks_over (sub_range_at trees (type_places names) (bases_of trees names)) 0 (type_places names)
