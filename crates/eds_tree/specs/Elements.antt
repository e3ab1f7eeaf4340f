-- The elements of a file's data, in document order.
use Rattle.std.specs.Prelude.{ℕ, suc, ◌+◌, ◌&&◌, ◌||◌, not, List, [], ◌∷◌, ◌++◌, map, codes, Bool, true, false, if◌then◌else◌, Option, Some, None, is_some, nat_eq, Result, Ok, Err, decimal}
use Rattle.std.specs.Fmt.{signed_decimal}
use Rattle.std.specs.Cmp.Lexicographic.{pointwise}
use Rattle.std.specs.List.{list_any, after_last}
use Rattle.serde_json.specs.Data.{Data, null, boolean, number, string, array, object, Num, unsigned, negative, float, Items, no_items, item, Members, no_members, member}
use Rattle.eds_base.specs.Reading.{same}
use Rattle.eds_tree.specs.declared.tree.Node.{Node}
use Rattle.eds_tree.specs.Rows.{ElementShape}
use Rattle.eds_tree.specs.Shapes.{shape_named, lists}

-- ---- texts of attributes

-- a whole number as its JSON text
abbrev pub whole_text : Num → Option (List ℕ)
whole_text (unsigned n) = Some (decimal n)
whole_text (negative z) = Some (signed_decimal z)
whole_text (float x) = None

-- a string, a truth value or a whole number, as its text
abbrev pub text_of : Data → Option (List ℕ)
text_of null = None
text_of (boolean b) = Some (if b then codes "true" else codes "false")
text_of (number n) = whole_text n
text_of (string s) = Some s
text_of (array ds) = None
text_of (object ms) = None

-- a name with a colon, and `xmlns`
abbrev pub is_foreign : List ℕ → Bool
is_foreign name = list_any (nat_eq 58) name || pointwise nat_eq name (codes "xmlns")

-- what an attribute may be: a string, a truth value or a whole number
abbrev pub has_text : Data → Bool
has_text d = is_some (text_of d)

-- all members may be attributes
abbrev pub have_texts : Members → Bool
have_texts no_members = true
have_texts (member k d ms) = has_text d && have_texts ms

-- the attributes that make an element unsupported wherever they stand
abbrev pub is_watched : List ℕ → Bool
is_watched name = list_any (same name) (map codes ("failed" ∷ "fixedValue" ∷ []))

-- the attributes that a tree keeps: not those with a prefix, nor those that the table doesn't list and no rule asks for
abbrev pub is_kept : Option ElementShape → List ℕ → Bool
is_kept shape name = not (is_foreign name) && (is_watched name || lists shape name)

-- a member as an attribute, unless it is ignored
abbrev pub attribute_from : Option ElementShape → List ℕ → Option (List ℕ) → List (List ℕ × List ℕ)
attribute_from shape name None = []
attribute_from shape name (Some text) = if is_kept shape name then (name, text) ∷ [] else []

-- the members that are kept as attributes
abbrev pub attributes_from : Option ElementShape → Members → List (List ℕ × List ℕ)
attributes_from shape no_members = []
attributes_from shape (member k d ms) = attribute_from shape k (text_of d) ++ attributes_from shape ms

-- ---- an element by itself

-- a string or an array
abbrev pub is_child_or_text : Data → Bool
is_child_or_text null = false
is_child_or_text (boolean b) = false
is_child_or_text (number n) = false
is_child_or_text (string s) = true
is_child_or_text (array ds) = true
is_child_or_text (object ms) = false

-- all items are
abbrev pub are_children_or_texts : Items → Bool
are_children_or_texts no_items = true
are_children_or_texts (item d ds) = is_child_or_text d && are_children_or_texts ds

-- attributes may stand here; then come children and texts
abbrev pub is_content : Items → Bool
is_content no_items = true
is_content (item (object ms) ds) = have_texts ms && are_children_or_texts ds
is_content (item null ds) = false
is_content (item (boolean b) ds) = false
is_content (item (number n) ds) = false
is_content (item (string s) ds) = are_children_or_texts ds
is_content (item (array es) ds) = are_children_or_texts ds

-- the items of an array are those of an element
abbrev pub is_element : Items → Bool
is_element no_items = false
is_element (item null ds) = false
is_element (item (boolean b) ds) = false
is_element (item (number n) ds) = false
is_element (item (string name) ds) = is_content ds
is_element (item (array es) ds) = false
is_element (item (object ms) ds) = false

-- what ends a prefix
abbrev pub is_colon : ℕ → Bool
is_colon c = nat_eq c 58

-- what stands after the last colon, or the whole name where there is none
abbrev pub local_name : List ℕ → List ℕ
local_name name = after_last is_colon name

-- the name of an element, which is its first item
abbrev pub name_in : Items → List ℕ
name_in no_items = []
name_in (item null ds) = []
name_in (item (boolean b) ds) = []
name_in (item (number n) ds) = []
name_in (item (string name) ds) = local_name name
name_in (item (array es) ds) = []
name_in (item (object ms) ds) = []

-- the attributes that an item has, if it is an object
abbrev pub attributes_of_data : Option ElementShape → Data → List (List ℕ × List ℕ)
attributes_of_data shape null = []
attributes_of_data shape (boolean b) = []
attributes_of_data shape (number n) = []
attributes_of_data shape (string s) = []
attributes_of_data shape (array ds) = []
attributes_of_data shape (object ms) = attributes_from shape ms

-- those of the first of some items
abbrev pub first_attributes : Option ElementShape → Items → List (List ℕ × List ℕ)
first_attributes shape no_items = []
first_attributes shape (item d ds) = attributes_of_data shape d

-- the attributes of an element, which stand behind its name
abbrev pub attributes_in : Option ElementShape → Items → List (List ℕ × List ℕ)
attributes_in shape no_items = []
attributes_in shape (item d ds) = first_attributes shape ds

-- ---- document order

-- an array, its number, and the name of the element that holds it
pub record Opening : Type 0 where
  pub parent : List ℕ
  pub number : ℕ
  pub items : Items

-- how many arrays there are
abbrev mutual
  -- how many arrays are in some data, which may be one itself
  pub size : Data → ℕ
  size null = 0
  size (boolean b) = 0
  size (number n) = 0
  size (string s) = 0
  size (array ds) = suc (items_size ds)
  size (object ms) = 0

  -- how many arrays are in all of some items
  pub items_size : Items → ℕ
  items_size no_items = 0
  items_size (item d ds) = size d + items_size ds

-- all arrays in the order in which they open, numbered from `at`
abbrev mutual
  -- the arrays in some data, which may be one itself, in an element of the name `parent`
  pub openings : (parent : List ℕ) → ℕ → Data → List Opening
  openings parent at null = []
  openings parent at (boolean b) = []
  openings parent at (number n) = []
  openings parent at (string s) = []
  openings parent at (array ds) = record { parent = parent; number = at; items = ds } ∷ openings_in (name_in ds) (at + 1) ds
  openings parent at (object ms) = []

  -- the arrays in all of some items, which an element of the name `parent` has
  pub openings_in : (parent : List ℕ) → ℕ → Items → List Opening
  openings_in parent at no_items = []
  openings_in parent at (item d ds) = openings parent at d ++ openings_in parent (at + size d) ds

-- the number of an array
abbrev pub child_number : ℕ → Data → List ℕ
child_number at null = []
child_number at (boolean b) = []
child_number at (number n) = []
child_number at (string s) = []
child_number at (array ds) = at ∷ []
child_number at (object ms) = []

-- the numbers of the arrays among the items, the first opening at `at`
abbrev pub child_numbers : ℕ → Items → List ℕ
child_numbers at no_items = []
child_numbers at (item d ds) = child_number at d ++ child_numbers (at + size d) ds

-- the element that an array is
abbrev pub node_of : Opening → Node
node_of o = record { name = name_in o.items; attributes = attributes_in (shape_named o.parent (name_in o.items)) o.items; children = child_numbers (o.number + 1) o.items }

-- the tree of some data
abbrev pub tree_of : Data → List Node
tree_of d = map node_of (openings [] 0 d)

-- ---- the second rule

-- the numbers of the arrays that are no elements, in document order, where the first that opens has the number `at`
abbrev mutual
  -- the numbers of those in some data, which may be one itself
  pub not_elements : ℕ → Data → List ℕ
  not_elements at null = []
  not_elements at (boolean b) = []
  not_elements at (number n) = []
  not_elements at (string s) = []
  not_elements at (array ds) = (if is_element ds then [] else at ∷ []) ++ not_elements_in (at + 1) ds
  not_elements at (object ms) = []

  -- the numbers of those in all of some items
  pub not_elements_in : ℕ → Items → List ℕ
  not_elements_in at no_items = []
  not_elements_in at (item d ds) = not_elements at d ++ not_elements_in (at + size d) ds

-- the first of some numbers, or what comes after them
abbrev pub first_or : List ℕ → ℕ → Result ℕ ℕ
first_or [] n = Ok n
first_or (p ∷ ps) n = Err p
