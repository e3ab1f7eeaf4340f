-- What the profile says of elements, as plain data.
use denote.Ref.{Bor}
use Rattle.std.specs.Prelude.{ℕ, List, [], ◌∷◌, ◌++◌, map, Bool, true, ◌&&◌, Option, position, slice_get}
use Rattle.eds_base.specs.Reading.{same, ◌>>=◌}
use Rattle.eds_tree.specs.ByteOrder.{precedes}
use Rattle.eds_tree.specs.declared.row.Attribute.{Attribute}
use Rattle.eds_tree.specs.declared.row.Child.{Child}
use Rattle.eds_tree.specs.declared.row.Shape.{Shape}
use Rattle.eds_tree.specs.declared.row.Form.{Form}
use Rattle.eds_tree.specs.declared.row.Form.TheVariants as code
use Rattle.eds_tree.specs.declared.row.Mark.{Mark}
use Rattle.eds_tree.specs.declared.row.Row.{Row}

-- the form of an attribute's text
pub data TextForm : Type 0 where
  Name : TextForm
  PackageName : TextForm
  Reference : TextForm
  Path : TextForm
  Whole : TextForm
  AtLeast : (low : ℕ) → TextForm
  Between : (low high : ℕ) → TextForm
  Flag : TextForm
  Word : List (List ℕ) → TextForm
  Text : TextForm

-- an attribute's name and the form of its text
pub record AttributeRow : Type 0 where
  pub name : List ℕ
  pub form : TextForm

-- a child's name or a group's, and how many there may be
pub record ChildRow : Type 0 where
  pub name : List ℕ
  pub mark : Mark

-- what an element has under these parents, or under any where none is named
pub record ElementShape : Type 0 where
  pub parents : List (List ℕ)
  pub required : List AttributeRow
  pub optional : List AttributeRow
  pub children : List ChildRow

-- an element's name and its descriptions, told apart by the parent
pub record ElementRow : Type 0 where
  pub name : List ℕ
  pub shapes : List ElementShape

-- ---- what the rows of the program say

-- a form
abbrev pub form_of : Form → TextForm
form_of code.Name = Name
form_of code.PackageName = PackageName
form_of code.Reference = Reference
form_of code.Path = Path
form_of code.Whole = Whole
form_of (code.AtLeast low) = AtLeast low
form_of (code.Between low high) = Between low high
form_of code.Flag = Flag
form_of (code.Word words) = Word (map (λ w. w.now) words.now)
form_of code.Text = Text

-- an attribute
abbrev pub attribute_of : Attribute → AttributeRow
attribute_of a = record { name = a.name.now; form = form_of a.form }

-- a child
abbrev pub child_of : Child → ChildRow
child_of c = record { name = c.name.now; mark = c.mark }

-- a description
abbrev pub shape_of : Shape → ElementShape
shape_of s = record { parents = map (λ p. p.now) s.parents.now; required = map attribute_of s.required.now; optional = map attribute_of s.optional.now; children = map child_of s.children.now }

-- an element
abbrev pub row_of : Row → ElementRow
row_of r = record { name = r.name.now; shapes = map shape_of r.shapes.now }

-- the rows of some parts, one after another
abbrev pub rows_of : List (Bor (List Row)) → List ElementRow
rows_of [] = []
rows_of (p ∷ ps) = map row_of p.now ++ rows_of ps

-- ---- names in byte order

-- each name is before the next, and the first is behind this one
abbrev pub rises_from : List ℕ → List ElementRow → Bool
rises_from low [] = true
rises_from low (r ∷ rs) = precedes low r.name && rises_from r.name rs

-- each name is before the next
abbrev pub rising : List ElementRow → Bool
rising [] = true
rising (r ∷ rs) = rises_from r.name rs

-- ---- looking up

-- a row has a name
abbrev pub has_name : List ℕ → ElementRow → Bool
has_name name r = same r.name name

-- the place of the row of a name
abbrev pub find_row : List ElementRow → List ℕ → Option ℕ
find_row rows name = position (has_name name) rows

-- the row of a name
abbrev pub row_named : List ElementRow → List ℕ → Option ElementRow
row_named rows name = find_row rows name >>= λ i. slice_get rows i
