-- The forms of attributes' texts.
use Rattle.std.specs.Prelude.{ℕ, ℤ, pos, int_lt, ◌&&◌, ◌||◌, not, nat_eq, nat_lt, List, [], ◌∷◌, length, Bool, true, false, if◌then◌else◌, Option, Some, None, is_some}
use Rattle.std.specs.Char.{is_ascii_alphabetic, is_ascii_alphanumeric}
use Rattle.std.specs.List.{list_all}
use Rattle.eds_base.specs.Numbers.{whole_number, flag_value}
use Rattle.eds_tree.specs.Rows.{TextForm, Name, PackageName, Reference, Path, Whole, AtLeast, Between, Flag, Word, Text}
use Rattle.eds_tree.specs.Shapes.{is_among}

-- ---- names

-- a letter or `_`
abbrev pub begins_name : ℕ → Bool
begins_name c = is_ascii_alphabetic c || nat_eq c 95

-- a letter, a digit, `_` or `-`
abbrev pub continues_name : ℕ → Bool
continues_name c = is_ascii_alphanumeric c || (nat_eq c 95 || nat_eq c 45)

-- a name has at most 255 octets
abbrev pub is_name : List ℕ → Bool
is_name [] = false
is_name (c ∷ cs) = begins_name c && (list_all continues_name cs && nat_lt (length cs) 255)

-- a character before the first part
abbrev pub put_front : ℕ → List (List ℕ) → List (List ℕ)
put_front c [] = []
put_front c (part ∷ parts) = (c ∷ part) ∷ parts

-- the parts of a text between separators
abbrev pub parts : (separator : ℕ) → List ℕ → List (List ℕ)
parts separator [] = [] ∷ []
parts separator (c ∷ cs) = if nat_eq c separator then [] ∷ parts separator cs else put_front c (parts separator cs)

-- names joined by a separator
abbrev pub are_names : (separator : ℕ) → List ℕ → Bool
are_names separator text = list_all is_name (parts separator text)

-- ---- forms

-- a whole number not below another
abbrev pub is_at_least : (low : ℕ) → Option ℤ → Bool
is_at_least low None = false
is_at_least low (Some z) = not (int_lt z (pos low))

-- a whole number from one to another
abbrev pub is_between : (low high : ℕ) → Option ℤ → Bool
is_between low high None = false
is_between low high (Some z) = not (int_lt z (pos low)) && not (int_lt (pos high) z)

-- A text has the form that the table asks for; names are judged by a rule of their own.
abbrev pub has_form : TextForm → List ℕ → Bool
has_form Name text = true
has_form PackageName text = true
has_form Reference text = are_names 47 text
has_form Path text = are_names 46 text
has_form Whole text = is_some (whole_number text)
has_form (AtLeast low) text = is_at_least low (whole_number text)
has_form (Between low high) text = is_between low high (whole_number text)
has_form Flag text = is_some (flag_value text)
has_form (Word words) text = is_among words text
has_form Text text = true

-- A text that should be a name, or a package's name, is one.
abbrev pub has_name_form : TextForm → List ℕ → Bool
has_name_form Name text = is_name text
has_name_form PackageName text = are_names 47 text
has_name_form Reference text = true
has_name_form Path text = true
has_name_form Whole text = true
has_name_form (AtLeast low) text = true
has_name_form (Between low high) text = true
has_name_form Flag text = true
has_name_form (Word words) text = true
has_name_form Text text = true
