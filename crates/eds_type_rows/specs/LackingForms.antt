-- Types without a form or a size.
use Rattle.std.specs.Prelude.{ℕ, List, Bool, false, ◌||◌, ◌&&◌, is_none, if◌then◌else◌, Option, Some, None, slice_get}
use Rattle.eds_base.specs.declared.ids.Place.{Place}
use Rattle.eds_tree.specs.declared.tree.Node.{Node}
use Rattle.eds_type_rows.specs.Forms.{int_form_of, bool_form_of}
use Rattle.eds_type_rows.specs.TextForms.{text_form_of, binary_bits_of}
use Rattle.eds_type_rows.specs.ScalarKinds.{is_integer, is_enumerated, is_boolean, is_string, is_binary}

-- A string that isn't fixed has no form without a termination octet.
abbrev pub lacks_text_form : List Node → ℕ → Bool
lacks_text_form t n = is_string t n && is_none (text_form_of t n)

-- an open binary has no size without whole octets
abbrev pub lacks_size : List Node → ℕ → Bool
lacks_size t n = is_binary t n && is_none (binary_bits_of t n)

-- the type has no form or no size
abbrev pub lacks_form : List Node → ℕ → Bool
lacks_form t n =
    if is_integer t n || is_enumerated t n then is_none (int_form_of t n) else
    if is_boolean t n then is_none (bool_form_of t n) else lacks_text_form t n || lacks_size t n

-- the type of a file, where there is such a file, has no form
abbrev pub lacks_form_in : Option (List Node) → ℕ → Bool
lacks_form_in None n = false
lacks_form_in (Some t) n = lacks_form t n

-- the type at a place has no form
abbrev pub lacks_form_at : List (List Node) → Option Place → Bool
lacks_form_at trees None = false
lacks_form_at trees (Some at) = lacks_form_in (slice_get trees at.file) at.node
