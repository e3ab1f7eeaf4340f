-- Tables in which no container derives from another one.
use Rattle.std.specs.Prelude.{◌≡◌, ℕ, None}
use Rattle.eds_types.specs.Overlap.{IsClear}
use Rattle.eds_types.specs.Rows.{Table, base_of}
use Rattle.eds_types.specs.Rules.{IsContainer}
use Rattle.eds_types.specs.Sizes.{open_of}

-- no container has a base
abbrev pub HasNoBases : Table → Type 0
HasNoBases t = (id : ℕ) → IsContainer t id → base_of t id ≡ None

-- there no two containers overlap under any type, and each type but an open binary is clear
abbrev pub UnderivedAreClear : Type 0
UnderivedAreClear = (t : Table) → HasNoBases t → (id : ℕ) → open_of t id ≡ None → IsClear t id
