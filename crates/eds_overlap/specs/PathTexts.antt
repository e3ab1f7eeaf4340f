-- The texts of paths to entries, and their order.
use Rattle.std.specs.Prelude.{ℕ, suc, List, [], ◌∷◌, ◌++◌, codes, Option, Some, None, unwrap_or, IsTrue, if◌then◌else◌}
use Rattle.std.specs.Ordering.{nat_cmp, is_le}
use Rattle.std.specs.Cmp.Lexicographic.{slice_cmp}
use Rattle.std.specs.List.{AllByRecursion}
use Rattle.eds_base.specs.declared.ids.TypeId.{TypeId}
use Rattle.eds_types.specs.declared.row.Part.{Part}
use Rattle.eds_types.specs.Fields.{part_at}
use Rattle.eds_types.specs.Rows.{Table}
use Rattle.eds_types.specs.Rules.{name_of}

-- ---- texts

-- the name of a part, empty where there is no part or no name
abbrev pub name_in : Option Part → List ℕ
name_in None = []
name_in (Some p) = unwrap_or (name_of p) []

-- the name of the entry that a step leads to
abbrev pub step_name : Table → TypeId × ℕ → List ℕ
step_name t p = name_in (part_at t p)

-- the names of further entries, each behind a dot
abbrev pub dotted : Table → List (TypeId × ℕ) → List ℕ
dotted t [] = []
dotted t (p ∷ path) = codes "." ++ step_name t p ++ dotted t path

-- the names of the entries on a path, joined by dots
abbrev pub path_text : Table → List (TypeId × ℕ) → List ℕ
path_text t [] = []
path_text t (p ∷ path) = step_name t p ++ dotted t path

-- ---- order

-- the first text is the second, or comes before it in the order of octets
abbrev pub IsUpTo : List ℕ → List ℕ → Type 0
IsUpTo text other = IsTrue (is_le (slice_cmp nat_cmp text other))

-- no text comes after one that follows it
abbrev pub AreInOrder : List (List ℕ) → Type 0
AreInOrder [] = Unit {0}
AreInOrder (text ∷ texts) = AllByRecursion (IsUpTo text) texts × AreInOrder texts

-- how many of the texts, from the first one on, come no later than another text
abbrev pub count_up_to : List (List ℕ) → List ℕ → ℕ
count_up_to [] text = 0
count_up_to (x ∷ texts) text = if is_le (slice_cmp nat_cmp x text) then suc (count_up_to texts text) else 0
