-- The members of an object, as the code has them.
use Rattle.std.specs.Prelude.{List, [], ◌∷◌, ◌&&◌, ℕ, Bool, true}
use Rattle.std.specs.Borrow.{Bor}
use Rattle.std.specs.Ordering.{is_lt, nat_cmp}
use Rattle.std.specs.Cmp.Lexicographic.{slice_cmp}
use Rattle.serde_json.specs.Data.{Data, string, Members, no_members, member, put}
use Rattle.eds_types.specs.Plain.{plain}
use Rattle.eds_types.specs.Rows.{Table}
use Rattle.eds_value.specs.declared.member.Content.{Content}
use Rattle.eds_value.specs.declared.member.Content.TheVariants as content
use Rattle.eds_value.specs.declared.member.Member.{Member}
use Rattle.eds_value.specs.JsonOfValue.{json_of_value}

-- the JSON of what a member has: its container's name, or a value
abbrev pub content_json : Table → Content → Data
content_json t (content.TypeName name) = string name.now
content_json t (content.Held value) = json_of_value t (plain value.now)

-- the members, one after another, each with what its content stands for
abbrev pub in_order_by : {C : Type 0} → (C → Data) → List (Member C) → Members
in_order_by data_of [] = no_members
in_order_by data_of (m ∷ ms) = member m.name.now (data_of m.content) (in_order_by data_of ms)

-- the members, each put among those before it
abbrev pub put_all_by : {C : Type 0} → (C → Data) → List (Member C) → Members → Members
put_all_by data_of [] found = found
put_all_by data_of (m ∷ ms) found = put_all_by data_of ms (put m.name.now (data_of m.content) found)

-- the same of members that have their contents
abbrev pub in_order : Table → List (Member Content) → Members
in_order t ms = in_order_by (content_json t) ms

abbrev pub put_all : Table → List (Member Content) → Members → Members
put_all t ms found = put_all_by (content_json t) ms found

-- the same of a map's entries
abbrev pub entries_in_order : Table → List (Bor (List ℕ) × Content) → Members
entries_in_order t [] = no_members
entries_in_order t (e ∷ es) = member e.0.now (content_json t e.1) (entries_in_order t es)

-- ---- order

-- the first name, where there is one, is above this one
abbrev pub is_below : {C : Type 0} → List ℕ → List (Member C) → Bool
is_below name [] = true
is_below name (m ∷ ms) = is_lt (slice_cmp nat_cmp name m.name.now)

-- each name is above the one before it
abbrev pub ascends : {C : Type 0} → List (Member C) → Bool
ascends [] = true
ascends (m ∷ ms) = is_below m.name.now ms && ascends ms
