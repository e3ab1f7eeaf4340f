-- How JSON is written.
use Rattle.std.specs.Prelude.{◌≡◌, ◌<◌, ◌^◌, ℕ, List, negsuc, pos}
use Rattle.std.specs.Ordering.{nat_cmp}
use Rattle.std.specs.declared.cmp.Ordering.TheVariants.{Less}
use Rattle.std.specs.Cmp.Lexicographic.{slice_cmp}
use Rattle.json.specs.Token.{Token}
use Rattle.json.specs.Tree.{json_tokens}
use Rattle.serde_json.specs.Data.{Num, unsigned, negative, float, Data, null, boolean, number, string, array, object, Items, no_items, item, Members, no_members, member}
use Rattle.serde_json.specs.Written.{outline}

-- the tokens of JSON
abbrev pub tokens_of : Data → List Token
tokens_of d = json_tokens (outline d)

-- a whole number of 64 bits, with or without a sign
abbrev pub IsWhole : Num → Type 0
IsWhole (unsigned n) = n < 2 ^ 64
IsWhole (negative (pos n)) = ⊥
IsWhole (negative (negsuc n)) = n < 2 ^ 63
IsWhole (float x) = ⊥

-- each name is above this one
abbrev pub IsUnder : List ℕ → Members → Type 0
IsUnder k no_members = Unit {0}
IsUnder k (member l d ms) = (slice_cmp nat_cmp k l ≡ Less) × IsUnder k ms

-- names in byte order, each once
abbrev pub Ascend : Members → Type 0
Ascend no_members = Unit {0}
Ascend (member k d ms) = IsUnder k ms × Ascend ms

abbrev mutual
  -- numbers are whole numbers of 64 bits, and members in order
  pub IsSound : Data → Type 0
  IsSound null = Unit {0}
  IsSound (boolean b) = Unit {0}
  IsSound (number n) = IsWhole n
  IsSound (string s) = Unit {0}
  IsSound (array ds) = AreSound ds
  IsSound (object ms) = Ascend ms × HoldSound ms

  -- the same of all items
  pub AreSound : Items → Type 0
  AreSound no_items = Unit {0}
  AreSound (item d ds) = IsSound d × AreSound ds

  -- the same of all members
  pub HoldSound : Members → Type 0
  HoldSound no_members = Unit {0}
  HoldSound (member k d ms) = IsSound d × HoldSound ms
