-- The tree of a file, or the first rule that its text breaks.
use Rattle.std.specs.Prelude.{ℕ, List, [], ◌∷◌, Option, Some, None, Result, Ok, Err, if◌then◌else◌}
use Rattle.std.specs.Str.{is_utf8}
use Rattle.serde_json.specs.Data.{Data, null, boolean, number, string, array, object}
use Rattle.serde_json.specs.Read.{read}
use Rattle.eds_base.specs.declared.refusal.Refusal.{Refusal}
use Rattle.eds_base.specs.declared.refusal.Kept.TheVariants.{Nothing}
use Rattle.eds_base.specs.declared.rule.Rule.{Rule}
use Rattle.eds_base.specs.declared.rule.Rule.TheVariants.{NotJson, NotElement}
use Rattle.eds_tree.specs.declared.tree.Node.{Node}
use Rattle.eds_tree.specs.Elements.{not_elements, tree_of}

-- a rule is broken at an element, and nothing is kept
abbrev pub plain_refusal : Rule → ℕ → ℕ → Refusal
plain_refusal rule file node = record { rule = rule; place = record { file = file; node = node }; kept = Nothing }

-- the tree, unless some array is no element
abbrev pub tree_unless : ℕ → List ℕ → Data → Result (List Node) Refusal
tree_unless file [] d = Ok (tree_of d)
tree_unless file (p ∷ ps) d = Err (plain_refusal NotElement file p)

-- the tree of an array, unless some array is no element; other data are no element
abbrev pub tree_from : ℕ → Data → Result (List Node) Refusal
tree_from file null = Err (plain_refusal NotElement file 0)
tree_from file (boolean b) = Err (plain_refusal NotElement file 0)
tree_from file (number n) = Err (plain_refusal NotElement file 0)
tree_from file (string s) = Err (plain_refusal NotElement file 0)
tree_from file (array ds) = tree_unless file (not_elements 0 (array ds)) (array ds)
tree_from file (object ms) = Err (plain_refusal NotElement file 0)

-- what the octets of a file say, where they are JSON
abbrev pub data_in : List ℕ → Option Data
data_in octets = if is_utf8 octets then read octets else None

-- the tree of what was read, where the text is JSON
abbrev pub tree_of_data : ℕ → Option Data → Result (List Node) Refusal
tree_of_data file None = Err (plain_refusal NotJson file 0)
tree_of_data file (Some d) = tree_from file d

-- the tree of a file, or the rule that it breaks
unfoldable pub tree_in : ℕ → List ℕ → Result (List Node) Refusal
tree_in file octets = tree_of_data file (data_in octets)
