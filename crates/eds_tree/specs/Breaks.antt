-- One rule over all elements of a sheet that count.
use Rattle.std.specs.Prelude.{ℕ, ◌+◌, List, [], ◌∷◌, ◌++◌, Option, Some, None}
use Rattle.std.specs.List.{flat_map}
use Rattle.eds_base.specs.declared.refusal.Refusal.{Refusal}
use Rattle.eds_base.specs.declared.refusal.Kept.TheVariants.{Word}
use Rattle.eds_base.specs.declared.rule.Rule.{Rule}
use Rattle.eds_tree.specs.declared.tree.Node.{Node}
use Rattle.eds_tree.specs.declared.link.Link.{Link}
use Rattle.eds_tree.specs.Trees.{links_of}

-- a rule is broken at an element, and this word is kept
abbrev pub refusal_at : Rule → (file node : ℕ) → List ℕ → Refusal
refusal_at rule file node word = record { rule = rule; place = record { file = file; node = node }; kept = Word word }

-- it is broken where there is a word to keep
abbrev pub refusal_if : Rule → (file node : ℕ) → Option (List ℕ) → List Refusal
refusal_if rule file node None = []
refusal_if rule file node (Some word) = refusal_at rule file node word ∷ []

-- what breaks a rule where one element of a file is judged
abbrev pub Judgement : Type 0
Judgement = (file : ℕ) → List Node → Link → List Refusal

-- all that breaks it in a file
abbrev pub breaks_in : Judgement → ℕ → List Node → List Refusal
breaks_in judge file t = flat_map (judge file t) (links_of t)

-- all that breaks it in some files, of which the first has this number
abbrev pub breaks_from : Judgement → ℕ → List (List Node) → List Refusal
breaks_from judge file [] = []
breaks_from judge file (t ∷ ts) = breaks_in judge file t ++ breaks_from judge (file + 1) ts

-- all that breaks it in the files of a sheet
abbrev pub breaks_of : Judgement → List (List Node) → List Refusal
breaks_of judge ts = breaks_from judge 0 ts
