-- The transactions of a component: the names that its sends and events give, each once, in document order.
use Rattle.std.specs.Prelude.{◌≡◌, ℕ, List, [], ◌∷◌, ◌++◌, codes, true, false, if◌then◌else◌, Some, option_to_list, is_some}
use Rattle.std.specs.List.{flat_map}
use Rattle.eds_bits.specs.Lists.{HasOne}
use Rattle.eds_tree.specs.declared.tree.Node.{Node}
use Rattle.eds_tree.specs.declared.link.Link.{Link}
use Rattle.eds_tree.specs.Trees.{attribute_at}
use Rattle.eds_names.specs.Repeats.{is_among}
use Rattle.eds_read_act.specs.Bodies.{number_named}
use Rattle.eds_read_act.specs.Scopes.{links_at}

-- the name of the transaction that an element gives; no element but a send or an event of a primitive keeps one
abbrev pub transaction_named : List Node → Link → List (List ℕ)
transaction_named t link = option_to_list (attribute_at t link.node (codes "transaction"))

-- some names, and one more behind them where it isn't among them
abbrev pub with_name : List (List ℕ) → List ℕ → List (List ℕ)
with_name names name = if is_among names name then names else names ++ name ∷ []

-- the same with some more
abbrev pub with_names : List (List ℕ) → List (List ℕ) → List (List ℕ)
with_names names [] = names
with_names names (x ∷ xs) = with_names (with_name names x) xs

-- the transactions of the component that an element is; the number of a transaction is its position
abbrev pub transactions_of : List Node → ℕ → List (List ℕ)
transactions_of t n = with_names [] (flat_map (transaction_named t) (links_at t n))

-- ---- in the subject's words

-- each transaction that an element of the component names has a number
abbrev pub EachHasANumber : Type 0
EachHasANumber = (t : List Node) (n : ℕ) (link : Link) (name : List ℕ) → HasOne (λ l. l ≡ link) (links_at t n) → attribute_at t link.node (codes "transaction") ≡ Some name
    → is_some (number_named (transactions_of t n) name) ≡ true

-- no two of them have one name
abbrev pub AllDiffer : List (List ℕ) → Type 0
AllDiffer [] = Unit {0}
AllDiffer (x ∷ xs) = (is_among xs x ≡ false) × AllDiffer xs

-- no transaction of a component is listed twice
abbrev pub NoNameTwice : Type 0
NoNameTwice = (t : List Node) (n : ℕ) → AllDiffer (transactions_of t n)
