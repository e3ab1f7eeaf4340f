-- What the variables of sheets start with, as a function tells it.
use Rattle.std.specs.Prelude.{ℕ, List, Option}
use Rattle.eds_types.specs.Plain.{Plain}
use Rattle.eds_types.specs.Rows.{Table}
use Rattle.eds_types.specs.Rules.{KeepsRules}
use Rattle.eds_read_comp.specs.FirstValues.{TellsFirsts}

-- what a variable of a type of a table starts with, by the text of its initial value, where there is something
abbrev pub Firsts : Type 0
Firsts = Table → (id : ℕ) → (initial : Option (List ℕ)) → Option Plain

-- it is told so by each table that keeps the rules on types
abbrev pub TellAllFirsts : Firsts → Type 0
TellAllFirsts firsts = (t : Table) → KeepsRules t → TellsFirsts t (firsts t)

-- it holds of each function that tells so
abbrev pub WhereFirstsAreTold : (Firsts → Type 0) → Type 0
WhereFirstsAreTold P = (firsts : Firsts) → TellAllFirsts firsts → P firsts
