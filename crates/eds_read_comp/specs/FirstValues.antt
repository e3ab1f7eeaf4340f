-- What the variables of components start with, and the rule NoDefault.
use Rattle.std.specs.Prelude.{◌≡◌, ℕ, List, [], ◌∷◌, codes, Option, Some, None, slice_get}
use Rattle.std.specs.List.{flat_map}
use Rattle.eds_base.specs.Reading.{◌>>=◌}
use Rattle.eds_base.specs.declared.refusal.Refusal.{Refusal}
use Rattle.eds_base.specs.declared.rule.Rule.TheVariants.{NoDefault}
use Rattle.eds_tree.specs.declared.tree.Node.{Node}
use Rattle.eds_tree.specs.Breaks.{refusal_at}
use Rattle.eds_tree.specs.Trees.{attribute_at}
use Rattle.eds_names.specs.LookUp.{Names}
use Rattle.eds_types.specs.Plain.{Plain}
use Rattle.eds_types.specs.Rows.{Table}
use Rattle.eds_types.specs.TextValues.{text_value_of}
use Rattle.eds_fits.specs.Fitting.{Conforms}
use Rattle.eds_pack.specs.Defaults.{IsDefault}
use Rattle.eds_generic.specs.Reading.{own_name}
use Rattle.eds_read_comp.specs.Variables.{variable_at, variable_nodes}

-- ---- values

-- the value of a type that a text stands for
abbrev pub text_value_in : Table → ℕ → List ℕ → Option Plain
text_value_in table id text = slice_get table id >>= λ row. text_value_of row.kind text

-- A variable of a type starts with the value: the default of the type, where no initial value is given, and else the value that
-- its text stands for, which packs.
abbrev pub IsFirst : Table → ℕ → (initial : Option (List ℕ)) → Plain → Type 0
IsFirst table id None v = IsDefault table id v
IsFirst table id (Some text) v = (text_value_in table id text ≡ Some v) × Conforms table id v

-- A function tells what a variable of each type starts with, by the text of its initial value: this value, and none where there
-- is none.
pub record TellsFirsts (table : Table) (firsts : ℕ → Option (List ℕ) → Option Plain) : Type 0 where
  pub given : (id : ℕ) (initial : Option (List ℕ)) (v : Plain) → IsFirst table id initial v → firsts id initial ≡ Some v
  pub only : (id : ℕ) (initial : Option (List ℕ)) (v : Plain) → firsts id initial ≡ Some v → IsFirst table id initial v

-- it holds of each such function
abbrev pub WhereTold : Table → ((ℕ → Option (List ℕ) → Option Plain) → Type 0) → Type 0
WhereTold table P = (firsts : ℕ → Option (List ℕ) → Option Plain) → TellsFirsts table firsts → P firsts

-- ---- variables

-- the text of the initial value of a variable, where it has one
abbrev pub initial_at : List Node → ℕ → Option (List ℕ)
initial_at t n = attribute_at t n (codes "initialValue")

module _ (firsts : ℕ → Option (List ℕ) → Option Plain) (t : List Node) (names : Names) (file : ℕ) where
  -- what a variable starts with
  abbrev pub first_value : ℕ → Option Plain
  first_value n = firsts (variable_at t names file n).id.0 (initial_at t n)

  -- ---- rule NoDefault

  -- a break, where there is no value
  abbrev pub unless_valued : ℕ → Option Plain → List Refusal
  unless_valued n None = refusal_at NoDefault file n (own_name t n) ∷ []
  unless_valued n (Some v) = []

  -- its initial value is no value of its type, or there is none and the type has no default
  abbrev pub value_breaks_at : ℕ → List Refusal
  value_breaks_at n = unless_valued n (first_value n)

  -- at some variables
  abbrev pub value_breaks_over : List ℕ → List Refusal
  value_breaks_over ns = flat_map value_breaks_at ns

  -- at those of a component
  abbrev pub value_breaks : ℕ → List Refusal
  value_breaks n = value_breaks_over (variable_nodes t n)
