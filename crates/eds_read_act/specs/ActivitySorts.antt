-- What the elements of activities and machines are, told by their names (CCSDS 876.0-B, activities and state machines).
use Rattle.std.specs.Prelude.{ℕ, List, codes, Bool, true, false, if◌then◌else◌}
use Rattle.eds_base.specs.Reading.{same}
use Rattle.eds_tree.specs.declared.tree.Node.{Node}
use Rattle.eds_tree.specs.Trees.{name_at}
use Rattle.eds_read_act.specs.declared.activity_sort.ActivitySort.{ActivitySort}
use Rattle.eds_read_act.specs.declared.activity_sort.ActivitySort.TheVariants as sort

-- what an element of a name is that stands inside a statement
unfoldable pub inner_sort_of : List ℕ → ActivitySort
inner_sort_of name =
    if same name (codes "Operator") then sort.Operator else
    if same name (codes "Comparison") then sort.Comparison else
    if same name (codes "ANDedConditions") then sort.Every else
    if same name (codes "ORedConditions") then sort.Some else
    if same name (codes "StartAt") then sort.Bound else
    if same name (codes "EndAt") then sort.Bound else
    if same name (codes "Step") then sort.Step else sort.Other

-- what an element of a name is: a statement, or what stands inside one
unfoldable pub statement_sort_of : List ℕ → ActivitySort
statement_sort_of name =
    if same name (codes "Assignment") then sort.Assignment else
    if same name (codes "MathOperation") then sort.Calculation else
    if same name (codes "Conditional") then sort.Choice else
    if same name (codes "Iteration") then sort.Iteration else
    if same name (codes "Call") then sort.Call else
    if same name (codes "SendCommandPrimitive") then sort.SendCommand else
    if same name (codes "SendParameterPrimitive") then sort.SendParameter else inner_sort_of name

-- what an element of a name is: an operand, an argument, an action, or what stands in an action
unfoldable pub sort_of : List ℕ → ActivitySort
sort_of name =
    if same name (codes "Value") then sort.Value else
    if same name (codes "VariableRef") then sort.VariableRef else
    if same name (codes "ArgumentRef") then sort.ArgumentRef else
    if same name (codes "ArgumentValue") then sort.ArgumentValue else
    if same name (codes "OnEntry") then sort.Action else
    if same name (codes "OnExit") then sort.Action else
    if same name (codes "Do") then sort.Action else statement_sort_of name

-- what the element of a number is
abbrev pub sort_at : List Node → ℕ → ActivitySort
sort_at t n = sort_of (name_at t n)

-- an operand: a value, or a reference to a variable or to an argument
abbrev pub is_operand : ActivitySort → Bool
is_operand sort.Value = true
is_operand sort.VariableRef = true
is_operand sort.ArgumentRef = true
is_operand s = false
