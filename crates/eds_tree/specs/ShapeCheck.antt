-- The rules on elements and attributes, over all files of a sheet.
use Rattle.std.specs.Prelude.{List, ◌++◌, Option, Some, None, Result, Ok, Err}
use Rattle.eds_base.specs.declared.refusal.Refusal.{Refusal}
use Rattle.eds_base.specs.Refusals.{least}
use Rattle.eds_tree.specs.declared.tree.Node.{Node}
use Rattle.eds_tree.specs.Breaks.{breaks_of}
use Rattle.eds_tree.specs.Unknown.{breaks_unknown}
use Rattle.eds_tree.specs.Unsupported.{breaks_unsupported}
use Rattle.eds_tree.specs.Missing.{breaks_missing}
use Rattle.eds_tree.specs.BadAttribute.{breaks_attribute}
use Rattle.eds_tree.specs.BadName.{breaks_name}
use Rattle.eds_tree.specs.Limits.{breaks_limit}

-- all breaks of the rules on elements
abbrev pub element_breaks : List (List Node) → List Refusal
element_breaks ts = breaks_of breaks_unknown ts ++ breaks_of breaks_unsupported ts ++ breaks_of breaks_missing ts

-- all breaks of these rules and of those on attributes and numbers of elements
abbrev pub shape_breaks : List (List Node) → List Refusal
shape_breaks ts = element_breaks ts ++ breaks_of breaks_attribute ts ++ breaks_of breaks_name ts ++ breaks_limit ts

-- nothing, unless there is a break
abbrev pub unless_broken : Option Refusal → Result (Unit {0}) Refusal
unless_broken None = Ok tt
unless_broken (Some r) = Err r

-- the first break by place and number, where there is one
abbrev pub shape_verdict : List (List Node) → Result (Unit {0}) Refusal
shape_verdict ts = unless_broken (least (shape_breaks ts))
