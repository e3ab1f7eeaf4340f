-- An integer, enumerated or boolean type and a string have a form, and a binary has a size. Nothing is kept of what breaks the rule.
use Rattle.std.specs.Prelude.{List}
use Rattle.eds_base.specs.declared.ids.Place.{Place}
use Rattle.eds_base.specs.declared.refusal.Refusal.{Refusal}
use Rattle.eds_base.specs.declared.rule.Rule.TheVariants.{BadEncoding}
use Rattle.eds_tree.specs.declared.tree.Node.{Node}
use Rattle.eds_names.specs.LookUp.{Names}
use Rattle.eds_read_types.specs.Breaks.{broken_where, breaks_each}
use Rattle.eds_type_rows.specs.LackingForms.{lacks_form}

-- at one type of a file
abbrev pub encoding_breaks : List Node → Place → List Refusal
encoding_breaks t at = broken_where (lacks_form t at.node) BadEncoding at

-- at all types
abbrev pub breaks_encoding : List (List Node) → Names → List Refusal
breaks_encoding trees names = breaks_each encoding_breaks trees names
