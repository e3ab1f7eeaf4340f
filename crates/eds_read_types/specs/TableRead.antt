-- The table of the types of a sheet, or why it is refused.
use Rattle.std.specs.Prelude.{ℕ, List, ◌++◌, Option, Some, None, Result, Ok, Err}
use Rattle.eds_base.specs.declared.refusal.Refusal.{Refusal}
use Rattle.eds_base.specs.Refusals.{least}
use Rattle.eds_tree.specs.declared.tree.Node.{Node}
use Rattle.eds_names.specs.LookUp.{Names}
use Rattle.eds_read_types.specs.declared.table.SheetTypes.{SheetTypes}
use Rattle.eds_type_rows.specs.ReadTypes.{word_type}
use Rattle.eds_type_rows.specs.InnerReferences.{inner_types}
use Rattle.eds_read_types.specs.SheetTable.{sheet_table}
use Rattle.eds_read_types.specs.TableBreaks.{table_breaks}
use Rattle.eds_read_types.specs.Used.{used_types}

-- a row for each declared type in order, the types that are used, those that interfaces and components name last, and the type that the
-- TYPE word names
abbrev pub typed_of : List (List Node) → Names → Option (List ℕ) → SheetTypes
typed_of trees names word = record { table = sheet_table trees names; used = used_types (sheet_table trees names) (word_type trees names word) ++ inner_types trees names; asked_type = word_type trees names word }

-- the types of a sheet, or why it is refused
abbrev pub unless : Option Refusal → SheetTypes → Result SheetTypes Refusal
unless None typed = Ok typed
unless (Some r) typed = Err r

-- the table of a sheet, or the first rule on types that it breaks
unfoldable pub table_read : List (List Node) → Names → Option (List ℕ) → Result SheetTypes Refusal
table_read trees names word = unless (least (table_breaks trees names word)) (typed_of trees names word)
