-- The table of a sheet: as long as its rows without constraints, and it keeps the rules.
use Rattle.std.proofs.Common.{◌≡◌, ℕ, zero, suc, ◌+◌, List, [], ◌∷◌, length, Option, None, refl, ap}
use Rattle.std.specs.Prelude.{Ok, slice_get}
use Rattle.eds_base.specs.Refusals.{least}
use Rattle.eds_tree.specs.declared.tree.Node.{Node}
use Rattle.eds_tree.specs.ShapeCheck.{shape_verdict}
use Rattle.eds_names.specs.LookUp.{Names, names_in}
use Rattle.eds_types.specs.declared.row.Constraint.{Constraint}
use Rattle.eds_types.specs.declared.row.Kind.{Kind}
use Rattle.eds_types.specs.declared.row.Kind.TheVariants as kind
use Rattle.eds_types.specs.declared.row.TypeRow.{TypeRow}
use Rattle.eds_types.specs.Rows.{Table}
use Rattle.eds_types.specs.Rules.{KeepsRules}
use Rattle.eds_types.specs.Sizes.{open_by, open_in, open_of}
use Rattle.eds_constraints.specs.Breaks.{Lists}
use Rattle.eds_constraints.specs.ConstrainedRows.{constraints_for, kind_with, rows_with}
use Rattle.eds_constraints.proofs.ConstrainedKeeps.{constraints_keep_rules}
use Rattle.eds_read_types.specs.ConstraintElements.{asked_lists}
use Rattle.eds_read_types.specs.SheetTable.{sheet_table}
use Rattle.eds_read_types.specs.TableBreaks.{table_breaks}
use Rattle.eds_type_rows.specs.TableRows.{table_rows}
use Rattle.eds_read_types.proofs.NoBreaks.{least-none}
use Rattle.eds_read_types.proofs.TableRules.{table_keeps}
use Rattle.eds_read_types.proofs.Unbroken.{unbroken}

pub length-with : (t : Table) (lists : Lists) (n : ℕ) (rows : List TypeRow) → length (rows_with t lists n rows) ≡ length rows
length-with t lists n [] = refl
length-with t lists n (row ∷ rows) = ap suc (length-with t lists (n + 1) rows)

-- there are as many types with constraints as without
pub length-table : (trees : List (List Node)) (names : Names) → length (sheet_table trees names) ≡ length (table_rows trees names)
length-table trees names = length-with (table_rows trees names) (asked_lists trees names) 0 (table_rows trees names)

open_with : (cs : List Constraint) (k : Kind) → open_by (kind_with cs k) ≡ open_by k
open_with cs (kind.Int form spans) = refl
open_with cs (kind.Enum form listing) = refl
open_with cs (kind.Bool form) = refl
open_with cs (kind.Str form) = refl
open_with cs (kind.Bin n free) = refl
open_with cs (kind.Arr item n) = refl
open_with cs (kind.Con c) = refl

open_among : (t : Table) (lists : Lists) (n : ℕ) (rows : List TypeRow) (id : ℕ) → open_in (slice_get (rows_with t lists n rows) id) ≡ open_in (slice_get rows id)
open_among t lists n [] id = refl
open_among t lists n (row ∷ rows) zero = open_with (constraints_for t lists n) row.kind
open_among t lists n (row ∷ rows) (suc id) = open_among t lists (n + 1) rows id

-- the same types are open binaries
pub open-table : (trees : List (List Node)) (names : Names) (id : ℕ) → open_of (sheet_table trees names) id ≡ open_of (table_rows trees names) id
open-table trees names id = open_among (table_rows trees names) (asked_lists trees names) 0 (table_rows trees names) id

-- the table of a sheet that breaks no rule on types keeps the rules
pub sheet_keeps : (trees : List (List Node)) (names : Names) (word : Option (List ℕ)) → shape_verdict trees ≡ Ok tt → names_in trees ≡ Ok names → least (table_breaks trees names word) ≡ None → KeepsRules (sheet_table trees names)
sheet_keeps trees names word shaped named none =
    let all = unbroken trees names word (least-none (table_breaks trees names word) none) in
    constraints_keep_rules (table_rows trees names) (asked_lists trees names) (table_keeps trees names word shaped named none) all.constraint_targets all.constraint_values all.constraint_empties
