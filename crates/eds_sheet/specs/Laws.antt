-- What an accepted sheet has.
use Rattle.std.specs.Prelude.{◌≡◌, ℕ, ◌<◌, List, length, Option, Ok, IfSome, is_some}
use Rattle.eds_tree.specs.declared.tree.Node.{Node}
use Rattle.eds_names.specs.LookUp.{Names, names_in}
use Rattle.eds_types.specs.Rules.{IsHollow, KeepsRules}
use Rattle.eds_types.specs.Overlap.{IsClear}
use Rattle.eds_plan.specs.Arguments.{IsUsedClosed}
use Rattle.eds_read_comp.specs.NamedTypes.{OnSaidArguments}
use Rattle.eds_read_types.specs.declared.table.SheetTypes.{SheetTypes}
use Rattle.eds_read_types.specs.TableRead.{table_read}
use Rattle.eds_sheet.specs.Files.{trees_in}
use Rattle.eds_sheet.specs.Firsts.{Firsts, TellAllFirsts}
use Rattle.eds_sheet.specs.Compiled.{SeenSheet, compiled}
use Rattle.eds_sheet.specs.Overlaps.{AreClear}

-- The table keeps the rules on types; where a word was given, the type that it names is in the table, is clear, and has no
-- spelling of no bits. No two containers overlap under a used type, and each argument of a command of the plan has a used type of
-- the table that is no open binary.
pub record IsSound (word : Option (List ℕ)) (sheet : SeenSheet) : Type 0 where
  pub rules : KeepsRules sheet.table
  pub named : IfSome sheet.asked_type (λ id. id.0 < length sheet.table)
  pub clear : IfSome sheet.asked_type (λ id. IsClear sheet.table id.0)
  pub solid : IfSome sheet.asked_type (λ id. IsHollow sheet.table id.0 → ⊥)
  pub asked : is_some sheet.asked_type ≡ is_some word
  pub used : AreClear sheet.table sheet.used
  pub arguments : OnSaidArguments (IsUsedClosed sheet.table sheet.used) sheet.plan.components

-- so is every sheet that is compiled
abbrev pub SheetsAreSound : Type 0
SheetsAreSound = (firsts : Firsts) (files : List (List ℕ)) (word : Option (List ℕ)) (sheet : SeenSheet) → compiled firsts files word ≡ Ok sheet → IsSound word sheet

-- so is, in every sheet that is compiled, each type that is used, by whatever it is used, open binaries excepted
abbrev pub UsedTypesAreClear : Type 0
UsedTypesAreClear = (firsts : Firsts) (files : List (List ℕ)) (word : Option (List ℕ)) (sheet : SeenSheet) → compiled firsts files word ≡ Ok sheet
    → (trees : List (List Node)) (names : Names) (typed : SheetTypes) → trees_in files ≡ Ok trees → names_in trees ≡ Ok names → table_read trees names word ≡ Ok typed
    → AreClear sheet.table typed.used

-- there is a function that tells what the variables of every sheet start with
abbrev pub FirstsAreTold : Type 0
FirstsAreTold = (firsts : Firsts) × TellAllFirsts firsts
