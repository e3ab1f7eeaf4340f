-- A sheet compiled, or refused for the first rule that it breaks.
use Rattle.std.specs.Prelude.{ℕ, List, [], count_by, Bool, is_some, Option, Some, Result, Ok, Err}
use Rattle.eds_base.specs.declared.ids.TypeId.{TypeId}
use Rattle.eds_base.specs.declared.refusal.Refusal.{Refusal}
use Rattle.eds_base.specs.Answering.{◌>>=◌}
use Rattle.eds_tree.specs.declared.tree.Node.{Node}
use Rattle.eds_tree.specs.ShapeCheck.{shape_breaks, shape_verdict}
use Rattle.eds_names.specs.Declarations.{is_sort, is_face, is_comp}
use Rattle.eds_names.specs.LookUp.{Names, names_in, names_of, duplicates}
use Rattle.eds_types.specs.declared.row.TypeRow.{TypeRow}
use Rattle.eds_types.specs.Rows.{Table, container_in}
use Rattle.eds_read_types.specs.declared.table.SheetTypes.{SheetTypes}
use Rattle.eds_read_types.specs.Judging.{judged_first}
use Rattle.eds_read_types.specs.TableBreaks.{table_breaks}
use Rattle.eds_read_types.specs.TableRead.{typed_of, table_read}
use Rattle.eds_read_types.specs.SheetTable.{sheet_table}
use Rattle.eds_read_comp.specs.Plans.{SeenPlan, component_breaks, plan_read, seen_plan}
use Rattle.eds_sheet.specs.declared.judged.Judged.{Judged}
use Rattle.eds_sheet.specs.declared.sheet.Counts.{Counts}
use Rattle.eds_sheet.specs.declared.sheet.Sheet.{Sheet}
use Rattle.eds_sheet.specs.Files.{trees_in, reading_breaks}
use Rattle.eds_sheet.specs.Firsts.{Firsts}
use Rattle.eds_sheet.specs.Overlaps.{overlap_breaks, overlap_verdict}

-- ---- what a sheet breaks, where a function tells what variables start with

module _ (firsts : Firsts) where
  -- What the references and the types of some trees break; where these break nothing, what their containers break that overlap;
  -- and where these don't, what their interfaces and components break.
  abbrev pub typed_breaks : List (List Node) → Names → (word : Option (List ℕ)) → List Refusal
  typed_breaks trees names word =
      judged_first (table_breaks trees names word)
      (judged_first (overlap_breaks names (typed_of trees names word))
      (component_breaks (firsts (sheet_table trees names)) trees names (sheet_table trees names)))

  -- All that some trees break, each stage judged only where the stages before it are not broken: the elements and their
  -- attributes, the names, the references and the types, containers that overlap, interfaces, and then variables, parameter
  -- maps, activities and state machines.
  abbrev pub tree_breaks : List (List Node) → (word : Option (List ℕ)) → List Refusal
  tree_breaks trees word = judged_first (shape_breaks trees) (judged_first (duplicates trees) (typed_breaks trees (names_of trees) word))

  -- the same of files that are element trees
  abbrev pub breaks_where_read : Result (List (List Node)) Refusal → (word : Option (List ℕ)) → List Refusal
  breaks_where_read (Ok trees) word = tree_breaks trees word
  breaks_where_read (Err r) word = []

  -- All that a sheet breaks, with the word for a type that the sheet is to have. Only files that are element trees are
  -- judged by other rules.
  abbrev pub all_breaks : List (List ℕ) → (word : Option (List ℕ)) → List Refusal
  all_breaks files word = judged_first (reading_breaks files) (breaks_where_read (trees_in files) word)

-- ---- a sheet as clauses see it: of its plan the plain data

pub record SeenSheet : Type 0 where
  pub table : Table
  pub plan : SeenPlan
  pub used : List TypeId
  pub asked_type : Option TypeId
  pub counts : Counts

abbrev pub seen_sheet : Sheet → SeenSheet
seen_sheet s = record { table = s.table; plan = seen_plan s.plan; used = s.used; asked_type = s.asked_type; counts = s.counts }

-- the row is a container's
abbrev pub is_container : TypeRow → Bool
is_container row = is_some (container_in (Some row))

-- how many types, containers, interfaces and components there are
abbrev pub counts_of : Names → SheetTypes → Counts
counts_of names typed = record {
  types = count_by (λ d. is_sort d.item) names.declared;
  containers = count_by is_container typed.table;
  interfaces = count_by (λ d. is_face d.item) names.declared;
  components = count_by (λ d. is_comp d.item) names.declared;
}

-- the sheet of its names, its types and its plan
abbrev pub sheet_of : Names → SheetTypes → SeenPlan → SeenSheet
sheet_of names typed plan = record { table = typed.table; plan = plan; used = typed.used; asked_type = typed.asked_type; counts = counts_of names typed }

-- ---- the sheet, or why it is refused

-- what is judged: the trees, with their names and types
abbrev pub judged_by : List (List Node) → Names → SheetTypes → Judged
judged_by trees names typed = record { trees = trees; space = names; typed = typed }

-- the trees with their names and types, or the first of the rules that these break, judged in their order
abbrev pub judged_trees : List (List Node) → (word : Option (List ℕ)) → Result Judged Refusal
judged_trees trees word =
    shape_verdict trees >>= λ shaped.
    names_in trees >>= λ names.
    table_read trees names word >>= λ typed.
    overlap_verdict names typed >>= λ apart.
    Ok (judged_by trees names typed)

-- the trees, names and types of some files, or the first of the rules that these break
unfoldable pub judged_files : List (List ℕ) → (word : Option (List ℕ)) → Result Judged Refusal
judged_files files word = trees_in files >>= λ trees. judged_trees trees word

module _ (firsts : Firsts) where
  -- the plan of its components, or the first rule that its interfaces and components break
  abbrev pub plan_of : Judged → Result SeenPlan Refusal
  plan_of j = plan_read (firsts j.typed.table) j.trees j.space j.typed.table

  -- the sheet with this plan, or the same rule
  abbrev pub with_plan : Judged → Result SeenSheet Refusal
  with_plan j = plan_of j >>= λ plan. Ok (sheet_of j.space j.typed plan)

  -- the sheet of some files, or the first of the rules that they break
  unfoldable pub compiled : List (List ℕ) → (word : Option (List ℕ)) → Result SeenSheet Refusal
  compiled files word = judged_files files word >>= with_plan
