-- An accepted sheet is sound.
use Rattle.std.proofs.Common.{◌≡◌, ℕ, ◌<◌, List, length, Option, None, Result, Ok, Err, refl, sym, ap, subst}
use Rattle.std.specs.Prelude.{IfOk, IfSome, is_some}
use Rattle.std.specs.List.{AllByRecursion}
use Rattle.eds_base.specs.declared.fail.Fail.{Fail}
use Rattle.eds_base.specs.declared.refusal.Refusal.{Refusal}
use Rattle.eds_base.specs.Answering.{Answers}
use Rattle.eds_tree.specs.declared.tree.Node.{Node}
use Rattle.eds_tree.specs.ShapeCheck.{shape_verdict}
use Rattle.eds_names.specs.LookUp.{Names, names_in}
use Rattle.eds_types.specs.Overlap.{IsClear}
use Rattle.eds_types.specs.Rules.{IsHollow, KeepsRules}
use Rattle.eds_types.specs.Sizes.{open_of}
use Rattle.eds_overlap.specs.Pairs.{Named}
use Rattle.eds_overlap.specs.Used.{HasAllNamed}
use Rattle.eds_read_types.specs.declared.table.SheetTypes.{SheetTypes}
use Rattle.eds_read_types.specs.TableBreaks.{table_breaks}
use Rattle.eds_read_types.specs.TableRead.{table_read, typed_of}
use Rattle.eds_read_types.proofs.NoBreaks.{least-none}
use Rattle.eds_read_types.proofs.TableFacts.{table_unbroken, table_word, table_closed, table_solid}
use Rattle.eds_read_types.proofs.SheetTableFacts.{sheet_keeps}
use Rattle.eds_plan.specs.Arguments.{ArgumentsAreUsed, IsUsedClosed}
use Rattle.eds_read_comp.specs.NamedTypes.{OnSaidArguments}
use Rattle.eds_read_comp.specs.Plans.{SeenPlan}
use Rattle.eds_read_comp.proofs.Carried.{of-seen, plan-has}
use Rattle.eds_sheet.specs.declared.judged.Judged.{Judged}
use Rattle.eds_sheet.specs.declared.sheet.Sheet.{Sheet}
use Rattle.eds_sheet.specs.Files.{trees_in}
use Rattle.eds_sheet.specs.Firsts.{Firsts, WhereFirstsAreTold}
use Rattle.eds_sheet.specs.Compiled.{SeenSheet, seen_sheet, sheet_of, judged_by, judged_trees, judged_files, plan_of, with_plan, compiled}
use Rattle.eds_sheet.specs.Overlaps.{AreClear, overlap_verdict}
use Rattle.eds_sheet.specs.Laws.{IsSound, SheetsAreSound, UsedTypesAreClear}
use Rattle.eds_sheet.proofs.DefaultsFound.{firsts-told}
use Rattle.eds_sheet.proofs.NamedUsed.{all-used}
use Rattle.eds_sheet.proofs.Stages.{answered}
use Rattle.eds_sheet.proofs.StandingElements.{IsRead, trees-read}
use Rattle.eds_sheet.proofs.UsedTypes.{all_named, used_clear, word_clear}

-- ---- what was judged

-- the types keep the rules; where a word was given, the type that it names is there, is clear, and has no spelling of no bits; and
-- all types that are named are used, and are clear
pub record IsSoundly (word : Option (List ℕ)) (typed : SheetTypes) : Type 0 where
  pub rules : KeepsRules typed.table
  pub named : IfSome typed.asked_type (λ id. id.0 < length typed.table)
  pub clear : IfSome typed.asked_type (λ id. IsClear typed.table id.0)
  pub solid : IfSome typed.asked_type (λ id. IsHollow typed.table id.0 → ⊥)
  pub asked : is_some typed.asked_type ≡ is_some word
  pub all : HasAllNamed typed.table typed.used
  pub used : AreClear typed.table typed.used

typed-sound : (trees : List (List Node)) (word : Option (List ℕ)) (names : Names) (typed : SheetTypes) → shape_verdict trees ≡ Ok tt → names_in trees ≡ Ok names → table_read trees names word ≡ Ok typed → overlap_verdict names typed ≡ Ok tt
    → IsSoundly word typed
typed-sound trees word names typed shaped named read apart =
    let unbroken = table_unbroken trees names word typed read in
    let known = table_word trees names word typed read in
    let keeps : KeepsRules typed.table = subst (λ (t : SheetTypes). KeepsRules t.table) unbroken.1 (sheet_keeps trees names word shaped named unbroken.0) in
    record {
      rules = keeps;
      named = known.0;
      clear = word_clear trees names word typed unbroken.1 keeps apart (table_closed trees names word named typed read);
      solid = table_solid trees names word named typed read;
      asked = known.1;
      all = subst (λ (s : SheetTypes). HasAllNamed s.table s.used) unbroken.1 (all_named trees names word);
      used = used_clear trees names word typed unbroken.1 keeps apart;
    }

-- the steps of judging some trees
pub record AreJudged (trees : List (List Node)) (word : Option (List ℕ)) (j : Judged) : Type 0 where
  pub trees_are : j.trees ≡ trees
  pub shaped : shape_verdict trees ≡ Ok tt
  pub named : names_in trees ≡ Ok j.space
  pub read : table_read trees j.space word ≡ Ok j.typed
  pub apart : overlap_verdict j.space j.typed ≡ Ok tt

pub trees-judged : (trees : List (List Node)) (word : Option (List ℕ)) (j : Judged) → judged_trees trees word ≡ Ok j → AreJudged trees word j
trees-judged trees word j h =
    let shaped = answered (shape_verdict trees) _ j h in
    let named = answered (names_in trees) _ j shaped.2 in
    let typed = answered (table_read trees named.0 word) _ j named.2 in
    let apart = answered (overlap_verdict named.0 typed.0) _ j typed.2 in
    let is : judged_by trees named.0 typed.0 ≡ j = let made = apart.2 in cc in
    subst (AreJudged trees word) is (record { trees_are = refl; shaped = shaped.1; named = named.1; read = typed.1; apart = apart.1 })

pub judged-sound : (files : List (List ℕ)) (word : Option (List ℕ)) (j : Judged) → judged_files files word ≡ Ok j → IsSoundly word j.typed
unfolding judged_files
judged-sound files word j h =
    let trees = answered (trees_in files) _ j h in
    let steps = trees-judged trees.0 word j trees.2 in
    typed-sound trees.0 word j.space j.typed steps.shaped steps.named steps.read steps.apart

-- the trees that were judged are those of files
judged-read : (files : List (List ℕ)) (word : Option (List ℕ)) (j : Judged) → judged_files files word ≡ Ok j → AllByRecursion IsRead j.trees × AreJudged j.trees word j
unfolding judged_files
judged-read files word j h =
    let trees = answered (trees_in files) _ j h in
    let steps = trees-judged trees.0 word j trees.2 in
    let same = sym steps.trees_are in
    (subst (AllByRecursion IsRead) same (trees-read files trees.0 trees.1), subst (λ ts. AreJudged ts word j) same steps)

-- each argument of a command of the plan of what was judged has a used type of the table that is no open binary
judged-arguments : (firsts : Firsts) (files : List (List ℕ)) (word : Option (List ℕ)) (j : Judged) (plan : SeenPlan) → judged_files files word ≡ Ok j → plan_of firsts j ≡ Ok plan → OnSaidArguments (IsUsedClosed j.typed.table j.typed.used) plan.components
judged-arguments firsts files word j plan h planned =
    let judged = judged-read files word j h in
    let steps = judged.1 in
    let unbroken = table_unbroken j.trees j.space word j.typed steps.read in
    let none = least-none (table_breaks j.trees j.space word) unbroken.0 in
    let types = typed_of j.trees j.space word in
    let used = all-used j.trees j.space word steps.named none steps.shaped judged.0 in
    subst (λ (s : SheetTypes). OnSaidArguments (IsUsedClosed s.table s.used) plan.components) unbroken.1
    (plan-has (IsUsedClosed types.table types.used) j.trees j.space j.typed.table (firsts j.typed.table) plan planned used)

-- what holds of all that may be judged so holds of what is answered
pub answered_judged : (P : Judged → Type 0) (r : Result Judged (Fail Refusal)) (whole : Result Judged Refusal) → ((j : Judged) → whole ≡ Ok j → P j) → Answers (λ j. j) r whole → IfOk r P
answered_judged P (Ok j) whole h a = h j a
answered_judged P (Err e) whole h a = tt

-- ---- sheets

-- what was judged, and the plan of it, of which a sheet is made
record IsMade (firsts : Firsts) (files : List (List ℕ)) (word : Option (List ℕ)) (sheet : SeenSheet) : Type 0 where
  judged : Judged
  judged_is : judged_files files word ≡ Ok judged
  plan : SeenPlan
  planned : plan_of firsts judged ≡ Ok plan
  is : sheet_of judged.space judged.typed plan ≡ sheet

sheet-made : (firsts : Firsts) (files : List (List ℕ)) (word : Option (List ℕ)) (sheet : SeenSheet) → compiled firsts files word ≡ Ok sheet → IsMade firsts files word sheet
unfolding compiled
sheet-made firsts files word sheet h =
    let judged = answered (judged_files files word) (with_plan firsts) sheet h in
    let j = judged.0 in
    let planned = answered (plan_of firsts j) _ sheet judged.2 in
    record { judged = j; judged_is = judged.1; plan = planned.0; planned = planned.1; is = let made = planned.2 in cc }

pub sheets-sound : SheetsAreSound
sheets-sound firsts files word sheet h =
    let made = sheet-made firsts files word sheet h in
    let s = judged-sound files word made.judged made.judged_is in
    let arguments = judged-arguments firsts files word made.judged made.plan made.judged_is made.planned in
    subst (IsSound word) made.is (record { rules = s.rules; named = s.named; clear = s.clear; solid = s.solid; asked = s.asked; used = s.used; arguments = arguments })

-- so are the arguments of the commands of what is answered
pub sheet-carries : (files : List (List ℕ)) (word : Option (List ℕ)) (j : Judged) → judged_files files word ≡ Ok j → (r : Result Sheet (Fail Refusal)) → WhereFirstsAreTold (λ firsts. Answers seen_sheet r (with_plan firsts j)) → IfOk r (λ s. ArgumentsAreUsed s.table s.used s.plan)
sheet-carries files word j h (Err e) a = tt
sheet-carries files word j h (Ok s) a =
    let told = firsts-told in
    let planned = answered (plan_of told.0 j) _ (seen_sheet s) (a told.0 told.1) in
    let is : sheet_of j.space j.typed planned.0 ≡ seen_sheet s = let made = planned.2 in cc in
    of-seen (IsUsedClosed s.table s.used) s.plan
    (subst (λ (x : SeenSheet). OnSaidArguments (IsUsedClosed x.table x.used) x.plan.components) is (judged-arguments told.0 files word j planned.0 h planned.1))

-- ---- used types

-- one step has one answer
same_ok : {A : Type 0} (r : Result A Refusal) (a b : A) → r ≡ Ok a → r ≡ Ok b → a ≡ b
same_ok r a b e f = cc

-- each used type that was judged is clear
judged-clear : (trees : List (List Node)) (word : Option (List ℕ)) (j : Judged) → judged_trees trees word ≡ Ok j → (names : Names) (typed : SheetTypes) → names_in trees ≡ Ok names → table_read trees names word ≡ Ok typed
    → (id : ℕ) → Named typed.used id → open_of j.typed.table id ≡ None → IsClear j.typed.table id
judged-clear trees word j h names typed found types id used closed =
    let steps = trees-judged trees word j h in
    let same_names : names ≡ j.space = same_ok (names_in trees) names j.space found steps.named in
    let same_typed : typed ≡ j.typed = same_ok (table_read trees j.space word) typed j.typed (subst (λ n. table_read trees n word ≡ Ok typed) same_names types) steps.read in
    let sound = typed-sound trees word j.space j.typed steps.shaped steps.named steps.read steps.apart in
    used_clear trees j.space word j.typed (table_unbroken trees j.space word j.typed steps.read).1 sound.rules steps.apart id (subst (λ (t : SheetTypes). Named t.used id) same_typed used) closed

files-clear : (files : List (List ℕ)) (word : Option (List ℕ)) (j : Judged) → judged_files files word ≡ Ok j → (trees : List (List Node)) (names : Names) (typed : SheetTypes) → trees_in files ≡ Ok trees → names_in trees ≡ Ok names → table_read trees names word ≡ Ok typed
    → (id : ℕ) → Named typed.used id → open_of j.typed.table id ≡ None → IsClear j.typed.table id
unfolding judged_files
files-clear files word j h trees names typed read found types id used closed =
    let own = answered (trees_in files) _ j h in
    let same : own.0 ≡ trees = let a = own.1 in cc in
    judged-clear trees word j (subst (λ ts. judged_trees ts word ≡ Ok j) same own.2) names typed found types id used closed

pub used-types-clear : UsedTypesAreClear
used-types-clear firsts files word sheet h trees names typed read found types id used closed =
    let made = sheet-made firsts files word sheet h in
    let table : made.judged.typed.table ≡ sheet.table = ap (λ (s : SeenSheet). s.table) made.is in
    subst (λ t. IsClear t id) table
    (files-clear files word made.judged made.judged_is trees names typed read found types id used (subst (λ t. open_of t id ≡ None) (sym table) closed))
