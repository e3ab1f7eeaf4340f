-- A sheet is refused for the least of all that it breaks.
use Rattle.std.proofs.Common.{◌≡◌, ℕ, List, [], ◌∷◌, Option, Some, None, Result, Ok, Err, refl, sym, ap, subst, ◌∙◌}
use Rattle.std.specs.Prelude.{IsOk}
use Rattle.eds_base.specs.declared.refusal.Refusal.{Refusal}
use Rattle.eds_base.specs.Answering.{◌>>=◌}
use Rattle.eds_base.specs.Refusals.{first_of, least}
use Rattle.eds_tree.specs.declared.tree.Node.{Node}
use Rattle.eds_tree.specs.ShapeCheck.{shape_breaks, shape_verdict, unless_broken}
use Rattle.eds_names.specs.LookUp.{Names, names_in, names_of, duplicates, unless as names_unless}
use Rattle.eds_read_types.specs.declared.table.SheetTypes.{SheetTypes}
use Rattle.eds_read_types.specs.TableBreaks.{table_breaks}
use Rattle.eds_read_types.specs.SheetTable.{sheet_table}
use Rattle.eds_read_types.specs.TableRead.{typed_of, unless as types_unless, table_read}
use Rattle.eds_generic.specs.Reading.{faces_of}
use Rattle.eds_read_comp.specs.Plans.{SeenPlan, component_breaks, plan_said, unless as plan_unless}
use Rattle.eds_sheet.specs.declared.judged.Judged.{Judged}
use Rattle.eds_sheet.specs.Files.{trees_in, reading_breaks}
use Rattle.eds_sheet.specs.Firsts.{Firsts}
use Rattle.eds_sheet.specs.Overlaps.{overlap_breaks, overlap_verdict}
use Rattle.eds_sheet.specs.Compiled.{tree_breaks, breaks_where_read, all_breaks, sheet_of, judged_by, judged_trees, judged_files, with_plan, compiled}
use Rattle.eds_sheet.proofs.Stages.{answered, or_then, least-judged_first, stop_of, stop_of-Err, stop_of-then}
use Rattle.eds_sheet.proofs.FilesLemmas.{least-reading}

-- ---- the stops of the steps

unless_broken-stop : (o : Option Refusal) → stop_of (unless_broken o) ≡ o
unless_broken-stop None = refl
unless_broken-stop (Some r) = refl

names-stop : (trees : List (List Node)) → stop_of (names_in trees) ≡ least (duplicates trees)
unfolding names_in
names-stop trees = go (least (duplicates trees))
  where
    go : (o : Option Refusal) → stop_of (names_unless o (names_of trees)) ≡ o
    go None = refl
    go (Some r) = refl

pub names-are : (trees : List (List Node)) (names : Names) → names_in trees ≡ Ok names → names ≡ names_of trees
unfolding names_in
names-are trees names h = go (least (duplicates trees)) h
  where
    go : (o : Option Refusal) → names_unless o (names_of trees) ≡ Ok names → names ≡ names_of trees
    go None e = cc
    go (Some r) e = absurd (cc)

types-stop : (trees : List (List Node)) (names : Names) (word : Option (List ℕ)) → stop_of (table_read trees names word) ≡ least (table_breaks trees names word)
unfolding table_read
types-stop trees names word = go (least (table_breaks trees names word))
  where
    go : (o : Option Refusal) → stop_of (types_unless o (typed_of trees names word)) ≡ o
    go None = refl
    go (Some r) = refl

-- ---- trees

typed-is : (trees : List (List Node)) (names : Names) (word : Option (List ℕ)) (typed : SheetTypes) → table_read trees names word ≡ Ok typed → typed_of trees names word ≡ typed
unfolding table_read
typed-is trees names word typed h = go (least (table_breaks trees names word)) h
  where
    go : (o : Option Refusal) → types_unless o (typed_of trees names word) ≡ Ok typed → typed_of trees names word ≡ typed
    go None e = cc
    go (Some r) e = absurd (cc)

-- ---- what was judged

-- the types of which the containers are judged
abbrev apart_from : List (List Node) → Names → SheetTypes → Result Judged Refusal
apart_from trees names typed = overlap_verdict names typed >>= λ apart. Ok (judged_by trees names typed)

then-judged : (j : Judged) (o : Option Refusal) → stop_of (unless_broken o >>= λ apart. Ok j) ≡ o
then-judged j None = refl
then-judged j (Some r) = refl

module _ (trees : List (List Node)) (word : Option (List ℕ)) where
  typed-stop : (names : Names) → stop_of (table_read trees names word >>= λ typed. apart_from trees names typed) ≡ or_then (least (table_breaks trees names word)) (least (overlap_breaks names (typed_of trees names word)))
  typed-stop names =
      let overlaps = least (overlap_breaks names (typed_of trees names word)) in
      stop_of-then (table_read trees names word) _ overlaps
      (λ typed h. subst (λ (s : SheetTypes). stop_of (apart_from trees names s) ≡ overlaps) (typed-is trees names word typed h) (then-judged (judged_by trees names (typed_of trees names word)) overlaps))
      ∙ ap (λ o. or_then o overlaps) (types-stop trees names word)

  -- what the names, the types and the overlaps stop
  abbrev types_first : Option Refusal
  types_first = or_then (least (table_breaks trees (names_of trees) word)) (least (overlap_breaks (names_of trees) (typed_of trees (names_of trees) word)))

  named-stop : (names : Names) → names_in trees ≡ Ok names → stop_of (table_read trees names word >>= λ typed. apart_from trees names typed) ≡ types_first
  named-stop names h = typed-stop names ∙ ap (λ ns. or_then (least (table_breaks trees ns word)) (least (overlap_breaks ns (typed_of trees ns word)))) (names-are trees names h)

  -- the stops of the steps, one after another
  judged-stop : stop_of (judged_trees trees word) ≡ or_then (least (shape_breaks trees)) (or_then (least (duplicates trees)) types_first)
  judged-stop =
      stop_of-then (shape_verdict trees) _ _ (λ shaped h.
      stop_of-then (names_in trees) _ _ named-stop
      ∙ ap (λ o. or_then o types_first) (names-stop trees))
      ∙ ap (λ o. or_then o (or_then (least (duplicates trees)) types_first)) (unless_broken-stop (least (shape_breaks trees)))

  -- what is judged, where nothing stops
  pub judged-is : (j : Judged) → judged_trees trees word ≡ Ok j → judged_by trees (names_of trees) (typed_of trees (names_of trees) word) ≡ j
  judged-is j h =
      let shaped = answered (shape_verdict trees) _ j h in
      let named = answered (names_in trees) _ j shaped.2 in
      let typed = answered (table_read trees named.0 word) _ j named.2 in
      let apart = answered (overlap_verdict named.0 typed.0) _ j typed.2 in
      let names_is : named.0 ≡ names_of trees = names-are trees named.0 named.1 in
      let typed_from : typed_of trees named.0 word ≡ typed.0 = typed-is trees named.0 word typed.0 typed.1 in
      let is : judged_by trees named.0 typed.0 ≡ j = let made = apart.2 in cc in
      subst (λ ns. judged_by trees ns (typed_of trees ns word) ≡ j) names_is (subst (λ (t : SheetTypes). judged_by trees named.0 t ≡ j) (sym typed_from) is)

-- ---- the plan

then-planned : {A : Type 0} (o : Option Refusal) (plan : SeenPlan) (f : SeenPlan → A) → stop_of (plan_unless o plan >>= λ p. Ok (f p)) ≡ o
then-planned None plan f = refl
then-planned (Some r) plan f = refl

module _ (firsts : Firsts) where
  plan-stop : (j : Judged) → stop_of (with_plan firsts j) ≡ least (component_breaks (firsts j.typed.table) j.trees j.space j.typed.table)
  plan-stop j =
      then-planned (least (component_breaks (firsts j.typed.table) j.trees j.space j.typed.table))
      (plan_said (firsts j.typed.table) j.trees j.space j.typed.table (faces_of j.trees j.space)) (sheet_of j.space j.typed)

  module _ (trees : List (List Node)) (word : Option (List ℕ)) where
    abbrev inner : List Refusal
    inner = component_breaks (firsts (sheet_table trees (names_of trees))) trees (names_of trees) (sheet_table trees (names_of trees))

    planned-stop : (j : Judged) → judged_trees trees word ≡ Ok j → stop_of (with_plan firsts j) ≡ least inner
    planned-stop j h = subst (λ (k : Judged). stop_of (with_plan firsts k) ≡ least inner) (judged-is trees word j h) (plan-stop (judged_by trees (names_of trees) (typed_of trees (names_of trees) word)))

    least-of_trees : least (tree_breaks firsts trees word) ≡ or_then (least (shape_breaks trees)) (or_then (least (duplicates trees))
        (or_then (least (table_breaks trees (names_of trees) word)) (or_then (least (overlap_breaks (names_of trees) (typed_of trees (names_of trees) word))) (least inner))))
    least-of_trees =
        let types = table_breaks trees (names_of trees) word in
        let overlaps = overlap_breaks (names_of trees) (typed_of trees (names_of trees) word) in
        least-judged_first (shape_breaks trees) _
        ∙ ap (or_then (least (shape_breaks trees))) (least-judged_first (duplicates trees) _
        ∙ ap (or_then (least (duplicates trees))) (least-judged_first types _
        ∙ ap (or_then (least types)) (least-judged_first overlaps inner)))

    four : (a b c d e : Option Refusal) → or_then (or_then a (or_then b (or_then c d))) e ≡ or_then a (or_then b (or_then c (or_then d e)))
    four None None None d e = refl
    four None None (Some r) d e = refl
    four None (Some r) c d e = refl
    four (Some r) b c d e = refl

    trees-stop : stop_of (judged_trees trees word >>= with_plan firsts) ≡ least (tree_breaks firsts trees word)
    trees-stop =
        stop_of-then (judged_trees trees word) (with_plan firsts) (least inner) planned-stop
        ∙ (ap (λ o. or_then o (least inner)) (judged-stop trees word)
        ∙ (four (least (shape_breaks trees)) (least (duplicates trees)) (least (table_breaks trees (names_of trees) word)) (least (overlap_breaks (names_of trees) (typed_of trees (names_of trees) word))) (least inner)
        ∙ sym least-of_trees))

-- ---- files

read-stop : (firsts : Firsts) (read : Result (List (List Node)) Refusal) (word : Option (List ℕ)) → stop_of ((read >>= λ trees. judged_trees trees word) >>= with_plan firsts) ≡ or_then (stop_of read) (least (breaks_where_read firsts read word))
read-stop firsts (Ok trees) word = trees-stop firsts trees word
read-stop firsts (Err r) word = refl

-- the stop of a sheet is the least of all that it breaks
pub compiled-stop : (firsts : Firsts) (files : List (List ℕ)) (word : Option (List ℕ)) → stop_of (compiled firsts files word) ≡ least (all_breaks firsts files word)
unfolding compiled judged_files
compiled-stop firsts files word =
    read-stop firsts (trees_in files) word
    ∙ (ap (λ o. or_then o (least (breaks_where_read firsts (trees_in files) word))) (sym (least-reading files))
    ∙ sym (least-judged_first (reading_breaks files) (breaks_where_read firsts (trees_in files) word)))

pub refused-by : (firsts : Firsts) (files : List (List ℕ)) (word : Option (List ℕ)) (r : Refusal) → compiled firsts files word ≡ Err r → least (all_breaks firsts files word) ≡ Some r
refused-by firsts files word r h = sym (compiled-stop firsts files word) ∙ ap stop_of h

pub refused-for : (firsts : Firsts) (files : List (List ℕ)) (word : Option (List ℕ)) (r : Refusal) → least (all_breaks firsts files word) ≡ Some r → compiled firsts files word ≡ Err r
refused-for firsts files word r h = stop_of-Err (compiled firsts files word) r (compiled-stop firsts files word ∙ h)

none-least : (rs : List Refusal) → least rs ≡ None → rs ≡ []
none-least [] h = refl
none-least (r ∷ rs) h = go (least rs) h
  where
    go : (o : Option Refusal) → first_of (Some r) o ≡ None → r ∷ rs ≡ []
    go None k = cc
    go (Some q) k = cc

ok-stop : {A : Type 0} (a : Result A Refusal) → IsOk a → stop_of a ≡ None
ok-stop (Ok x) h = refl
ok-stop (Err r) h = absurd (cc)

stop-ok : {A : Type 0} (a : Result A Refusal) → stop_of a ≡ None → IsOk a
stop-ok (Ok x) h = refl
stop-ok (Err r) h = absurd (cc)

pub accepted-whole : (firsts : Firsts) (files : List (List ℕ)) (word : Option (List ℕ)) → IsOk (compiled firsts files word) → all_breaks firsts files word ≡ []
accepted-whole firsts files word h = none-least (all_breaks firsts files word) (sym (compiled-stop firsts files word) ∙ ok-stop (compiled firsts files word) h)

pub whole-accepted : (firsts : Firsts) (files : List (List ℕ)) (word : Option (List ℕ)) → all_breaks firsts files word ≡ [] → IsOk (compiled firsts files word)
whole-accepted firsts files word h = stop-ok (compiled firsts files word) (compiled-stop firsts files word ∙ ap least h)
