-- Sheet files read one after another.
use Rattle.std.proofs.Common.{◌≡◌, ℕ, ◌+◌, ◌<◌, ◌≤◌, nat_le, List, [], ◌∷◌, ◌++◌, length, take, drop, get_or, sum_by, true, Result, Ok, Err, IsOk, inl, inr, refl, sym, ◌∙◌, ap, subst, arith}
use Rattle.std.proofs.lemmas.Bool.{le-leb}
use Rattle.std.proofs.lemmas.List.{drop_more, take-append-drop, take_more}
use Rattle.std.proofs.lemmas.List.Sums.{sum_by-cons}
use Rattle.eds_base.specs.Answering.{◌>>=◌}
use Rattle.eds_io.specs.Files.{Files}
use Rattle.eds_sheet.specs.Compiled.{SeenSheet}
use Rattle.eds_sheet.specs.Firsts.{Firsts}
use Rattle.eds_cmd.specs.declared.stop.Stop.{Stop}
use Rattle.std.specs.Result.{IsErrAnd}
use Rattle.eds_cmd.specs.declared.ended.Ended.{Ended}
use Rattle.eds_cmd.specs.declared.ended.Ended.TheVariants.{Stopped, Unread, Memory}
use Rattle.eds_cmd.specs.Endings.{EndedAs, OnUnread}
use Rattle.eds_cmd.specs.Answer.{AreThere, IsReached, IsReachedInput, IsReachedSheet, accepted, sheet_file, sheet_files}
use Rattle.eds_cmd.specs.Command.{CommandWords, ReadsInput, WorkWords, check, layout, on_input}
use Rattle.eds_cmd.specs.Limits.{sheet_count, sheet_octets, sheets_octets}

abbrev pub are : List (List ℕ) → Result (List (List ℕ)) Stop
are sheets = Ok sheets

abbrev pub is : List ℕ → Result (List ℕ) Stop
is octets = Ok octets

abbrev pub stop_at : Stop → Result (List (List ℕ)) Stop
stop_at stop = Err stop

-- the first file and those behind it
record Split (files : Files) (at : ℕ) (name : List ℕ) (names : List (List ℕ)) (sheets : List (List ℕ)) : Type 0 where
  first : List ℕ
  others : List (List ℕ)
  first_is : sheet_file files at name ≡ is first
  others_are : sheet_files files (at + length first) names ≡ are others
  all : sheets ≡ first ∷ others

others_read : (files : Files) (at : ℕ) (name : List ℕ) (names sheets : List (List ℕ)) (first : List ℕ) (r : Result (List (List ℕ)) Stop) → sheet_file files at name ≡ is first
    → sheet_files files (at + length first) names ≡ r → (r >>= λ others. are (first ∷ others)) ≡ are sheets → Split files at name names sheets
others_read files at name names sheets first (Ok others) one rest h = record { first = first; others = others; first_is = one; others_are = rest; all = sym (cc h) }
others_read files at name names sheets first (Err stop) one rest h = absurd (cc h)

first_read : (files : Files) (at : ℕ) (name : List ℕ) (names sheets : List (List ℕ)) (r : Result (List ℕ) Stop) → sheet_file files at name ≡ r
    → (r >>= λ first. sheet_files files (at + length first) names >>= λ others. are (first ∷ others)) ≡ are sheets → Split files at name names sheets
first_read files at name names sheets (Ok first) one h = others_read files at name names sheets first (sheet_files files (at + length first) names) one refl h
first_read files at name names sheets (Err stop) one h = absurd (cc h)

-- with some files before them
abbrev pub with_front : List (List ℕ) → Result (List (List ℕ)) Stop → Result (List (List ℕ)) Stop
with_front front read = read >>= λ sheets. are (front ++ sheets)

none_before : (r : Result (List (List ℕ)) Stop) → r ≡ with_front [] r
none_before (Ok sheets) = refl
none_before (Err stop) = refl

one_before : (first : List ℕ) (others : List (List ℕ)) (r : Result (List (List ℕ)) Stop) → (with_front others r >>= λ sheets. are (first ∷ sheets)) ≡ with_front (first ∷ others) r
one_before first others (Ok sheets) = refl
one_before first others (Err stop) = refl

appended : (files : Files) (at : ℕ) (name : List ℕ) (names more sheets : List (List ℕ)) (first : List ℕ) (others : List (List ℕ)) → sheet_file files at name ≡ is first → sheets ≡ first ∷ others
    → sheet_files files (at + length first) (names ++ more) ≡ with_front others (sheet_files files (at + length first + sum_by length others) more)
    → sheet_files files at (name ∷ (names ++ more)) ≡ with_front sheets (sheet_files files (at + sum_by length sheets) more)
appended files at name names more sheets first others first_is all behind_is =
    let sums : at + length first + sum_by length others ≡ at + sum_by length (first ∷ others) = omega (arith, sum_by-cons length first others) in
    rw (first_is, all, behind_is)
    (one_before first others (sheet_files files (at + length first + sum_by length others) more)
    ∙ ap (λ (n : ℕ). with_front (first ∷ others) (sheet_files files n more)) sums)

-- files that are read behind others
pub sheet_files-append : (files : Files) (at : ℕ) (names more sheets : List (List ℕ)) → sheet_files files at names ≡ are sheets
    → sheet_files files at (names ++ more) ≡ with_front sheets (sheet_files files (at + sum_by length sheets) more)
sheet_files-append files at [] more sheets h =
    let none : [] ≡ sheets = cc h in
    let here : at ≡ at + 0 = omega arith in
    rw (← none) (ap (λ (n : ℕ). sheet_files files n more) here ∙ none_before (sheet_files files (at + 0) more))
sheet_files-append files at (name ∷ names) more sheets h =
    let s = first_read files at name names sheets (sheet_file files at name) refl h in
    appended files at name names more sheets s.first s.others s.first_is s.all (sheet_files-append files (at + length s.first) names more s.others s.others_are)

-- a list by the item at a position
abbrev item_split : {A : Type 0} → List A → ℕ → A → Type 0
item_split xs i x = xs ≡ take i xs ++ x ∷ drop (i + 1) xs

split_at : {A : Type 0} (xs : List A) (i : ℕ) (x : A) → i < length xs → x ≡ get_or xs i x → item_split xs i x
split_at xs i x within x_is = sym (take-append-drop i xs) ∙ ap (λ (ys : List _). take i xs ++ ys) (drop_more xs i x within) ∙ ap (λ y. take i xs ++ y ∷ drop (i + 1) xs) (sym x_is)

-- one file more
pub sheet_files-more : (files : Files) (names : List (List ℕ)) (i before : ℕ) (name octets : List ℕ) (sheets : List (List ℕ)) → i < length names → name ≡ get_or names i name
    → before ≡ sum_by length sheets → sheet_files files 0 (take i names) ≡ are sheets → sheet_file files before name ≡ is octets
    → sheet_files files 0 (take (i + 1) names) ≡ are (sheets ++ octets ∷ [])
sheet_files-more files names i before name octets sheets within name_is all so_far one =
    let longer : take (i + 1) names ≡ take i names ++ name ∷ [] = take_more names i name within ∙ ap (λ (n : List ℕ). take i names ++ n ∷ []) (sym name_is) in
    let here : sheet_file files (0 + sum_by length sheets) name ≡ is octets = ap (λ (n : ℕ). sheet_file files n name) (omega (arith, all)) ∙ one in
    rw longer (sheet_files-append files 0 (take i names) (name ∷ []) sheets so_far ∙ rw here refl)

-- a file that stops the reading
pub sheet_files-stop : (files : Files) (names : List (List ℕ)) (i before : ℕ) (name : List ℕ) (stop : Stop) (sheets : List (List ℕ)) → i < length names → name ≡ get_or names i name
    → before ≡ sum_by length sheets → sheet_files files 0 (take i names) ≡ are sheets → sheet_file files before name ≡ Err stop
    → sheet_files files 0 names ≡ stop_at stop
sheet_files-stop files names i before name stop sheets within name_is all so_far one =
    let here : sheet_file files (0 + sum_by length sheets) name ≡ Err stop = ap (λ (n : ℕ). sheet_file files n name) (omega (arith, all)) ∙ one in
    ap (λ (ns : List (List ℕ)). sheet_files files 0 ns) (split_at names i name within name_is)
    ∙ sheet_files-append files 0 (take i names) (name ∷ drop (i + 1) names) sheets so_far
    ∙ rw here refl

pub sheet_reached : (files : Files) (names : List (List ℕ)) (i : ℕ) (name : List ℕ) (sheets : List (List ℕ)) → i < length names → name ≡ get_or names i name
    → sheet_files files 0 (take i names) ≡ are sheets → IsReachedSheet files names name
sheet_reached files names i name sheets within name_is so_far =
    let P : Result (List (List ℕ)) Stop → Type 0 = λ r. IsOk r in
    record { before = take i names; behind = drop (i + 1) names; split = split_at names i name within name_is; are_read = subst P (sym so_far) refl }

-- a ended that the reading of a file comes to is one of the reading of all
pub ended_told : (files : Files) (names : List (List ℕ)) (i before : ℕ) (name : List ℕ) (ended : Ended) (sheets : List (List ℕ)) → i < length names → name ≡ get_or names i name
    → before ≡ sum_by length sheets → sheet_files files 0 (take i names) ≡ are sheets → EndedAs ended (sheet_file files before name) → EndedAs ended (sheet_files files 0 names)
ended_told files names i before name (Stopped stop) sheets within name_is all so_far h = sheet_files-stop files names i before name stop sheets within name_is all so_far h
ended_told files names i before name (Unread n) sheets within name_is all so_far h = h
ended_told files names i before name Memory sheets within name_is all so_far h = h

-- the file of a read that failed is reached
pub ended_reached : (files : Files) (names : List (List ℕ)) (name : List ℕ) (ended : Ended) (Risen : List ℕ → Type 0) → IsReachedSheet files names name → OnUnread ended (λ n. (n ≡ name) × Risen n)
    → OnUnread ended (IsReachedSheet files names)
ended_reached files names name (Stopped stop) Risen reached h = h
ended_reached files names name (Unread n) Risen reached h = rw (h.0) reached
ended_reached files names name Memory Risen reached h = h

pub ended_by_sheets : (firsts : Firsts) (files : Files) (c : CommandWords) (ended : Ended) → length c.sheets ≤ sheet_count → OnUnread ended (IsReachedSheet files c.sheets) → OnUnread ended (IsReached firsts files c)
ended_by_sheets firsts files c (Stopped stop) few h = h
ended_by_sheets firsts files c (Unread n) few h = record { few = few; reached = inl h }
ended_by_sheets firsts files c Memory few h = h

-- the input file of that name is reached, where the sheet is accepted
input_reached : (firsts : Firsts) (files : Files) (c : CommandWords) (sheet : SeenSheet) (name : List ℕ) → accepted firsts files c ≡ Ok sheet → ReadsInput c.work name → IsReachedInput firsts files c name
input_reached firsts files c sheet name judged reads = go c.work refl reads
  where
    go : (work : WorkWords) → c.work ≡ work → ReadsInput work name → IsReachedInput firsts files c name
    go check same r = absurd r
    go (layout type_name) same r = absurd r
    go (on_input job) same r = let P : Result SeenSheet Stop → Type 0 = λ s. IsOk s in record { job = job; job_is = same; name_is = r; is_accepted = subst P (sym judged) refl }

pub ended_by_input : (firsts : Firsts) (files : Files) (c : CommandWords) (sheet : SeenSheet) (ended : Ended) → length c.sheets ≤ sheet_count → accepted firsts files c ≡ Ok sheet
    → OnUnread ended (ReadsInput c.work) → OnUnread ended (IsReached firsts files c)
ended_by_input firsts files c sheet (Stopped stop) few judged h = h
ended_by_input firsts files c sheet (Unread n) few judged h = record { few = few; reached = inr (input_reached firsts files c sheet n judged h) }
ended_by_input firsts files c sheet Memory few judged h = h

-- an error that is handed on
pub handed_on : {X : Type 0} (r : Result X Ended) (ended : Ended) → IsErrAnd r (λ e. e ≡ ended) → r ≡ Err ended
handed_on (Ok x) ended h = absurd h
handed_on (Err e) ended h = rw h refl

-- files that are there and within their limits are read
pub there_read : (files : Files) (at : ℕ) (names sheets : List (List ℕ)) → AreThere files names sheets → at + sum_by length sheets ≤ sheets_octets → sheet_files files at names ≡ are sheets
there_read files at [] [] there within = refl
there_read files at [] (o ∷ os) there within = absurd there
there_read files at (n ∷ ns) [] there within = absurd there
there_read files at (n ∷ ns) (o ∷ os) there within =
    let all : at + length o + sum_by length os ≤ sheets_octets = omega (arith, sum_by-cons length o os, within) in
    let own : nat_le (length o) sheet_octets ≡ true = le-leb (length o) sheet_octets there.1 in
    let so_far : nat_le (at + length o) sheets_octets ≡ true = le-leb (at + length o) sheets_octets (omega (arith, all)) in
    rw (there.0, own, so_far, there_read files (at + length o) ns os there.2 all) refl
