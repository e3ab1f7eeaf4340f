-- The lines of joined texts, and what they mean.
use Rattle.std.proofs.Common.{subst, ◌≡◌, ℕ, zero, suc, ◌+◌, ◌||◌, not, Bool, true, false, List, [], ◌∷◌, ◌++◌, map, length, Result, Ok, Err, sum_by, refl, sym, ap, ◌∙◌, arith}
use Rattle.std.specs.List.{AllByRecursion, flat_map, list_any}
use Rattle.std.proofs.lemmas.List.{append_assoc, append-nil, map-append}
use Rattle.std.proofs.lemmas.List.Folds.{list_any-append}
use Rattle.std.proofs.lemmas.List.Sums.{sum_by-append}
use Rattle.std.proofs.lemmas.Slice.Eq.{bytes_eq-Decides}
use Rattle.eds_base.specs.Answering.{◌>>=◌}
use Rattle.eds_base.specs.Reading.{same}
use Rattle.eds_types.specs.Rows.{Table}
use Rattle.eds_types.specs.Rules.{KeepsRules}
use Rattle.eds_plan.specs.Lines.{Told, starts}
use Rattle.eds_plan.specs.Lines as lines
use Rattle.eds_plan.specs.declared.component.ComponentPlan.{ComponentPlan}
use Rattle.eds_plan.specs.declared.run.Wire.{Wire}
use Rattle.eds_script.specs.declared.why.BadLine.{BadLine}
use Rattle.eds_script.specs.declared.why.LineWhy.{LineWhy}
use Rattle.eds_script.specs.declared.words.Verb.{Verb}
use Rattle.eds_script.specs.Arrivals.{arrival_told}
use Rattle.eds_script.specs.Handing.{MayAllHappen, passed}
use Rattle.eds_script.specs.Joined.{EndsLines, HasNoWires, MoreMayHappen, TextsJoin, feeds, joined_with, shifted, time_told}
use Rattle.eds_script.specs.Known.{KnowsTypes}
use Rattle.eds_script.specs.Lines.{Numbered, before_others, ended, is_feed, is_skipped, numbered_from, pieces, script_lines, unskipped, without_return}
use Rattle.eds_script.specs.Meaning.{Meaning, wire, tick, comes, begun, is_tie, is_wire, line_says, meaning, meaning_from, saying_meaning, tied, time_of, ticks_by, ticks_of, wired_in}
use Rattle.eds_script.specs.More.{more_of, tied_by}
use Rattle.eds_script.specs.Numbers.{tick_of}
use Rattle.eds_script.specs.Scripts.{Plot, at_line, happenings_of, meanings, meanings_from, plot_of, script_of, wires_of}
use Rattle.eds_script.specs.Words.{Saying, ties, ticks, arrives, form}
use Rattle.eds_script.proofs.Handing.{Cover, coming-said, fitting-happens, free, tick-said}
use Rattle.eds_script.proofs.Scripting.{says, texts, time-more}
use Rattle.eds_script.proofs.Steps.{bound, inside}
use Rattle.eds_script.proofs.Starting.{from-start}

-- ---- pieces

-- the pieces in front of the last, where that is empty
record Closed (s : List ℕ) : Type 0 where
  front : List (List ℕ)
  cut : (u : List ℕ) → pieces (s ++ u) ≡ front ++ pieces u
  count : length front ≡ feeds s

-- the same, with one piece at least
record Opens (s : List ℕ) : Type 0 where
  first : List ℕ
  others : List (List ℕ)
  cut : (u : List ℕ) → pieces (s ++ u) ≡ first ∷ (others ++ pieces u)
  count : suc (length others) ≡ feeds s

opens : (c : ℕ) (cs : List ℕ) → EndsLines (c ∷ cs) → Opens (c ∷ cs)
opens c [] e = record { first = []; others = []; cut = λ u. rw e refl; count = rw e refl }
opens c (d ∷ cs) e = go (is_feed c) refl (opens d cs e)
  where
    go : (b : Bool) → is_feed c ≡ b → Opens (d ∷ cs) → Opens (c ∷ d ∷ cs)
    go true p o = record { first = []; others = o.first ∷ o.others; cut = λ u. rw p (ap (λ ps. [] ∷ ps) (o.cut u)); count = rw p (ap suc o.count) }
    go false p o = record { first = c ∷ o.first; others = o.others; cut = λ u. rw p (ap (before_others c) (o.cut u)); count = rw p o.count }

closed : (s : List ℕ) → EndsLines s → Closed s
closed [] e = record { front = []; cut = λ u. refl; count = refl }
closed (c ∷ cs) e = let o = opens c cs e in record { front = o.first ∷ o.others; cut = o.cut; count = o.count }

-- ---- lines

ended-front : (front : List (List ℕ)) (u : List ℕ) → ended (front ++ pieces u) ≡ map without_return front ++ ended (pieces u)
ended-front [] u = refl
ended-front (p ∷ []) u = one u
  where
    inside : (x : ℕ) (ps : List (List ℕ)) → ended (p ∷ before_others x ps) ≡ without_return p ∷ ended (before_others x ps)
    inside x [] = refl
    inside x (q ∷ qs) = refl

    one : (u : List ℕ) → ended (p ∷ pieces u) ≡ without_return p ∷ ended (pieces u)
    one [] = refl
    one (x ∷ xs) = go (is_feed x) refl
      where
        go : (b : Bool) → is_feed x ≡ b → ended (p ∷ pieces (x ∷ xs)) ≡ without_return p ∷ ended (pieces (x ∷ xs))
        go true e = rw e refl
        go false e = rw e (inside x (pieces xs))
ended-front (p ∷ q ∷ front) u = ap (λ ls. without_return p ∷ ls) (ended-front (q ∷ front) u)

numbered-more : (n : ℕ) (xs ys : List (List ℕ)) → numbered_from n (xs ++ ys) ≡ numbered_from n xs ++ numbered_from (n + length xs) ys
numbered-more n [] ys = ap (λ m. numbered_from m ys) (omega arith)
numbered-more n (x ∷ xs) ys = ap (λ ls. (n, x) ∷ ls) (numbered-more (n + 1) xs ys ∙ ap (λ m. numbered_from (n + 1) xs ++ numbered_from m ys) (omega arith))

unskipped-more : (xs ys : List Numbered) → unskipped (xs ++ ys) ≡ unskipped xs ++ unskipped ys
unskipped-more [] ys = refl
unskipped-more (x ∷ xs) ys = go (is_skipped x.1) refl (unskipped-more xs ys)
  where
    go : (b : Bool) → is_skipped x.1 ≡ b → unskipped (xs ++ ys) ≡ unskipped xs ++ unskipped ys → unskipped ((x ∷ xs) ++ ys) ≡ unskipped (x ∷ xs) ++ unskipped ys
    go true e ih = rw e ih
    go false e ih = rw e (ap (λ ls. x ∷ ls) ih)

-- a line with a number that is larger by so much
abbrev later : ℕ → Numbered → Numbered
later n l = (n + l.0, l.1)

numbered-later : (k n : ℕ) (xs : List (List ℕ)) → numbered_from (k + n) xs ≡ map (later k) (numbered_from n xs)
numbered-later k n [] = refl
numbered-later k n (x ∷ xs) = let next : k + n + 1 ≡ k + (n + 1) = omega arith in ap (λ ls. (k + n, x) ∷ ls) (ap (λ m. numbered_from m xs) next ∙ numbered-later k (n + 1) xs)

unskipped-later : (k : ℕ) (ls : List Numbered) → unskipped (map (later k) ls) ≡ map (later k) (unskipped ls)
unskipped-later k [] = refl
unskipped-later k (l ∷ ls) = go (is_skipped l.1) refl (unskipped-later k ls)
  where
    go : (b : Bool) → is_skipped l.1 ≡ b → unskipped (map (later k) ls) ≡ map (later k) (unskipped ls) → unskipped (map (later k) (l ∷ ls)) ≡ map (later k) (unskipped (l ∷ ls))
    go true e ih = rw e ih
    go false e ih = rw e (ap (λ xs. later k l ∷ xs) ih)

map-length : {A B : Type 0} (f : A → B) (xs : List A) → length (map f xs) ≡ length xs
map-length f [] = refl
map-length f (x ∷ xs) = ap suc (map-length f xs)

-- the lines of a text behind some pieces
lines-behind : (front : List (List ℕ)) (n : ℕ) (s u : List ℕ) → length front ≡ n → pieces (s ++ u) ≡ front ++ pieces u → script_lines (s ++ u) ≡ unskipped (numbered_from 1 (map without_return front)) ++ map (later n) (script_lines u)
unfolding script_lines
lines-behind front n s u len cut =
    let own = map without_return front in
    let moved : 1 + length own ≡ n + 1 = omega (arith, len, map-length without_return front) in
    ap (λ ps. unskipped (numbered_from 1 (ended ps))) cut ∙ ap (λ ls. unskipped (numbered_from 1 ls)) (ended-front front u)
    ∙ ap unskipped (numbered-more 1 own (ended (pieces u)) ∙ ap (λ m. numbered_from 1 own ++ numbered_from m (ended (pieces u))) moved)
    ∙ unskipped-more (numbered_from 1 own) (numbered_from (n + 1) (ended (pieces u)))
    ∙ ap (λ ls. unskipped (numbered_from 1 own) ++ ls) (ap unskipped (numbered-later n 1 (ended (pieces u))) ∙ unskipped-later n (numbered_from 1 (ended (pieces u))))

nothing_left : (k : ℕ) → map (later k) (script_lines []) ≡ []
unfolding script_lines
nothing_left k = refl

pub lines-join : (s u : List ℕ) → EndsLines s → script_lines (s ++ u) ≡ script_lines s ++ map (later (feeds s)) (script_lines u)
lines-join s u e =
    let k = closed s e in
    let whole : script_lines s ≡ unskipped (numbered_from 1 (map without_return k.front)) =
    sym (ap script_lines (append-nil s)) ∙ lines-behind k.front (feeds s) s [] k.count (k.cut []) ∙ ap (λ ls. unskipped (numbered_from 1 (map without_return k.front)) ++ ls) (nothing_left (feeds s)) ∙ append-nil (unskipped (numbered_from 1 (map without_return k.front))) in
    lines-behind k.front (feeds s) s u k.count (k.cut u) ∙ ap (λ ls. ls ++ map (later (feeds s)) (script_lines u)) (sym whole)

-- ---- wired ends

flat-append : (f : Numbered → List (List ℕ)) (xs ys : List Numbered) → flat_map f (xs ++ ys) ≡ flat_map f xs ++ flat_map f ys
flat-append f [] ys = refl
flat-append f (x ∷ xs) ys = ap (λ zs. f x ++ zs) (flat-append f xs ys) ∙ sym (append_assoc (f x) (flat_map f xs) (flat_map f ys))

flat_more : (f : Numbered → List (List ℕ)) (q : List ℕ) (xs ys : List Numbered) → list_any (same q) (flat_map f (xs ++ ys)) ≡ (list_any (same q) (flat_map f xs) || list_any (same q) (flat_map f ys))
flat_more f q xs ys = ap (list_any (same q)) (flat-append f xs ys) ∙ list_any-append (same q) (flat_map f xs) (flat_map f ys)

no_tie : (r : Result Saying LineWhy) → is_tie r ≡ false → tied r ≡ []
no_tie (Ok (ties lower upper)) e = absurd cc
no_tie (Ok (ticks number)) e = refl
no_tie (Ok (arrives verb end name rest)) e = refl
no_tie (Err w) e = refl

none_wired : (k : ℕ) (us : List Numbered) (q : List ℕ) → AllByRecursion (λ (l : Numbered). is_tie (form l.1) ≡ false) us → wired_in (map (later k) us) q ≡ false
none_wired k [] q h = refl
none_wired k (l ∷ us) q h = ap (λ ends. list_any (same q) (ends ++ flat_map (λ (m : Numbered). tied (form m.1)) (map (later k) us))) (no_tie (form l.1) h.0) ∙ none_wired k us q h.1

or_none : (b : Bool) → (b || false) ≡ b
or_none true = refl
or_none false = refl

wired-join : (k : ℕ) (ls us : List Numbered) → AllByRecursion (λ (l : Numbered). is_tie (form l.1) ≡ false) us → wired_in (ls ++ map (later k) us) ≡ wired_in ls
wired-join k ls us h = λ i q. (flat_more (λ (l : Numbered). tied (form l.1)) q ls (map (later k) us) ∙ ap (λ b. wired_in ls q || b) (none_wired k us q h) ∙ or_none (wired_in ls q)) i

-- ---- what lines mean

stopped : {w : LineWhy} (m : Meaning) → ◌≡◌ {A = Result Meaning LineWhy} (Err w) (Ok m) → ⊥
stopped m e = cc

-- the ends that a meaning ties
abbrev ties_by : Meaning → List Wire → List Wire
ties_by (wire lower upper) ws = record { line = 0; lower = lower; upper = upper } ∷ ws
ties_by (tick n) ws = ws
ties_by (comes x) ws = ws

module _ (t : Table) (plan : List ComponentPlan) (wired : List ℕ → Bool) where
  -- a line that ties no ends means the same late or not
  late-same : (late : Bool) (time : ℕ) (r : Result Saying LineWhy) → is_tie r ≡ false → (r >>= λ s. saying_meaning t plan wired late time s) ≡ (r >>= λ s. saying_meaning t plan wired true time s)
  late-same late time (Ok (ties lower upper)) e = absurd cc
  late-same late time (Ok (ticks number)) e = refl
  late-same late time (Ok (arrives verb end name rest)) e = refl
  late-same late time (Err w) e = refl

  -- what a line that means something ties
  tied-by : (q : List ℕ) (late : Bool) (time n : ℕ) (r : Result Saying LineWhy) (m : Meaning) (ms : List (ℕ × Meaning)) → (r >>= λ s. saying_meaning t plan wired late time s) ≡ Ok m
      → tied_by (wires_of ((n, m) ∷ ms)) q ≡ (list_any (same q) (tied r) || tied_by (wires_of ms) q)
  tied-by q late time n (Err w) m ms e = absurd (stopped m e)
  tied-by q true time n (Ok (ties lower upper)) m ms e = absurd (stopped m e)
  tied-by q false time n (Ok (ties lower upper)) m ms e = subst (λ k. tied_by (wires_of ((n, k) ∷ ms)) q ≡ (list_any (same q) (lower ∷ upper ∷ []) || tied_by (wires_of ms) q)) (inside (wire lower upper) m e) (two (same q lower) (same q upper) (tied_by (wires_of ms) q))
    where
      two : (a b c : Bool) → ((a || b) || c) ≡ ((a || (b || false)) || c)
      two true b c = refl
      two false true c = refl
      two false false c = refl
  tied-by q late time n (Ok (ticks number)) m ms e = go (tick_of time number) e
    where
      go : (r : Result ℕ LineWhy) → (r >>= λ k. Ok (tick k)) ≡ Ok m → tied_by (wires_of ((n, m) ∷ ms)) q ≡ tied_by (wires_of ms) q
      go (Err w) h = absurd (stopped m h)
      go (Ok k) h = subst (λ x. tied_by (wires_of ((n, x) ∷ ms)) q ≡ tied_by (wires_of ms) q) (inside (tick k) m h) refl
  tied-by q late time n (Ok (arrives verb end name rest)) m ms e = go (arrival_told t plan wired verb end name rest) e
    where
      go : (r : Result Told LineWhy) → (r >>= λ x. Ok (comes x)) ≡ Ok m → tied_by (wires_of ((n, m) ∷ ms)) q ≡ tied_by (wires_of ms) q
      go (Err w) h = absurd (stopped m h)
      go (Ok x) h = subst (λ y. tied_by (wires_of ((n, y) ∷ ms)) q ≡ tied_by (wires_of ms) q) (inside (comes x) m h) refl

  -- ---- meanings one after another

  abbrev both : List (ℕ × Meaning) → Result (List (ℕ × Meaning)) BadLine → Result (List (ℕ × Meaning)) BadLine
  both ms r = r >>= λ ns. Ok (ms ++ ns)

  both-more : (p : ℕ × Meaning) (ms : List (ℕ × Meaning)) (r : Result (List (ℕ × Meaning)) BadLine) → (both ms r >>= λ xs. Ok (p ∷ xs)) ≡ both (p ∷ ms) r
  both-more p ms (Ok ns) = refl
  both-more p ms (Err b) = refl

  both-none : (r : Result (List (ℕ × Meaning)) BadLine) → r ≡ both [] r
  both-none (Ok ns) = refl
  both-none (Err b) = refl

  -- where the first lines mean these, the meanings of all are these and those of the rest behind them
  meanings-join : (before : List (List ℕ)) (xs ys : List Numbered) (ms : List (ℕ × Meaning)) → meanings t plan wired before xs ≡ Ok ms
      → meanings t plan wired before (xs ++ ys) ≡ both ms (meanings t plan wired (before ++ texts xs) ys)
  meanings-join before [] ys ms h =
      let none : [] ≡ ms = all_in [] ms h in
      subst (λ ns. meanings t plan wired before ys ≡ both ns (meanings t plan wired (before ++ []) ys)) none (ap (λ b. meanings t plan wired b ys) (sym (append-nil before)) ∙ both-none (meanings t plan wired (before ++ []) ys))
    where
      all_in : (x y : List (ℕ × Meaning)) → ◌≡◌ {A = Result (List (ℕ × Meaning)) BadLine} (Ok x) (Ok y) → x ≡ y
      all_in x y e = cc
  meanings-join before (x ∷ xs) ys ms h = go (at_line x.0 (meaning t plan wired before x.1)) h (λ ns g. meanings-join (before ++ x.1 ∷ []) xs ys ns g)
    where
      front : (before ++ x.1 ∷ []) ++ texts xs ≡ before ++ texts (x ∷ xs)
      front = append_assoc before (x.1 ∷ []) (texts xs)

      go : (r : Result Meaning BadLine) → (r >>= λ m. meanings t plan wired (before ++ x.1 ∷ []) xs >>= λ ns. Ok ((x.0, m) ∷ ns)) ≡ Ok ms
          → ((ns : List (ℕ × Meaning)) → meanings t plan wired (before ++ x.1 ∷ []) xs ≡ Ok ns → meanings t plan wired (before ++ x.1 ∷ []) (xs ++ ys) ≡ both ns (meanings t plan wired ((before ++ x.1 ∷ []) ++ texts xs) ys))
          → (r >>= λ m. meanings t plan wired (before ++ x.1 ∷ []) (xs ++ ys) >>= λ ns. Ok ((x.0, m) ∷ ns)) ≡ both ms (meanings t plan wired (before ++ texts (x ∷ xs)) ys)
      go (Err b) e ih = absurd cc
      go (Ok m) e ih = rest (meanings t plan wired (before ++ x.1 ∷ []) xs) e ih
        where
          rest : (r : Result (List (ℕ × Meaning)) BadLine) → (r >>= λ ns. Ok ((x.0, m) ∷ ns)) ≡ Ok ms
              → ((ns : List (ℕ × Meaning)) → r ≡ Ok ns → meanings t plan wired (before ++ x.1 ∷ []) (xs ++ ys) ≡ both ns (meanings t plan wired ((before ++ x.1 ∷ []) ++ texts xs) ys))
              → (meanings t plan wired (before ++ x.1 ∷ []) (xs ++ ys) >>= λ ns. Ok ((x.0, m) ∷ ns)) ≡ both ms (meanings t plan wired (before ++ texts (x ∷ xs)) ys)
          rest (Err b) e ih = absurd cc
          rest (Ok ns) e ih =
              let all : (x.0, m) ∷ ns ≡ ms = cc in
              ap (λ r. r >>= λ zs. Ok ((x.0, m) ∷ zs)) (ih ns refl) ∙ both-more (x.0, m) ns (meanings t plan wired ((before ++ x.1 ∷ []) ++ texts xs) ys)
              ∙ ap (λ zs. both zs (meanings t plan wired ((before ++ x.1 ∷ []) ++ texts xs) ys)) all ∙ ap (λ b. both ms (meanings t plan wired b ys)) front

  -- ---- lines that go on

  abbrev NoTies : List Numbered → Type 0
  NoTies us = AllByRecursion (λ (l : Numbered). is_tie (form l.1) ≡ false) us

  -- a meaning with a number that is larger by so much
  abbrev moved : ℕ → ℕ × Meaning → ℕ × Meaning
  moved k p = (k + p.0, p.1)

  abbrev moved_all : ℕ → Result (List (ℕ × Meaning)) BadLine → Result (List (ℕ × Meaning)) BadLine
  moved_all k (Ok ms) = Ok (map (moved k) ms)
  moved_all k (Err b) = Err (record { line = k + b.line; why = b.why })

  time-last : (before : List (List ℕ)) (line : List ℕ) → time_of (before ++ line ∷ []) ≡ time_of before + ticks_of (form line)
  time-last before line = time-more before line

  later-means : (now k : ℕ) (before own : List (List ℕ)) (us : List Numbered) → time_of before ≡ now + time_of own → NoTies us
      → meanings t plan wired before (map (later k) us) ≡ moved_all k (meanings_from t plan wired true now own us)
  later-means now k before own [] e h = refl
  later-means now k before own (l ∷ us) e h =
      ap (λ r. at_line (k + l.0) r >>= λ m. meanings t plan wired (before ++ l.1 ∷ []) (map (later k) us) >>= λ ms. Ok ((k + l.0, m) ∷ ms)) same
      ∙ go (meaning_from t plan wired true now own l.1) (later-means now k (before ++ l.1 ∷ []) (own ++ l.1 ∷ []) us behind h.1)
    where
      same : meaning t plan wired before l.1 ≡ meaning_from t plan wired true now own l.1
      same = from-start t plan wired before l.1 ∙ ap (λ n. line_says t plan wired (begun before) n l.1) e ∙ late-same (begun before) (now + time_of own) (form l.1) h.0

      behind : time_of (before ++ l.1 ∷ []) ≡ now + time_of (own ++ l.1 ∷ [])
      behind = let a = time-more before l.1 in let b = time-more own l.1 in omega (arith, a, b, e)

      go : (r : Result Meaning LineWhy) → meanings t plan wired (before ++ l.1 ∷ []) (map (later k) us) ≡ moved_all k (meanings_from t plan wired true now (own ++ l.1 ∷ []) us)
          → (at_line (k + l.0) r >>= λ m. meanings t plan wired (before ++ l.1 ∷ []) (map (later k) us) >>= λ ms. Ok ((k + l.0, m) ∷ ms))
          ≡ moved_all k (at_line l.0 r >>= λ m. meanings_from t plan wired true now (own ++ l.1 ∷ []) us >>= λ ms. Ok ((l.0, m) ∷ ms))
      go (Err w) ih = refl
      go (Ok m) ih = ap (λ r. r >>= λ ms. Ok ((k + l.0, m) ∷ ms)) ih ∙ rest (meanings_from t plan wired true now (own ++ l.1 ∷ []) us)
        where
          rest : (r : Result (List (ℕ × Meaning)) BadLine) → (moved_all k r >>= λ ms. Ok ((k + l.0, m) ∷ ms)) ≡ moved_all k (r >>= λ ms. Ok ((l.0, m) ∷ ms))
          rest (Ok ms) = refl
          rest (Err b) = refl

  -- no wires come of them
  abbrev AreTold : List (ℕ × Meaning) → Type 0
  AreTold ms = AllByRecursion (λ (p : ℕ × Meaning). is_wire p.1 ≡ false) ms

  told : (now : ℕ) (own : List (List ℕ)) (us : List Numbered) (ms : List (ℕ × Meaning)) → NoTies us → meanings_from t plan wired true now own us ≡ Ok ms → AreTold ms
  told now own [] ms h e = let none : [] ≡ ms = cc in subst AreTold none tt
  told now own (l ∷ us) ms h e = go (meaning_from t plan wired true now own l.1) refl e (λ ns g. told now (own ++ l.1 ∷ []) us ns h.1 g)
    where
      go : (r : Result Meaning LineWhy) → meaning_from t plan wired true now own l.1 ≡ r → (at_line l.0 r >>= λ m. meanings_from t plan wired true now (own ++ l.1 ∷ []) us >>= λ ns. Ok ((l.0, m) ∷ ns)) ≡ Ok ms
          → ((ns : List (ℕ × Meaning)) → meanings_from t plan wired true now (own ++ l.1 ∷ []) us ≡ Ok ns → AreTold ns) → AreTold ms
      go (Err w) q e ih = absurd cc
      go (Ok m) q e ih = rest (meanings_from t plan wired true now (own ++ l.1 ∷ []) us) refl e
        where
          no_wire : is_wire m ≡ false
          no_wire = sym (says t plan wired true (now + time_of own) (form l.1) m q).0 ∙ h.0

          rest : (r : Result (List (ℕ × Meaning)) BadLine) → meanings_from t plan wired true now (own ++ l.1 ∷ []) us ≡ r → (r >>= λ ns. Ok ((l.0, m) ∷ ns)) ≡ Ok ms → AreTold ms
          rest (Err b) p e = absurd cc
          rest (Ok ns) p e = let all : (l.0, m) ∷ ns ≡ ms = cc in subst AreTold all (no_wire, ih ns p)

  -- ---- scripts

  wires-join : (ms ns : List (ℕ × Meaning)) → wires_of (ms ++ ns) ≡ wires_of ms ++ wires_of ns
  wires-join [] ns = refl
  wires-join ((n, wire lower upper) ∷ ms) ns = ap (λ ws. record { line = n; lower = lower; upper = upper } ∷ ws) (wires-join ms ns)
  wires-join ((n, tick i) ∷ ms) ns = wires-join ms ns
  wires-join ((n, comes x) ∷ ms) ns = wires-join ms ns

  happenings-join : (ms ns : List (ℕ × Meaning)) → happenings_of (ms ++ ns) ≡ happenings_of ms ++ happenings_of ns
  happenings-join [] ns = refl
  happenings-join ((n, wire lower upper) ∷ ms) ns = happenings-join ms ns
  happenings-join ((n, tick i) ∷ ms) ns = ap (λ hs. (n, lines.passes i) ∷ hs) (happenings-join ms ns)
  happenings-join ((n, comes x) ∷ ms) ns = ap (λ hs. (n, x) ∷ hs) (happenings-join ms ns)

  no-wires : (k : ℕ) (ms : List (ℕ × Meaning)) → AreTold ms → wires_of (map (moved k) ms) ≡ []
  no-wires k [] h = refl
  no-wires k ((n, wire lower upper) ∷ ms) h = absurd (let f = h.0 in cc)
  no-wires k ((n, tick i) ∷ ms) h = no-wires k ms h.1
  no-wires k ((n, comes x) ∷ ms) h = no-wires k ms h.1

  moved-happen : (k : ℕ) (ms : List (ℕ × Meaning)) → happenings_of (map (moved k) ms) ≡ map (shifted k) (happenings_of ms)
  moved-happen k [] = refl
  moved-happen k ((n, wire lower upper) ∷ ms) = moved-happen k ms
  moved-happen k ((n, tick i) ∷ ms) = ap (λ hs. (k + n, lines.passes i) ∷ hs) (moved-happen k ms)
  moved-happen k ((n, comes x) ∷ ms) = ap (λ hs. (k + n, x) ∷ hs) (moved-happen k ms)

  -- the ends of the wires that lines mean are those in wire lines
  tied-all : (q : List ℕ) (before : List (List ℕ)) (xs : List Numbered) (ms : List (ℕ × Meaning)) → meanings t plan wired before xs ≡ Ok ms → tied_by (wires_of ms) q ≡ wired_in xs q
  tied-all q before [] ms h = let none : [] ≡ ms = cc in subst (λ ns. tied_by (wires_of ns) q ≡ false) none refl
  tied-all q before (x ∷ xs) ms h = go (meaning t plan wired before x.1) refl h (λ ns g. tied-all q (before ++ x.1 ∷ []) xs ns g)
    where
      go : (r : Result Meaning LineWhy) → meaning t plan wired before x.1 ≡ r → (at_line x.0 r >>= λ m. meanings t plan wired (before ++ x.1 ∷ []) xs >>= λ ns. Ok ((x.0, m) ∷ ns)) ≡ Ok ms
          → ((ns : List (ℕ × Meaning)) → meanings t plan wired (before ++ x.1 ∷ []) xs ≡ Ok ns → tied_by (wires_of ns) q ≡ wired_in xs q) → tied_by (wires_of ms) q ≡ wired_in (x ∷ xs) q
      go (Err w) p e ih = absurd cc
      go (Ok m) p e ih = rest (meanings t plan wired (before ++ x.1 ∷ []) xs) refl e
        where
          rest : (r : Result (List (ℕ × Meaning)) BadLine) → meanings t plan wired (before ++ x.1 ∷ []) xs ≡ r → (r >>= λ ns. Ok ((x.0, m) ∷ ns)) ≡ Ok ms → tied_by (wires_of ms) q ≡ wired_in (x ∷ xs) q
          rest (Err b) s e = absurd cc
          rest (Ok ns) s e =
              let all : (x.0, m) ∷ ns ≡ ms = cc in
              subst (λ zs. tied_by (wires_of zs) q ≡ wired_in (x ∷ xs) q) all
              (tied-by q (begun before) (time_of before) x.0 (form x.1) m ns (sym (from-start t plan wired before x.1) ∙ p) ∙ ap (λ b. list_any (same q) (tied (form x.1)) || b) (ih ns s) ∙ sym (list_any-append (same q) (tied (form x.1)) (flat_map (λ (l : Numbered). tied (form l.1)) xs)))

-- ---- time

time-first : (line : List ℕ) (rest : List (List ℕ)) → time_of (line ∷ rest) ≡ ticks_of (form line) + time_of rest
time-first line rest = sum_by-append (λ l. ticks_of (form l)) (line ∷ []) rest ∙ ap (λ n. n + time_of rest) (one (ticks_of (form line)))
  where
    one : (n : ℕ) → sum_by (λ (l : List ℕ). n) (line ∷ []) ≡ n
    one n = omega arith

module _ (t : Table) (rules : KeepsRules t) (plan : List ComponentPlan) (known : KnowsTypes t plan) (wired : List ℕ → Bool) where
  -- no time goes on by what comes
  no-time : (wires : List Wire) → Cover wired wires → (late : Bool) (time : ℕ) (r : Result Saying LineWhy) (x : Told) → (r >>= λ s. saying_meaning t plan wired late time s) ≡ Ok (comes x) → passed x ≡ 0
  no-time wires covered late time r x e =
      let c = coming-said t rules plan known wired late time r x e in
      (fitting-happens t rules plan known wired wires time c.1 x c.4 (free plan wired wires c.0 c.1 c.2 c.3 covered)).1

  times : (before : List (List ℕ)) (xs : List Numbered) (ms : List (ℕ × Meaning)) → meanings t plan wired before xs ≡ Ok ms → time_of (texts xs) ≡ time_told (happenings_of ms)
  times before [] ms h = let none : [] ≡ ms = cc in subst (λ ns. 0 ≡ time_told (happenings_of ns)) none refl
  times before (x ∷ xs) ms h = go (meaning t plan wired before x.1) refl h (λ ns g. times (before ++ x.1 ∷ []) xs ns g)
    where
      told_by : (m : Meaning) (ns : List (ℕ × Meaning)) → meaning t plan wired before x.1 ≡ Ok m → time_told (happenings_of ((x.0, m) ∷ ns)) ≡ ticks_by m + time_told (happenings_of ns)
      told_by (wire lower upper) ns e = omega arith
      told_by (tick n) ns e = refl
      told_by (comes y) ns e = ap (λ k. k + time_told (happenings_of ns)) (no-time [] tt (begun before) (time_of before) (form x.1) y (sym (from-start t plan wired before x.1) ∙ e))

      go : (r : Result Meaning LineWhy) → meaning t plan wired before x.1 ≡ r → (at_line x.0 r >>= λ m. meanings t plan wired (before ++ x.1 ∷ []) xs >>= λ ns. Ok ((x.0, m) ∷ ns)) ≡ Ok ms
          → ((ns : List (ℕ × Meaning)) → meanings t plan wired (before ++ x.1 ∷ []) xs ≡ Ok ns → time_of (texts xs) ≡ time_told (happenings_of ns)) → time_of (texts (x ∷ xs)) ≡ time_told (happenings_of ms)
      go (Err w) p e ih = absurd cc
      go (Ok m) p e ih = rest (meanings t plan wired (before ++ x.1 ∷ []) xs) refl e
        where
          rest : (r : Result (List (ℕ × Meaning)) BadLine) → meanings t plan wired (before ++ x.1 ∷ []) xs ≡ r → (r >>= λ ns. Ok ((x.0, m) ∷ ns)) ≡ Ok ms → time_of (texts (x ∷ xs)) ≡ time_told (happenings_of ms)
          rest (Err b) s e = absurd cc
          rest (Ok ns) s e =
              let all : (x.0, m) ∷ ns ≡ ms = cc in
              subst (λ zs. time_of (texts (x ∷ xs)) ≡ time_told (happenings_of zs)) all
              (time-first x.1 (texts xs) ∙ ap (λ k. k + time_of (texts xs)) (says t plan wired (begun before) (time_of before) (form x.1) m (sym (from-start t plan wired before x.1) ∙ p)).1 ∙ ap (λ k. ticks_by m + k) (ih ns s) ∙ sym (told_by m ns p))

  -- what lines have happen that go on may happen
  more-happens : (wires : List Wire) → Cover wired wires → (now : ℕ) (before : List (List ℕ)) (ls : List Numbered) (ms : List (ℕ × Meaning)) → meanings_from t plan wired true now before ls ≡ Ok ms
      → (wires_of ms ≡ []) × MayAllHappen t plan wires (now + time_of before) (happenings_of ms)
  more-happens wires covered now before [] ms h = let none : [] ≡ ms = cc in subst (λ ns. (wires_of ns ≡ []) × MayAllHappen t plan wires (now + time_of before) (happenings_of ns)) none (refl, tt)
  more-happens wires covered now before (l ∷ ls) ms h = go (meaning_from t plan wired true now before l.1) refl h (λ ns g. more-happens wires covered now (before ++ l.1 ∷ []) ls ns g)
    where
      Fine : List (ℕ × Meaning) → ℕ → Type 0
      Fine ns time = (wires_of ns ≡ []) × MayAllHappen t plan wires time (happenings_of ns)

      one : (m : Meaning) (ns : List (ℕ × Meaning)) → meaning_from t plan wired true now before l.1 ≡ Ok m → Fine ns ((now + time_of before) + ticks_by m) → Fine ((l.0, m) ∷ ns) (now + time_of before)
      one (wire lower upper) ns e k = absurd (let f = (says t plan wired true (now + time_of before) (form l.1) (wire lower upper) e).0 in no_late (form l.1) f e)
        where
          no_late : (r : Result Saying LineWhy) → is_tie r ≡ true → (r >>= λ s. saying_meaning t plan wired true (now + time_of before) s) ≡ Ok (wire lower upper) → ⊥
          no_late (Ok (ties a b)) f g = cc
          no_late (Ok (ticks number)) f g = cc
          no_late (Ok (arrives verb end name rest)) f g = cc
          no_late (Err w) f g = cc
      one (tick n) ns e k = (k.0, (tick-said t rules plan known wired true (now + time_of before) (form l.1) n e, k.1))
      one (comes x) ns e k =
          let c = coming-said t rules plan known wired true (now + time_of before) (form l.1) x e in
          let f = fitting-happens t rules plan known wired wires (now + time_of before) c.1 x c.4 (free plan wired wires c.0 c.1 c.2 c.3 covered) in
          (k.0, (f.0, subst (λ n. MayAllHappen t plan wires n (happenings_of ns)) (ap (λ n. (now + time_of before) + n) (sym f.1)) k.1))

      go : (r : Result Meaning LineWhy) → meaning_from t plan wired true now before l.1 ≡ r → (at_line l.0 r >>= λ m. meanings_from t plan wired true now (before ++ l.1 ∷ []) ls >>= λ ns. Ok ((l.0, m) ∷ ns)) ≡ Ok ms
          → ((ns : List (ℕ × Meaning)) → meanings_from t plan wired true now (before ++ l.1 ∷ []) ls ≡ Ok ns → Fine ns (now + time_of (before ++ l.1 ∷ []))) → Fine ms (now + time_of before)
      go (Err w) p e ih = absurd cc
      go (Ok m) p e ih = rest (meanings_from t plan wired true now (before ++ l.1 ∷ []) ls) refl e
        where
          later_is : now + time_of (before ++ l.1 ∷ []) ≡ (now + time_of before) + ticks_by m
          later_is = let a = time-more before l.1 in let b = (says t plan wired true (now + time_of before) (form l.1) m p).1 in omega (arith, a, b)

          rest : (r : Result (List (ℕ × Meaning)) BadLine) → meanings_from t plan wired true now (before ++ l.1 ∷ []) ls ≡ r → (r >>= λ ns. Ok ((l.0, m) ∷ ns)) ≡ Ok ms → Fine ms (now + time_of before)
          rest (Err b) s e = absurd cc
          rest (Ok ns) s e = let all : (l.0, m) ∷ ns ≡ ms = cc in subst (λ zs. Fine zs (now + time_of before)) all (one m ns p (subst (Fine ns) later_is (ih ns s)))

-- ---- the laws

covers_own : (all ws : List Wire) → ((q : List ℕ) → tied_by ws q ≡ true → tied_by all q ≡ true) → Cover (tied_by all) ws
covers_own all [] h = tt
covers_own all (w ∷ ws) h = ((h w.lower (first w), h w.upper (second w)), covers_own all ws (λ q e. h q (behind w q e)))
  where
    same-text : (q : List ℕ) → same q q ≡ true
    same-text q = (bytes_eq-Decides q q).1 refl

    first : (w : Wire) → tied_by (w ∷ ws) w.lower ≡ true
    first w = rw (same-text w.lower) refl

    second : (w : Wire) → tied_by (w ∷ ws) w.upper ≡ true
    second w = pick (same w.upper w.lower) (same w.upper w.upper) (tied_by ws w.upper) (same-text w.upper)
      where
        pick : (a b c : Bool) → b ≡ true → ((a || b) || c) ≡ true
        pick true b c e = refl
        pick false true c e = refl
        pick false false c e = cc

    behind : (w : Wire) (q : List ℕ) → tied_by ws q ≡ true → tied_by (w ∷ ws) q ≡ true
    behind w q e = ap (λ b. (same q w.lower || same q w.upper) || b) e ∙ any (same q w.lower || same q w.upper)
      where
        any : (b : Bool) → (b || true) ≡ true
        any true = refl
        any false = refl

pub more_may_happen : MoreMayHappen
more_may_happen t plan wires now octets q rules known h =
    let one = bound (meanings_from t plan (tied_by wires) true now [] (script_lines octets)) _ q h in
    let ms : List (ℕ × Meaning) = one.0 in
    let same : record { wires = wires_of ms; lines = happenings_of ms } ≡ q = plots (record { wires = wires_of ms; lines = happenings_of ms }) q one.2 in
    let k = more-happens t rules plan known (tied_by wires) wires (covers_own wires wires (λ p e. e)) now [] (script_lines octets) ms one.1 in
    subst (λ (p : Plot). (p.wires ≡ []) × MayAllHappen t plan wires now p.lines) same (k.0, subst (λ n. MayAllHappen t plan wires n (happenings_of ms)) (omega arith) k.1)
  where
    plots : (x y : Plot) → ◌≡◌ {A = Result Plot BadLine} (Ok x) (Ok y) → x ≡ y
    plots x y e = cc

pub texts_join : TextsJoin
texts_join t plan s u p rules known ends none h =
    let ls = script_lines s in
    let us = script_lines u in
    let n = feeds s in
    let w = wired_in ls in
    let one = bound (meanings t plan w [] ls) _ p h in
    let ms : List (ℕ × Meaning) = one.0 in
    let same : plot_of ms ≡ p = plots (plot_of ms) p one.2 in
    let from_start : time_told (plot_of ms).lines ≡ time_told (happenings_of ms) = omega arith in
    let now : time_of (texts ls) ≡ time_told p.lines = times t rules plan known w [] ls ms one.1 ∙ sym from_start ∙ ap (λ (x : Plot). time_told x.lines) same in
    let wired : w ≡ tied_by p.wires = (λ i q. (sym (tied-all t plan w q [] ls ms one.1) ∙ ap (λ (x : Plot). tied_by x.wires q) same) i) in
    let start : time_of (texts ls) ≡ time_told p.lines + 0 = omega (arith, now) in
    ap (λ xs. meanings t plan (wired_in xs) [] xs >>= λ ns. Ok (plot_of ns)) (lines-join s u ends)
    ∙ ap (λ f. meanings t plan f [] (ls ++ map (later n) us) >>= λ ns. Ok (plot_of ns)) (wired-join n ls us none)
    ∙ ap (λ r. r >>= λ ns. Ok (plot_of ns)) (meanings-join t plan w [] ls (map (later n) us) ms one.1 ∙ ap (both t plan w ms) (later-means t plan w (time_told p.lines) n (texts ls) [] us start none))
    ∙ last (meanings_from t plan w true (time_told p.lines) [] us) refl
    ∙ ap (λ (x : Plot). joined_with n x (meanings_from t plan w true (time_told p.lines) [] us >>= λ ns. Ok (record { wires = wires_of ns; lines = happenings_of ns }))) same
    ∙ ap (λ f. joined_with n p (meanings_from t plan f true (time_told p.lines) [] us >>= λ ns. Ok (record { wires = wires_of ns; lines = happenings_of ns }))) wired
  where
    plots : (x y : Plot) → ◌≡◌ {A = Result Plot BadLine} (Ok x) (Ok y) → x ≡ y
    plots x y e = cc

    w0 : List ℕ → Bool
    w0 = wired_in (script_lines s)

    ms0 : List (ℕ × Meaning)
    ms0 = (bound (meanings t plan w0 [] (script_lines s)) _ p h).0

    last : (r : Result (List (ℕ × Meaning)) BadLine) → meanings_from t plan w0 true (time_told p.lines) [] (script_lines u) ≡ r
        → (both t plan w0 ms0 (moved_all t plan w0 (feeds s) r) >>= λ ns. Ok (plot_of ns)) ≡ joined_with (feeds s) (plot_of ms0) (r >>= λ ns. Ok (record { wires = wires_of ns; lines = happenings_of ns }))
    last (Err b) e = refl
    last (Ok ns) e =
        let free_of : AreTold t plan w0 ns = told t plan w0 (time_told p.lines) [] (script_lines u) ns none e in
        let k = feeds s in
        let moved_on = map (moved t plan w0 k) ns in
        let ws : wires_of (ms0 ++ moved_on) ≡ wires_of ms0 = wires-join t plan w0 ms0 moved_on ∙ ap (λ x. wires_of ms0 ++ x) (no-wires t plan w0 k ns free_of) ∙ append-nil (wires_of ms0) in
        let hs : happenings_of (ms0 ++ moved_on) ≡ happenings_of ms0 ++ map (shifted k) (happenings_of ns) = happenings-join t plan w0 ms0 moved_on ∙ ap (λ x. happenings_of ms0 ++ x) (moved-happen t plan w0 k ns) in
        ap (λ x. Ok (record { wires = x; lines = (0, starts) ∷ happenings_of (ms0 ++ moved_on) })) ws ∙ ap (λ x. Ok (record { wires = wires_of ms0; lines = (0, starts) ∷ x })) hs
