-- Scripts, read line by line.
use Rattle.std.proofs.Common.{subst, ◌≡◌, ℕ, zero, suc, ◌+◌, ◌<◌, ◌||◌, not, Bool, true, false, List, [], ◌∷◌, ◌++◌, map, take, drop, length, get_or, Result, Ok, Err, sum_by, refl, sym, ap, ◌∙◌, arith}
use Rattle.std.proofs.lemmas.List.{append_assoc, map-append}
use Rattle.std.proofs.lemmas.List.Folds.{list_any-append}
use Rattle.std.proofs.lemmas.List.Sums.{sum_by-append}
use Rattle.eds_base.specs.Answering.{◌>>=◌, StopsAs}
use Rattle.eds_base.specs.declared.fail.Fail.{Fail}
use Rattle.eds_base.specs.declared.fail.Fail.TheVariants.{Named, Memory}
use Rattle.eds_script.specs.Seen.{bad_line}
use Rattle.eds_types.specs.Rows.{Table}
use Rattle.eds_plan.specs.declared.component.ComponentPlan.{ComponentPlan}
use Rattle.eds_plan.specs.declared.run.Wire.{Wire}
use Rattle.eds_plan.specs.Lines.{Told}
use Rattle.eds_script.specs.declared.why.BadLine.{BadLine}
use Rattle.eds_script.specs.declared.why.LineWhy.{LineWhy}
use Rattle.eds_base.specs.Numbers.{decimal_value}
use Rattle.eds_script.specs.Arrivals.{arrival_told}
use Rattle.eds_script.specs.Lines.{Numbered}
use Rattle.eds_script.specs.Meaning.{Meaning, wire, tick, comes, is_wire, ticks_by, is_tie, ticks_of, begun, time_of, meaning_from, saying_meaning}
use Rattle.eds_script.specs.Numbers.{tick_of, is_in_time, are_digits}
use Rattle.eds_script.specs.Scripts.{Plot, happenings_of, meanings_from, plot_from, wires_of, with_meanings}
use Rattle.eds_script.specs.Words.{Saying, ties, ticks, arrives, form}

-- a script that goes on by meanings
abbrev grown : List Wire → List (ℕ × Told) → List (ℕ × Meaning) → Plot
grown ws hs ms = with_meanings (record { wires = ws; lines = hs }) ms

grown-more : (ws : List Wire) (hs : List (ℕ × Told)) (n : ℕ) (m : Meaning) (ms : List (ℕ × Meaning))
    → grown (ws ++ wires_of ((n, m) ∷ [])) (hs ++ happenings_of ((n, m) ∷ [])) ms ≡ grown ws hs ((n, m) ∷ ms)
grown-more ws hs n (wire lower upper) ms = rw (append_assoc ws (wires_of ((n, wire lower upper) ∷ [])) (wires_of ms), append_assoc hs [] (happenings_of ms)) refl
grown-more ws hs n (tick k) ms = rw (append_assoc ws [] (wires_of ms), append_assoc hs (happenings_of ((n, tick k) ∷ [])) (happenings_of ms)) refl
grown-more ws hs n (comes x) ms = rw (append_assoc ws [] (wires_of ms), append_assoc hs (happenings_of ((n, comes x) ∷ [])) (happenings_of ms)) refl

module _ (t : Table) (plan : List ComponentPlan) (wired : List ℕ → Bool) (first : Bool) (start : ℕ) where
  -- what is left to read makes of the script so far
  abbrev pub Left : List (List ℕ) → List Numbered → List Wire → List (ℕ × Told) → Result Plot BadLine
  Left before rest ws hs = meanings_from t plan wired first start before rest >>= λ ms. Ok (grown ws hs ms)

  -- one line more
  pub read-more : (before : List (List ℕ)) (line : Numbered) (rest : List Numbered) (ws : List Wire) (hs : List (ℕ × Told)) (m : Meaning)
      → meaning_from t plan wired first start before line.1 ≡ Ok m
      → Left (before ++ line.1 ∷ []) rest (ws ++ wires_of ((line.0, m) ∷ [])) (hs ++ happenings_of ((line.0, m) ∷ [])) ≡ Left before (line ∷ rest) ws hs
  read-more before line rest ws hs m is = rw is (go (meanings_from t plan wired first start (before ++ line.1 ∷ []) rest))
    where
      go : (r : Result (List (ℕ × Meaning)) BadLine) → (r >>= λ ms. Ok (grown (ws ++ wires_of ((line.0, m) ∷ [])) (hs ++ happenings_of ((line.0, m) ∷ [])) ms)) ≡ ((r >>= λ ms. Ok ((line.0, m) ∷ ms)) >>= λ ms. Ok (grown ws hs ms))
      go (Ok ms) = ap Ok (grown-more ws hs line.0 m ms)
      go (Err e) = refl

  -- a line that means nothing
  pub read-stop : (before : List (List ℕ)) (line : Numbered) (rest : List Numbered) (ws : List Wire) (hs : List (ℕ × Told)) (w : LineWhy)
      → meaning_from t plan wired first start before line.1 ≡ Err w → Left before (line ∷ rest) ws hs ≡ Err (record { line = line.0; why = w })
  read-stop before line rest ws hs w is = rw is refl

-- ---- what stands before the next line

-- what is said of a line's words and of what they mean
abbrev Agree : Result Saying LineWhy → Meaning → Type 0
Agree r m = (is_tie r ≡ is_wire m) × (ticks_of r ≡ ticks_by m)

agree-at : (r : Result Saying LineWhy) (m n : Meaning) → Agree r n → n ≡ m → Agree r m
agree-at r m n a e = subst (Agree r) e a

stopped : {w : LineWhy} (m : Meaning) → ◌≡◌ {A = Result Meaning LineWhy} (Err w) (Ok m) → ⊥
stopped m e = cc

inside : {A E : Type 0} (x y : A) → ◌≡◌ {A = Result A E} (Ok x) (Ok y) → x ≡ y
inside x y e = cc

-- a tick's number is the one that its text spells
tick-number : (time : ℕ) (text : List ℕ) (m : Meaning) → (tick_of time text >>= λ n. Ok (tick n)) ≡ Ok m → Agree (Ok (ticks text)) m
unfolding tick_of
tick-number time text m e = go (are_digits text) refl (is_in_time time (decimal_value 0 text)) refl
  where
    go : (d : Bool) → are_digits text ≡ d → (i : Bool) → is_in_time time (decimal_value 0 text) ≡ i → Agree (Ok (ticks text)) m
    go false d i w = let no = rw d at e in absurd (stopped m no)
    go true d false w = let no = rw (d, w) at e in absurd (stopped m no)
    go true d true w = let yes = rw (d, w) at e in agree-at (Ok (ticks text)) m (tick (decimal_value 0 text)) (rw d (refl, refl)) (inside (tick (decimal_value 0 text)) m yes)

module _ (t : Table) (plan : List ComponentPlan) (wired : List ℕ → Bool) where
  pub says : (late : Bool) (time : ℕ) (r : Result Saying LineWhy) (m : Meaning) → (r >>= λ s. saying_meaning t plan wired late time s) ≡ Ok m → Agree r m
  says late time (Err w) m e = absurd (stopped m e)
  says true time (Ok (ties lower upper)) m e = absurd (stopped m e)
  says false time (Ok (ties lower upper)) m e = agree-at (Ok (ties lower upper)) m (wire lower upper) (refl, refl) (inside (wire lower upper) m e)
  says late time (Ok (ticks number)) m e = tick-number time number m e
  says late time (Ok (arrives verb end name rest)) m e = go (arrival_told t plan wired verb end name rest) e
    where
      go : (r : Result Told LineWhy) → (r >>= λ x. Ok (comes x)) ≡ Ok m → Agree (Ok (arrives verb end name rest)) m
      go (Err w) h = absurd (stopped m h)
      go (Ok x) h = agree-at (Ok (arrives verb end name rest)) m (comes x) (refl, refl) (inside (comes x) m h)

pub begun-more : (before : List (List ℕ)) (line : List ℕ) → begun (before ++ line ∷ []) ≡ (begun before || not (is_tie (form line)))
begun-more before line = list_any-append (λ l. not (is_tie (form l))) before (line ∷ []) ∙ ap (λ b. begun before || b) (or-none (not (is_tie (form line))))
  where
    or-none : (b : Bool) → (b || false) ≡ b
    or-none true = refl
    or-none false = refl

pub time-more : (before : List (List ℕ)) (line : List ℕ) → time_of (before ++ line ∷ []) ≡ time_of before + ticks_of (form line)
time-more before line = sum_by-append (λ l. ticks_of (form l)) before (line ∷ []) ∙ ap (λ n. time_of before + n) (last (ticks_of (form line)))
  where
    last : (n : ℕ) → sum_by (λ (l : List ℕ). n) (line ∷ []) ≡ n
    last n = omega arith

or-assoc : (a b c : Bool) → ((a || b) || c) ≡ (a || (b || c))
or-assoc true b c = refl
or-assoc false b c = refl

-- ---- one line more of a list

abbrev pub texts : List Numbered → List (List ℕ)
texts lines = map (λ n. n.1) lines

module _ (t : Table) (plan : List ComponentPlan) (wired : List ℕ → Bool) (first : Bool) (start : ℕ) where
  -- what is known before a line, and behind it
  pub record Stands (ls : List Numbered) (i : ℕ) (late : Bool) (time : ℕ) (ws : List Wire) (hs : List (ℕ × Told)) (target : Result Plot BadLine) : Type 0 where
    pub late_is : late ≡ (first || begun (texts (take i ls)))
    pub time_is : time ≡ start + time_of (texts (take i ls))
    pub whole : Left t plan wired first start (texts (take i ls)) (drop i ls) ws hs ≡ target

  pub stands-more : (ls : List Numbered) (i : ℕ) (line : Numbered) (late next : Bool) (time then : ℕ) (m : Meaning) (ws us : List Wire) (hs gs : List (ℕ × Told)) (target : Result Plot BadLine)
      → drop i ls ≡ line ∷ drop (i + 1) ls → take (i + 1) ls ≡ take i ls ++ line ∷ []
      → (form line.1 >>= λ s. saying_meaning t plan wired late time s) ≡ Ok m
      → next ≡ (late || not (is_wire m)) → then ≡ time + ticks_by m → us ≡ ws ++ wires_of ((line.0, m) ∷ []) → gs ≡ hs ++ happenings_of ((line.0, m) ∷ [])
      → Stands ls i late time ws hs target → Stands ls (i + 1) next then us gs target
  stands-more ls i line late next time then m ws us hs gs target opens takes means later goes wires happens st =
      let agree = says t plan wired late time (form line.1) m means in
      let front : texts (take (i + 1) ls) ≡ texts (take i ls) ++ line.1 ∷ [] = ap texts takes ∙ map-append (λ (n : Numbered). n.1) (take i ls) (line ∷ []) in
      let known : meaning_from t plan wired first start (texts (take i ls)) line.1 ≡ Ok m = rw (st.late_is, st.time_is) at means in
      let sums : (start + time_of (texts (take i ls))) + ticks_of (form line.1) ≡ start + (time_of (texts (take i ls)) + ticks_of (form line.1)) = omega arith in
      record {
        late_is = later ∙ ap (λ b. b || not (is_wire m)) st.late_is ∙ ap (λ b. (first || begun (texts (take i ls))) || not b) (sym agree.0) ∙ or-assoc first (begun (texts (take i ls))) (not (is_tie (form line.1)))
            ∙ ap (λ b. first || b) (sym (begun-more (texts (take i ls)) line.1) ∙ ap begun (sym front));
        time_is = goes ∙ ap (λ n. n + ticks_by m) st.time_is ∙ ap (λ n. (start + time_of (texts (take i ls))) + n) (sym agree.1) ∙ sums
            ∙ ap (λ n. start + n) (sym (time-more (texts (take i ls)) line.1) ∙ ap time_of (sym front));
        whole = ap (λ b. Left t plan wired first start b (drop (i + 1) ls) us gs) front ∙ ap (λ u. Left t plan wired first start (texts (take i ls) ++ line.1 ∷ []) (drop (i + 1) ls) u gs) wires ∙ ap (λ g. Left t plan wired first start (texts (take i ls) ++ line.1 ∷ []) (drop (i + 1) ls) (ws ++ wires_of ((line.0, m) ∷ [])) g) happens
            ∙ read-more t plan wired first start (texts (take i ls)) line (drop (i + 1) ls) ws hs m known ∙ ap (λ r. Left t plan wired first start (texts (take i ls)) r ws hs) (sym opens) ∙ st.whole;
      }

  pub stands-stop : (ls : List Numbered) (i : ℕ) (line : Numbered) (late : Bool) (time : ℕ) (w : LineWhy) (ws : List Wire) (hs : List (ℕ × Told)) (target : Result Plot BadLine)
      → drop i ls ≡ line ∷ drop (i + 1) ls → (form line.1 >>= λ s. saying_meaning t plan wired late time s) ≡ Err w
      → Stands ls i late time ws hs target → target ≡ Err (record { line = line.0; why = w })
  stands-stop ls i line late time w ws hs target opens means st =
      let known : meaning_from t plan wired first start (texts (take i ls)) line.1 ≡ Err w = rw (st.late_is, st.time_is) at means in
      sym st.whole ∙ ap (λ r. Left t plan wired first start (texts (take i ls)) r ws hs) opens ∙ read-stop t plan wired first start (texts (take i ls)) line (drop (i + 1) ls) ws hs w known

-- ---- places of a list

pub opened-at : {A B : Type 0} (f : A → B) (xs : List A) (i : ℕ) (x d : A) → i < length xs → x ≡ get_or xs i d → drop i (map f xs) ≡ f x ∷ drop (i + 1) (map f xs)
opened-at f [] i x d lt is = absurd (omega arith)
opened-at f (y ∷ ys) zero x d lt is = rw is refl
opened-at f (y ∷ ys) (suc i) x d lt is = let next : suc i + 1 ≡ suc (i + 1) = omega arith in rw next (opened-at f ys i x d (omega arith) is)

pub taken-at : {A B : Type 0} (f : A → B) (xs : List A) (i : ℕ) (x d : A) → i < length xs → x ≡ get_or xs i d → take (i + 1) (map f xs) ≡ take i (map f xs) ++ f x ∷ []
taken-at f [] i x d lt is = absurd (omega arith)
taken-at f (y ∷ ys) zero x d lt is = rw is refl
taken-at f (y ∷ ys) (suc i) x d lt is = let next : suc i + 1 ≡ suc (i + 1) = omega arith in rw next (ap (λ zs. f y ∷ zs) (taken-at f ys i x d (omega arith) is))

-- a line that means nothing stops the reading, unless memory ran out
pub stops-at : (fail : Fail LineWhy) (r : Fail BadLine) (n : ℕ) (means : Result Meaning LineWhy) (target : Result Plot BadLine)
    → r ≡ bad_line n fail → StopsAs fail means → ((w : LineWhy) → means ≡ Err w → target ≡ Err (record { line = n; why = w })) → StopsAs r target
stops-at (Named w) r n means target e s bad = rw e (bad w s)
stops-at Memory r n means target e s bad = rw e tt

-- ---- the item at a place

pub item-opens : {A B : Type 0} (f : A → B) (xs : List A) (i : ℕ) (d : A) → i < length xs → drop i (map f xs) ≡ f (get_or xs i d) ∷ drop (i + 1) (map f xs)
item-opens f xs i d lt = opened-at f xs i (get_or xs i d) d lt refl

pub item-taken : {A B : Type 0} (f : A → B) (xs : List A) (i : ℕ) (d : A) → i < length xs → take (i + 1) (map f xs) ≡ take i (map f xs) ++ f (get_or xs i d) ∷ []
item-taken f xs i d lt = taken-at f xs i (get_or xs i d) d lt refl

-- ---- whole scripts

-- lines stand for the same over the same wired ends
pub same-plot : (t : Table) (plan : List ComponentPlan) (late : Bool) (time : ℕ) (wired other : List ℕ → Bool) (p q : Plot) (ls ks : List Numbered)
    → ((end : List ℕ) → wired end ≡ other end) → p ≡ q → ls ≡ ks → plot_from t plan wired late time p ls ≡ plot_from t plan other late time q ks
same-plot t plan late time wired other p q ls ks ends plots lines =
    let all : wired ≡ other = (λ i end. ends end i) in
    ap (λ w. plot_from t plan w late time p ls) all ∙ ap (λ x. plot_from t plan other late time x ls) plots ∙ ap (λ l. plot_from t plan other late time q l) lines
