-- The words of the lines of a snapshot's text.
use Rattle.std.proofs.Common.{◌≡◌, ◌<◌, ◌≤◌, ◌+◌, ◌-◌, ◌*◌, ◌^◌, ℕ, zero, suc, Bool, true, false, cond, not, ◌||◌, ◌&&◌, List, [], ◌∷◌, ◌++◌, length, take, drop, codes, Option, Some, None, option_map, Result, Ok, Err, refl, sym, ap, subst, ◌∙◌, arith}
use Rattle.std.specs.Prelude.{decimal, nat_le, nat_lt}
use Rattle.std.specs.Char.{is_ascii_digit}
use Rattle.std.specs.List.{AllByRecursion, after_first, before_first, flat_map, list_all, list_any, position_or_len}
use Rattle.std.specs.Str.{IsAscii, IsUtf8, is_utf8}
use Rattle.std.specs.Int.{IsInRange}
use Rattle.std.proofs.lemmas.Bool.Decides.{nat_tests}
use Rattle.std.proofs.lemmas.List.{append_assoc}
use Rattle.std.proofs.lemmas.Str.{IsUtf8-append, IsUtf8-from_ascii, is_utf8-from_IsUtf8}
use Rattle.std.proofs.lemmas.Fmt.{IsAscii-decimal, decimal_nonempty, digits_decimal, digits_value-decimal, length-decimal-le}
use Rattle.std.proofs.lemmas.Str.Parse.{FoldsDigits, IsDigitsTest, IsNumeralModel, numerals_by_fold}
use Rattle.eds_base.specs.Answering.{or_stop}
use Rattle.eds_base.specs.Numbers.{decimal_value}
use Rattle.eds_base.specs.Reading.{◌>>=◌, only, same}
use Rattle.eds_snap.specs.declared.why.SnapWhy.TheVariants.{Text, Words}
use Rattle.eds_snap.specs.Lines.{Line, lines_from, snap_lines}
use Rattle.eds_snap.specs.Words.{Saying, begins, ends, ties, stands, holds, waits, form, holds_in, said, said_by, said_in, stands_in, ties_in, waits_in}
use Rattle.eds_snap.specs.Written.{AreOneLine, IsRest, LinesSay, TextsHaveLines, ended_from, ended_line, spaced, text_of_lines}
use Rattle.eds_snap.proofs.LineLaws.{line-next}
use Rattle.eds_plan.specs.Names.{IsWord}
use Rattle.eds_script.specs.Lines.{before_others, is_feed, pieces}
use Rattle.eds_script.specs.Numbers.{are_digits, number_of}
use Rattle.eds_script.specs.Words.{is_space, last_word, two_words, word_and_rest}
use Rattle.eds_plan.specs.Names.{IsWord}

-- ---- words

or_false : (a b : Bool) → (a || b) ≡ false → (a ≡ false) × (b ≡ false)
or_false true b e = cc
or_false false b e = (refl, e)

any-in : (w rest : List ℕ) → list_any is_space (w ++ 32 ∷ rest) ≡ true
any-in [] rest = refl
any-in (c ∷ cs) rest = ap (λ b. is_space c || b) (any-in cs rest) ∙ any (is_space c)
  where
    any : (b : Bool) → (b || true) ≡ true
    any true = refl
    any false = refl

-- the first space stands behind a word
stands-at : (w rest : List ℕ) → list_any is_space w ≡ false → position_or_len is_space (w ++ 32 ∷ rest) ≡ length w
stands-at [] rest e = refl
stands-at (c ∷ cs) rest e =
    let both = or_false (is_space c) (list_any is_space cs) e in
    let next = stands-at cs rest both.1 in
    let one : position_or_len is_space ((c ∷ cs) ++ 32 ∷ rest) ≡ 1 + position_or_len is_space (cs ++ 32 ∷ rest) = rw both.0 refl in
    omega (arith, one, next)

take-word : (w rest : List ℕ) → take (length w) (w ++ rest) ≡ w
take-word [] rest = refl
take-word (c ∷ cs) rest = ap (λ xs. c ∷ xs) (take-word cs rest)

drop-word : (w rest : List ℕ) (n : ℕ) → n ≡ suc (length w) → drop n (w ++ 32 ∷ rest) ≡ rest
drop-word [] rest n e = ap (λ k. drop k (32 ∷ rest)) e
drop-word (c ∷ cs) rest n e = ap (λ k. drop k ((c ∷ cs) ++ 32 ∷ rest)) e ∙ drop-word cs rest (suc (length cs)) refl

word-rest : (w rest : List ℕ) → list_any is_space w ≡ false → word_and_rest (w ++ 32 ∷ rest) ≡ Some (w, rest)
word-rest w rest e =
    let at = stands-at w rest e in
    let front : before_first is_space (w ++ 32 ∷ rest) ≡ w = ap (λ n. take n (w ++ 32 ∷ rest)) at ∙ take-word w (32 ∷ rest) in
    let after : after_first is_space (w ++ 32 ∷ rest) ≡ rest = drop-word w rest (position_or_len is_space (w ++ 32 ∷ rest) + 1) (omega (arith, at)) in
    ap (λ b. only b (before_first is_space (w ++ 32 ∷ rest), after_first is_space (w ++ 32 ∷ rest))) (any-in w rest) ∙ ap (λ x. Some (x, after_first is_space (w ++ 32 ∷ rest))) front ∙ ap (λ x. Some (w, x)) after

last : (w : List ℕ) → list_any is_space w ≡ false → last_word w ≡ Some w
last w e = ap (λ b. only (not b) w) e

two : (a b : List ℕ) → list_any is_space a ≡ false → list_any is_space b ≡ false → two_words (a ++ 32 ∷ b) ≡ Some (a, b)
two a b e f = ap (λ o. o >>= λ p. option_map (λ q. (p.0, q)) (last_word p.1)) (word-rest a b e) ∙ ap (option_map (λ q. (a, q))) (last b f)

-- ---- numbers

both_true : (a b : Bool) → (a && b) ≡ true → (a ≡ true) × (b ≡ true)
both_true true true e = (refl, refl)
both_true true false e = cc
both_true false b e = cc

up_to : (a b : ℕ) → nat_le a b ≡ true → a ≤ b
up_to a b h = grind (arith, nat_tests)

le_is : (a b : ℕ) → a ≤ b → nat_le a b ≡ true
le_is a b h = grind (arith, nat_tests)

lt_is : (a b : ℕ) → a < b → nat_lt a b ≡ true
lt_is a b h = grind (arith, nat_tests)

digit_range : (c : ℕ) → is_ascii_digit c ≡ true → IsInRange 48 57 c
digit_range c e = let k = both_true (nat_le 48 c) (nat_le c 57) e in (up_to 48 c k.0, up_to c 57 k.1)

range_digit : (c : ℕ) → IsInRange 48 57 c → is_ascii_digit c ≡ true
range_digit c h = rw (le_is 48 c h.0, le_is c 57 h.1) refl

digits_test : IsDigitsTest (λ ds. list_all is_ascii_digit ds ≡ true)
digits_test = record {
  empty = refl;
  parts = λ c cs e. let k = both_true (is_ascii_digit c) (list_all is_ascii_digit cs) e in (digit_range c k.0, k.1);
  more = λ c cs h e. rw (range_digit c h, e) refl;
}

folds : FoldsDigits decimal_value
folds = record { empty = λ n. refl; more = λ n c cs h. ap (λ m. decimal_value (m + (c - 48)) cs) (omega arith) }

numerals : IsNumeralModel (λ ds. list_all is_ascii_digit ds ≡ true) (decimal_value 0)
numerals = numerals_by_fold (λ ds. list_all is_ascii_digit ds ≡ true) digits_test decimal_value folds

number-read : (n : ℕ) → n < 2 ^ 63 → number_of (decimal n) ≡ Some n
number-read n h =
    let some = lt_is 0 (length (decimal n)) (decimal_nonempty n (omega arith)) in
    let few = le_is (length (decimal n)) 19 (length-decimal-le 19 n (omega arith) (omega arith) (omega arith)) in
    let all = digits_decimal numerals n (omega arith) in
    let form : are_digits (decimal n) ≡ true = rw (some, few, all) refl in
    ap (λ b. only b (decimal_value 0 (decimal n))) form ∙ ap Some (digits_value-decimal numerals n (omega arith))

-- the digits of a number are a word
no-digit : (p : ℕ → Bool) → ((c : ℕ) → is_ascii_digit c ≡ true → p c ≡ false) → (ds : List ℕ) → list_all is_ascii_digit ds ≡ true → list_any p ds ≡ false
no-digit p h [] e = refl
no-digit p h (c ∷ cs) e = let k = both_true (is_ascii_digit c) (list_all is_ascii_digit cs) e in rw (h c k.0, no-digit p h cs k.1) refl

no-space-digit : (c : ℕ) → is_ascii_digit c ≡ true → is_space c ≡ false
no-space-digit c e = let k = digit_range c e in grind (arith, nat_tests, k.0, k.1)

no-feed-digit : (c : ℕ) → is_ascii_digit c ≡ true → is_feed c ≡ false
no-feed-digit c e = let k = digit_range c e in grind (arith, nat_tests, k.0, k.1)

pub digits-word : (n : ℕ) → n < 2 ^ 63 → IsWord (decimal n)
digits-word n h =
    let all = digits_decimal numerals n (omega arith) in
    record {
      utf8 = IsUtf8-from_ascii (decimal n) (IsAscii-decimal n (omega arith));
      some = λ e. let long = decimal_nonempty n (omega arith) in absurd (let none = ap length e in omega (arith, long, none));
      space = no-digit is_space no-space-digit (decimal n) all;
      feed = no-digit is_feed no-feed-digit (decimal n) all;
    }

-- ---- lines

-- what a line says, where its words say that
read : (n : ℕ) (text : List ℕ) (s : Saying) → IsUtf8 text → said text ≡ Some s → form (ended_line n text) ≡ Ok s
read n text s u e = ap (λ b. cond b (or_stop Words (said_in true text)) (Err Text)) (is_utf8-from_IsUtf8 text u) ∙ ap (or_stop Words) e

-- a first word and the rest of a line
first-word : (w rest : List ℕ) → list_any is_space w ≡ false → said (w ++ 32 ∷ rest) ≡ said_by w rest
unfolding said
first-word w rest e = ap (λ o. o >>= λ p. said_by p.0 p.1) (word-rest w rest e)

below : (a b : ℕ) → nat_lt a b ≡ true → a < b
below a b h = grind (arith, nat_tests)

-- plain letters
plain-text : (bs : List ℕ) → list_all (λ c. nat_lt c 128) bs ≡ true → IsAscii bs
plain-text [] e i = omega arith
plain-text (c ∷ cs) e zero = below c 128 (both_true (nat_lt c 128) (list_all (λ c. nat_lt c 128) cs) e).0
plain-text (c ∷ cs) e (suc i) = plain-text cs (both_true (nat_lt c 128) (list_all (λ c. nat_lt c 128) cs) e).1 i

letters : (bs : List ℕ) → list_all (λ c. nat_lt c 128) bs ≡ true → IsUtf8 bs
letters bs e = IsUtf8-from_ascii bs (plain-text bs e)

between : (a b : List ℕ) → IsUtf8 a → IsUtf8 b → IsUtf8 (spaced a b)
between a b u v = IsUtf8-append a (32 ∷ b) u (IsUtf8-append (32 ∷ []) b (letters (32 ∷ []) refl) v)

pub lines-say : LinesSay
lines-say = record {
  first = λ n. read n (spaced (codes "snapshot") (codes "1")) begins (letters (spaced (codes "snapshot") (codes "1")) refl) (first-word (codes "snapshot") (codes "1") refl);
  time = λ n now h. let w = digits-word now h in
      read n (spaced (codes "end") (decimal now)) (ends (decimal now)) (between (codes "end") (decimal now) (letters (codes "end") refl) w.utf8)
      (first-word (codes "end") (decimal now) refl ∙ ap (option_map ends) (last (decimal now) w.space));
  wire = λ n lower upper a b.
      read n (spaced (codes "wire") (spaced lower upper)) (ties lower upper) (between (codes "wire") (spaced lower upper) (letters (codes "wire") refl) (between lower upper a.utf8 b.utf8))
      (first-word (codes "wire") (spaced lower upper) refl ∙ ap (option_map (λ p. ties p.0 p.1)) (two lower upper a.space b.space));
  machine = λ n entered passed c m s a b d h k. let e = digits-word entered h in let p = digits-word passed k in
      let times = spaced (decimal entered) (decimal passed) in
      read n (spaced (codes "machine") (spaced c (spaced m (spaced s times)))) (stands c m s (decimal entered) (decimal passed))
      (between (codes "machine") (spaced c (spaced m (spaced s times))) (letters (codes "machine") refl)
      (between c (spaced m (spaced s times)) a.utf8 (between m (spaced s times) b.utf8 (between s times d.utf8 (between (decimal entered) (decimal passed) e.utf8 p.utf8)))))
      (first-word (codes "machine") (spaced c (spaced m (spaced s times))) refl ∙ standing c m s (decimal entered) (decimal passed) a b d e p);
  variable = λ n c x json a b d.
      read n (spaced (codes "var") (spaced c (spaced x json))) (holds c x json) (between (codes "var") (spaced c (spaced x json)) (letters (codes "var") refl) (between c (spaced x json) a.utf8 (between x json b.utf8 d.utf8)))
      (first-word (codes "var") (spaced c (spaced x json)) refl
      ∙ ap (λ o. o >>= λ p. option_map (λ q. holds p.0 q.0 q.1) (word_and_rest p.1)) (word-rest c (spaced x json) a.space)
      ∙ ap (option_map (λ q. holds c q.0 q.1)) (word-rest x json b.space));
  transaction = λ n e m name a b d.
      read n (spaced (codes "wait") (spaced e (spaced m name))) (waits e m name) (between (codes "wait") (spaced e (spaced m name)) (letters (codes "wait") refl) (between e (spaced m name) a.utf8 (between m name b.utf8 d.utf8)))
      (first-word (codes "wait") (spaced e (spaced m name)) refl
      ∙ ap (λ o. o >>= λ p. option_map (λ q. waits p.0 q.0 q.1) (two_words p.1)) (word-rest e (spaced m name) a.space)
      ∙ ap (option_map (λ q. waits e q.0 q.1)) (two m name b.space d.space));
  number = number-read;
}
  where
    standing : (c m s e p : List ℕ) → IsWord c → IsWord m → IsWord s → IsWord e → IsWord p → stands_in (c ++ 32 ∷ (m ++ 32 ∷ (s ++ 32 ∷ (e ++ 32 ∷ p)))) ≡ Some (stands c m s e p)
    standing c m s e p a b d f g =
        ap (λ o. o >>= λ x. word_and_rest x.1 >>= λ y. word_and_rest y.1 >>= λ z. option_map (λ q. stands x.0 y.0 z.0 q.0 q.1) (two_words z.1)) (word-rest c (m ++ 32 ∷ (s ++ 32 ∷ (e ++ 32 ∷ p))) a.space)
        ∙ ap (λ o. o >>= λ y. word_and_rest y.1 >>= λ z. option_map (λ q. stands c y.0 z.0 q.0 q.1) (two_words z.1)) (word-rest m (s ++ 32 ∷ (e ++ 32 ∷ p)) b.space)
        ∙ ap (λ o. o >>= λ z. option_map (λ q. stands c m z.0 q.0 q.1) (two_words z.1)) (word-rest s (e ++ 32 ∷ p) d.space)
        ∙ ap (option_map (λ q. stands c m s q.0 q.1)) (two e p f.space g.space)

-- ---- lines in a row

-- a line in front of a text
piece-first : (l rest : List ℕ) → list_any is_feed l ≡ false → pieces (l ++ 10 ∷ rest) ≡ l ∷ pieces rest
piece-first [] rest e = refl
piece-first (c ∷ cs) rest e = let both = or_false (is_feed c) (list_any is_feed cs) e in rw both.0 (ap (before_others c) (piece-first cs rest both.1))

lines-row : (n : ℕ) (ls : List (List ℕ)) → AreOneLine ls → lines_from n (pieces (text_of_lines ls)) ≡ ended_from n ls
lines-row n [] h = refl
lines-row n (l ∷ ls) h =
    let cut : pieces (text_of_lines (l ∷ ls)) ≡ l ∷ pieces (text_of_lines ls) = ap pieces (append_assoc l (10 ∷ []) (text_of_lines ls)) ∙ piece-first l (text_of_lines ls) h.0 in
    line-next n l (text_of_lines (l ∷ ls)) (text_of_lines ls) cut ∙ ap (λ xs. ended_line n l ∷ xs) (lines-row (n + 1) ls h.1)

pub texts-have-lines : TextsHaveLines
unfolding snap_lines
texts-have-lines ls h = lines-row 1 ls h
