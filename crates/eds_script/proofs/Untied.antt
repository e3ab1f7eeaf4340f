-- A line that doesn't begin with the first letter of a wire line ties no ends.
use Rattle.std.proofs.Common.{◌≡◌, ℕ, zero, suc, ◌+◌, List, [], ◌∷◌, ◌++◌, Bool, true, false, cond, ◌&&◌, ◌||◌, ◌∙◌, sym, ◌<◌, ◌≤◌, length, get_or, arith, Option, Some, None, Ok, Err, refl, ap, take, codes, nat_eq, option_map}
use Rattle.std.specs.List.{after_first, before_first, list_any, position_or_len}
use Rattle.std.specs.Str.{bytes_eq, is_utf8}
use Rattle.std.proofs.lemmas.Bool.{eqb-true}
use Rattle.std.proofs.lemmas.Slice.Eq.{bytes_eq-Decides}
use Rattle.eds_base.specs.Answering.{or_stop}
use Rattle.eds_base.specs.Reading.{◌>>=◌, only, same}
use Rattle.eds_script.specs.declared.why.LineWhy.TheVariants.{Text, Words}
use Rattle.eds_script.specs.declared.words.Verb.{Verb}
use Rattle.eds_script.specs.declared.words.Verb.TheVariants.{Cmd, Frame, Get, Set, Val}
use Rattle.eds_script.specs.Meaning.{tied}
use Rattle.eds_script.specs.Words.{Saying, ties, ticks, arrives, is_space, word_and_rest, last_word, two_words, asked_in, given_in, framed_in, said_by, said, form}

-- ends that a saying ties, if there is one
abbrev ends : Option Saying → List (List ℕ)
ends o = tied (or_stop Words o)

other_word : (c : ℕ) (cs : List ℕ) (n : ℕ) → nat_eq c 119 ≡ false → same (take n (c ∷ cs)) (codes "wire") ≡ false
other_word c cs zero e = refl
other_word c cs (suc n) e = ap (λ b. b && same (take n cs) (codes "ire")) e

arrival : (o : Option (List ℕ × List ℕ)) (f : List ℕ × List ℕ → Saying) → ((p : List ℕ × List ℕ) → tied (Ok (f p)) ≡ []) → ends (option_map f o) ≡ []
arrival None f h = refl
arrival (Some p) f h = h p

tick_ends : (o : Option (List ℕ)) → ends (option_map ticks o) ≡ []
tick_ends None = refl
tick_ends (Some w) = refl

given_ends : (verb : Verb) (rest : List ℕ) → ends (given_in verb rest) ≡ []
given_ends verb rest = go (word_and_rest rest)
  where
    go : (o : Option (List ℕ × List ℕ)) → ends (o >>= λ p. option_map (λ q. arrives verb p.0 q.0 q.1) (word_and_rest p.1)) ≡ []
    go None = refl
    go (Some p) = arrival (word_and_rest p.1) (λ q. arrives verb p.0 q.0 q.1) (λ q. refl)

framed_ends : (rest : List ℕ) → ends (framed_in rest) ≡ []
framed_ends rest = go (word_and_rest rest)
  where
    go : (o : Option (List ℕ × List ℕ)) → ends (o >>= λ p. option_map (λ q. arrives Frame p.0 q.0 q.1) (two_words p.1)) ≡ []
    go None = refl
    go (Some p) = arrival (two_words p.1) (λ q. arrives Frame p.0 q.0 q.1) (λ q. refl)

asked_ends : (rest : List ℕ) → ends (asked_in rest) ≡ []
asked_ends rest = arrival (two_words rest) (λ p. arrives Get p.0 p.1 []) (λ p. refl)

pick : (b : Bool) (x y : Option Saying) → ends x ≡ [] → ends y ≡ [] → ends (cond b x y) ≡ []
pick true x y h k = h
pick false x y h k = k

not_picked : (b : Bool) (x y : Option Saying) → b ≡ false → ends y ≡ [] → ends (cond b x y) ≡ []
not_picked true x y e h = absurd cc
not_picked false x y e h = h

other_ends : (word rest : List ℕ) → same word (codes "wire") ≡ false → ends (said_by word rest) ≡ []
other_ends word rest e =
    not_picked (same word (codes "wire")) _ _ e
    (pick (same word (codes "tick")) _ _ (tick_ends (last_word rest))
    (pick (same word (codes "cmd")) _ _ (given_ends Cmd rest)
    (pick (same word (codes "frame")) _ _ (framed_ends rest)
    (pick (same word (codes "get")) _ _ (asked_ends rest)
    (pick (same word (codes "set")) _ _ (given_ends Set rest)
    (pick (same word (codes "val")) _ _ (given_ends Val rest) refl))))))

said_ends : (c : ℕ) (cs : List ℕ) → nat_eq c 119 ≡ false → ends (said (c ∷ cs)) ≡ []
unfolding said
said_ends c cs e = go (list_any is_space (c ∷ cs))
  where
    both : List ℕ × List ℕ
    both = (before_first is_space (c ∷ cs), after_first is_space (c ∷ cs))

    go : (b : Bool) → ends (only b both >>= λ p. said_by p.0 p.1) ≡ []
    go true = other_ends (before_first is_space (c ∷ cs)) (after_first is_space (c ∷ cs)) (other_word c cs (position_or_len is_space (c ∷ cs)) e)
    go false = refl

nothing_said : ends (said []) ≡ []
unfolding said
nothing_said = refl

judged : (b : Bool) (o : Option Saying) → ends o ≡ [] → tied (cond b (or_stop Words o) (Err Text)) ≡ []
judged true o h = h
judged false o h = refl

pub empty_line : (line : List ℕ) → length line < 1 → tied (form line) ≡ []
empty_line [] few = judged (is_utf8 []) (said []) nothing_said
empty_line (c ∷ cs) few = absurd (omega arith)

pub other_line : (line : List ℕ) → 1 ≤ length line → nat_eq (get_or line 0 0) 119 ≡ false → tied (form line) ≡ []
other_line [] some e = absurd (omega arith)
other_line (c ∷ cs) some e = judged (is_utf8 (c ∷ cs)) (said (c ∷ cs)) (said_ends c cs e)

-- ---- a line that ties ends

-- a line in which a space stands is cut there
space-split : (line : List ℕ) → list_any is_space line ≡ true → line ≡ before_first is_space line ++ 32 ∷ after_first is_space line
space-split [] some = cc
space-split (c ∷ cs) some = go (is_space c) refl some (space-split cs)
  where
    go : (b : Bool) → is_space c ≡ b → (b || list_any is_space cs) ≡ true → (list_any is_space cs ≡ true → cs ≡ before_first is_space cs ++ 32 ∷ after_first is_space cs)
        → c ∷ cs ≡ before_first is_space (c ∷ cs) ++ 32 ∷ after_first is_space (c ∷ cs)
    go true e h others = rw e (ap (λ x. x ∷ cs) (eqb-true c 32 e))
    go false e h others =
        let next : 1 + position_or_len is_space cs + 1 ≡ suc (position_or_len is_space cs + 1) = omega arith in
        let first : 1 + position_or_len is_space cs ≡ suc (position_or_len is_space cs) = omega arith in
        rw (e, next, first) (ap (λ xs. c ∷ xs) (others h))

-- a line that ties ends begins with the word `wire` and a space
abbrev Begins : List ℕ → Type 0
Begins line = same (take 5 line) (codes "wire ") ≡ true

word-begins : (word rest line : List ℕ) → line ≡ word ++ 32 ∷ rest → same word (codes "wire") ≡ true → Begins line
word-begins word rest line is e =
    let word_is : word ≡ codes "wire" = (bytes_eq-Decides word (codes "wire")).0 e in
    rw (is, word_is) refl

tying-word : (word rest lower upper : List ℕ) → said_by word rest ≡ Some (ties lower upper) → same word (codes "wire") ≡ true
tying-word word rest lower upper e = go (same word (codes "wire")) refl
  where
    go : (b : Bool) → same word (codes "wire") ≡ b → b ≡ true
    go true is = refl
    go false is = let none : lower ∷ upper ∷ [] ≡ [] = ap ends (sym e) ∙ other_ends word rest is in cc

-- the first word and what is behind its space
abbrev Cut : List ℕ → List ℕ × List ℕ
Cut line = (before_first is_space line, after_first is_space line)

tying-line : (line lower upper : List ℕ) → said line ≡ Some (ties lower upper) → Begins line
unfolding said
tying-line line lower upper e = go (list_any is_space line) refl e
  where
    go : (b : Bool) → list_any is_space line ≡ b → (only b (Cut line) >>= λ p. said_by p.0 p.1) ≡ Some (ties lower upper) → Begins line
    go true some k =
        word-begins (before_first is_space line) (after_first is_space line) line (space-split line some) (tying-word (before_first is_space line) (after_first is_space line) lower upper k)
    go false some k = cc

pub ties-begin : (line lower upper : List ℕ) → form line ≡ Ok (ties lower upper) → Begins line
ties-begin line lower upper e = go (is_utf8 line) (said line) refl e
  where
    go : (b : Bool) (o : Option Saying) → said line ≡ o → cond b (or_stop Words o) (Err Text) ≡ Ok (ties lower upper) → Begins line
    go true None s k = cc
    go true (Some s) is k = let same : s ≡ ties lower upper = cc in tying-line line lower upper (is ∙ ap Some same)
    go false o s k = cc
