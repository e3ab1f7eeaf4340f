-- The lines of a session's script.
use Rattle.std.proofs.Common.{◌≡◌, ℕ, suc, ◌+◌, ◌-◌, ◌==◌, ◌&&◌, Bool, true, false, not, List, [], ◌∷◌, ◌++◌, length, take, map, Option, Some, None, is_some, if◌then◌else◌, slice_get, refl, sym, ap, ◌∙◌, arith}
use Rattle.std.specs.List.{filter}
use Rattle.std.proofs.lemmas.Bool.{eqb-true}
use Rattle.eds_base.specs.Reading.{only}
use Rattle.eds_script.specs.Lines.{Numbered, before_others, ended, is_feed, is_skipped, numbered_from, pieces, script_lines, unskipped, without_return, without_return_by}
use Rattle.eds_replay.specs.Sessions.{is_recording, joined, script_in, without_recording}

-- ---- pieces of joined pieces

-- no line feed stands in it
abbrev NoFeed : List ℕ → Type 0
NoFeed [] = Unit {0}
NoFeed (c ∷ cs) = (is_feed c ≡ false) × NoFeed cs

abbrev NoFeeds : List (List ℕ) → Type 0
NoFeeds [] = Unit {0}
NoFeeds (p ∷ ps) = NoFeed p × NoFeeds ps

piece-alone : (p : List ℕ) → NoFeed p → pieces p ≡ p ∷ []
piece-alone [] h = refl
piece-alone (c ∷ cs) h = rw h.0 (ap (before_others c) (piece-alone cs h.1))

piece-more : (p rest : List ℕ) → NoFeed p → pieces (p ++ 10 ∷ rest) ≡ p ∷ pieces rest
piece-more [] rest h = refl
piece-more (c ∷ cs) rest h = rw h.0 (ap (before_others c) (piece-more cs rest h.1))

pieces-joined : (p : List ℕ) (ps : List (List ℕ)) → NoFeeds (p ∷ ps) → pieces (joined (p ∷ ps)) ≡ p ∷ ps
pieces-joined p [] h = piece-alone p h.0
pieces-joined p (q ∷ ps) h = piece-more p (joined (q ∷ ps)) h.0 ∙ ap (λ (qs : List (List ℕ)). p ∷ qs) (pieces-joined q ps h.1)

-- one piece at least
abbrev Some-pieces : List (List ℕ) → Type 0
Some-pieces [] = ⊥
Some-pieces (p ∷ ps) = Unit {0}

no-feeds : (xs : List ℕ) → NoFeeds (pieces xs) × Some-pieces (pieces xs)
no-feeds [] = ((tt, tt), tt)
no-feeds (c ∷ cs) = go (is_feed c) refl (no-feeds cs)
  where
    inside : is_feed c ≡ false → (ps : List (List ℕ)) → NoFeeds ps × Some-pieces ps → NoFeeds (before_others c ps) × Some-pieces (before_others c ps)
    inside e [] h = absurd h.1
    inside e (p ∷ ps) h = (((e, h.0.0), h.0.1), tt)

    go : (b : Bool) → is_feed c ≡ b → NoFeeds (pieces cs) × Some-pieces (pieces cs) → NoFeeds (pieces (c ∷ cs)) × Some-pieces (pieces (c ∷ cs))
    go true e h = rw e ((tt, h.0), tt)
    go false e h = rw e (inside e (pieces cs) h)

without-no-feed : (p : List ℕ) → NoFeed p → NoFeed (without_recording p)
without-no-feed p h = go (is_recording p)
  where
    go : (b : Bool) → NoFeed (if b then [] else p)
    go true = tt
    go false = h

without-no-feeds : (ps : List (List ℕ)) → NoFeeds ps → NoFeeds (map without_recording ps)
without-no-feeds [] h = tt
without-no-feeds (p ∷ ps) h = (without-no-feed p h.0, without-no-feeds ps h.1)

pub script-pieces : (octets : List ℕ) → pieces (script_in octets) ≡ map without_recording (pieces octets)
unfolding script_in
script-pieces octets = go (pieces octets) (no-feeds octets)
  where
    go : (ps : List (List ℕ)) → NoFeeds ps × Some-pieces ps → pieces (joined (map without_recording ps)) ≡ map without_recording ps
    go [] h = absurd h.1
    go (p ∷ ps) h = pieces-joined (without_recording p) (map without_recording ps) (without-no-feeds (p ∷ ps) h.0)

-- ---- carriage returns

-- whether a line is a recording hangs on its two first octets alone
any-rest : (b : Bool) (x y : List ℕ) → is_some (only b x) ≡ is_some (only b y)
any-rest true x y = refl
any-rest false x y = refl

never-two : (b : Bool) (x : List ℕ) → is_some (only (b && false) x) ≡ false
never-two true x = refl
never-two false x = refl

-- a line is a recording where its piece is one
same-recording : (p : List ℕ) → is_recording (without_return p) ≡ is_recording p
same-recording [] = refl
same-recording (c ∷ []) = go (slice_get (c ∷ []) (length (c ∷ []) - 1))
  where
    by : (b : Bool) → is_recording (if b then take (length (c ∷ []) - 1) (c ∷ []) else c ∷ []) ≡ false
    by true = refl
    by false = refl

    go : (o : Option ℕ) → is_recording (without_return_by o (c ∷ [])) ≡ false
    go None = refl
    go (Some x) = by (x == 13)
same-recording (c ∷ d ∷ []) = go (slice_get (c ∷ d ∷ []) (length (c ∷ d ∷ []) - 1)) last
  where
    last : slice_get (c ∷ d ∷ []) (length (c ∷ d ∷ []) - 1) ≡ Some d
    last = refl

    by : (b : Bool) → (d == 13) ≡ b → is_recording (if b then take (length (c ∷ d ∷ []) - 1) (c ∷ d ∷ []) else c ∷ d ∷ []) ≡ is_recording (c ∷ d ∷ [])
    by true e =
        let is : d ≡ 13 = eqb-true d 13 e in
        let other : (d == 32) ≡ false = ap (λ x. x == 32) is in
        rw other (sym (never-two (c == 62) []))
    by false e = refl

    go : (o : Option ℕ) → o ≡ Some d → is_recording (without_return_by o (c ∷ d ∷ [])) ≡ is_recording (c ∷ d ∷ [])
    go None e = refl
    go (Some x) e = let same : x ≡ d = cc in rw same (by (d == 13) refl)
same-recording (c ∷ d ∷ e ∷ rest) = go (slice_get (c ∷ d ∷ e ∷ rest) (length (c ∷ d ∷ e ∷ rest) - 1))
  where
    size : length (c ∷ d ∷ e ∷ rest) - 1 ≡ suc (suc (length rest))
    size = omega arith

    by : (b : Bool) → is_recording (if b then take (length (c ∷ d ∷ e ∷ rest) - 1) (c ∷ d ∷ e ∷ rest) else c ∷ d ∷ e ∷ rest) ≡ is_recording (c ∷ d ∷ e ∷ rest)
    by true = rw size (any-rest ((c == 62) && (d == 32)) (take (length rest) (e ∷ rest)) (e ∷ rest))
    by false = refl

    go : (o : Option ℕ) → is_recording (without_return_by o (c ∷ d ∷ e ∷ rest)) ≡ is_recording (c ∷ d ∷ e ∷ rest)
    go None = refl
    go (Some x) = by (x == 13)

-- ---- all lines

abbrev kept : List Numbered → List Numbered
kept ls = filter (λ (l : Numbered). not (is_recording l.1)) ls

recording-unskipped : (line : List ℕ) → is_recording line ≡ true → is_skipped line ≡ false
recording-unskipped [] e = cc
recording-unskipped (c ∷ []) e = cc
recording-unskipped (c ∷ d ∷ rest) e = go (c == 62) refl e
  where
    go : (b : Bool) → (c == 62) ≡ b → is_some (only (b && (d == 32)) rest) ≡ true → (c == 35) ≡ false
    go true is h = ap (λ x. x == 35) (eqb-true c 62 is)
    go false is h = cc

-- one line: an empty one in the place of a recording, and else the same
one-line : (n : ℕ) (line new : List ℕ) (rest others : List Numbered) → new ≡ (if is_recording line then [] else line) → unskipped others ≡ kept (unskipped rest)
    → unskipped ((n, new) ∷ others) ≡ kept (unskipped ((n, line) ∷ rest))
one-line n line new rest others is more = go (is_recording line) refl is
  where
    skip : is_recording line ≡ false → (b : Bool) → is_skipped line ≡ b → unskipped ((n, line) ∷ others) ≡ kept (unskipped ((n, line) ∷ rest))
    skip none true s = rw s more
    skip none false s = rw (s, none) (ap (λ (ls : List Numbered). (n, line) ∷ ls) more)

    go : (b : Bool) → is_recording line ≡ b → new ≡ (if b then [] else line) → unskipped ((n, new) ∷ others) ≡ kept (unskipped ((n, line) ∷ rest))
    go true r e = let empty : new ≡ [] = e in rw (empty, recording-unskipped line r, r) more
    go false r e = let same : new ≡ line = e in rw same (skip r (is_skipped line) refl)

return-of : (p : List ℕ) → without_return (without_recording p) ≡ (if is_recording (without_return p) then [] else without_return p)
return-of p = go (is_recording p) refl
  where
    go : (b : Bool) → is_recording p ≡ b → without_return (if b then [] else p) ≡ (if is_recording (without_return p) then [] else without_return p)
    go true e = rw (same-recording p ∙ e) refl
    go false e = rw (same-recording p ∙ e) refl

all-lines : (n : ℕ) (ps : List (List ℕ)) → unskipped (numbered_from n (ended (map without_recording ps))) ≡ kept (unskipped (numbered_from n (ended ps)))
all-lines n [] = refl
all-lines n (p ∷ []) = one-line n p (without_recording p) [] [] refl refl
all-lines n (p ∷ q ∷ ps) =
    one-line n (without_return p) (without_return (without_recording p)) (numbered_from (n + 1) (ended (q ∷ ps))) (numbered_from (n + 1) (ended (map without_recording (q ∷ ps)))) (return-of p) (all-lines (n + 1) (q ∷ ps))

pub lines-stay : (octets : List ℕ) → script_lines (script_in octets) ≡ filter (λ (l : Numbered). not (is_recording l.1)) (script_lines octets)
unfolding script_lines
lines-stay octets = ap (λ (ps : List (List ℕ)). unskipped (numbered_from 1 (ended ps))) (script-pieces octets) ∙ all-lines 1 (pieces octets)
