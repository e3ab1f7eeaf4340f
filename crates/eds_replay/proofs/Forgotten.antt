-- Each recording belongs to a line that happens.
use Rattle.std.proofs.Common.{◌≡◌, ℕ, ◌==◌, ◌||◌, Bool, true, false, not, List, [], ◌∷◌, ◌++◌, map, Option, Some, None, Result, Ok, Err, unwrap_or, if◌then◌else◌, refl, sym, ap, subst, ◌∙◌, append_assoc, inl, inr, ◌⊎◌}
use Rattle.std.specs.List.{AllByRecursion, filter, last_or, list_any}
use Rattle.std.proofs.lemmas.Bool.{eq-eqb, or_left, or_right}
use Rattle.eds_base.specs.Answering.{◌>>=◌}
use Rattle.eds_types.specs.Rows.{Table}
use Rattle.eds_plan.specs.Lines.{Told, starts}
use Rattle.eds_plan.specs.declared.component.ComponentPlan.{ComponentPlan}
use Rattle.eds_script.specs.declared.why.BadLine.{BadLine}
use Rattle.eds_script.specs.declared.why.LineWhy.{LineWhy}
use Rattle.eds_script.specs.Lines.{Numbered, is_skipped, script_lines, unskipped}
use Rattle.eds_script.specs.Meaning.{Meaning, wire, tick, comes, meaning, saying_meaning, wired_in}
use Rattle.eds_script.specs.Scripts.{Plot, at_line, happenings_of, meanings, plot_of}
use Rattle.eds_script.specs.Words.{Saying, ties, ticks, arrives, form}
use Rattle.eds_script.proofs.Untied.{ties-begin}
use Rattle.eds_replay.specs.declared.session.Recorded.{Recorded}
use Rattle.eds_replay.specs.Laws.{NoneForgotten, is_number_in}
use Rattle.eds_replay.specs.Sessions.{is_recording, is_wire, may_own, owner_in, recorded_in, recording_of, recordings, recordings_behind, script_in, session_lines}
use Rattle.eds_replay.proofs.Keeping.{lines-stay}

-- ---- numbers among lines

-- the number is that of one of the lines
abbrev has : ℕ → List Numbered → Bool
has n lines = list_any (λ (l : Numbered). l.0 == n) lines

abbrev owners : List Numbered → List Numbered
owners lines = filter (λ (l : Numbered). may_own l.1) lines

-- the last of some numbers is one of them, or there was one before
last-among : (o : Option ℕ) (lines : List Numbered) (n : ℕ) → last_or o (map (λ (l : Numbered). l.0) lines) ≡ Some n → (o ≡ Some n) ⊎ (has n lines ≡ true)
last-among o [] n e = inl e
last-among o (l ∷ lines) n e = go (last-among (Some l.0) lines n e)
  where
    go : (Some l.0 ≡ Some n) ⊎ (has n lines ≡ true) → (o ≡ Some n) ⊎ (has n (l ∷ lines) ≡ true)
    go (inl here) = let same : l.0 ≡ n = cc in inr (or_left (l.0 == n) (has n lines) (eq-eqb l.0 n same))
    go (inr later) = inr (or_right (l.0 == n) (has n lines) later)

-- the owner in lines is 0, or the number of one of them that may own
abbrev IsOwner : List Numbered → ℕ → Type 0
IsOwner all n = (n ≡ 0) ⊎ (has n (owners all) ≡ true)

owner-among : (lines : List Numbered) → IsOwner lines (owner_in lines)
owner-among lines = go (last_or None (map (λ (l : Numbered). l.0) (owners lines))) refl
  where
    some : (n : ℕ) → (None ≡ Some n) ⊎ (has n (owners lines) ≡ true) → has n (owners lines) ≡ true
    some n (inl e) = absurd cc
    some n (inr h) = h

    go : (o : Option ℕ) → last_or None (map (λ (l : Numbered). l.0) (owners lines)) ≡ o → IsOwner lines (unwrap_or o 0)
    go None e = inl refl
    go (Some n) e = inr (some n (last-among None (owners lines) n e))

-- more lines have it too
has-more : (n : ℕ) (lines others : List Numbered) → has n (owners lines) ≡ true → has n (owners (lines ++ others)) ≡ true
has-more n [] others h = absurd cc
has-more n (l ∷ lines) others h = go (may_own l.1) refl (λ k. has-more n lines others k) h
  where
    here : (b : Bool) → (l.0 == n) ≡ b → (has n (owners lines) ≡ true → has n (owners (lines ++ others)) ≡ true) → (b || has n (owners lines)) ≡ true → (b || has n (owners (lines ++ others))) ≡ true
    here true e more k = refl
    here false e more k = more k

    go : (b : Bool) → may_own l.1 ≡ b → (has n (owners lines) ≡ true → has n (owners (lines ++ others)) ≡ true) → has n (if b then l ∷ owners lines else owners lines) ≡ true → has n (owners (l ∷ lines ++ others)) ≡ true
    go true e more k = rw e (here (l.0 == n) refl more k)
    go false e more k = rw e (more k)

owner-more : (n : ℕ) (lines others : List Numbered) → IsOwner lines n → IsOwner (lines ++ others) n
owner-more n lines others (inl e) = inl e
owner-more n lines others (inr h) = inr (has-more n lines others h)

-- the owners of all recordings
all-owned : (before lines : List Numbered) → AllByRecursion (λ (r : Recorded). IsOwner (before ++ lines) r.owner) (recordings_behind before lines)
all-owned before [] = tt
all-owned before (line ∷ lines) = go (recorded_in line.1) (subst (λ (all : List Numbered). AllByRecursion (λ (r : Recorded). IsOwner all r.owner) (recordings_behind (before ++ line ∷ []) lines)) (append_assoc before (line ∷ []) lines) (all-owned (before ++ line ∷ []) lines))
  where
    go : (o : Option (List ℕ)) → AllByRecursion (λ (r : Recorded). IsOwner (before ++ line ∷ lines) r.owner) (recordings_behind (before ++ line ∷ []) lines)
        → AllByRecursion (λ (r : Recorded). IsOwner (before ++ line ∷ lines) r.owner) (recording_of (owner_in before) line.0 o ++ recordings_behind (before ++ line ∷ []) lines)
    go None rest = rest
    go (Some octets) rest = (owner-more (owner_in before) before (line ∷ lines) (owner-among before), rest)

-- ---- they are lines of the script

abbrev kept : List Numbered → List Numbered
kept lines = filter (λ (l : Numbered). not (is_recording l.1)) lines

abbrev untied : List Numbered → List Numbered
untied lines = filter (λ (l : Numbered). not (is_wire l.1)) lines

owners-kept : (lines : List Numbered) → owners lines ≡ untied (kept (unskipped lines))
owners-kept [] = refl
owners-kept (l ∷ lines) = go (is_skipped l.1) (is_recording l.1) (is_wire l.1) refl refl refl (owners-kept lines)
  where
    go : (s r w : Bool) → is_skipped l.1 ≡ s → is_recording l.1 ≡ r → is_wire l.1 ≡ w → owners lines ≡ untied (kept (unskipped lines)) → owners (l ∷ lines) ≡ untied (kept (unskipped (l ∷ lines)))
    go true r w e f g more = rw e more
    go false true w e f g more = rw (e, f) more
    go false false true e f g more = rw (e, f, g) more
    go false false false e f g more = rw (e, f, g) (ap (λ (ls : List Numbered). l ∷ ls) more)

-- ---- they happen

-- what a line means that says no wire is no wire
abbrev NoWire : Meaning → Type 0
NoWire (wire lower upper) = ⊥
NoWire (tick n) = Unit {0}
NoWire (comes x) = Unit {0}

module _ (t : Table) (plan : List ComponentPlan) (wired : List ℕ → Bool) where
  said-no-wire : (late : Bool) (time : ℕ) (line : List ℕ) (m : Meaning) → is_wire line ≡ false → (form line >>= λ (s : Saying). saying_meaning t plan wired late time s) ≡ Ok m → NoWire m
  said-no-wire late time line m none e = go (form line) refl e
    where
      a-tick : (r : Result ℕ LineWhy) → (r >>= λ n. Ok (tick n)) ≡ Ok m → NoWire m
      a-tick (Ok n) k = let is : tick n ≡ m = cc in subst NoWire is tt
      a-tick (Err w) k = cc

      an-arrival : (r : Result Told LineWhy) → (r >>= λ x. Ok (comes x)) ≡ Ok m → NoWire m
      an-arrival (Ok x) k = let is : comes x ≡ m = cc in subst NoWire is tt
      an-arrival (Err w) k = cc

      go : (r : Result Saying LineWhy) → form line ≡ r → (r >>= λ (s : Saying). saying_meaning t plan wired late time s) ≡ Ok m → NoWire m
      go (Ok (ties lower upper)) f k = let wrong : true ≡ false = sym (ties-begin line lower upper f) ∙ none in cc
      go (Ok (ticks number)) f k = a-tick _ k
      go (Ok (arrives verb end name rest)) f k = an-arrival _ k
      go (Err w) f k = cc

  all-happen : (before : List (List ℕ)) (lines : List Numbered) (ms : List (ℕ × Meaning)) (n : ℕ) → meanings t plan wired before lines ≡ Ok ms → has n (untied lines) ≡ true → is_number_in (happenings_of ms) n ≡ true
  all-happen before [] ms n e h = cc
  all-happen before (l ∷ lines) ms n e h = first (λ others f k. all-happen (before ++ l.1 ∷ []) lines others n f k) (meaning t plan wired before l.1) refl e
    where
      happens : (m : Meaning) (others : List (ℕ × Meaning)) → NoWire m → is_number_in (happenings_of ((l.0, m) ∷ others)) n ≡ ((l.0 == n) || is_number_in (happenings_of others) n)
      happens (wire lower upper) others none = absurd none
      happens (tick k) others none = refl
      happens (comes x) others none = refl

      passed : (m : Meaning) (others : List (ℕ × Meaning)) → is_number_in (happenings_of others) n ≡ true → is_number_in (happenings_of ((l.0, m) ∷ others)) n ≡ true
      passed (wire lower upper) others k = k
      passed (tick j) others k = or_right (l.0 == n) _ k
      passed (comes x) others k = or_right (l.0 == n) _ k

      here : (b : Bool) (others : List (ℕ × Meaning)) → (l.0 == n) ≡ b → (has n (untied lines) ≡ true → is_number_in (happenings_of others) n ≡ true) → (b || has n (untied lines)) ≡ true → (b || is_number_in (happenings_of others) n) ≡ true
      here true others is later k = refl
      here false others is later k = later k

      done : (m : Meaning) (others : List (ℕ × Meaning)) → (is_wire l.1 ≡ false → NoWire m) → (has n (untied lines) ≡ true → is_number_in (happenings_of others) n ≡ true) → (b : Bool) → is_wire l.1 ≡ b
          → has n (if not b then l ∷ untied lines else untied lines) ≡ true → is_number_in (happenings_of ((l.0, m) ∷ others)) n ≡ true
      done m others none later true w k = passed m others (later k)
      done m others none later false w k = happens m others (none w) ∙ here (l.0 == n) others refl later k

      rest : ((others : List (ℕ × Meaning)) → meanings t plan wired (before ++ l.1 ∷ []) lines ≡ Ok others → has n (untied lines) ≡ true → is_number_in (happenings_of others) n ≡ true)
          → (m : Meaning) → meaning t plan wired before l.1 ≡ Ok m → (r : Result (List (ℕ × Meaning)) BadLine) → meanings t plan wired (before ++ l.1 ∷ []) lines ≡ r → (r >>= λ (others : List (ℕ × Meaning)). Ok ((l.0, m) ∷ others)) ≡ Ok ms → is_number_in (happenings_of ms) n ≡ true
      rest later m is (Ok others) f k =
          let same : (l.0, m) ∷ others ≡ ms = cc in
          subst (λ (x : List (ℕ × Meaning)). is_number_in (happenings_of x) n ≡ true) same
          (done m others (λ none. said-no-wire _ _ l.1 m none is) (later others f) (is_wire l.1) refl h)
      rest later m is (Err bad) f k = cc

      first : ((others : List (ℕ × Meaning)) → meanings t plan wired (before ++ l.1 ∷ []) lines ≡ Ok others → has n (untied lines) ≡ true → is_number_in (happenings_of others) n ≡ true)
          → (r : Result Meaning LineWhy) → meaning t plan wired before l.1 ≡ r → (at_line l.0 r >>= λ (m : Meaning). (meanings t plan wired (before ++ l.1 ∷ []) lines >>= λ (others : List (ℕ × Meaning)). Ok ((l.0, m) ∷ others))) ≡ Ok ms → is_number_in (happenings_of ms) n ≡ true
      first later (Ok m) is k = rest later m is (meanings t plan wired (before ++ l.1 ∷ []) lines) refl k
      first later (Err w) is k = cc

-- ---- all

script-owners : (octets : List ℕ) → owners (session_lines octets) ≡ untied (script_lines (script_in octets))
unfolding script_lines
script-owners octets = owners-kept (session_lines octets) ∙ ap untied (sym (lines-stay octets))

all-of : {A : Type 0} (P Q : A → Type 0) → ((x : A) → P x → Q x) → (xs : List A) → AllByRecursion P xs → AllByRecursion Q xs
all-of P Q more [] h = tt
all-of P Q more (x ∷ xs) h = (more x h.0, all-of P Q more xs h.1)

-- the lines of the script
abbrev Lines : List ℕ → List Numbered
Lines octets = script_lines (script_in octets)

pub none-forgotten : NoneForgotten
unfolding recordings
none-forgotten t plan octets p good =
    all-of (λ (r : Recorded). IsOwner (session_lines octets) r.owner) (λ (r : Recorded). is_number_in p.lines r.owner ≡ true) (λ r h. happens r.owner h) (recordings_behind [] (session_lines octets)) (all-owned [] (session_lines octets))
  where
    in-plot : (n : ℕ) → IsOwner (session_lines octets) n → (r : Result (List (ℕ × Meaning)) BadLine) → meanings t plan (wired_in (Lines octets)) [] (Lines octets) ≡ r → (r >>= λ (ms : List (ℕ × Meaning)). Ok (plot_of ms)) ≡ Ok p → is_number_in p.lines n ≡ true
    in-plot n owner (Err bad) e k = cc
    in-plot n owner (Ok ms) e k =
        let same : plot_of ms ≡ p = cc in
        subst (λ (q : Plot). is_number_in q.lines n ≡ true) same (there owner)
      where
        there : IsOwner (session_lines octets) n → is_number_in ((0, starts) ∷ happenings_of ms) n ≡ true
        there (inl is) = or_left (0 == n) _ (eq-eqb 0 n (sym is))
        there (inr h) = or_right (0 == n) _ (all-happen t plan (wired_in (Lines octets)) [] (Lines octets) ms n e (subst (λ (ls : List Numbered). has n ls ≡ true) (script-owners octets) h))

    happens : (n : ℕ) → IsOwner (session_lines octets) n → is_number_in p.lines n ≡ true
    happens n owner = in-plot n owner (meanings t plan (wired_in (Lines octets)) [] (Lines octets)) refl good
