-- The line to which recordings belong.
use Rattle.std.proofs.Common.{◌≡◌, ℕ, ◌+◌, ◌≤◌, Bool, true, false, List, [], ◌∷◌, ◌++◌, map, Option, Some, None, unwrap_or, if◌then◌else◌, refl, sym, ap, ◌∙◌, append_assoc, append-nil, arith}
use Rattle.eds_replay.proofs.Rising.{below-later}
use Rattle.std.specs.List.{AllByRecursion, filter, last_or}
use Rattle.eds_replay.specs.declared.session.Recorded.{Recorded}
use Rattle.eds_script.specs.Lines.{Numbered, ended, numbered_from, pieces, without_return}
use Rattle.eds_replay.specs.Sessions.{may_own, owner_in, recorded_in, recording_of, recordings_behind}
use Rattle.eds_script.proofs.Pieces.{ended-more}

-- the last of the lines that may own, after one more
last-more : (o : Option ℕ) (before : List Numbered) (l : Numbered)
    → last_or o (map (λ (x : Numbered). x.0) (filter (λ (x : Numbered). may_own x.1) (before ++ l ∷ [])))
    ≡ (if may_own l.1 then Some l.0 else last_or o (map (λ (x : Numbered). x.0) (filter (λ (x : Numbered). may_own x.1) before)))
last-more o [] l = go (may_own l.1) refl
  where
    go : (b : Bool) → may_own l.1 ≡ b → last_or o (map (λ (x : Numbered). x.0) (filter (λ (x : Numbered). may_own x.1) (l ∷ []))) ≡ (if may_own l.1 then Some l.0 else o)
    go true e = rw e refl
    go false e = rw e refl
last-more o (x ∷ xs) l = go (may_own x.1) refl (λ p. last-more p xs l)
  where
    go : (b : Bool) → may_own x.1 ≡ b
        → ((p : Option ℕ) → last_or p (map (λ (y : Numbered). y.0) (filter (λ (y : Numbered). may_own y.1) (xs ++ l ∷ [])))
        ≡ (if may_own l.1 then Some l.0 else last_or p (map (λ (y : Numbered). y.0) (filter (λ (y : Numbered). may_own y.1) xs))))
        → last_or o (map (λ (y : Numbered). y.0) (filter (λ (y : Numbered). may_own y.1) (x ∷ xs ++ l ∷ [])))
        ≡ (if may_own l.1 then Some l.0 else last_or o (map (λ (y : Numbered). y.0) (filter (λ (y : Numbered). may_own y.1) (x ∷ xs))))
    go true e others = rw e (others (Some x.0))
    go false e others = rw e (others o)

pub owner-more : (before : List Numbered) (n : ℕ) (line : List ℕ) → owner_in (before ++ (n, line) ∷ []) ≡ (if may_own line then n else owner_in before)
owner-more before n line = ap (λ o. unwrap_or o 0) (last-more None before (n, line)) ∙ go (may_own line) refl
  where
    go : (b : Bool) → may_own line ≡ b
        → unwrap_or (if may_own line then Some n else last_or None (map (λ (x : Numbered). x.0) (filter (λ (x : Numbered). may_own x.1) before))) 0 ≡ (if may_own line then n else owner_in before)
    go true e = rw e refl
    go false e = rw e refl

-- ---- the loop over lines

-- where so many recordings stand that belong to lines so far, and what is still to come
pub record SoFar (recorded : List Recorded) (owner number : ℕ) (rest : List ℕ) (all : List Recorded) : Type 0 where
  pub before : List Numbered
  pub owner_is : owner ≡ owner_in before
  pub below : AllByRecursion (λ (r : Recorded). r.owner ≤ owner) recorded
  pub within : owner ≤ number
  pub rest_is : recorded ++ recordings_behind before (numbered_from number (ended (pieces rest))) ≡ all

-- a line more
pub so-far-more : (recorded next : List Recorded) (owner later number m : ℕ) (piece line rest after : List ℕ) (all : List Recorded)
    → pieces rest ≡ piece ∷ pieces after → line ≡ without_return piece → m ≡ number + 1
    → next ≡ recorded ++ recording_of owner number (recorded_in line)
    → later ≡ (if may_own line then number else owner) → owner ≤ later → later ≤ number
    → AllByRecursion (λ (r : Recorded). r.owner ≤ owner) next
    → SoFar recorded owner number rest all → SoFar next later m after all
so-far-more recorded next owner later number m piece line rest after all cut line_is m_is next_is later_is above within below s =
    let tail : ℕ → List Numbered = λ k. numbered_from k (ended (pieces after)) in
    let here : Numbered = (number, line) in
    let lines : numbered_from number (ended (pieces rest)) ≡ here ∷ tail m = ap (λ ps. numbered_from number (ended ps)) cut ∙ ap (numbered_from number) (ended-more piece after) ∙ ap (λ l. (number, l) ∷ tail (number + 1)) (sym line_is) ∙ ap (λ k. here ∷ tail k) (sym m_is) in
    let more : recordings_behind s.before (here ∷ tail m) ≡ recording_of owner number (recorded_in line) ++ recordings_behind (s.before ++ here ∷ []) (tail m) = ap (λ o. recording_of o number (recorded_in line) ++ recordings_behind (s.before ++ here ∷ []) (tail m)) (sym s.owner_is) in
    record {
      before = s.before ++ here ∷ [];
      owner_is = later_is ∙ ap (λ o. if may_own line then number else o) s.owner_is ∙ sym (owner-more s.before number line);
      below = below-later next owner later above below;
      within = omega arith;
      rest_is = ap (λ rs. rs ++ recordings_behind (s.before ++ here ∷ []) (tail m)) next_is
          ∙ append_assoc recorded (recording_of owner number (recorded_in line)) (recordings_behind (s.before ++ here ∷ []) (tail m))
          ∙ ap (λ rs. recorded ++ rs) (sym more ∙ sym (ap (recordings_behind s.before) lines))
          ∙ s.rest_is;
    }

-- the last line
pub so-far-last : (recorded next : List Recorded) (owner number : ℕ) (rest : List ℕ) (all : List Recorded)
    → pieces rest ≡ rest ∷ [] → next ≡ recorded ++ recording_of owner number (recorded_in rest) → SoFar recorded owner number rest all → next ≡ all
so-far-last recorded next owner number rest all cut next_is s =
    next_is ∙ ap (λ o. recorded ++ recording_of o number (recorded_in rest)) s.owner_is
    ∙ ap (λ rs. recorded ++ rs) (sym (append-nil (recording_of (owner_in s.before) number (recorded_in rest))))
    ∙ sym (ap (λ ps. recorded ++ recordings_behind s.before (numbered_from number (ended ps))) cut) ∙ s.rest_is
