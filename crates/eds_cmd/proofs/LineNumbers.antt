-- The lines of a script come in the order of their numbers.
use Rattle.std.proofs.Common.{◌≡◌, ℕ, ◌+◌, ◌<◌, Bool, true, false, List, [], ◌∷◌, ◌++◌, Option, Some, None, Result, Ok, Err, refl, subst, arith}
use Rattle.eds_base.specs.Answering.{◌>>=◌}
use Rattle.eds_plan.specs.Lines.{Told}
use Rattle.eds_plan.specs.declared.component.ComponentPlan.{ComponentPlan}
use Rattle.eds_replay.specs.Judges.{IsLater}
use Rattle.eds_script.specs.Lines.{Numbered, ended, is_skipped, numbered_from, pieces, script_lines, unskipped}
use Rattle.eds_script.specs.Meaning.{Meaning, comes, meaning, tick, wire, wired_in}
use Rattle.eds_script.specs.Scripts.{Plot, at_line, happenings_of, meanings, plot_of}
use Rattle.eds_script.specs.declared.why.BadLine.{BadLine}
use Rattle.eds_script.specs.declared.why.LineWhy.{LineWhy}
use Rattle.eds_types.specs.Rows.{Table}
use Rattle.eds_cmd.specs.Replaying.{AreLater}
use Rattle.eds_cmd.specs.ReplayLaws.{NumbersRise}

-- numbered lines come later than a last one, and each of them later than the one before it
abbrev Rise : Option ℕ → List Numbered → Type 0
Rise last [] = Unit {0}
Rise last (l ∷ ls) = IsLater last l.0 × Rise (Some l.0) ls

-- what comes later than a later line comes later
still_later : (last : Option ℕ) (line next : ℕ) → IsLater last line → line < next → IsLater last next
still_later None line next h lt = tt
still_later (Some n) line next h lt = omega (arith, h, lt)

rise_earlier : (last : Option ℕ) (n : ℕ) (ls : List Numbered) → IsLater last n → Rise (Some n) ls → Rise last ls
rise_earlier last n [] later h = tt
rise_earlier last n (l ∷ ls) later h = (still_later last n l.0 later h.0, h.1)

later_earlier : (last : Option ℕ) (n : ℕ) (ls : List (ℕ × Told)) → IsLater last n → AreLater (Some n) ls → AreLater last ls
later_earlier last n [] later h = tt
later_earlier last n (l ∷ ls) later h = (still_later last n l.0 later h.0, h.1)

numbered_rise : (last n : ℕ) (lines : List (List ℕ)) → last < n → Rise (Some last) (numbered_from n lines)
numbered_rise last n [] lt = tt
numbered_rise last n (line ∷ lines) lt = (lt, numbered_rise n (n + 1) lines (omega arith))

unskipped_rise : (last : Option ℕ) (ls : List Numbered) → Rise last ls → Rise last (unskipped ls)
unskipped_rise last [] h = tt
unskipped_rise last (l ∷ ls) h = go (is_skipped l.1) refl (unskipped_rise (Some l.0) ls h.1)
  where
    go : (b : Bool) → is_skipped l.1 ≡ b → Rise (Some l.0) (unskipped ls) → Rise last (unskipped (l ∷ ls))
    go true e more = rw e (rise_earlier last l.0 (unskipped ls) h.0 more)
    go false e more = rw e (h.0, more)

module _ (t : Table) (plan : List ComponentPlan) (wired : List ℕ → Bool) where
  happening_later : (last : Option ℕ) (n : ℕ) (m : Meaning) (others : List (ℕ × Meaning)) → IsLater last n → AreLater (Some n) (happenings_of others) → AreLater last (happenings_of ((n, m) ∷ others))
  happening_later last n (wire lower upper) others later h = later_earlier last n (happenings_of others) later h
  happening_later last n (tick k) others later h = (later, h)
  happening_later last n (comes x) others later h = (later, h)

  all_later : (last : Option ℕ) (before : List (List ℕ)) (lines : List Numbered) (ms : List (ℕ × Meaning)) → meanings t plan wired before lines ≡ Ok ms → Rise last lines → AreLater last (happenings_of ms)
  all_later last before [] ms e h = let none : [] ≡ ms = cc in subst (λ (x : List (ℕ × Meaning)). AreLater last (happenings_of x)) none tt
  all_later last before (l ∷ lines) ms e h = first (λ others f. all_later (Some l.0) (before ++ l.1 ∷ []) lines others f h.1) (meaning t plan wired before l.1) e
    where
      Later : Type 0
      Later = (others : List (ℕ × Meaning)) → meanings t plan wired (before ++ l.1 ∷ []) lines ≡ Ok others → AreLater (Some l.0) (happenings_of others)

      rest : Later → (m : Meaning) (r : Result (List (ℕ × Meaning)) BadLine) → meanings t plan wired (before ++ l.1 ∷ []) lines ≡ r → (r >>= λ (others : List (ℕ × Meaning)). Ok ((l.0, m) ∷ others)) ≡ Ok ms → AreLater last (happenings_of ms)
      rest later m (Ok others) f k =
          let same : (l.0, m) ∷ others ≡ ms = cc in
          subst (λ (x : List (ℕ × Meaning)). AreLater last (happenings_of x)) same (happening_later last l.0 m others h.0 (later others f))
      rest later m (Err bad) f k = cc

      first : Later → (r : Result Meaning LineWhy) → (at_line l.0 r >>= λ (m : Meaning). (meanings t plan wired (before ++ l.1 ∷ []) lines >>= λ (others : List (ℕ × Meaning)). Ok ((l.0, m) ∷ others))) ≡ Ok ms → AreLater last (happenings_of ms)
      first later (Ok m) k = rest later m (meanings t plan wired (before ++ l.1 ∷ []) lines) refl k
      first later (Err w) k = cc

lines_rise : (text : List ℕ) → Rise (Some 0) (script_lines text)
unfolding script_lines
lines_rise text = unskipped_rise (Some 0) (numbered_from 1 (ended (pieces text))) (numbered_rise 0 1 (ended (pieces text)) (omega arith))

pub numbers_rise : NumbersRise
numbers_rise t plan text p good = go (meanings t plan (wired_in (script_lines text)) [] (script_lines text)) refl good
  where
    go : (r : Result (List (ℕ × Meaning)) BadLine) → meanings t plan (wired_in (script_lines text)) [] (script_lines text) ≡ r → (r >>= λ (ms : List (ℕ × Meaning)). Ok (plot_of ms)) ≡ Ok p → AreLater None p.lines
    go (Err bad) e k = cc
    go (Ok ms) e k =
        let same : plot_of ms ≡ p = cc in
        subst (λ (q : Plot). AreLater None q.lines) same (tt, all_later t plan (wired_in (script_lines text)) (Some 0) [] (script_lines text) ms e (lines_rise text))
