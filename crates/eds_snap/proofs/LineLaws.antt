-- Lines of a snapshot, read one after another.
use Rattle.std.proofs.Common.{◌≡◌, ◌+◌, ℕ, suc, List, [], ◌∷◌, length, Bool, true, false, Result, Ok, Err, refl, sym, ap, subst, ◌∙◌, arith}
use Rattle.eds_base.specs.Answering.{◌>>=◌, StopsAs}
use Rattle.eds_base.specs.declared.fail.Fail.{Fail}
use Rattle.eds_base.specs.declared.fail.Fail.TheVariants.{Named, Memory}
use Rattle.eds_types.specs.Rows.{Table}
use Rattle.eds_plan.specs.declared.component.ComponentPlan.{ComponentPlan}
use Rattle.eds_snap.specs.declared.why.BadSnap.{BadSnap}
use Rattle.eds_snap.specs.Lines.{Line, last_line, lines_from}
use Rattle.eds_snap.specs.Readings.{Reading, read_line, read_lines}
use Rattle.eds_snap.specs.Stops.{at_line}
use Rattle.eds_script.specs.Lines.{before_others, is_feed, pieces}

-- a piece in front of others is a line
pub line-next : (n : ℕ) (line rest after : List ℕ) → pieces rest ≡ line ∷ pieces after → lines_from n (pieces rest) ≡ record { number = n; text = line; ended = true } ∷ lines_from (n + 1) (pieces after)
line-next n line rest after e = ap (lines_from n) e ∙ front after
  where
    inside : (x : ℕ) (ps : List (List ℕ)) → lines_from n (line ∷ before_others x ps) ≡ record { number = n; text = line; ended = true } ∷ lines_from (n + 1) (before_others x ps)
    inside x [] = refl
    inside x (p ∷ ps) = refl

    front : (after : List ℕ) → lines_from n (line ∷ pieces after) ≡ record { number = n; text = line; ended = true } ∷ lines_from (n + 1) (pieces after)
    front [] = refl
    front (x ∷ xs) = go (is_feed x) refl
      where
        go : (b : Bool) → is_feed x ≡ b → lines_from n (line ∷ pieces (x ∷ xs)) ≡ record { number = n; text = line; ended = true } ∷ lines_from (n + 1) (pieces (x ∷ xs))
        go true p = rw p refl
        go false p = rw p (inside x (pieces xs))

-- the last piece
pub line-last : (n : ℕ) (rest : List ℕ) → pieces rest ≡ rest ∷ [] → lines_from n (pieces rest) ≡ last_line n rest
line-last n rest e = ap (lines_from n) e

module _ (t : Table) (plan : List ComponentPlan) where
  pub step : (r q : Reading) (l : Line) (ls : List Line) → at_line l.number (read_line t plan r l) ≡ Ok q → read_lines t plan r (l ∷ ls) ≡ read_lines t plan q ls
  step r q l ls e = ap (λ x. x >>= λ p. read_lines t plan p ls) e

  stop : (r : Reading) (l : Line) (ls : List Line) (b : BadSnap) → at_line l.number (read_line t plan r l) ≡ Err b → read_lines t plan r (l ∷ ls) ≡ Err b
  stop r l ls b e = ap (λ x. x >>= λ p. read_lines t plan p ls) e

  pub stops : (r : Reading) (l : Line) (ls all : List Line) (target : Result Reading BadSnap) (f : Fail BadSnap) → all ≡ l ∷ ls → read_lines t plan r all ≡ target → StopsAs f (at_line l.number (read_line t plan r l)) → StopsAs f target
  stops r l ls all target (Named b) is e s = sym e ∙ ap (read_lines t plan r) is ∙ stop r l ls b s
  stops r l ls all target Memory is e s = tt

  pub goes : (r q : Reading) (l : Line) (ls all : List Line) (target : Result Reading BadSnap) → all ≡ l ∷ ls → read_lines t plan r all ≡ target → at_line l.number (read_line t plan r l) ≡ Ok q → read_lines t plan q ls ≡ target
  goes r q l ls all target is e s = sym (step r q l ls s) ∙ ap (read_lines t plan r) (sym is) ∙ e
