-- Recordings beside what left runs over plans that are seen alike.
use Rattle.std.proofs.Common.{◌≡◌, ℕ, List, [], ◌∷◌, ◌++◌, codes, inl, inr, refl, sym, ap, ap₂, ◌∙◌}
use Rattle.eds_types.specs.Rows.{Table}
use Rattle.eds_plan.specs.Alike.{AreAlike, SeenComponent}
use Rattle.eds_plan.specs.Ends.{end_text}
use Rattle.eds_plan.specs.Outs.{Report, left, stopped, refused}
use Rattle.eds_plan.specs.declared.component.ComponentPlan.{ComponentPlan}
use Rattle.eds_plan.specs.declared.run.End.{End}
use Rattle.eds_plan.proofs.Alike.{components_alike, ends_alike}
use Rattle.eds_script.specs.Alike.{AlikeEvents}
use Rattle.eds_script.specs.Frames.{frame_in, sent_framed}
use Rattle.eds_script.specs.Names.{end_name, text_of_end}
use Rattle.eds_replay.specs.declared.differs.Differs.{Differs}
use Rattle.eds_replay.specs.declared.session.Recorded.{Recorded}
use Rattle.eds_replay.specs.Agreement.{Agrees, IsEventText}
use Rattle.eds_replay.specs.Differences.{AllAgree, IsFirstDifference}

-- a component with that name and these ends alone
bare : SeenComponent → ComponentPlan
bare s = record { name = s.name; ends = s.ends; variables = []; maps = s.maps; activities = []; machines = []; transactions = s.transactions }

texts-alike : (p q : List ComponentPlan) → AreAlike p q → (e : End) → text_of_end p e ≡ text_of_end q e
unfolding bare
texts-alike p q h e = ap (λ (s : SeenComponent). end_text s.name (end_name (bare s) e.face)) (components_alike p q h e.comp.0)

-- the same frame leaves them
frames-alike : (p q : List ComponentPlan) → AreAlike p q → (r : Report) → frame_in p r ≡ frame_in q r
frames-alike p q h (left time s) = ap₂ (λ name end. sent_framed time name s end) (texts-alike p q h s.end) (ends_alike p q h s.end)
frames-alike p q h (stopped time component machine halt) = refl
frames-alike p q h (refused time e member fault) = refl

module _ (events : AlikeEvents) (t : Table) where
  text-alike : (p q : List ComponentPlan) → AreAlike p q → (r : Report) (text : List ℕ) → IsEventText t p r text → IsEventText t q r text
  text-alike p q h r text is = events t p q h r (text ++ codes "\n") is

  agrees-alike : (p q : List ComponentPlan) → AreAlike p q → (text : List ℕ) (r : Report) (n : ℕ) → Agrees t p text r n → Agrees t q text r n
  agrees-alike p q h text r n (inl k) = inl (text-alike p q h r text k.0, k.1)
  agrees-alike p q h text r n (inr k) = inr (λ is. k.0 (text-alike q p (sym h) r text is), ((k.1).0, sym (frames-alike p q h r) ∙ (k.1).1, (k.1).2), k.2)

  pub all-alike : (p q : List ComponentPlan) → AreAlike p q → (xs : List Recorded) (rs : List Report) (n : ℕ) → AllAgree t p xs rs n → AllAgree t q xs rs n
  all-alike p q h [] [] n k = k
  all-alike p q h [] (r ∷ rs) n k = k
  all-alike p q h (x ∷ xs) [] n k = k
  all-alike p q h (x ∷ xs) (r ∷ rs) n k = (k.0, k.1, agrees-alike p q h x.text r k.0 k.2, all-alike p q h xs rs k.1 k.3, k.4)

  pub difference-alike : (p q : List ComponentPlan) → AreAlike p q → (owner : ℕ) (xs : List Recorded) (rs : List Report) (d : Differs) → IsFirstDifference t p owner xs rs d → IsFirstDifference t q owner xs rs d
  difference-alike p q h owner [] [] d k = k
  difference-alike p q h owner [] (r ∷ rs) d k = record { line = k.line; want = k.want; got = text-alike p q h r d.got k.got }
  difference-alike p q h owner (x ∷ xs) [] d k = k
  difference-alike p q h owner (x ∷ xs) (r ∷ rs) d (inl k) =
      inl (record { never = λ n a. k.never n (agrees-alike q p (sym h) x.text r n a); line = k.line; want = k.want; got = text-alike p q h r d.got k.got })
  difference-alike p q h owner (x ∷ xs) (r ∷ rs) d (inr k) = inr (k.0, agrees-alike p q h x.text r k.0 k.1, difference-alike p q h owner xs rs d k.2)
