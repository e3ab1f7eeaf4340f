-- One step of a course.
use Rattle.std.proofs.Common.{◌≡◌, ℕ, zero, suc, ◌-◌, List, ◌++◌, Option, Some, None, refl, sym, ap, subst, ◌∙◌, append_assoc, append-nil, arith}
use Rattle.eds_plan.specs.Outs.{Report}
use Rattle.eds_host.specs.declared.step.Step.TheVariants as step
use Rattle.eds_host.specs.declared.handled.Handled.TheVariants as handled
use Rattle.eds_host.specs.Systems.{System, World, Happening, next}
use Rattle.eds_host.specs.Runs.{Course, after, storm, rests, go_by, go_on}
use Rattle.eds_host.specs.Steps.{IsStep, IsLine}

-- what is left of a course, with the outs so far, is the course
pub record Continues (c d : Course) (o q : List Report) : Type 0 where
  pub end : d.end ≡ c.end
  pub outs : q ++ d.outs ≡ o ++ c.outs

module _ (sys : System) (until : Option ℕ) where
  rests_at : (left : ℕ) (w : World) → next sys until w ≡ None → go_on sys left until w ≡ rests w
  unfolding go_on
  rests_at zero w e = ap (λ x. go_by w x (λ h. storm)) e
  rests_at (suc left) w e = ap (λ x. go_by w x (λ h. after h.outs (go_on sys left until h.world))) e

  pub goes_at : (left : ℕ) (w : World) (h : Happening) → next sys until w ≡ Some h → go_on sys (suc left) until w ≡ after h.outs (go_on sys left until h.world)
  unfolding go_on
  goes_at left w h e = ap (λ x. go_by w x (λ h. after h.outs (go_on sys left until h.world))) e

  pub storms_at : (w : World) → (next sys until w ≡ None → ⊥) → go_on sys zero until w ≡ storm
  unfolding go_on
  storms_at w n = go (next sys until w) refl
    where
      go : (x : Option Happening) → next sys until w ≡ x → go_by w x (λ h. storm) ≡ storm
      go None e = absurd (n e)
      go (Some h) e = refl

  pub done : (c : Course) (left : ℕ) (w v : World) (o q r : List Report) → Continues c (go_on sys left until w) o q → IsStep step.Rests left (next sys until w) w v q r → IsLine handled.Done c v o r
  done c left w v o q r k s =
      let e = rests_at left w s.0 in
      (sym k.end ∙ ap (λ (d : Course). d.end) e ∙ ap (λ q. Some q) (sym s.1), s.2 ∙ sym (append-nil q) ∙ ap (λ (d : Course). q ++ d.outs) (sym e) ∙ k.outs)

  pub stormed : (c : Course) (left : ℕ) (w v : World) (o q r : List Report) → Continues c (go_on sys left until w) o q → IsStep step.Storms left (next sys until w) w v q r → IsLine handled.Storm c v o r
  stormed c left w v o q r k s =
      let e : go_on sys left until w ≡ storm = ap (λ l. go_on sys l until w) s.0 ∙ storms_at w s.1 in
      (sym k.end ∙ ap (λ (d : Course). d.end) e, s.2 ∙ sym (append-nil q) ∙ ap (λ (d : Course). q ++ d.outs) (sym e) ∙ k.outs)

  pub gone : (c : Course) (left : ℕ) (w v : World) (o q r : List Report) → Continues c (go_on sys left until w) o q → IsStep step.Goes left (next sys until w) w v q r → Continues c (go_on sys (left - 1) until v) o r
  gone c zero w v o q r k s = absurd (omega (arith, s.0))
  gone c (suc left) w v o q r k s =
      let outs = s.1.0 in
      let e = goes_at left w (record { world = v; outs = outs }) s.1.1 in
      let one : suc left - 1 ≡ left = omega arith in
      subst (λ l. Continues c (go_on sys l until v) o r) (sym one) (record {
        end = ap (λ (d : Course). d.end) (sym e) ∙ k.end;
        outs = ap (λ x. x ++ (go_on sys left until v).outs) s.1.2 ∙ append_assoc q outs _ ∙ ap (λ (d : Course). q ++ d.outs) (sym e) ∙ k.outs;
      })
