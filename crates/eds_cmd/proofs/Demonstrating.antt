-- The texts of a demonstration are put together piece after piece.
use Rattle.std.proofs.Common.{◌≡◌, ◌∙◌, ℕ, suc, ◌+◌, List, ◌++◌, codes, ap, sym, subst}
use Rattle.std.proofs.lemmas.List.{append-nil, append_assoc}
use Rattle.eds_plan.specs.declared.component.ComponentPlan.{ComponentPlan}
use Rattle.eds_types.specs.Rows.{Table}
use Rattle.eds_cmd.specs.declared.tally.Tally.{Tally}
use Rattle.eds_cmd.specs.Demonstrated.{RunsTo}
use Rattle.eds_cmd.specs.Run.{IsRunnable}
use Rattle.eds_cmd.specs.Demo.{frame_lines, frames_text, packet_text, packets_text}

-- a text of so many numbers from one on is what stands for the first, and the text of the others from the next on
open_packets : (i j more less : ℕ) → j ≡ i + 1 → more ≡ suc less → packets_text i more ≡ (codes "," ++ packet_text i) ++ packets_text j less
open_packets i j more less next e = ap (packets_text i) e ∙ ap (λ k. (codes "," ++ packet_text i) ++ packets_text k less) (sym next)

open_frames : (n i j more less : ℕ) → j ≡ i + 1 → more ≡ suc less → frames_text n i more ≡ frame_lines n i ++ frames_text n j less
open_frames n i j more less next e = ap (frames_text n i) e ∙ ap (λ k. frame_lines n i ++ frames_text n k less) (sym next)

-- one piece more
pub packets_next : (i j more less : ℕ) (old new whole : List ℕ) → j ≡ i + 1 → more ≡ suc less → new ≡ old ++ (codes "," ++ packet_text i) → old ++ packets_text i more ≡ whole → new ++ packets_text j less ≡ whole
packets_next i j more less old new whole next e n h =
    ap (λ x. x ++ packets_text j less) n ∙ append_assoc old (codes "," ++ packet_text i) (packets_text j less) ∙ ap (λ x. old ++ x) (sym (open_packets i j more less next e)) ∙ h

pub frames_next : (n i j more less : ℕ) (old new whole : List ℕ) → j ≡ i + 1 → more ≡ suc less → new ≡ old ++ frame_lines n i → old ++ frames_text n i more ≡ whole → new ++ frames_text n j less ≡ whole
frames_next n i j more less old new whole next e k h =
    ap (λ x. x ++ frames_text n j less) k ∙ append_assoc old (frame_lines n i) (frames_text n j less) ∙ ap (λ x. old ++ x) (sym (open_frames n i j more less next e)) ∙ h

-- all of them
pub packets_done : (i more : ℕ) (text whole : List ℕ) → more ≡ 0 → text ++ packets_text i more ≡ whole → text ≡ whole
packets_done i more text whole e h = sym (ap (λ m. text ++ packets_text i m) e ∙ append-nil text) ∙ h

pub frames_done : (n i more : ℕ) (text whole : List ℕ) → more ≡ 0 → text ++ frames_text n i more ≡ whole → text ≡ whole
frames_done n i more text whole e h = sym (ap (λ m. text ++ frames_text n i m) e ∙ append-nil text) ∙ h

-- ---- what is said of components is said of the sheet that has them

pub runnable_by : (t u : Table) (p q : List ComponentPlan) → t ≡ u → p ≡ q → IsRunnable t p → IsRunnable u q
runnable_by t u p q e k r = subst (IsRunnable u) k (subst (λ x. IsRunnable x p) e r)

pub runs_by : (t u : Table) (p q : List ComponentPlan) (a b : List ℕ) (tally : Tally) (time : ℕ) → t ≡ u → p ≡ q → a ≡ b → RunsTo t p a tally time → RunsTo u q b tally time
runs_by t u p q a b tally time e k same r = subst (λ x. RunsTo u q x tally time) same (subst (λ x. RunsTo u x a tally time) k (subst (λ x. RunsTo x p a tally time) e r))
