-- Lines that are handed to a host one after another.
use Rattle.std.proofs.Common.{◌≡◌, ℕ, List, ◌∷◌, refl, sym, ap, ◌∙◌, inl, inr}
use Rattle.std.specs.Prelude.{Result, Ok, Err, IfOk, IfErr, ◌⊎◌}
use Rattle.eds_base.specs.declared.fail.Memory.{Memory}
use Rattle.eds_plan.specs.Lines.{Told}
use Rattle.eds_plan.specs.Outs.{Report}
use Rattle.eds_host.specs.declared.handled.Handled.{Handled}
use Rattle.eds_host.specs.declared.handled.Handled.TheVariants as handled
use Rattle.eds_host.specs.declared.host.Phase.{Phase}
use Rattle.eds_host.specs.declared.host.Phase.TheVariants.{Fresh, Rests, Storm, Spent}
use Rattle.eds_host.specs.declared.setting.Setting.{Setting}
use Rattle.eds_host.specs.Hosts.{FirstMayBeHandled, HostNow, MayAllBeHandled, MayAllGoOn, standing_after}
use Rattle.eds_host.specs.Resting.{LineIs}
use Rattle.eds_host.specs.Runs.{time_after}
use Rattle.eds_host.specs.Systems.{World}
use Rattle.eds_host.specs.Wires.{other_end}
use Rattle.eds_host.proofs.Clock.{lines_take_their_time}

pub first_may_be_handled : FirstMayBeHandled
first_may_be_handled Fresh h l ls all = all.0
first_may_be_handled Rests h l ls all = all.0
first_may_be_handled Storm h l ls all = tt
first_may_be_handled Spent h l ls all = tt

-- a line that was done leads to its time
pub done_time : (s : Setting) (l : Told) (w v : World) (o q : List Report) (d : Handled) → d ≡ handled.Done → LineIs s l w d v o q → v.now ≡ time_after l w.now
done_time s l w v o q handled.Done e is = lines_take_their_time s.table.now s.plan.now (other_end s.links.now) l w v is.course is.goes is.is.0
done_time s l w v o q handled.Storm e is = absurd cc

-- a host that was handed a line has started
started : (after : Phase) (res : Result Handled Memory) → IfOk res (λ h. after ≡ standing_after h) → IfErr res (λ e. after ≡ Spent) → after ≡ Fresh → ⊥
started after (Ok handled.Done) p e fresh = let both : Rests ≡ Fresh = sym p ∙ fresh in cc
started after (Ok handled.Storm) p e fresh = let both : Storm ≡ Fresh = sym p ∙ fresh in cc
started after (Err m) p e fresh = let both : Spent ≡ Fresh = sym e ∙ fresh in cc

module _ (h g : HostNow) (table : g.table ≡ h.table) (plan : g.plan ≡ h.plan) (wires : g.wires ≡ h.wires) (l : Told) (ls : List Told) where
  moved : (n : ℕ) → g.world.now ≡ n → MayAllGoOn h.table h.plan h.wires n ls → MayAllGoOn g.table g.plan g.wires g.world.now ls
  moved n now all = rw (table, plan, wires, now) all

  go_on : (first : Phase) → (first ≡ Fresh) ⊎ (first ≡ Rests) → g.world.now ≡ time_after l h.world.now → MayAllBeHandled first h (l ∷ ls) → MayAllGoOn g.table g.plan g.wires g.world.now ls
  go_on Fresh some now all = moved 0 (now ∙ ap (λ (k : Told). time_after k h.world.now) all.0) all.1
  go_on Rests some now all = moved (time_after l h.world.now) now all.1
  go_on Storm some now all = absurd (elim some [ inl e ↦ cc | inr e ↦ cc ])
  go_on Spent some now all = absurd (elim some [ inl e ↦ cc | inr e ↦ cc ])

  -- the lines behind one that was handled may be handed on
  pub others_go_on : (first after : Phase) (res : Result Handled Memory) → (first ≡ Fresh) ⊎ (first ≡ Rests) → IfOk res (λ d. after ≡ standing_after d) → IfErr res (λ e. after ≡ Spent)
      → (after ≡ Rests → g.world.now ≡ time_after l h.world.now) → MayAllBeHandled first h (l ∷ ls) → MayAllBeHandled after g ls
  others_go_on first Fresh res some p e now all = absurd (started Fresh res p e refl)
  others_go_on first Rests res some p e now all = go_on first some (now refl) all
  others_go_on first Storm res some p e now all = tt
  others_go_on first Spent res some p e now all = tt
