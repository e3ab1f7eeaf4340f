-- No timer fires twice.
use Rattle.std.proofs.Common.{◌≡◌, ◌<◌, ℕ, zero, suc, List, [], ◌∷◌, Option, Some, None, slice_get, refl, sym, ap, subst, ◌∙◌, arith, inl, inr, length}
use Rattle.eds_types.specs.PackedSizes.{packs}
use Rattle.eds_types.specs.Rows.{Table}
use Rattle.eds_plan.specs.Plans.{component_at}
use Rattle.eds_plan.specs.States.{StateNow}
use Rattle.eds_plan.specs.declared.component.ComponentPlan.{ComponentPlan}
use Rattle.eds_plan.specs.declared.machine.Machine.{Machine}
use Rattle.eds_plan.specs.declared.machine.Transition.{Transition}
use Rattle.eds_plan.specs.declared.run.MachineState.{MachineState}
use Rattle.eds_machine.specs.Moments.{AnyHas, HasMoment}
use Rattle.eds_machine.specs.Reactions.{fires, standing}
use Rattle.eds_machine.proofs.MachineLaws.{IsLater, moment_later, moments_pass}
use Rattle.eds_host.specs.Hosts.{TimersFireOnce}
use Rattle.eds_host.specs.Machines.{at_event, reacted}

any_later : (m : MachineState) (xs : List Transition) (at : ℕ) → AnyHas m xs at → m.passed < at
any_later m [] at h = absurd h
any_later m (x ∷ xs) at (inl e) = subst (IsLater m.passed) e (moment_later m x)
any_later m (x ∷ xs) at (inr h) = any_later m xs at h

-- a moment to come is later than what has passed
has_later : (ms : List Machine) (rs : List MachineState) (i at : ℕ) → HasMoment ms rs i at → (standing rs i).passed < at
has_later [] rs i at h = absurd h
has_later (m ∷ ms) [] i at h = absurd h
has_later (m ∷ ms) (r ∷ rs) zero at h = any_later r m.transitions at h
has_later (m ∷ ms) (r ∷ rs) (suc i) at h = has_later ms rs i at h

has_machine : (ms : List Machine) (rs : List MachineState) (i at : ℕ) → HasMoment ms rs i at → slice_get ms i ≡ None → ⊥
has_machine [] rs i at h e = h
has_machine (m ∷ ms) [] i at h e = h
has_machine (m ∷ ms) (r ∷ rs) zero at h e = absurd cc
has_machine (m ∷ ms) (r ∷ rs) (suc i) at h e = has_machine ms rs i at h e

module _ (t : Table) (c : ComponentPlan) (comp machine now at : ℕ) (s : StateNow) (lt : machine < length s.machines) where
  once : (o : Option Machine) → slice_get c.machines machine ≡ o → HasMoment c.machines (fires (packs t) t c now machine o (at_event comp s)).machines machine at → now < at
  once None e h = absurd (has_machine c.machines (at_event comp s).machines machine at h e)
  once (Some m) e h =
      let passed = ap (λ (o : Option Machine). (standing (fires (packs t) t c now machine o (at_event comp s)).machines machine).passed) (sym e) ∙ moments_pass (packs t) t c now machine m (at_event comp s) e lt in
      let later = has_later c.machines (fires (packs t) t c now machine (Some m) (at_event comp s)).machines machine at h in
      omega (arith, passed, later)

pub timers_fire_once : TimersFireOnce
unfolding reacted
timers_fire_once t plan comp machine now at s lt h = once t (component_at plan comp) comp machine now at s lt (slice_get (component_at plan comp).machines machine) refl h
