-- What eds_machine's functions tell of components, as a run sees them.
use Rattle.std.proofs.Common.{◌≡◌, ◌≤◌, ◌<◌, ◌^◌, ℕ, zero, suc, List, [], ◌∷◌, length, map, Option, Some, None, slice_get, refl, sym, ap, subst, ◌∙◌, arith}
use Rattle.std.specs.List.{AllByRecursion}
use Rattle.eds_base.specs.Reading.{◌>>=◌}
use Rattle.eds_types.specs.PackedSizes.{packs}
use Rattle.eds_types.specs.Plain.{plain}
use Rattle.eds_types.specs.Rows.{Table}
use Rattle.eds_plan.specs.Carried.{carried}
use Rattle.eds_plan.specs.Ends.{end_at}
use Rattle.eds_plan.specs.Plans.{component_at}
use Rattle.eds_plan.specs.Sends.{Sent, primitive, halted, sent}
use Rattle.eds_plan.specs.States.{StateNow, state_now}
use Rattle.eds_plan.specs.declared.component.ComponentPlan.{ComponentPlan}
use Rattle.eds_plan.specs.declared.machine.Machine.{Machine}
use Rattle.eds_plan.specs.declared.run.CompState.{CompState}
use Rattle.eds_plan.specs.declared.run.End.{End}
use Rattle.eds_plan.specs.declared.run.MachineState.{MachineState}
use Rattle.eds_plan.specs.declared.run.Send.{Send}
use Rattle.eds_act.specs.Acting.{world_of}
use Rattle.eds_act.specs.Does.{AllConform, World, budget}
use Rattle.eds_act.specs.Leaves.{MayAllLeave, MayLeave}
use Rattle.eds_machine.specs.declared.event.Event.{Event}
use Rattle.eds_machine.specs.declared.event.Event.TheVariants as event
use Rattle.eds_machine.specs.Conditions.{AreTimely, IsStateAt, MayOccur}
use Rattle.eds_machine.specs.Laws as machines
use Rattle.eds_machine.specs.Moments.{HasMoment, due_from}
use Rattle.eds_machine.specs.Reactions.{Reacting, reacting, reacts, starts}
use Rattle.eds_machine.proofs.DueLaws.{next_is_due, none_is_due}
use Rattle.eds_host.specs.Comings.{coming}
use Rattle.eds_host.specs.Laws.{NotBefore}
use Rattle.eds_host.specs.Machines.{at_event, outcome, reacted, started, takes, waits_of, IsStateOf}
use Rattle.eds_host.specs.Plans.{IsSent, MayCome}

-- ---- components

-- what holds of all components holds of the one of a number
pub component_has : (P : ComponentPlan → Type 0) (plan : List ComponentPlan) (comp : ℕ) → AllByRecursion P plan → comp < length plan → P (component_at plan comp)
component_has P [] comp h lt = absurd (omega (arith, lt))
component_has P (c ∷ plan) zero h lt = h.0
component_has P (c ∷ plan) (suc comp) h lt = component_has P plan comp h.1 (omega (arith, lt))

pub component_is : (plan : List ComponentPlan) (comp : ℕ) → comp < length plan → slice_get plan comp ≡ Some (component_at plan comp)
component_is [] comp lt = absurd (omega (arith, lt))
component_is (c ∷ plan) zero lt = refl
component_is (c ∷ plan) (suc comp) lt = component_is plan comp (omega (arith, lt))

-- an end of a component of the plan
pub end_is : (plan : List ComponentPlan) (comp : ℕ) (e : End) → comp < length plan → e.comp.0 ≡ comp → end_at plan e ≡ slice_get (component_at plan comp).ends e.face
end_is plan comp e lt same = ap (λ (o : Option ComponentPlan). o >>= λ c. slice_get c.ends e.face) (ap (slice_get plan) same ∙ component_is plan comp lt)

-- ---- states

pub timely_later : (now u : ℕ) (ms : List Machine) (rs : List MachineState) → now ≤ u → AreTimely now ms rs → AreTimely u ms rs
timely_later now u [] [] le h = tt
timely_later now u [] (r ∷ rs) le h = absurd h
timely_later now u (m ∷ ms) [] le h = absurd h
timely_later now u (m ∷ ms) (r ∷ rs) le h = (record { at = h.0.at; entered = h.0.entered; passed = omega (arith, le, h.0.passed) }, timely_later now u ms rs le h.1)

-- a state of a time is one of a later time
pub state_later : (t : Table) (plan : List ComponentPlan) (comp now u : ℕ) (s : StateNow) → now ≤ u → u < 2 ^ 63 → IsStateOf t plan comp now s → IsStateOf t plan comp u s
unfolding IsStateOf
state_later t plan comp now u s le lt h = (h.0, timely_later now u (component_at plan comp).machines s.machines le h.1, lt)

pub state_at_is : (t : Table) (plan : List ComponentPlan) (comp now : ℕ) (s : CompState) → IsStateOf t plan comp now (state_now s) → IsStateAt t (component_at plan comp) now s
unfolding IsStateOf
state_at_is t plan comp now s h = record { variables = h.0; machines = h.1 }

pub state_early : (t : Table) (plan : List ComponentPlan) (comp now : ℕ) (s : StateNow) → IsStateOf t plan comp now s → now < 2 ^ 63
unfolding IsStateOf
state_early t plan comp now s h = h.2

pub state_of_is : (t : Table) (plan : List ComponentPlan) (comp now : ℕ) (s : CompState) → now < 2 ^ 63 → IsStateAt t (component_at plan comp) now s → IsStateOf t plan comp now (state_now s)
unfolding IsStateOf
state_of_is t plan comp now s lt h = (h.variables, h.machines, lt)

entered_early : (b now : ℕ) (ms : List Machine) (rs : List MachineState) → now < b → AreTimely now ms rs → AllByRecursion (λ (m : MachineState). m.entered < b) rs
entered_early b now ms [] lt h = tt
entered_early b now [] (r ∷ rs) lt h = absurd h
entered_early b now (m ∷ ms) (r ∷ rs) lt h = (omega (arith, lt, h.0.entered, h.0.passed), entered_early b now ms rs lt h.1)

pub all_early : (t : Table) (plan : List ComponentPlan) (comp now : ℕ) (s : StateNow) → IsStateOf t plan comp now s → AllByRecursion (λ (m : MachineState). m.entered < 2 ^ 63) s.machines
unfolding IsStateOf
all_early t plan comp now s h = entered_early (2 ^ 63) now (component_at plan comp).machines s.machines h.2 h.1

-- ---- moments

pub waits_after : (b : ℕ) (plan : List ComponentPlan) (comp : ℕ) (s : StateNow) → machines.NoneBefore b (component_at plan comp).machines s.machines → NotBefore b (waits_of plan comp s)
unfolding waits_of
waits_after b plan comp s h = go (due_from 0 (component_at plan comp).machines s.machines) refl
  where
    go : (o : Option (ℕ × ℕ)) → due_from 0 (component_at plan comp).machines s.machines ≡ o → NotBefore b o
    go None e = tt
    go (Some d) e = h d.1 d.0 (next_is_due (component_at plan comp).machines s.machines (Some d) (sym e)).comes

pub none_waits : (b : ℕ) (plan : List ComponentPlan) (comp : ℕ) (s : StateNow) → NotBefore b (waits_of plan comp s) → machines.NoneBefore b (component_at plan comp).machines s.machines
unfolding waits_of
none_waits b plan comp s h i at k = go (due_from 0 (component_at plan comp).machines s.machines) refl h
  where
    go : (o : Option (ℕ × ℕ)) → due_from 0 (component_at plan comp).machines s.machines ≡ o → NotBefore b o → b ≤ at
    go None e late = absurd (none_is_due (component_at plan comp).machines s.machines None (sym e) refl i at k)
    go (Some d) e late = omega (arith, late, (next_is_due (component_at plan comp).machines s.machines (Some d) (sym e)).least i at k)

within : (ms : List Machine) (rs : List MachineState) (i at : ℕ) → HasMoment ms rs i at → i < length ms
within [] rs i at h = absurd h
within (m ∷ ms) [] i at h = absurd h
within (m ∷ ms) (r ∷ rs) zero at h = omega arith
within (m ∷ ms) (r ∷ rs) (suc i) at h = let k = within ms rs i at h in omega (arith, k)

waits_within : (plan : List ComponentPlan) (comp : ℕ) (s : StateNow) (d : ℕ × ℕ) → waits_of plan comp s ≡ Some d → d.1 < length (component_at plan comp).machines
unfolding waits_of
waits_within plan comp s d e = within (component_at plan comp).machines s.machines d.1 d.0 (next_is_due (component_at plan comp).machines s.machines (Some d) (sym e)).comes

-- ---- what comes

pub may_occur : (t : Table) (plan : List ComponentPlan) (comp now : ℕ) (s : StateNow) (e : Event) → comp < length plan → MayCome t plan comp now s (coming e) → MayOccur t comp (component_at plan comp) e
may_occur t plan comp now s (event.Prim p) lt h = record {
  end = h.0.end;
  here = h.1;
  end_is = sym (end_is plan comp p.end lt h.1) ∙ h.0.here;
  way = h.0.way;
  arguments = subst (λ m. AllConform t (carried p.op p.way m) (map plain p.arguments)) (sym h.0.there) h.0.values;
}
may_occur t plan comp now s (event.Timer i) lt h = waits_within plan comp s (now, i) h

-- ---- what is made of it

-- a state and sends that are those of a component after an event
outcome_is : (comp : ℕ) (s : CompState) (out : List Send) (r : Reacting) → world_of comp s out ≡ r.world → s.machines ≡ r.machines → record { state = state_now s; sends = map sent out } ≡ outcome r
outcome_is comp s out r w m =
    ap (λ (v : World). record { state = record { variables = v.variables; machines = s.machines; outstanding = v.waiting }; sends = v.sent }) w
    ∙ ap (λ (ms : List MachineState). record { state = record { variables = r.world.variables; machines = ms; outstanding = r.world.waiting }; sends = r.world.sent }) m

pub started_is : (t : Table) (plan : List ComponentPlan) (comp : ℕ) (s : CompState) (old new : List Send) → old ≡ []
    → world_of comp s new ≡ (starts (packs t) t (component_at plan comp) comp (map sent old)).world → s.machines ≡ (starts (packs t) t (component_at plan comp) comp (map sent old)).machines
    → record { state = state_now s; sends = map sent new } ≡ started t plan comp
unfolding started
started_is t plan comp s old new e w m =
    outcome_is comp s new (starts (packs t) t (component_at plan comp) comp (map sent old)) w m
    ∙ ap (λ (o : List Send). outcome (starts (packs t) t (component_at plan comp) comp (map sent o))) e

taken_is : (t : Table) (c : ComponentPlan) (comp now : ℕ) (e : Event) (s : CompState) → reacts (packs t) t c now e (reacting comp s [] budget) ≡ takes t c (coming e) now (at_event comp (state_now s))
taken_is t c comp now (event.Prim p) s = refl
taken_is t c comp now (event.Timer i) s = refl

pub reacted_is : (t : Table) (plan : List ComponentPlan) (comp now : ℕ) (e : Event) (s s' : CompState) (old new : List Send) → old ≡ []
    → world_of comp s' new ≡ (reacts (packs t) t (component_at plan comp) now e (reacting comp s old budget)).world → s'.machines ≡ (reacts (packs t) t (component_at plan comp) now e (reacting comp s old budget)).machines
    → record { state = state_now s'; sends = map sent new } ≡ reacted t plan comp (coming e) now (state_now s)
unfolding reacted
reacted_is t plan comp now e s s' old new is w m =
    outcome_is comp s' new (reacts (packs t) t (component_at plan comp) now e (reacting comp s old budget)) w m
    ∙ ap (λ (o : List Send). outcome (reacts (packs t) t (component_at plan comp) now e (reacting comp s o budget))) is
    ∙ ap outcome (taken_is t (component_at plan comp) comp now e s)

-- ---- what is sent

pub all_sent : (t : Table) (plan : List ComponentPlan) (comp : ℕ) (ss : List Sent) → comp < length plan → AllByRecursion (MayLeave t (component_at plan comp) comp) ss → AllByRecursion (IsSent t plan) ss
all_sent t plan comp [] lt h = tt
all_sent t plan comp (primitive k face number way o vs ∷ ss) lt h =
    let s = h.0.1 in (
      record {
        end = s.end;
        here = end_is plan comp (record { comp = record { 0 = k }; face = face }) lt h.0.0 ∙ s.end_is;
        member = s.member;
        there = s.member_is;
        way = s.turned;
        op = s.op;
        values = s.values;
      },
      all_sent t plan comp ss lt h.1,
    )
all_sent t plan comp (halted machine h' ∷ ss) lt h = (tt, all_sent t plan comp ss lt h.1)

-- of what a component sent in an event
pub sent_fits : (t : Table) (plan : List ComponentPlan) (comp : ℕ) (s : CompState) (out : List Send) (w : World) → comp < length plan → world_of comp s out ≡ w → MayAllLeave t (component_at plan comp) comp w → AllByRecursion (IsSent t plan) (map sent out)
sent_fits t plan comp s out w lt e h = all_sent t plan comp (map sent out) lt (subst (λ (v : World). AllByRecursion (MayLeave t (component_at plan comp) comp) v.sent) (sym e) h.sent)
