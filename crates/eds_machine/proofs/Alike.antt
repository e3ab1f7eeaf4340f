-- What components that are seen alike make of events.
use Rattle.std.proofs.Common.{◌≡◌, ℕ, ◌+◌, ◌-◌, List, [], ◌∷◌, map, Bool, true, Option, Some, None, slice_get, option_map, refl, ap, ap₂, ◌∙◌}
use Rattle.std.specs.Prelude.{◌&&◌, ◌==◌, if◌then◌else◌, slice_set, option_and_then}
use Rattle.std.specs.List.{find}
use Rattle.eds_types.specs.Plain.{Plain, plain}
use Rattle.eds_types.specs.Rows.{Table}
use Rattle.eds_plan.specs.Alike.{IsAlike, SeenComponent, SeenMachine, SeenTransition, SeenVariable, seen_machine, seen_transition, seen_variable}
use Rattle.eds_plan.specs.Matching.{same_trigger, waits_for}
use Rattle.eds_plan.specs.Sends.{Sent}
use Rattle.eds_plan.specs.Statements.{condition}
use Rattle.eds_plan.specs.declared.activity.Action.{Action}
use Rattle.eds_plan.specs.declared.activity.Guard.{Guard}
use Rattle.eds_plan.specs.declared.activity.Op.{Op}
use Rattle.eds_plan.specs.declared.component.ComponentPlan.{ComponentPlan}
use Rattle.eds_plan.specs.declared.machine.Machine.{Machine}
use Rattle.eds_plan.specs.declared.machine.State.{State}
use Rattle.eds_plan.specs.declared.machine.Transition.{Transition}
use Rattle.eds_plan.specs.declared.machine.Trigger.{Trigger}
use Rattle.eds_plan.specs.declared.machine.Trigger.TheVariants as trigger
use Rattle.eds_plan.specs.declared.run.MachineState.{MachineState}
use Rattle.eds_plan.specs.declared.run.Outstanding.{Outstanding}
use Rattle.eds_plan.proofs.Alike.{by_option, at_place, firsts_alike, others_alike, told_alike, found_alike}
use Rattle.eds_act.specs.Does.{World, budget, holds, waits}
use Rattle.eds_act.proofs.Alike.{actions_alike}
use Rattle.eds_machine.specs.declared.event.Event.{Event}
use Rattle.eds_machine.specs.declared.event.Event.TheVariants as event
use Rattle.eds_machine.specs.Laws.{AlikeMoments, AlikeReactions, AlikeStarts}
use Rattle.eds_machine.specs.Moments.{due_from, first_due, moment_by, next_moment, sooner, with_number}
use Rattle.eds_machine.specs.Reactions.{Reacting, standing, required_end, is_required, without, answers, answers_at, ended_at, ended_by, at_entry, at_exit, passes, is_open, taken, settles, maps_to, mapped_by, map_reacts, trigger_of, begins, first_values, fresh, acts, moves, goes, goes_or_stays, machine_reacts, machines_react, fires, receives, reacts, starts}

-- ---- guards, transitions and machines that are seen alike

guards_alike : (t : Table) (args vars : List Plain) (g k : Option Guard) → option_map condition g ≡ option_map condition k → passes t args vars g ≡ passes t args vars k
guards_alike t args vars g k same = by_option condition (passes t args vars) (passes t args vars) refl (λ a b e. ap (holds t args vars) e) g k same

waits_alike : (at : ℕ) (e : Trigger) (x y : Transition) → seen_transition x ≡ seen_transition y → waits_for at e x ≡ waits_for at e y
waits_alike at e x y same = ap (λ (s : SeenTransition). same_trigger s.event e && (s.from == at)) same

moments_alike : (m : MachineState) (xs ys : List Transition) → map seen_transition xs ≡ map seen_transition ys → next_moment m xs ≡ next_moment m ys
moments_alike m [] [] same = refl
moments_alike m [] (y ∷ ys) same = absurd cc
moments_alike m (x ∷ xs) [] same = absurd cc
moments_alike m (x ∷ xs) (y ∷ ys) same =
    ap₂ sooner (ap (λ (s : SeenTransition). if s.from == m.at then moment_by s.event m else None) (firsts_alike seen_transition x y xs ys same)) (moments_alike m xs ys (others_alike seen_transition x y xs ys same))

-- the transitions of machines that are seen alike are
transitions_alike : (m n : Machine) → seen_machine m ≡ seen_machine n → map seen_transition m.transitions ≡ map seen_transition n.transitions
transitions_alike m n same = ap (λ (s : SeenMachine). s.transitions) same

dues_alike : (i : ℕ) (ms ns : List Machine) (ss : List MachineState) → map seen_machine ms ≡ map seen_machine ns → due_from i ms ss ≡ due_from i ns ss
dues_alike i [] [] ss same = refl
dues_alike i [] (n ∷ ns) ss same = absurd cc
dues_alike i (m ∷ ms) [] ss same = absurd cc
dues_alike i (m ∷ ms) (n ∷ ns) [] same = refl
dues_alike i (m ∷ ms) (n ∷ ns) (s ∷ ss) same =
    ap₂ (λ one more. first_due (with_number i one) more) (moments_alike s m.transitions n.transitions (transitions_alike m n (firsts_alike seen_machine m n ms ns same))) (dues_alike (i + 1) ms ns ss (others_alike seen_machine m n ms ns same))

module _ (packs : ℕ → Plain → Bool) (t : Table) (c d : ComponentPlan) (h : IsAlike c d) where
  machines_alike : map seen_machine c.machines ≡ map seen_machine d.machines
  machines_alike = ap (λ (s : SeenComponent). s.machines) h

  -- ---- transactions

  required_alike : (face : ℕ) → is_required c face ≡ is_required d face
  required_alike face = ap (λ (s : SeenComponent). required_end (slice_get s.ends face)) h

  answered_at : (qs : List Outstanding) (face member : ℕ) (name : Option ℕ) → answers_at c qs face member name ≡ answers_at d qs face member name
  answered_at qs face member None = refl
  answered_at qs face member (Some name) = ap (λ b. if b then waits qs face member name else true) (required_alike face)

  answered_alike : (qs : List Outstanding) (e : Trigger) (name : Option ℕ) → answers c qs e name ≡ answers d qs e name
  answered_alike qs trigger.Start name = refl
  answered_alike qs (trigger.Command face member) name = answered_at qs face member name
  answered_alike qs (trigger.Param face member o) name = answered_at qs face member name
  answered_alike qs (trigger.Timer n) name = refl

  over_at : (qs : List Outstanding) (face member : ℕ) (name : Option ℕ) → ended_at c qs face member name ≡ ended_at d qs face member name
  over_at qs face member None = refl
  over_at qs face member (Some name) = ap (λ b. if b then without qs face member name else qs) (required_alike face)

  over_alike : (qs : List Outstanding) (e : Trigger) (name : Option ℕ) → ended_by c qs e name ≡ ended_by d qs e name
  over_alike qs trigger.Start name = refl
  over_alike qs (trigger.Command face member) name = over_at qs face member name
  over_alike qs (trigger.Param face member o) name = over_at qs face member name
  over_alike qs (trigger.Timer n) name = refl

  -- ---- transitions

  open_alike : (args vars : List Plain) (qs : List Outstanding) (x y : Transition) → seen_transition x ≡ seen_transition y → is_open t c args vars qs x ≡ is_open t d args vars qs y
  open_alike args vars qs x y same =
      ap₂ (λ a b. a && b)
      (answered_alike qs x.event x.transaction ∙ ap (λ (s : SeenTransition). answers d qs s.event s.transaction) same)
      (guards_alike t args vars x.guard y.guard (ap (λ (s : SeenTransition). s.guard) same))

  taken_alike : (m n : Machine) → seen_machine m ≡ seen_machine n → (at : ℕ) (e : Trigger) (args vars : List Plain) (qs : List Outstanding) → option_map seen_transition (taken t c m at e args vars qs) ≡ option_map seen_transition (taken t d n at e args vars qs)
  taken_alike m n same at e args vars qs =
      found_alike seen_transition (λ (x : Transition). waits_for at e x && is_open t c args vars qs x) (λ (x : Transition). waits_for at e x && is_open t d args vars qs x)
      (λ x y alike. ap₂ (λ a b. a && b) (waits_alike at e x y alike) (open_alike args vars qs x y alike))
      m.transitions n.transitions (transitions_alike m n same)

  acts_alike : (i : ℕ) (args : List Plain) (a : Option Action) (r : Reacting) → acts packs t c i args a r ≡ acts packs t d i args a r
  acts_alike i args None r = refl
  acts_alike i args (Some a) r = ap (λ (p : ℕ × World). record { world = p.1; machines = r.machines; left = p.0 }) (actions_alike packs t c d h i a args r.left r.world)

  settled_alike : (x y : Transition) → seen_transition x ≡ seen_transition y → (r : Reacting) → settles c x r ≡ settles d y r
  settled_alike x y same r =
      ap (λ (qs : List Outstanding). record r { world = record r.world { waiting = qs } })
      (over_alike r.world.waiting x.event x.transaction ∙ ap (λ (s : SeenTransition). ended_by d r.world.waiting s.event s.transaction) same)

  -- what is done in the states of a machine that is so seen
  abbrev moved : SeenMachine → SeenTransition → List Plain → (i at : ℕ) → Reacting → Reacting
  moved m x args i at r =
      acts packs t d i [] (option_and_then (λ (s : State). s.at_entry) (slice_get m.states x.to))
      (acts packs t d i args x.action (acts packs t d i [] (option_and_then (λ (s : State). s.at_exit) (slice_get m.states at)) r))

  moved_alike : (args : List Plain) (i : ℕ) (m n : Machine) → seen_machine m ≡ seen_machine n → (at : ℕ) (x y : Transition) → seen_transition x ≡ seen_transition y → (r : Reacting) → moves packs t c args i m at x r ≡ moves packs t d args i n at y r
  moved_alike args i m n like at x y same r =
      acts_alike i [] (at_entry m x.to) (acts packs t c i args x.action (acts packs t c i [] (at_exit m at) (settles c x r)))
      ∙ ap (acts packs t d i [] (at_entry m x.to)) (acts_alike i args x.action (acts packs t c i [] (at_exit m at) (settles c x r)))
      ∙ ap (λ s. acts packs t d i [] (at_entry m x.to) (acts packs t d i args x.action s)) (acts_alike i [] (at_exit m at) (settles c x r))
      ∙ ap (moved (seen_machine m) (seen_transition x) args i at) (settled_alike x y same r)
      ∙ ap₂ (λ s z. moved s z args i at (settles d y r)) like same

  gone_alike : (now : ℕ) (args : List Plain) (i : ℕ) (m n : Machine) → seen_machine m ≡ seen_machine n → (at : ℕ) (x y : Transition) → seen_transition x ≡ seen_transition y → (r : Reacting) → goes packs t c now args i m at x r ≡ goes packs t d now args i n at y r
  gone_alike now args i m n like at x y same r =
      ap₂ (λ (s : Reacting) (z : SeenTransition). record s { machines = slice_set s.machines i (record { at = z.to; entered = now; passed = now }) }) (moved_alike args i m n like at x y same r) same

  -- ---- machines

  machine_alike : (now : ℕ) (e : Trigger) (args : List Plain) (i : ℕ) (m n : Machine) → seen_machine m ≡ seen_machine n → (r : Reacting) → machine_reacts packs t c now e args i m r ≡ machine_reacts packs t d now e args i n r
  unfolding machine_reacts
  machine_alike now e args i m n like r =
      by_option seen_transition (λ x. goes_or_stays packs t c now e args i m at x r) (λ x. goes_or_stays packs t d now e args i n at x r) refl
      (λ x y same. gone_alike now args i m n like at x y same r)
      (taken t c m at e args r.world.variables r.world.waiting) (taken t d n at e args r.world.variables r.world.waiting)
      (taken_alike m n like at e args r.world.variables r.world.waiting)
    where
      at : ℕ
      at = (standing r.machines i).at

  all_alike : (now : ℕ) (e : Trigger) (args : List Plain) (i : ℕ) (ms ns : List Machine) → map seen_machine ms ≡ map seen_machine ns → (r : Reacting) → machines_react packs t c now e args i ms r ≡ machines_react packs t d now e args i ns r
  all_alike now e args i [] [] same r = refl
  all_alike now e args i [] (n ∷ ns) same r = absurd cc
  all_alike now e args i (m ∷ ms) [] same r = absurd cc
  all_alike now e args i (m ∷ ms) (n ∷ ns) same r =
      ap (machines_react packs t c now e args (i + 1) ms) (machine_alike now e args i m n (firsts_alike seen_machine m n ms ns same) r)
      ∙ all_alike now e args (i + 1) ms ns (others_alike seen_machine m n ms ns same) (machine_reacts packs t d now e args i n r)

  -- ---- the component

  mapped_alike : (face member : ℕ) (o : Op) (args : List Plain) (r : Reacting) → map_reacts c face member o args r ≡ map_reacts d face member o args r
  mapped_alike face member o args r = ap (λ (s : SeenComponent). mapped_by (required_end (slice_get s.ends face)) o args face member (find (maps_to face member) s.maps) r) h

  pub received_alike : (now face member : ℕ) (o : Op) (args : List Plain) (r : Reacting) → receives packs t c now face member o args r ≡ receives packs t d now face member o args r
  received_alike now face member o args r =
      ap (machines_react packs t c now (trigger_of o face member) args 0 c.machines) (mapped_alike face member o args r)
      ∙ all_alike now (trigger_of o face member) args 0 c.machines d.machines machines_alike (map_reacts d face member o args r)

  pub fired_alike : (now i : ℕ) (r : Reacting) → fires packs t c now i (slice_get c.machines i) r ≡ fires packs t d now i (slice_get d.machines i) r
  fired_alike now i r =
      by_option seen_machine (λ m. fires packs t c now i m r) (λ m. fires packs t d now i m r) refl
      (λ m n like. machine_alike now (trigger.Timer (now - (standing r.machines i).entered)) [] i m n like r)
      (slice_get c.machines i) (slice_get d.machines i) (at_place seen_machine c.machines d.machines machines_alike i)

  pub first_values_alike : first_values c ≡ first_values d
  first_values_alike = told_alike seen_variable (λ (s : SeenVariable). s.initial) c.variables d.variables (ap (λ (s : SeenComponent). s.variables) h)

  pub begun_alike : map begins c.machines ≡ map begins d.machines
  begun_alike = told_alike seen_machine (λ (s : SeenMachine). record { at = s.entry; entered = 0; passed = 0 }) c.machines d.machines machines_alike

  fresh_alike : (comp : ℕ) (out : List Sent) → fresh c comp out ≡ fresh d comp out
  fresh_alike comp out = ap₂ (λ vs ms. record { world = record { component = comp; variables = vs; waiting = []; sent = out }; machines = ms; left = budget }) first_values_alike begun_alike

  reacted_alike : (now : ℕ) (e : Event) (r : Reacting) → reacts packs t c now e r ≡ reacts packs t d now e r
  reacted_alike now (event.Prim p) r = received_alike now p.end.face p.member p.op (map plain p.arguments) r
  reacted_alike now (event.Timer i) r = fired_alike now i r

  pub started_alike : (comp : ℕ) (out : List Sent) → starts packs t c comp out ≡ starts packs t d comp out
  started_alike comp out =
      ap (machines_react packs t c 0 trigger.Start [] 0 c.machines) (fresh_alike comp out)
      ∙ all_alike 0 trigger.Start [] 0 c.machines d.machines machines_alike (fresh d comp out)

pub alike_reactions : AlikeReactions
alike_reactions packs t c d h now e r = reacted_alike packs t c d h now e r

pub alike_starts : AlikeStarts
alike_starts packs t c d h comp out = started_alike packs t c d h comp out

pub alike_moments : AlikeMoments
alike_moments c d h ms = dues_alike 0 c.machines d.machines ms (ap (λ (s : SeenComponent). s.machines) h)
