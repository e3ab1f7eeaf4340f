-- How plans that are seen alike run.
use Rattle.std.proofs.Common.{◌≡◌, ℕ, List, [], ◌∷◌, ◌++◌, map, length, Option, Some, None, refl, sym, ap, ap₂, subst, ◌∙◌}
use Rattle.std.proofs.Math.Path.{fun_ext}
use Rattle.std.proofs.lemmas.List.{length-map}
use Rattle.eds_types.specs.PackedSizes.{packs}
use Rattle.eds_types.specs.Rows.{Table}
use Rattle.eds_plan.specs.Alike.{AreAlike, IsAlike, seen_component}
use Rattle.eds_plan.specs.Plans.{component_at}
use Rattle.eds_plan.specs.States.{StateNow}
use Rattle.eds_plan.specs.declared.component.ComponentPlan.{ComponentPlan}
use Rattle.eds_plan.specs.declared.component.EndPlan.{EndPlan}
use Rattle.eds_plan.specs.declared.run.End.{End}
use Rattle.eds_plan.specs.declared.run.Wire.{Wire}
use Rattle.eds_plan.proofs.Alike.{components_alike, ends_alike, names_alike}
use Rattle.eds_machine.specs.Reactions.{Reacting}
use Rattle.eds_machine.proofs.Alike.{alike_moments, begun_alike, fired_alike, first_values_alike, received_alike, started_alike}
use Rattle.eds_host.specs.declared.wiring.Asked.{Asked}
use Rattle.eds_host.specs.declared.wiring.Tie.{Tie}
use Rattle.eds_host.specs.Alike.{AlikeReadings, AlikeRuns, AlikeSystems, AlikeWires}
use Rattle.eds_host.specs.Hosts.{IsRead, asked_by, reading, way_to}
use Rattle.eds_host.specs.Machines.{at_event, outcome, reacted, started, takes, unstarted, waits_of}
use Rattle.eds_host.specs.Plans.{system}
use Rattle.eds_host.specs.Runs.{Reading, RunGoes}
use Rattle.eds_host.specs.Systems.{Coming, Reaction, System, arrival, moment}
use Rattle.eds_host.specs.Wires.{tie_at, tie_next, tie_of, ties_behind, ties_of}

-- ---- components

taken_alike : (t : Table) (c d : ComponentPlan) → IsAlike c d → (e : Coming) (now : ℕ) (r : Reacting) → takes t c e now r ≡ takes t d e now r
taken_alike t c d h (arrival s) now r = received_alike (packs t) t c d h now s.end.face s.member s.op s.arguments r
taken_alike t c d h (moment machine) now r = fired_alike (packs t) t c d h now machine r

module _ (t : Table) (p q : List ComponentPlan) (h : AreAlike p q) where
  as_many : length p ≡ length q
  as_many = sym (length-map p seen_component) ∙ ap length h ∙ length-map q seen_component

  alike_at : (comp : ℕ) → IsAlike (component_at p comp) (component_at q comp)
  alike_at comp = components_alike p q h comp

  unstarted_alike : (comp : ℕ) → unstarted p comp ≡ unstarted q comp
  unstarted_alike comp =
      ap₂ (λ vs ms. record { variables = vs; machines = ms; outstanding = [] })
      (first_values_alike (packs t) t (component_at p comp) (component_at q comp) (alike_at comp)) (begun_alike (packs t) t (component_at p comp) (component_at q comp) (alike_at comp))

  begin_alike : (comp : ℕ) → started t p comp ≡ started t q comp
  unfolding started
  begin_alike comp = ap outcome (started_alike (packs t) t (component_at p comp) (component_at q comp) (alike_at comp) comp [])

  react_alike : (comp : ℕ) (e : Coming) (now : ℕ) (s : StateNow) → reacted t p comp e now s ≡ reacted t q comp e now s
  unfolding reacted
  react_alike comp e now s = ap outcome (taken_alike t (component_at p comp) (component_at q comp) (alike_at comp) e now (at_event comp s))

  wait_alike : (comp : ℕ) (s : StateNow) → waits_of p comp s ≡ waits_of q comp s
  unfolding waits_of
  wait_alike comp s = alike_moments (component_at p comp) (component_at q comp) (alike_at comp) s.machines

  -- a system of these parts
  abbrev made : (End → Option End) → ℕ → (ℕ → StateNow) → (ℕ → Reaction) → (ℕ → Coming → ℕ → StateNow → Reaction) → (ℕ → StateNow → Option (ℕ × ℕ)) → System
  made tied count fresh starts reacts waits = record { count = count; fresh = fresh; starts = starts; reacts = reacts; waits = waits; tied = tied }

  pub systems_alike : (tied : End → Option End) → system t p tied ≡ system t q tied
  systems_alike tied = λ i. made tied (as_many i) (λ comp. unstarted_alike comp i) (λ comp. begin_alike comp i) (λ comp e now s. react_alike comp e now s i) (λ comp s. wait_alike comp s i)

  -- ---- frames

  -- how frames are read at ends that are there so
  abbrev read_at : (End → Option EndPlan) → Reading
  read_at ends = record {
    way = λ comp face. way_to (ends (record { comp = record { 0 = comp }; face = face }));
    reads = λ comp face member octets r. IsRead t (ends (record { comp = record { 0 = comp }; face = face })) member octets r;
  }

  pub readings_alike : reading t p ≡ reading t q
  readings_alike = ap read_at (fun_ext (ends_alike p q h))

-- ---- wires

module _ (p q : List ComponentPlan) (h : AreAlike p q) where
  tie_alike : (ts : List Tie) (l u : Option End) → tie_of p ts l u ≡ tie_of q ts l u
  tie_alike ts None u = refl
  tie_alike ts (Some l) None = refl
  tie_alike ts (Some l) (Some u) = ap₂ (tie_at ts l u) (ends_alike p q h l) (ends_alike p q h u)

  ties_alike : (ts : List Tie) (ws : List Asked) → ties_behind p ts ws ≡ ties_behind q ts ws
  ties_alike ts [] = refl
  ties_alike ts (w ∷ ws) = ap₂ (λ r on. tie_next w.line r on) (tie_alike ts w.lower w.upper) (fun_ext (λ x. ties_alike (ts ++ x ∷ []) ws))

  asked_alike : (w : Wire) → asked_by p w ≡ asked_by q w
  asked_alike w = ap₂ (λ l u. record { line = w.line; lower = l; upper = u }) (names_alike p q h w.lower) (names_alike p q h w.upper)

-- ---- laws

pub alike_systems : AlikeSystems
alike_systems t p q h tied = systems_alike t p q h tied

pub alike_wires : AlikeWires
alike_wires p q h wires = ties_alike p q h [] (map (asked_by p) wires) ∙ ap (λ f. ties_of q (map f wires)) (fun_ext (asked_alike p q h))

pub alike_readings : AlikeReadings
alike_readings t p q h comp face member octets r =
    (ap (λ (x : Reading). x.way comp face) (readings_alike t p q h), subst (λ (x : Reading). x.reads comp face member octets r) (readings_alike t p q h))

pub alike_runs : AlikeRuns
alike_runs t p q h tied ls w outs end goes =
    subst (λ x. RunGoes (system t q tied) x ls w outs end) (readings_alike t p q h) (subst (λ sys. RunGoes sys (reading t p) ls w outs end) (systems_alike t p q h tied) goes)
