-- A course as a chain of happenings.
use Rattle.std.proofs.Common.{◌≡◌, ◌≢◌, ◌≤◌, ℕ, zero, suc, List, [], ◌∷◌, ◌++◌, Option, Some, None, refl, sym, ap, ◌∙◌, arith, inl, inr, length}
use Rattle.std.specs.Prelude.{◌⊎◌}
use Rattle.eds_plan.specs.Outs.{Report}
use Rattle.eds_host.specs.Systems.{System, World, Happening, next}
use Rattle.eds_host.specs.Runs.{after, rests, go_on, Chain, outs_of, Rests, Storms}
use Rattle.eds_host.specs.Laws.{CoursesAreChains, CoursesGoOnOrStorm}
use Rattle.eds_host.proofs.Ticks.{at_rest}
use Rattle.eds_host.proofs.Nexts.{goes_at, storms_at}

module _ (sys : System) (until : Option ℕ) where
  chain_rests : (hs : List Happening) (left : ℕ) (w v : World) → Chain sys until w hs v → length hs ≤ left → next sys until v ≡ None → go_on sys left until w ≡ record { outs = outs_of hs; end = Some v }
  chain_rests [] left w v e le n = at_rest sys left until w (ap (next sys until) (sym e) ∙ n) ∙ ap rests (sym e)
  chain_rests (h ∷ hs) zero w v c le n = absurd (omega arith)
  chain_rests (h ∷ hs) (suc left) w v c le n = goes_at sys until left w h c.0 ∙ ap (after h.outs) (chain_rests hs left h.world v c.1 (omega arith) n)

  chain_storms : (hs : List Happening) (left : ℕ) (w v : World) → Chain sys until w hs v → length hs ≡ left → next sys until v ≢ None → go_on sys left until w ≡ record { outs = outs_of hs; end = None }
  chain_storms [] zero w v e le n = storms_at sys until w (λ k. n (ap (next sys until) e ∙ k))
  chain_storms [] (suc left) w v e le n = absurd (omega arith)
  chain_storms (h ∷ hs) zero w v c le n = absurd (omega arith)
  chain_storms (h ∷ hs) (suc left) w v c le n = goes_at sys until left w h c.0 ∙ ap (after h.outs) (chain_storms hs left h.world v c.1 (omega arith) n)

  abbrev Either : ℕ → World → Type 0
  Either left w = ((v : World) × (outs : List Report) × (hs : List Happening) × Rests sys left until w v outs hs) ⊎ ((v : World) × (outs : List Report) × (hs : List Happening) × Storms sys left until w v outs hs)

  longer : (left : ℕ) (w : World) (h : Happening) → next sys until w ≡ Some h → Either left h.world → Either (suc left) w
  longer left w h e (inl r) = inl (r.0, h.outs ++ r.1, h ∷ r.2, record { chain = (e, r.3.chain); few = omega (arith, r.3.few); last = r.3.last; all = ap (λ q. h.outs ++ q) r.3.all })
  longer left w h e (inr r) = inr (r.0, h.outs ++ r.1, h ∷ r.2, record { chain = (e, r.3.chain); many = ap suc r.3.many; more = r.3.more; all = ap (λ q. h.outs ++ q) r.3.all })

  either : (left : ℕ) (w : World) → Either left w
  either zero w = go (next sys until w) refl
    where
      go : (x : Option Happening) → next sys until w ≡ x → Either zero w
      go None e = inl (w, [], [], record { chain = refl; few = omega arith; last = e; all = refl })
      go (Some h) e = inr (w, [], [], record { chain = refl; many = refl; more = λ n. let z = sym e ∙ n in cc; all = refl })
  either (suc left) w = go (next sys until w) refl (λ h. either left h.world)
    where
      go : (x : Option Happening) → next sys until w ≡ x → ((h : Happening) → Either left h.world) → Either (suc left) w
      go None e ih = inl (w, [], [], record { chain = refl; few = omega arith; last = e; all = refl })
      go (Some h) e ih = longer left w h e (ih h)

pub course_law : CoursesAreChains
course_law sys left until w v outs hs = (
  λ r. chain_rests sys until hs left w v r.chain r.few r.last ∙ ap (λ (q : List Report). record { outs = q; end = Some v }) (sym r.all),
  λ r. chain_storms sys until hs left w v r.chain r.many r.more ∙ ap (λ (q : List Report). record { outs = q; end = None }) (sym r.all),
)

pub course_is : CoursesGoOnOrStorm
course_is sys left until w = either sys until left w
