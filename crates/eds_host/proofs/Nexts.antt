-- A course by what is next.
use Rattle.std.proofs.Common.{◌≡◌, ℕ, zero, suc, Option, Some, None, refl, ap}
use Rattle.eds_host.specs.Systems.{System, World, Happening, next}
use Rattle.eds_host.specs.Runs.{after, storm, rests, go_by, go_on}

module _ (sys : System) (until : Option ℕ) where
  pub rests_at : (left : ℕ) (w : World) → next sys until w ≡ None → go_on sys left until w ≡ rests w
  unfolding go_on
  rests_at zero w e = ap (λ x. go_by w x (λ h. storm)) e
  rests_at (suc left) w e = ap (λ x. go_by w x (λ h. after h.outs (go_on sys left until h.world))) e

  pub goes_at : (left : ℕ) (w : World) (h : Happening) → next sys until w ≡ Some h → go_on sys (suc left) until w ≡ after h.outs (go_on sys left until h.world)
  unfolding go_on
  goes_at left w h e = ap (λ x. go_by w x (λ h. after h.outs (go_on sys left until h.world))) e

  pub storms_at : (w : World) → (next sys until w ≡ None → ⊥) → go_on sys zero until w ≡ storm
  unfolding go_on
  storms_at w n = go (next sys until w) refl
    where
      go : (x : Option Happening) → next sys until w ≡ x → go_by w x (λ h. storm) ≡ storm
      go None e = absurd (n e)
      go (Some h) e = refl
