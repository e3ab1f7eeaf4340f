use Rattle.std.proofs.Common.{◌<◌, length, sym, ap, ◌∙◌, refl, arith}
use Rattle.std.specs.Prelude.{slice_get, slice_set, Some}
use Rattle.eds_plan.specs.States.{state_now}
use Rattle.eds_plan.proofs.PlainStates.{get_at, map_length, map_set}
use Rattle.eds_plan.proofs.states.States.at_mut.Goals as goal

pub returns : goal.returns
returns c =
    let xs = c.self.inside.inner.items in let i = c.args.comp.0 in let r = c.index_mut.result.now in
    let within : i < length xs = omega (arith, c.requires, ap length c.self.view_is, map_length xs) in (
      (refl, λ w. map_set xs i w ∙ ap (λ ys. slice_set ys i (state_now w)) c.self.view_is),
      record { writes_back = tt; value = sym (ap (λ ys. slice_get ys i) c.self.view_is) ∙ get_at xs i r within ∙ ap (λ s. Some (state_now s)) (sym c.index_mut.ensures.value) },
    )
