-- What states end as, once a `&mut` into them has ended.
use Rattle.std.specs.Prelude.{ℕ, List, slice_set}
use Rattle.std.specs.Borrow.{Fml, Lends, MutBor}
use Rattle.eds_plan.specs.States.{StateNow, state_now}
use Rattle.eds_plan.specs.contracts.run.CompState as comp_state
use Rattle.eds_plan.specs.contracts.states.States.{the_row}
use Rattle.eds_plan.specs.declared.run.CompState.{CompState}

-- the state of component i is the last one written through r
abbrev pub lends_state : MutBor (List StateNow) → ℕ → MutBor CompState → Fml
lends_state s i r = Lends the_row comp_state.the_row s r (λ w. slice_set s.now i (state_now w))
