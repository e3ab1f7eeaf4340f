-- Where machines stand, and since when.
use Rattle.std.proofs.Common.{◌≡◌, ◌≤◌, ℕ, zero, suc, List, [], ◌∷◌, length, refl, ap, arith}
use Rattle.eds_plan.specs.declared.machine.Machine.{Machine}
use Rattle.eds_plan.specs.declared.run.MachineState.{MachineState}
use Rattle.eds_machine.specs.Conditions.{AreTimely}
use Rattle.eds_machine.specs.Reactions.{standing}

pub timely_count : (now : ℕ) (ms : List Machine) (rs : List MachineState) → AreTimely now ms rs → length rs ≡ length ms
timely_count now [] [] h = refl
timely_count now (x ∷ xs) [] h = absurd h
timely_count now [] (r ∷ rs) h = absurd h
timely_count now (x ∷ xs) (r ∷ rs) h = ap suc (timely_count now xs rs h.1)

pub timely_entered : (now : ℕ) (ms : List Machine) (rs : List MachineState) (i : ℕ) → AreTimely now ms rs → (standing rs i).entered ≤ now
timely_entered now ms [] i h = omega arith
timely_entered now [] (r ∷ rs) i h = absurd h
timely_entered now (m ∷ ms) (r ∷ rs) zero h = omega (arith, h.0.entered, h.0.passed)
timely_entered now (m ∷ ms) (r ∷ rs) (suc i) h = timely_entered now ms rs i h.1
