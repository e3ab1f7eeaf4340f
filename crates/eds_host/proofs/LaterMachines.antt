-- Components whose machines wait for later moments.
use Rattle.std.proofs.Common.{◌≡◌, ◌<◌, ◌≤◌, ◌+◌, ℕ, List, [], ◌∷◌, Bool, true, false, cond, Option, Some, None, arith}
use Rattle.std.specs.Prelude.{nat_lt}
use Rattle.eds_plan.specs.Plans.{component_at}
use Rattle.eds_plan.specs.declared.component.ComponentPlan.{ComponentPlan}
use Rattle.eds_plan.specs.declared.machine.Machine.{Machine}
use Rattle.eds_plan.specs.declared.run.MachineState.{MachineState}
use Rattle.eds_machine.specs.Moments.{due_from, first_due, next_moment, with_number}
use Rattle.eds_host.specs.Laws.{NotBefore}
use Rattle.eds_host.specs.Machines.{waits_of}
use Rattle.eds_host.specs.Resuming.{AllLater, IsLater, LaterMachinesWait}

numbered : (now i : ℕ) (o : Option ℕ) → IsLater now o → NotBefore (now + 1) (with_number i o)
numbered now i None h = tt
numbered now i (Some at) h = omega (arith, h)

both : (b : ℕ) (x y : Option (ℕ × ℕ)) → NotBefore b x → NotBefore b y → NotBefore b (first_due x y)
both b None y h k = k
both b (Some x) None h k = h
both b (Some x) (Some y) h k = go (nat_lt y.0 x.0)
  where
    go : (c : Bool) → NotBefore b (cond c (Some y) (Some x))
    go true = k
    go false = h

all_later : (now i : ℕ) (ms : List Machine) (ss : List MachineState) → AllLater now ms ss → NotBefore (now + 1) (due_from i ms ss)
all_later now i [] ss h = tt
all_later now i (m ∷ ms) [] h = tt
all_later now i (m ∷ ms) (s ∷ ss) h = both (now + 1) (with_number i (next_moment s m.transitions)) (due_from (i + 1) ms ss) (numbered now i (next_moment s m.transitions) h.0) (all_later now (i + 1) ms ss h.1)

pub later_machines_wait : LaterMachinesWait
unfolding waits_of
later_machines_wait plan comp now s h = all_later now 0 (component_at plan comp).machines s.machines h
