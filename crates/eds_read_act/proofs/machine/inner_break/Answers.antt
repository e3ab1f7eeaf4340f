use Rattle.std.proofs.Common.{◌≡◌, Option, None, ℕ, ap, ◌∙◌, IfOk, subst}
use Rattle.eds_base.specs.declared.refusal.Refusal.{Refusal}
use Rattle.eds_base.specs.Refusals.{least}
use Rattle.eds_read_act.specs.Events.{carried_if}
use Rattle.eds_read_act.specs.MachineBreaks.{breaks_inside}
use Rattle.eds_read_act.specs.Machines.{guarded_and_done}
use Rattle.eds_read_act.specs.Scopes.{scope_of, with_known}
use Rattle.eds_read_act.proofs.machine.inner_break.Goals as goal

pub returns-in-None : goal.returns-in-None
returns-in-None c =
    let s = scope_of c.args.scope.now in
    let P : Option Refusal → Type 0 = λ x. IfOk c.break_at_start.result (λ y. y ≡ x) in
    subst P
    (ap (λ ns. least (breaks_inside c.args.above c.args.file (with_known s (carried_if s None)) ns)) (c.as_slice.ensures.value ∙ c.in_ok-nodes.ensures)
    ∙ ap (λ (o : Option ℕ). least (breaks_inside c.args.above c.args.file (with_known s (carried_if s o)) (guarded_and_done s.tree c.args.transition))) c.in-None.ensures)
    c.break_at_start.ensures
