use Rattle.std.proofs.Common.{◌≡◌, Option, Some, ap, ◌∙◌, IfOk, subst}
use Rattle.eds_base.specs.declared.refusal.Refusal.{Refusal}
use Rattle.eds_base.specs.Refusals.{least}
use Rattle.eds_read_act.specs.MachineBreaks.{breaks_inside}
use Rattle.eds_read_act.specs.Scopes.{scope_of, with_known}
use Rattle.eds_read_act.proofs.machine.break_at_start.Goals as goal

pub returns : goal.returns
returns c =
    let P : Option Refusal → Type 0 = λ x. IfOk c.break_inside.result (λ y. y ≡ x) in
    subst P (ap (λ fs. least (breaks_inside c.args.above c.args.file (with_known (scope_of c.args.scope.now) (Some fs)) c.args.nodes.now)) (c.in_ok-none.ensures ∙ c.new.ensures)) c.break_inside.ensures
