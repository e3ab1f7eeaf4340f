use Rattle.std.proofs.Common.{Bool, Option, ℕ, ap, sym, ◌∙◌}
use Rattle.std.specs.Prelude.{is_none}
use Rattle.eds_base.specs.Refusals.{least}
use Rattle.eds_base.specs.declared.rule.Rule.TheVariants.{BadReference, BadTimer}
use Rattle.eds_tree.proofs.Least.{least-joined}
use Rattle.eds_read_act.specs.BadReference.{broken_if}
use Rattle.eds_read_act.specs.Events.{carried_at, is_bad_timer}
use Rattle.eds_read_act.specs.MachineBreaks.{event_breaks}
use Rattle.eds_read_act.specs.Scopes.{scope_of}
use Rattle.eds_read_act.proofs.machine.event_break.Goals as goal

pub returns : goal.returns
returns c =
    let s = scope_of c.args.scope.now in
    let file = c.args.file in
    let e = c.in_ok-event.event in
    least-joined (broken_if BadReference file e (is_none (carried_at s e))) (broken_if BadTimer file e (is_bad_timer s.tree e))
    c.broken_if-missing.result c.broken_if-timer.result c.first.result
    (c.broken_if-missing.ensures ∙ ap (λ (t : Bool). least (broken_if BadReference file e t)) c.is_missing.ensures)
    (c.broken_if-timer.ensures ∙ ap (λ (t : Bool). least (broken_if BadTimer file e t)) c.is_bad_timer.ensures)
    c.first.ensures.first
    ∙ sym (ap (λ (o : Option ℕ). least (event_breaks file s o)) c.in_ok-event.was)
