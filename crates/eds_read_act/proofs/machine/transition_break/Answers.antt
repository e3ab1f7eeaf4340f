use Rattle.eds_tree.proofs.Least.{least-joined, least-of_three}
use Rattle.std.proofs.Common.{ap, ◌∙◌, ◌++◌, Bool, Option, ℕ}
use Rattle.eds_base.specs.Refusals.{least}
use Rattle.eds_base.specs.declared.rule.Rule.TheVariants.{BadReference, BadMachine}
use Rattle.eds_read_act.specs.BadReference.{broken_if}
use Rattle.eds_read_act.specs.MachineBreaks.{lacks_state, is_bad_transition, event_breaks, inner_breaks}
use Rattle.eds_read_act.specs.Machines.{event_of}
use Rattle.eds_read_act.specs.Scopes.{scope_of}
use Rattle.eds_read_act.proofs.machine.transition_break.Goals as goal

pub returns : goal.returns
returns c =
    let s = scope_of c.args.scope.now in
    let file = c.args.file in
    let x = c.args.transition in
    let machine = c.args.states.now.machine in
    let a = broken_if BadReference file x (lacks_state s.tree machine x) in
    let b = broken_if BadMachine file x (is_bad_transition s machine x) in
    let e = event_breaks file s (event_of s.tree x) in
    let i = inner_breaks (lacks_state s.tree machine x) file s x in
    least-joined (a ++ b ++ e) i c.first-found.result c.in_ok-inner.inner c.first.result
    (least-of_three a b e c.broken_if-missing.result c.broken_if-bad.result c.event_break-event.result c.first-own.result c.first-found.result
    (c.broken_if-missing.ensures ∙ ap (λ (t : Bool). least (broken_if BadReference file x t)) c.lacks_state-lacks.ensures)
    (c.broken_if-bad.ensures ∙ ap (λ (t : Bool). least (broken_if BadMachine file x t)) c.is_bad_transition-wrong.ensures)
    (c.event_break-event.ensures ∙ ap (λ (o : Option ℕ). least (event_breaks file s o)) c.event_of.ensures)
    c.first-own.ensures.first c.first-found.ensures.first)
    (c.in_ok-inner.ensures ∙ ap (λ (t : Bool). least (inner_breaks t file s x)) c.lacks_state-lacks.ensures)
    c.first.ensures.first
