use Rattle.std.proofs.Common.{Bool, ap, ◌∙◌}
use Rattle.std.specs.List.{flat_map}
use Rattle.eds_base.specs.Refusals.{least}
use Rattle.eds_base.specs.declared.rule.Rule.TheVariants.{BadMachine}
use Rattle.eds_tree.proofs.Least.{least-joined}
use Rattle.eds_read_act.specs.BadReference.{broken_if}
use Rattle.eds_read_act.specs.MachineBreaks.{lacks_entry, state_breaks}
use Rattle.eds_read_act.specs.Machines.{states_of}
use Rattle.eds_read_act.specs.Scopes.{scope_of}
use Rattle.eds_read_act.proofs.machine.least_of_states.Goals as goal

pub returns : goal.returns
returns c =
    let s = scope_of c.args.scope.now in
    let file = c.args.file in
    let m = c.args.states.now.machine in
    least-joined (broken_if BadMachine file m (lacks_entry s.tree m)) (flat_map (state_breaks file s) (states_of s.tree m))
    c.broken_if-entry.result c.in_ok-at_states.at_states c.first.result
    (c.broken_if-entry.ensures ∙ ap (λ (t : Bool). least (broken_if BadMachine file m t)) c.in_ok-lacks.ensures)
    (c.in_ok-at_states.ensures ∙ ap (λ ns. least (flat_map (state_breaks file s) ns)) (c.as_slice.ensures.value ∙ c.requires.nodes))
    c.first.ensures.first
