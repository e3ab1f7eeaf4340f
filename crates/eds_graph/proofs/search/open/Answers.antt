use Rattle.std.proofs.Common.{ap, ◌∙◌, length, false, set}
use Rattle.eds_graph.specs.declared.search.Part.{Part}
use Rattle.eds_graph.specs.declared.search.State.TheVariants.{Open}
use Rattle.eds_graph.specs.Stacks.{pushed}
use Rattle.eds_graph.proofs.Searching.{open-step, open-smaller}
use Rattle.eds_graph.proofs.search.open.Goals as goal

pub returns-clause-sound : goal.returns-clause-sound
returns-clause-sound c =
    open-step c.args.graph.now c.args.search.now.states c.set.new.self c.args.search.now.opened c.push.new.self c.args.search.now.waiting c.push_all.new.self c.args.search.now.parts c.push-2.new.self _ c.args.next
    c.requires.sound c.requires.waits c.requires.state
    (ap (λ n. record { first = n; waiting = c.len-2.result; circle = false }) c.len.ensures ∙ ap (λ n. record { first = length c.args.search.now.opened; waiting = n; circle = false }) c.len-2.ensures)
    (c.set.ensures ∙ ap (λ n. set c.args.search.now.states c.args.next (Open n)) c.len.ensures)
    c.in_ok-push.ensures (c.in_ok-push_all.ensures ∙ ap (λ cs. pushed cs c.args.search.now.waiting) c.children.ensures) c.in_ok-push-2.ensures

pub returns-clause-smaller : goal.returns-clause-smaller
returns-clause-smaller c =
    let part : Part = record { first = c.len.result; waiting = c.len-2.result; circle = false } in
    open-smaller c.args.graph.now c.args.search.now.states c.set.new.self c.args.search.now.opened c.args.search.now.waiting c.push_all.new.self c.args.search.now.parts c.push-2.new.self part c.args.next c.len.result
    c.requires.sound c.requires.state c.set.ensures (c.in_ok-push_all.ensures ∙ ap (λ cs. pushed cs c.args.search.now.waiting) c.children.ensures) c.in_ok-push-2.ensures
