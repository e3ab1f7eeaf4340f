use Rattle.eds_graph.proofs.Searching.{pass-step, popped, waiting-is}
use Rattle.eds_graph.proofs.search.pass.Goals as goal

pub returns-clause-sound : goal.returns-clause-sound
returns-clause-sound c =
    pass-step c.args.graph.now c.args.search.now.states c.args.search.now.opened c.args.search.now.waiting c.pop-passed.new.self c.args.search.now.parts c.args.next c.requires.sound c.requires.waits c.requires.state
    (popped c.pop-passed.result c.args.search.now.waiting c.pop-passed.new.self c.args.next (waiting-is c.args.search.now.waiting c.args.search.now.parts c.args.next c.requires.waits) c.pop-passed.ensures.top c.pop-passed.ensures.none)
