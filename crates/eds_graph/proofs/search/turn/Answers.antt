use Rattle.eds_graph.proofs.Searching.{turn-step, popped, waiting-is}
use Rattle.eds_graph.proofs.search.turn.Goals as goal

pub returns-clause-sound : goal.returns-clause-sound
returns-clause-sound c =
    turn-step c.args.graph.now c.args.search.now.states c.args.search.now.opened c.args.search.now.waiting c.pop-turned.new.self c.args.search.now.parts c.replace_top.new.self c.args.part c.args.next c.args.at
    c.requires.sound c.requires.waits c.requires.part c.requires.state c.requires.own
    (popped c.pop-turned.result c.args.search.now.waiting c.pop-turned.new.self c.args.next (waiting-is c.args.search.now.waiting c.args.search.now.parts c.args.next c.requires.waits) c.pop-turned.ensures.top c.pop-turned.ensures.none)
    c.replace_top.ensures
