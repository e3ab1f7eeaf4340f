use Rattle.std.proofs.Common.{sym, ◌∙◌}
use Rattle.eds_graph.proofs.Searching.{merge-step, merge-none, popped, under-is}
use Rattle.eds_graph.proofs.search.merge.Goals as goal

pub returns-in-None-clause-sound : goal.returns-in-None-clause-sound
returns-in-None-clause-sound c =
    let was = under-is c.args.at c.args.search.now.parts c.requires.below in
    absurd (merge-none c.args.graph.now c.args.search.now.states c.args.search.now.opened c.args.search.now.waiting c.args.search.now.parts c.pop-upper.new.self was.upper c.args.next c.args.at c.requires.sound c.requires.waits c.requires.below
    (popped c.pop-upper.result c.args.search.now.parts c.pop-upper.new.self was.upper was.is c.pop-upper.ensures.top c.pop-upper.ensures.none) (sym c.top.ensures ∙ c.in-None.is))

pub returns-in-Some-clause-sound : goal.returns-in-Some-clause-sound
returns-in-Some-clause-sound c =
    let was = under-is c.args.at c.args.search.now.parts c.requires.below in
    merge-step c.args.graph.now c.args.search.now.states c.args.search.now.opened c.args.search.now.waiting c.args.search.now.parts c.pop-upper.new.self c.replace_top.new.self was.upper c.in-Some.lower c.args.next c.args.at
    c.requires.sound c.requires.waits c.requires.state c.requires.below
    (popped c.pop-upper.result c.args.search.now.parts c.pop-upper.new.self was.upper was.is c.pop-upper.ensures.top c.pop-upper.ensures.none) (sym c.top.ensures ∙ c.in-Some.is) c.replace_top.ensures
