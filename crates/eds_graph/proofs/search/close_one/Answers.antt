use Rattle.std.proofs.Common.{length}
use Rattle.eds_graph.proofs.Searching.{top-state, open-within, closes-one}
use Rattle.eds_graph.proofs.search.close_one.Goals as goal

pub set-requires : goal.set-requires
set-requires c =
    open-within c.args.search.now.states c.in-Some.number (length c.pop.new.self)
    (top-state c.args.search.now.states c.args.search.now.opened c.pop.new.self c.in-Some.number c.requires.are_open c.in-Some.ensures.top)

pub returns-in-Some-clause-closes : goal.returns-in-Some-clause-closes
returns-in-Some-clause-closes c =
    closes-one c.args.course c.args.search.now.states c.set.new.self c.args.search.now.opened c.pop.new.self c.in-Some.number c.requires.are_open c.in-Some.ensures.top c.set.ensures
