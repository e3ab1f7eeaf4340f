use Rattle.eds_constraints.proofs.LeftFacts.{with_none, with_other, with_own, no_state, state_here}
use Rattle.eds_constraints.proofs.left.left_with.Goals as goal

pub returns-in-None : goal.returns-in-None
returns-in-None c cs is = with_none c.args.rows.now.rows.now c.args.rows.now.lists.now c.args.lefts.now c.args.id.0 c.args.path.now c.args.above c.requires.lefts c.in-None.ensures cs is

pub returns-in-None-position : goal.returns-in-None-position
returns-in-None-position c cs is =
    with_other c.args.rows.now.rows.now c.args.rows.now.lists.now c.args.lefts.now c.args.id.0 c.args.path.now c.args.above c.in-Some.own.now c.requires.lefts c.in-Some.ensures c.in-None-position.ensures cs is

pub returns-in-None-get : goal.returns-in-None-get
returns-in-None-get c cs is =
    absurd (no_state c.args.rows.now.rows.now c.args.rows.now.lists.now c.args.lefts.now c.args.id.0 c.args.path.now c.in-Some.own.now c.in-Some-position.at c.requires.lefts c.in-Some.ensures c.in-Some-position.ensures c.in-None-get.ensures)

pub returns-in-Some-get : goal.returns-in-Some-get
returns-in-Some-get c =
    with_own c.args.rows.now.rows.now c.args.rows.now.lists.now c.args.id.0 c.args.path.now c.args.above c.in-Some-get.left.now c.left_by.result c.requires.read c.requires.rise
    (state_here c.args.rows.now.rows.now c.args.rows.now.lists.now c.args.lefts.now c.args.id.0 c.args.path.now c.in-Some.own.now c.in-Some-position.at c.in-Some-get.left.now c.requires.lefts c.in-Some.ensures c.in-Some-position.ensures c.in-Some-get.ensures)
    c.left_by.ensures
