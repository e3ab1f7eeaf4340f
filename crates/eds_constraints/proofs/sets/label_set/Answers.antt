use Rattle.std.proofs.Common.{rules}
use Rattle.std.proofs.lemmas.Int.{to_z-of_z}
use mir.Syntax.{w128}
use mir.Val.{SFits}
use Rattle.eds_constraints.proofs.LabelFacts.{small_label}
use Rattle.eds_constraints.proofs.sets.label_set.Goals as goal

pub one_number-requires-clause-from_bottom : goal.one_number-requires-clause-from_bottom
one_number-requires-clause-from_bottom c =
    let fits : SFits w128 c.in-Some.n = search rules in
    rw (to_z-of_z w128 c.in-Some.n fits) (small_label c.args.names.now.rows.now c.args.target.0 c.args.label.now c.in-Some.n c.requires c.in-Some.ensures).0

pub one_number-requires-clause-to_top : goal.one_number-requires-clause-to_top
one_number-requires-clause-to_top c =
    let fits : SFits w128 c.in-Some.n = search rules in
    rw (to_z-of_z w128 c.in-Some.n fits) (small_label c.args.names.now.rows.now c.args.target.0 c.args.label.now c.in-Some.n c.requires c.in-Some.ensures).1
