use Rattle.std.proofs.Common.{rules}
use Rattle.std.proofs.lemmas.Int.{to_z-of_z}
use mir.Syntax.{w128}
use mir.Val.{SFits}
use Rattle.eds_constraints.proofs.SetFacts.{one-ok}
use Rattle.eds_constraints.proofs.sets.one_number.Goals as goal

pub returns : goal.returns
returns c =
    let fits : SFits w128 c.args.n = search rules in
    one-ok c.interval.result c.args.n c.requires.from_bottom c.requires.to_top c.interval.ensures.rises (simp (to_z-of_z w128 c.args.n fits) at c.interval.ensures.numbers)
