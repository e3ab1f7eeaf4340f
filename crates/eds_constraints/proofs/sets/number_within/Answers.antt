use Rattle.std.proofs.Common.{rules, sym, ◌∙◌, true, false}
use Rattle.std.proofs.lemmas.Int.{to_z-of_z}
use mir.Syntax.{w128}
use mir.Val.{SFits}
use Rattle.eds_base.specs.Spans.{bottom}
use Rattle.eds_base.proofs.SpansLemmas.{within_floor, within_top}
use Rattle.eds_types.proofs.ReadingTests.{within_from}
use Rattle.eds_constraints.proofs.ValueFacts.{within_then, within_else}
use Rattle.eds_constraints.proofs.sets.number_within.Goals as goal

pub one_number-requires-clause-from_bottom : goal.one_number-requires-clause-from_bottom
one_number-requires-clause-from_bottom c =
    let fits : SFits w128 c.args.n = search rules in
    rw (to_z-of_z w128 c.args.n fits) (within_floor bottom c.args.domain.now c.args.n c.rises.ensures (within_from c.args.domain.now c.args.n (simp (to_z-of_z w128 c.args.n fits) at (sym c.is_in.ensures ∙ c.if-is_in.true))))

pub one_number-requires-clause-to_top : goal.one_number-requires-clause-to_top
one_number-requires-clause-to_top c =
    let fits : SFits w128 c.args.n = search rules in
    rw (to_z-of_z w128 c.args.n fits) (within_top bottom c.args.domain.now c.args.n c.rises.ensures (within_from c.args.domain.now c.args.n (simp (to_z-of_z w128 c.args.n fits) at (sym c.is_in.ensures ∙ c.if-is_in.true))))

pub returns-then-is_in : goal.returns-then-is_in
returns-then-is_in c =
    let fits : SFits w128 c.args.n = search rules in
    within_then c.args.domain.now c.args.n c.one_number.result (simp (to_z-of_z w128 c.args.n fits) at (sym c.is_in.ensures ∙ c.if-is_in.true)) (simp (to_z-of_z w128 c.args.n fits) at c.one_number.ensures)

pub returns-else-is_in : goal.returns-else-is_in
returns-else-is_in c =
    let fits : SFits w128 c.args.n = search rules in
    within_else c.args.domain.now c.args.n c.new.result (simp (to_z-of_z w128 c.args.n fits) at (sym c.is_in.ensures ∙ c.if-is_in.false)) c.new.ensures
