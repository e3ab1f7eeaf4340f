use Rattle.std.proofs.Common.{arith, ap, sym, ◌∙◌, None, Some}
use Rattle.eds_constraints.proofs.LeftFacts.{along_zero, along}
use Rattle.eds_constraints.proofs.left.+left_along.Goals as goal

pub returns-then-most-eq0 : goal.returns-then-most-eq0
returns-then-most-eq0 t c = ap Some c.in_ok-all_numbers.ensures ∙ along_zero c.args.rows.now.rows.now c.args.rows.now.lists.now c.args.path.now c.args.most c.args.id.0 (omega arith)

pub returns-in_ok-all-in-None : goal.returns-in_ok-all-in-None
returns-in_ok-all-in-None t c =
    along c.args.rows.now.rows.now c.args.rows.now.lists.now c.args.path.now c.args.most c.args.id.0 None (Some c.in_ok-all-in-None.all) c.left_with.result (omega arith) (sym c.in-None.ensures) (ap Some c.in_ok-all-in-None.ensures) c.left_with.ensures

pub returns-in_ok-above-in-Some : goal.returns-in_ok-above-in-Some
returns-in_ok-above-in-Some t c =
    along c.args.rows.now.rows.now c.args.rows.now.lists.now c.args.path.now c.args.most c.args.id.0 (Some c.in-Some.base.0) c.in_ok-above-in-Some.above c.left_with-in-Some.result (omega arith) (sym c.in-Some.ensures) c.in_ok-above-in-Some.ensures c.left_with-in-Some.ensures
