use Rattle.eds_read_comp.proofs.Putting.{none-said, one-said, none-first, one-first}
use Rattle.eds_read_comp.proofs.plan.push_component.Goals as goal

pub returns-in-None-clause-said : goal.returns-in-None-clause-said
returns-in-None-clause-said c =
    none-said c.args.sheet.now.faces.trees.now c.args.space.now c.args.sheet.now.table.now c.args.sheet.now.faces.faces.now c.args.one.now c.args.plan.now c.in-None.ensures

pub returns-in-None-clause-firsts : goal.returns-in-None-clause-firsts
returns-in-None-clause-firsts c = λ firsts told. none-first firsts c.args.sheet.now.faces.trees.now c.args.space.now c.args.one.now c.args.plan.now c.in-None.ensures

pub returns-in_ok-push-in-Some-clause-said : goal.returns-in_ok-push-in-Some-clause-said
returns-in_ok-push-in-Some-clause-said c =
    one-said c.args.sheet.now.faces.trees.now c.args.space.now c.args.sheet.now.table.now c.args.sheet.now.faces.faces.now c.args.one.now c.args.plan.now c.push.new.self
    c.in_ok-component-in-Some.component c.in-Some.tree.now c.as_str.result.now c.in-Some.ensures c.in_ok-push-in-Some.ensures.ok c.as_str.ensures c.in_ok-component-in-Some.ensures.said

pub returns-in_ok-push-in-Some-clause-firsts : goal.returns-in_ok-push-in-Some-clause-firsts
returns-in_ok-push-in-Some-clause-firsts c = λ firsts told.
    one-first firsts c.args.sheet.now.faces.trees.now c.args.space.now c.args.one.now c.args.plan.now c.push.new.self
    c.in_ok-component-in-Some.component c.in-Some.tree.now c.in-Some.ensures c.in_ok-push-in-Some.ensures.ok (c.in_ok-component-in-Some.ensures.firsts firsts told)
