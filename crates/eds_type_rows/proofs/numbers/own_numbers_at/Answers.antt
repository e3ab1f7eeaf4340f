use Rattle.std.proofs.Common.{rules}
use Rattle.eds_type_rows.proofs.NumberSteps.{ok-is, own-none, own-past, own-there}
use Rattle.eds_type_rows.proofs.numbers.own_numbers_at.Goals as goal

pub returns-in-None : goal.returns-in-None
returns-in-None c = ok-is c.all_numbers.result _ _ (own-none c.args.trees.now c.args.at (search rules)) c.all_numbers.ensures

pub returns-in-None-tree_at : goal.returns-in-None-tree_at
returns-in-None-tree_at c = ok-is c.all_numbers-in-None-tree_at.result _ _ (own-past c.args.trees.now c.args.at c.in-Some.at (search rules) (search rules)) c.all_numbers-in-None-tree_at.ensures

pub returns-in-Some-tree_at : goal.returns-in-Some-tree_at
returns-in-Some-tree_at c = ok-is c.own_numbers.result _ _ (own-there c.args.trees.now c.args.at c.in-Some.at c.in-Some-tree_at.tree.now (search rules) (search rules)) c.own_numbers.ensures
