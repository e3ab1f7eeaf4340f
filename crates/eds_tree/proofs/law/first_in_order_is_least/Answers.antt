use Rattle.eds_tree.proofs.FirstInOrder.{first_is_one, first_is_least, first_is_none}
use Rattle.eds_tree.proofs.law.first_in_order_is_least.Goals as goal

pub returns-clause-one : goal.returns-clause-one
returns-clause-one c texts first h = first_is_one texts first h

pub returns-clause-least : goal.returns-clause-least
returns-clause-least c texts first h = first_is_least texts first h

pub returns-clause-none : goal.returns-clause-none
returns-clause-none c texts = first_is_none texts
