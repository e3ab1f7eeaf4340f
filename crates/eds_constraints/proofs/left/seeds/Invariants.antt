use Rattle.std.proofs.Common.{◌≡◌, ◌++◌, map, drop}
use Rattle.eds_types.specs.Rows.{number_of_id}
use Rattle.eds_constraints.specs.Lefts.{left_on_path, posed_over}
use Rattle.eds_constraints.proofs.left.seeds.Given as goal

abbrev pub invariant-loop-one : goal.invariant-loop-one
invariant-loop-one l =
    l.states ++ map (left_on_path l.rows.rows.now (posed_over l.rows.rows.now l.rows.lists.now (number_of_id l.base))) (drop l.one-index l.asked)
    ≡ map (left_on_path l.rows.rows.now (posed_over l.rows.rows.now l.rows.lists.now (number_of_id l.base))) l.asked
