use Rattle.std.proofs.Common.{◌≡◌, ◌++◌, drop}
use Rattle.eds_read_act.specs.Scopes.{scope_of}
use Rattle.eds_read_act.specs.Bodies.{given_operands}
use Rattle.eds_read_act.proofs.action.given_operands.Given as goal

abbrev pub invariant-loop-field : goal.invariant-loop-field
invariant-loop-field l = l.operands ++ given_operands (scope_of l.scope) l.node (drop l.field-index l.fields) ≡ given_operands (scope_of l.scope) l.node l.fields
