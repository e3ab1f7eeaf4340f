use Rattle.std.proofs.Common.{◌≡◌, drop}
use Rattle.eds_base.specs.Refusals.{least, first_of}
use Rattle.eds_read_act.specs.Scopes.{scope_of}
use Rattle.eds_read_act.specs.Activities.{breaks_at, over_from}
use Rattle.eds_read_act.proofs.activity.least_over.Given as goal

abbrev pub invariant-loop-number : goal.invariant-loop-number
invariant-loop-number l =
    first_of l.found (least (over_from (breaks_at l.file (scope_of l.scope) l.courses) l.number (drop l.number l.nodes)))
    ≡ least (over_from (breaks_at l.file (scope_of l.scope) l.courses) 0 l.nodes)
