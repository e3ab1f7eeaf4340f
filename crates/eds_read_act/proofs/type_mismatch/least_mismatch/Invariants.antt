use Rattle.std.proofs.Common.{◌≡◌, drop}
use Rattle.eds_base.specs.Refusals.{least, first_of}
use Rattle.eds_read_act.specs.Scopes.{scope_of}
use Rattle.eds_read_act.specs.TypeMismatch.{mismatches}
use Rattle.eds_read_act.proofs.type_mismatch.least_mismatch.Given as goal

abbrev pub invariant-loop-link : goal.invariant-loop-link
invariant-loop-link l = first_of l.found (least (mismatches l.file (scope_of l.scope) (drop l.link-index l.links))) ≡ least (mismatches l.file (scope_of l.scope) l.links)
