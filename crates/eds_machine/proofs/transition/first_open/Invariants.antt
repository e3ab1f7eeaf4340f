use Rattle.std.proofs.Common.{◌≡◌, length, map}
use Rattle.eds_types.specs.Plain.{plain}
use Rattle.eds_machine.specs.Places.{first_at}
use Rattle.eds_machine.specs.Reactions.{is_open}
use Rattle.eds_machine.proofs.transition.first_open.Given as goal

abbrev pub invariant-loop-rest : goal.invariant-loop-rest
invariant-loop-rest l =
    first_at l.machine.transitions (is_open l.table l.component (map plain l.arguments) (map plain l.variables) l.waiting) l.rest
    ≡ first_at l.machine.transitions (is_open l.table l.component (map plain l.arguments) (map plain l.variables) l.waiting) l.places

abbrev pub decreases-loop-rest : goal.decreases-loop-rest
decreases-loop-rest l = length l.rest
