-- Lines that begin a script go on from no time.
use Rattle.std.proofs.Common.{◌≡◌, ℕ, ◌+◌, List, Bool, Result, ap, arith}
use Rattle.eds_types.specs.Rows.{Table}
use Rattle.eds_plan.specs.declared.component.ComponentPlan.{ComponentPlan}
use Rattle.eds_script.specs.Meaning.{begun, line_says, meaning, time_of}

none-before : (n : ℕ) → 0 + n ≡ n
none-before n = omega arith

pub from-start : (t : Table) (plan : List ComponentPlan) (wired : List ℕ → Bool) (before : List (List ℕ)) (line : List ℕ) → meaning t plan wired before line ≡ line_says t plan wired (begun before) (time_of before) line
from-start t plan wired before line = ap (λ n. line_says t plan wired (begun before) n line) (none-before (time_of before))
