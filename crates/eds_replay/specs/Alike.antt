-- Plans that are seen alike: recordings agree with what left a run over the one as they do over the other.
use Rattle.std.specs.Prelude.{ℕ, List}
use Rattle.eds_types.specs.Rows.{Table}
use Rattle.eds_plan.specs.Alike.{AreAlike}
use Rattle.eds_plan.specs.Outs.{Report}
use Rattle.eds_plan.specs.declared.component.ComponentPlan.{ComponentPlan}
use Rattle.eds_replay.specs.declared.differs.Differs.{Differs}
use Rattle.eds_replay.specs.declared.session.Recorded.{Recorded}
use Rattle.eds_replay.specs.Differences.{AllAgree, IsFirstDifference}

-- recordings that agree do so over both, and as many are spelled otherwise
abbrev pub AlikeAgreement : Type 0
AlikeAgreement = (t : Table) (p q : List ComponentPlan) → AreAlike p q → (xs : List Recorded) (rs : List Report) (n : ℕ) → AllAgree t p xs rs n → AllAgree t q xs rs n

-- and the first difference is the same
abbrev pub AlikeDifferences : Type 0
AlikeDifferences = (t : Table) (p q : List ComponentPlan) → AreAlike p q → (owner : ℕ) (xs : List Recorded) (rs : List Report) (d : Differs) → IsFirstDifference t p owner xs rs d → IsFirstDifference t q owner xs rs d
