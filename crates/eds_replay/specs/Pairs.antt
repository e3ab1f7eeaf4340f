-- What the comparison's functions tell.
use Rattle.std.specs.Prelude.{◌≡◌, ℕ, List, [], ◌∷◌, length, Option, Some, None}
use Rattle.eds_types.specs.Rows.{Table}
use Rattle.eds_plan.specs.Outs.{Report}
use Rattle.eds_plan.specs.declared.component.ComponentPlan.{ComponentPlan}
use Rattle.eds_replay.specs.declared.compare.Next.{Next}
use Rattle.eds_replay.specs.declared.compare.Next.TheVariants as nexts
use Rattle.eds_replay.specs.declared.differs.Differs.{Differs}
use Rattle.eds_replay.specs.declared.pair.Pair.{Pair}
use Rattle.eds_replay.specs.declared.pair.Pair.TheVariants as pairs
use Rattle.eds_replay.specs.declared.session.Recorded.{Recorded}
use Rattle.eds_replay.specs.Agreement.{Agrees, IsEventText}
use Rattle.eds_replay.specs.Differences.{AllAgree, IsFirstDifference, IsUnseen}

-- so a recording stands beside what left a run
abbrev pub IsPair : Table → List ComponentPlan → List ℕ → Report → Pair → Type 0
IsPair t plan text r pairs.Same = Agrees t plan text r 0
IsPair t plan text r pairs.Otherwise = Agrees t plan text r 1
IsPair t plan text r (pairs.Other got) = ((n : ℕ) → Agrees t plan text r n → ⊥) × IsEventText t plan r got

-- the first of some recordings agrees with what left a run, and these are the others; or this is the first difference, whatever else
-- left the run
abbrev pub IsNext : Table → List ComponentPlan → (owner : ℕ) → List Recorded → Report → Next → Type 0
IsNext t plan owner xs r (nexts.Agrees others n) = (x : Recorded) × (xs ≡ x ∷ others.now) × Agrees t plan x.text r n
IsNext t plan owner xs r (nexts.Differs d) = (rs : List Report) → IsFirstDifference t plan owner xs (r ∷ rs) d

-- all agree, and so many are spelled otherwise; or this is the first difference
abbrev pub AreCompared : Table → List ComponentPlan → (owner : ℕ) → List Recorded → List Report → (agreed otherwise : ℕ) → Option Differs → Type 0
AreCompared t plan owner xs rs agreed n None = AllAgree t plan xs rs n × (agreed ≡ length rs)
AreCompared t plan owner xs rs agreed n (Some d) = IsFirstDifference t plan owner xs rs d

-- of the recordings that are left when nothing more left the run the first is unseen
abbrev pub LeavesFirst : List Recorded → Option Differs → Type 0
LeavesFirst [] None = Unit {0}
LeavesFirst [] (Some d) = ⊥
LeavesFirst (x ∷ xs) None = ⊥
LeavesFirst (x ∷ xs) (Some d) = IsUnseen x d
