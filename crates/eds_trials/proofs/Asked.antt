-- What the calls ask of a sheet.
use Rattle.std.proofs.Common.{◌≡◌, ◌<◌, ℕ, List, [], ◌∷◌, length, false, true, subst, arith, inl, inr}
use Rattle.std.specs.Prelude.{IsSome}
use Rattle.eds_overlap.specs.Laws.{EmptyTypes}
use Rattle.eds_types.specs.Overlap.{IsClear}
use Rattle.eds_types.specs.Plain.{Plain}
use Rattle.eds_types.specs.Rows.{Table}
use Rattle.eds_types.specs.Rules.{IsHollow, KeepsRules}
use Rattle.eds_types.specs.Spelling.{Spells}
use Rattle.eds_plan.specs.Plans.{component_at}
use Rattle.eds_plan.specs.declared.component.ComponentPlan.{ComponentPlan}
use Rattle.eds_machine.specs.Conditions.{MachinesFit}
use Rattle.eds_machine.proofs.MachineFits.{machines_fit}
use Rattle.eds_read_comp.specs.Together.{HoldsTogether}

-- a clear type that isn't hollow has no spelling of no bits
pub some_bits : EmptyTypes → (t : Table) (id : ℕ) → KeepsRules t → id < length t → IsClear t id → (IsHollow t id → ⊥) → (v : Plain) → Spells t id v [] → ⊥
some_bits empty t id rules there clear solid v spelled = elim ((empty t id (record { rules = rules; there = there })).0 (v, spelled)) [
  | inl hollow ↦ solid hollow
  | inr is_open ↦ (let none : false ≡ true = subst IsSome clear.not_open is_open in cc)
]

-- the first component of a plan that fits
pub first_fits : (t : Table) (plan : List ComponentPlan) → HoldsTogether t plan → 0 < length plan → MachinesFit t (component_at plan 0)
first_fits t [] h lt = absurd (omega (arith, lt))
first_fits t (c ∷ cs) h lt = machines_fit t c h.components.0
