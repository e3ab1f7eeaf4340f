-- How a component starts.
use Rattle.std.proofs.Common.{◌≡◌, suc, List, [], ◌∷◌, length, map, refl, ap}
use Rattle.std.specs.List.{AllByRecursion}
use Rattle.eds_types.specs.Plain.{plain}
use Rattle.eds_types.specs.Rows.{Table}
use Rattle.eds_plan.specs.declared.component.VarPlan.{VarPlan}
use Rattle.eds_plan.specs.declared.machine.Machine.{Machine}
use Rattle.eds_act.specs.Does.{Conforms, AllConform}
use Rattle.eds_machine.specs.Reactions.{begins}

pub initial_conform : (t : Table) (xs : List VarPlan) → AllByRecursion (λ (x : VarPlan). Conforms t x.id.0 (plain x.initial)) xs → AllConform t (map (λ (x : VarPlan). x.id.0) xs) (map (λ (x : VarPlan). plain x.initial) xs)
initial_conform t [] h = tt
initial_conform t (x ∷ xs) h = (h.0, initial_conform t xs h.1)

pub begin_count : (ms : List Machine) → length (map begins ms) ≡ length ms
begin_count [] = refl
begin_count (m ∷ ms) = ap suc (begin_count ms)
