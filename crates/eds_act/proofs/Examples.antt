-- What small bodies do.
use Rattle.std.proofs.Common.{◌≡◌, ℕ, pos, List, [], ◌∷◌, Bool, true, false, refl}
use Rattle.eds_types.specs.declared.value.Value.TheVariants as value
use Rattle.eds_types.specs.Plain.{Plain, num}
use Rattle.eds_plan.specs.declared.activity.Operand.TheVariants as source
use Rattle.eds_plan.specs.declared.activity.MathItem.TheVariants as math
use Rattle.eds_plan.specs.declared.activity.MathOp.TheVariants.{Subtract}
use Rattle.eds_plan.specs.declared.component.ComponentPlan.{ComponentPlan}
use Rattle.eds_plan.specs.declared.component.VarPlan.{VarPlan}
use Rattle.eds_plan.specs.declared.run.Halt.TheVariants.{Budget, OutOfRange}
use Rattle.eds_plan.specs.Statements.{Stmt, iterate, calculate, done}
use Rattle.eds_act.specs.declared.ending.ActEnd.TheVariants.{Done, Halted}
use Rattle.eds_act.specs.Does.{World, Ended, items_of, exec}

variable : VarPlan
variable = record { name = []; id = record { 0 = 0 }; read_only = false; initial = value.Bool true }

comp : ComponentPlan
comp = record { name = []; ends = []; variables = variable ∷ variable ∷ variable ∷ []; maps = []; activities = []; machines = []; transactions = [] }

holding : List Plain → World
holding vs = record { component = 0; variables = vs; waiting = []; sent = [] }

counting : List Stmt
counting = iterate 2 (source.Variable 0 []) (source.Variable 1 []) (pos 1) done ∷ []

run : (packs : ℕ → Plain → Bool) → ℕ → List Stmt → World → Ended
run packs left body w = exec packs [] comp left (items_of [] body) w

three_turns : run (λ id v. true) 4 counting (holding (num (pos 1) ∷ num (pos 3) ∷ num (pos 0) ∷ [])) ≡ record { end = Done; left = 0; world = holding (num (pos 1) ∷ num (pos 3) ∷ num (pos 3) ∷ []) }
unfolding exec comp variable holding counting run
three_turns = refl

two_turns_and_no_budget : run (λ id v. true) 3 counting (holding (num (pos 1) ∷ num (pos 3) ∷ num (pos 0) ∷ [])) ≡ record { end = Halted Budget; left = 0; world = holding (num (pos 1) ∷ num (pos 3) ∷ num (pos 2) ∷ []) }
unfolding exec comp variable holding counting run
two_turns_and_no_budget = refl

nothing_packs : run (λ id v. false) 9 counting (holding (num (pos 1) ∷ num (pos 3) ∷ num (pos 0) ∷ [])) ≡ record { end = Halted OutOfRange; left = 7; world = holding (num (pos 1) ∷ num (pos 3) ∷ num (pos 0) ∷ []) }
unfolding exec comp variable holding counting run
nothing_packs = refl

-- a b subtract is a less b
a_less_b : run (λ id v. true) 9 (calculate (record { variable = 2; path = [] }) (math.Operand (source.Variable 1 []) ∷ math.Operand (source.Variable 0 []) ∷ math.Operator Subtract ∷ []) ∷ []) (holding (num (pos 1) ∷ num (pos 3) ∷ num (pos 0) ∷ [])) ≡ record { end = Done; left = 8; world = holding (num (pos 1) ∷ num (pos 3) ∷ num (pos 2) ∷ []) }
unfolding exec comp variable holding run
a_less_b = refl
