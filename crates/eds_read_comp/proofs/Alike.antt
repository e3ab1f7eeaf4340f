-- Plans of which a sheet says the same are alike.
use Rattle.std.proofs.Common.{◌≡◌, List, [], ◌∷◌, map, refl, ap, ap₂}
use Rattle.std.proofs.lemmas.Option.{same_Some}
use Rattle.eds_types.specs.Plain.{Plain, plain}
use Rattle.eds_plan.specs.Alike.{IsAlike, SeenTransition, seen_activity, seen_component, seen_machine, seen_variable}
use Rattle.eds_plan.specs.declared.activity.Activity.{Activity}
use Rattle.eds_plan.specs.declared.component.ComponentPlan.{ComponentPlan}
use Rattle.eds_plan.specs.declared.component.VarPlan.{VarPlan}
use Rattle.eds_plan.specs.declared.machine.Machine.{Machine}
use Rattle.eds_plan.proofs.Alike.{firsts_alike, others_alike, told_alike}
use Rattle.eds_read_act.specs.Activities.{Planned, planned}
use Rattle.eds_read_act.specs.MachinePlans.{PlannedMachine, PlannedTransition, planned_machine, planned_transition}
use Rattle.eds_read_act.specs.declared.variable.VariableHead.{VariableHead}
use Rattle.eds_read_comp.specs.Laws.{SeenPlansAreAlike}
use Rattle.eds_read_comp.specs.Plans.{SaidComponent, SeenPlan, first_of_variable, firsts_of, head_of, said_component}

-- ---- activities and machines

activities_alike : (xs ys : List Activity) → map planned xs ≡ map planned ys → map seen_activity xs ≡ map seen_activity ys
activities_alike xs ys same = told_alike planned (λ (a : Planned). record { name = a.name; arguments = a.arguments; body = a.body }) xs ys same

-- a transition that is so planned, as it is seen
abbrev transition_of : PlannedTransition → SeenTransition
transition_of x = record { from = x.from; to = x.to; event = x.event; transaction = x.transaction; guard = x.guard; action = x.action }

machine_alike : (m n : Machine) → planned_machine m ≡ planned_machine n → seen_machine m ≡ seen_machine n
machine_alike m n same =
    ap₂ (λ (p : PlannedMachine) xs. record { name = p.name; states = p.states; entry = p.entry; transitions = xs }) same
    (told_alike planned_transition transition_of m.transitions n.transitions (ap (λ (p : PlannedMachine). p.transitions) same))

machines_alike : (xs ys : List Machine) → map planned_machine xs ≡ map planned_machine ys → map seen_machine xs ≡ map seen_machine ys
machines_alike [] [] same = refl
machines_alike [] (y ∷ ys) same = absurd cc
machines_alike (x ∷ xs) [] same = absurd cc
machines_alike (x ∷ xs) (y ∷ ys) same = ap₂ (λ m ms. m ∷ ms) (machine_alike x y (firsts_alike planned_machine x y xs ys same)) (machines_alike xs ys (others_alike planned_machine x y xs ys same))

-- ---- variables

variable_alike : (x y : VarPlan) → head_of x ≡ head_of y → first_of_variable x ≡ first_of_variable y → seen_variable x ≡ seen_variable y
variable_alike x y head first = ap₂ (λ (v : VariableHead) (w : Plain). record { name = v.name; id = v.id; read_only = v.read_only; initial = w }) head (same_Some (plain x.initial) (plain y.initial) first)

variables_alike : (xs ys : List VarPlan) → map head_of xs ≡ map head_of ys → map first_of_variable xs ≡ map first_of_variable ys → map seen_variable xs ≡ map seen_variable ys
variables_alike [] [] heads firsts = refl
variables_alike [] (y ∷ ys) heads firsts = absurd cc
variables_alike (x ∷ xs) [] heads firsts = absurd cc
variables_alike (x ∷ xs) (y ∷ ys) heads firsts =
    ap₂ (λ v vs. v ∷ vs)
    (variable_alike x y (firsts_alike head_of x y xs ys heads) (firsts_alike first_of_variable x y xs ys firsts))
    (variables_alike xs ys (others_alike head_of x y xs ys heads) (others_alike first_of_variable x y xs ys firsts))

-- ---- components

component_alike : (c d : ComponentPlan) → said_component c ≡ said_component d → firsts_of c ≡ firsts_of d → IsAlike c d
component_alike c d same firsts =
    λ i. record {
      name = (same i).name;
      ends = (same i).ends;
      variables = variables_alike c.variables d.variables (ap (λ (s : SaidComponent). s.variables) same) firsts i;
      maps = (same i).maps;
      activities = activities_alike c.activities d.activities (ap (λ (s : SaidComponent). s.activities) same) i;
      machines = machines_alike c.machines d.machines (ap (λ (s : SaidComponent). s.machines) same) i;
      transactions = (same i).transactions;
    }

components_alike : (p q : List ComponentPlan) → map said_component p ≡ map said_component q → map firsts_of p ≡ map firsts_of q → map seen_component p ≡ map seen_component q
components_alike [] [] same firsts = refl
components_alike [] (d ∷ ds) same firsts = absurd cc
components_alike (c ∷ cs) [] same firsts = absurd cc
components_alike (c ∷ cs) (d ∷ ds) same firsts =
    ap₂ (λ s ss. s ∷ ss)
    (component_alike c d (firsts_alike said_component c d cs ds same) (firsts_alike firsts_of c d cs ds firsts))
    (components_alike cs ds (others_alike said_component c d cs ds same) (others_alike firsts_of c d cs ds firsts))

pub seen_plans_are_alike : SeenPlansAreAlike
seen_plans_are_alike p q same = components_alike p q (ap (λ (s : SeenPlan). s.components) same) (ap (λ (s : SeenPlan). s.firsts) same)
