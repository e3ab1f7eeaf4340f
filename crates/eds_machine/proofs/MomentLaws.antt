-- Of moments the least does not rest on how they are grouped, and is that of the present state's timers.
use Rattle.std.proofs.Common.{◌≡◌, ◌≤◌, ◌^◌, ℕ, List, [], ◌∷◌, Bool, true, false, Option, Some, None, refl, ap, subst, ◌∙◌, arith}
use Rattle.std.specs.Prelude.{◌==◌, if◌then◌else◌}
use Rattle.std.specs.List.{AllByRecursion, cons_option}
use Rattle.std.proofs.lemmas.Bool.Decides.{nat_tests}
use Rattle.eds_plan.specs.declared.machine.Transition.{Transition}
use Rattle.eds_plan.specs.declared.machine.Trigger.{Trigger}
use Rattle.eds_plan.specs.declared.machine.Trigger.TheVariants as trigger
use Rattle.eds_plan.specs.declared.run.MachineState.{MachineState}
use Rattle.eds_plan.specs.Matching.{nanoseconds, timers}
use Rattle.eds_machine.specs.Moments.{moment_by, sooner, next_moment, first_due, IsNear}

pub sooner_assoc : (a b c : Option ℕ) → sooner (sooner a b) c ≡ sooner a (sooner b c)
sooner_assoc None b c = refl
sooner_assoc (Some a) None c = refl
sooner_assoc (Some a) (Some b) None = grind (arith, nat_tests)
sooner_assoc (Some a) (Some b) (Some c) = grind (arith, nat_tests)

pub first_due_assoc : (a b c : Option (ℕ × ℕ)) → first_due (first_due a b) c ≡ first_due a (first_due b c)
first_due_assoc None b c = refl
first_due_assoc (Some a) None c = refl
first_due_assoc (Some a) (Some b) None = grind (arith, nat_tests)
first_due_assoc (Some a) (Some b) (Some c) = grind (arith, nat_tests)

pub sooner_none : (a : Option ℕ) → sooner a None ≡ a
sooner_none None = refl
sooner_none (Some a) = refl

pub first_due_none : (a : Option (ℕ × ℕ)) → first_due a None ≡ a
first_due_none None = refl
first_due_none (Some a) = refl

-- ---- the timers of the state at hand

-- the least moment to come of timers that wait for so long
abbrev pub least_of : MachineState → List ℕ → Option ℕ
least_of m [] = None
least_of m (k ∷ ks) = sooner (moment_by (trigger.Timer k) m) (least_of m ks)

-- one more transition, which leaves the present state or does not
with_next : (m : MachineState) (b : Bool) (t : Trigger) (ks : List ℕ) → least_of m (cons_option (if b then nanoseconds t else None) ks) ≡ sooner (if b then moment_by t m else None) (least_of m ks)
with_next m true trigger.Start ks = refl
with_next m true (trigger.Command f n) ks = refl
with_next m true (trigger.Param f n o) ks = refl
with_next m true (trigger.Timer k) ks = refl
with_next m false t ks = refl

least_of_all : (m : MachineState) (xs : List Transition) → least_of m (timers m.at xs) ≡ next_moment m xs
least_of_all m [] = refl
least_of_all m (x ∷ xs) = with_next m (x.from == m.at) x.event (timers m.at xs) ∙ ap (sooner (if x.from == m.at then moment_by x.event m else None)) (least_of_all m xs)

pub least_is_next : (m : MachineState) (xs : List Transition) (ks : List ℕ) → ks ≡ timers m.at xs → least_of m ks ≡ next_moment m xs
least_is_next m xs ks e = ap (least_of m) e ∙ least_of_all m xs

-- numbers of nanoseconds that timers may have
abbrev AreNear : List ℕ → Type 0
AreNear ks = AllByRecursion (λ (k : ℕ). k ≤ 10 ^ 18) ks

near_next : (b : Bool) (t : Trigger) (ks : List ℕ) → IsNear t → AreNear ks → AreNear (cons_option (if b then nanoseconds t else None) ks)
near_next true trigger.Start ks h hs = hs
near_next true (trigger.Command f n) ks h hs = hs
near_next true (trigger.Param f n o) ks h hs = hs
near_next true (trigger.Timer k) ks h hs = (h, hs)
near_next false t ks h hs = hs

near_all : (s : ℕ) (xs : List Transition) → AllByRecursion (λ (x : Transition). IsNear x.event) xs → AreNear (timers s xs)
near_all s [] h = tt
near_all s (x ∷ xs) h = near_next (x.from == s) x.event (timers s xs) h.0 (near_all s xs h.1)

pub timers_near : (s : ℕ) (xs : List Transition) (ks : List ℕ) → ks ≡ timers s xs → AllByRecursion (λ (x : Transition). IsNear x.event) xs → AllByRecursion (λ (k : ℕ). k ≤ 10 ^ 18) ks
timers_near s xs ks e h = let f : timers s xs ≡ ks = cc in subst AreNear f (near_all s xs h)
