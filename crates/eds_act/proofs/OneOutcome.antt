-- A body does one thing.
use Rattle.std.proofs.Common.{◌≡◌, ◌-◌, ℕ, Bool, true, false, refl, sym, ap, ◌∙◌, []}
use Rattle.std.proofs.Math.Path.{fun_ext}
use Rattle.eds_types.specs.Rows.{Table}
use Rattle.eds_types.specs.Plain.{Plain}
use Rattle.eds_act.specs.Does.{Tells, Ended, exec, items_of, budget}
use Rattle.eds_act.specs.Laws.{OneOutcome}

same_bool : (a b : Bool) → (a ≡ true → b ≡ true) → (b ≡ true → a ≡ true) → a ≡ b
same_bool true b f g = sym (f refl)
same_bool false true f g = g refl
same_bool false false f g = refl

same_test : (t : Table) (p q : ℕ → Plain → Bool) → Tells t p → Tells t q → p ≡ q
same_test t p q a b = fun_ext (λ id. fun_ext (λ v. same_bool (p id v) (q id v) (λ h. b.packs_all id v (a.packs_only id v h)) (λ h. a.packs_all id v (b.packs_only id v h))))

pub one_outcome : OneOutcome
one_outcome t number c body args vars waiting n one two here there out sent m k end stop a b =
    let same = sym a.runs ∙ ap (λ p. exec p t c (budget - n) (items_of args body) (record { component = number; variables = vars; waiting = waiting; sent = [] })) (same_test t a.packs b.packs a.tells b.tells) ∙ b.runs in
    (ap (λ (e : Ended). e.world.variables) same, ap (λ (e : Ended). e.world.waiting) same, ap (λ (e : Ended). e.world.sent) same, ap (λ (e : Ended). e.left) same, ap (λ (e : Ended). e.end) same)
