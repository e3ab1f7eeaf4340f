-- A value that is there and packs.
use Rattle.std.proofs.Common.{◌≡◌, ◌<◌, ◌↔◌, ℕ, length, Bool, true, false, ◌&&◌, nat_lt, refl, sym, ap, ◌∙◌, arith}
use Rattle.std.specs.Prelude.{Result, Ok, Err, IfOk}
use Rattle.std.proofs.lemmas.Bool.Decides.{nat_tests}
use Rattle.eds_base.specs.declared.fail.Memory.{Memory}
use Rattle.eds_types.specs.PackedSizes.{packs, Packs}
use Rattle.eds_types.specs.Plain.{Plain}
use Rattle.eds_types.specs.Rows.{Table}
use Rattle.eds_types.specs.Rules.{KeepsRules}
use Rattle.eds_types.proofs.PackedLaws.{sizes_are_exact}
use Rattle.eds_fits.specs.Deciding.{value_fits}

-- two tests that pass together are one
same-test : (a b : Bool) → (a ≡ true → b ≡ true) → (b ≡ true → a ≡ true) → a ≡ b
same-test true b f g = sym (f refl)
same-test false true f g = g refl
same-test false false f g = refl

pub value-told : (t : Table) (id : ℕ) (v : Plain) (b : Bool) → KeepsRules t → id < length t → ((b ≡ true) ↔ ((n : ℕ) × Packs t id v n)) → b ≡ value_fits t id v
value-told t id v b rules lt told =
    let exact = (sizes_are_exact t id rules lt v).bool in
    let there : nat_lt id (length t) ≡ true = grind (arith, nat_tests) in
    same-test b (packs t id v) (λ e. exact.1 (told.0 e)) (λ e. told.1 (exact.0 e)) ∙ sym (ap (λ x. x && packs t id v) there)

-- what follows from a test follows from what is answered
pub passed : {P : Type 0} (r : Result Bool Memory) (x : Bool) → (x ≡ true → P) → IfOk r (λ b. b ≡ x) → IfOk r (λ b. b ≡ true → P)
passed (Ok b) x f h = λ e. f (sym h ∙ e)
passed (Err m) x f h = tt
