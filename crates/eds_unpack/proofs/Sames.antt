-- Whether two values are the same.
use Rattle.std.proofs.Common.{◌≡◌, Bool, true, false, refl, subst, IsTrue}
use Rattle.std.specs.Prelude.{◌↔◌}
use Rattle.std.proofs.lemmas.Bool.{false_from_ne_true}
use Rattle.eds_types.specs.Plain.{Plain}
use Rattle.eds_types.specs.Reading.{same}
use Rattle.eds_types.proofs.SameValues.{same-is, is-same}

pub same_by : (v w : Plain) (b : Bool) → (IsTrue b ↔ (v ≡ w)) → same v w ≡ b
same_by v w true h = subst (λ u. same v u ≡ true) (h.0 refl) (is-same v)
same_by v w false h = false_from_ne_true (same v w) (λ k. let p : false ≡ true = h.1 (same-is v w k) in absurd cc)
