-- Values are the same exactly where they are equal.
use Rattle.std.proofs.Common.{◌≡◌, Bool, true, false, refl, subst}
use Rattle.std.specs.Prelude.{◌↔◌, IsTrue}
use Rattle.eds_types.specs.Plain.{Plain}
use Rattle.eds_types.specs.Reading.{same}
use Rattle.eds_types.proofs.SameValues.{same-is, is-same}
use Rattle.eds_act.specs.Laws.{SameIsEqual}

pub same_is_equal : SameIsEqual
same_is_equal v w = (same-is v w, λ h. subst (λ (u : Plain). same v u ≡ true) h (is-same v))

-- what is true exactly where two values are equal is whether they are the same
pub is-same_by : (b : Bool) (v w : Plain) → IsTrue b ↔ (v ≡ w) → b ≡ same v w
is-same_by b v w h = go b h (same v w) refl
  where
    go : (b : Bool) → IsTrue b ↔ (v ≡ w) → (c : Bool) → same v w ≡ c → b ≡ same v w
    go true h true e = cc
    go true h false e = absurd (let k : same v w ≡ true = (same_is_equal v w).1 (h.0 refl) in cc)
    go false h true e = absurd (let k : false ≡ true = h.1 ((same_is_equal v w).0 e) in cc)
    go false h false e = cc
