-- Tests of numbers.
use Rattle.std.proofs.Common.{◌≡◌, ◌↔◌, ℕ, ℤ, Bool, true, false, cond, List, [], ◌∷◌, refl, sym, subst, inl, inr}
use Rattle.std.specs.Prelude.{IsTrue, ◌==◌, ◌||◌}
use Rattle.std.specs.List.{list_any}
use Rattle.std.proofs.lemmas.Bool.{cases_Bool, both_ways}
use Rattle.eds_base.specs.declared.spans.Span.{Span}
use Rattle.eds_base.specs.Spans.{IsWithin}
use Rattle.eds_bits.specs.Scalars.{IsCoded}
use Rattle.eds_types.specs.Reading.{is_coded, is_within}
use Rattle.eds_types.specs.Rows.{list_has}
use Rattle.eds_types.proofs.ScalarReading.{coded_from, coded_in}
use Rattle.eds_types.proofs.ReadingTests.{within_from, within_in}

-- a test that holds exactly for the numbers of a set
pub within_by : (spans : List Span) (n m : ℤ) (b : Bool) → m ≡ n → IsTrue b ↔ IsWithin spans m → b ≡ is_within spans n
within_by spans n m true e h = sym (within_in spans n (subst (IsWithin spans) e (h.0 refl)))
within_by spans n m false e h = elim (cases_Bool (is_within spans n)) [
  | inl t ↦ absurd (both_ways false refl (h.1 (subst (IsWithin spans) (sym e) (within_from spans n t))))
  | inr f ↦ sym f
]

-- a test for texts of an encoding
pub coded_by : (ascii : Bool) (text : List ℕ) (b : Bool) → IsTrue b ↔ IsCoded ascii text → b ≡ is_coded ascii text
coded_by ascii text true h = sym (coded_in ascii text (h.0 refl))
coded_by ascii text false h = elim (cases_Bool (is_coded ascii text)) [
  | inl t ↦ absurd (both_ways false refl (h.1 (coded_from ascii text t)))
  | inr f ↦ sym f
]

-- the octet is one of the text's
pub any_has : (octets : List ℕ) (octet : ℕ) → list_any (λ o. o == octet) octets ≡ list_has octets octet
any_has [] octet = refl
any_has (o ∷ os) octet = go (o == octet) (any_has os octet)
  where
    go : (b : Bool) → list_any (λ o. o == octet) os ≡ list_has os octet → (b || list_any (λ o. o == octet) os) ≡ cond b true (list_has os octet)
    go true h = refl
    go false h = h
