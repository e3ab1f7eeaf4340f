-- The numbers that the second pass works out.
use Rattle.std.proofs.Common.{◌≡◌, ℕ, ℤ, pos, ◌^◌, ◌≤◌, ◌+ℤ◌, ◌*ℤ◌, cond, true, List, Option, Some, None, Ok, Err, sym, ap, subst, ◌∙◌, arith, FitsSigned}
use Rattle.std.specs.Ordering.{int_eq}
use Rattle.std.proofs.lemmas.Bool.Decides.{Decides-int_eq}
use Rattle.std.proofs.lemmas.Int.{ints, fits_signed_from_abs}
use mir.Syntax.{w64}
use Rattle.eds_bits.specs.Bits.{Bits, octets_for}
use Rattle.eds_types.specs.Packing.{PackFault}
use Rattle.eds_types.specs.PackedSizes.{own_size, packed_size_within, told_by}
use Rattle.eds_types.specs.Plain.{Plain, num}
use Rattle.eds_types.specs.Rows.{Table}
use Rattle.eds_types.specs.Rules.{IsScale}
use Rattle.eds_base.specs.declared.ids.TypeId.{TypeId}
use Rattle.eds_pack.specs.Counting.{capped, counted}
use Rattle.eds_pack.specs.Putting.{HasRoom, Writes, IsSized, LengthSpells, octets_in, own_octets}
use Rattle.eds_pack.proofs.Counts.{Counted}
use Rattle.eds_pack.proofs.LengthNumbers.{only_number}
use Rattle.eds_pack.proofs.Spelt.{room_as}

-- ---- sizes that the first pass finds again

ok_is : (m n : ℕ) → ◌≡◌ {A = Counted} (Ok m) (Ok n) → m ≡ n
ok_is m n e = cc

small : (n : ℕ) → n ≤ 524288 → capped n ≡ n
small n few = omega (arith, few)

module _ (t : Table) (n k : ℕ) (f : List Plain) (sized : IsSized t n k f) where
  pub no_fault : {P : Type 0} (g : PackFault) → ◌≡◌ {A = Counted} (Err g) (counted (own_size t (packed_size_within n t) k f)) → P
  no_fault g e = absurd (let z : ◌≡◌ {A = Counted} (Err g) (Ok (capped sized.bits)) = e ∙ ap counted sized.is in cc)

  pub octets_found : (m : ℕ) → ◌≡◌ {A = Counted} (Ok m) (counted (own_size t (packed_size_within n t) k f)) → octets_for m ≡ own_octets t n k f
  octets_found m e = ap octets_for (ok_is m (capped sized.bits) (e ∙ ap counted sized.is) ∙ small sized.bits sized.few) ∙ sym (ap octets_in sized.is)

pub octets_few : (n o : ℕ) → o ≡ octets_for n → n ≤ 2 ^ 100 → o ≤ 2 ^ 100
octets_few n o e few = omega (arith, e, few)

-- ---- the number that tells them

module _ (c0 c1 r : ℤ) (m : ℕ) (scale : IsScale c0 c1) (tells : c0 +ℤ (c1 *ℤ r) ≡ pos m) where
  number_there : int_eq (c0 +ℤ (c1 *ℤ told_by c0 c1 m)) (pos m) ≡ true
  number_there = (Decides-int_eq (c0 +ℤ (c1 *ℤ told_by c0 c1 m)) (pos m)).1 (ap (λ z. c0 +ℤ (c1 *ℤ z)) (only_number c0 c1 r m scale tells) ∙ tells)

  found_is : cond (int_eq (c0 +ℤ (c1 *ℤ told_by c0 c1 m)) (pos m)) (Some (told_by c0 c1 m)) None ≡ Some (told_by c0 c1 m)
  found_is = ap (λ b. cond b (Some (told_by c0 c1 m)) None) number_there

  pub number_found : (o : ℕ) (z : ℤ) → o ≡ m → ◌≡◌ {A = Option ℤ} (Some z) (cond (int_eq (c0 +ℤ (c1 *ℤ told_by c0 c1 o)) (pos o)) (Some (told_by c0 c1 o)) None) → z ≡ told_by c0 c1 m
  number_found o z e h = let q : ◌≡◌ {A = Option ℤ} (Some z) (Some (told_by c0 c1 m)) = h ∙ ap (λ x. cond (int_eq (c0 +ℤ (c1 *ℤ told_by c0 c1 x)) (pos x)) (Some (told_by c0 c1 x)) None) e ∙ found_is in cc

  pub number_missed : {P : Type 0} (o : ℕ) → o ≡ m → ◌≡◌ {A = Option ℤ} None (cond (int_eq (c0 +ℤ (c1 *ℤ told_by c0 c1 o)) (pos o)) (Some (told_by c0 c1 o)) None) → P
  number_missed o e h = absurd (let q : ◌≡◌ {A = Option ℤ} None (Some (told_by c0 c1 m)) = h ∙ ap (λ x. cond (int_eq (c0 +ℤ (c1 *ℤ told_by c0 c1 x)) (pos x)) (Some (told_by c0 c1 x)) None) e ∙ found_is in cc)

-- coefficients are small
pub scale_fits : (c0 c1 : ℤ) → IsScale c0 c1 → FitsSigned w64 c0 × FitsSigned w64 c1
scale_fits c0 c1 scale = (
  fits_signed_from_abs w64 c0 (let o = scale.offset in omega arith),
  fits_signed_from_abs w64 c1 (let low = scale.rises in let high = scale.factor in omega (arith, ints)),
)

-- ---- a length entry's bits are those of its number

module _ (t : Table) (C : ℕ → Plain → Bits → Type 0) (octets : ℕ) (id : TypeId) (c0 c1 : ℤ) (scale : IsScale c0 c1) (v : Plain) (is : v ≡ num (told_by c0 c1 octets)) where
  length_as : (b : Bits) → LengthSpells t C octets id c0 c1 b → C id.0 v b
  length_as b h = subst (λ w. C id.0 w b) (ap num (sym (only_number c0 c1 h.0 octets scale h.1)) ∙ sym is) h.2

  pub length_room : (at : ℕ) (room : List ℕ) → HasRoom (LengthSpells t C octets id c0 c1) at room → HasRoom (C id.0 v) at room
  length_room at room h = room_as (LengthSpells t C octets id c0 c1) (C id.0 v) at room length_as h

  pub length_writes : (at end : ℕ) (old new : List ℕ) → Writes (C id.0 v) at old new end → Writes (LengthSpells t C octets id c0 c1) at old new end
  length_writes at end old new w b h fits = w b (length_as b h) fits
