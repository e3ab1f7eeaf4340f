-- Where and why some values of the table of the examples don't pack.
use Rattle.std.proofs.Common.{◌≡◌, ℕ, suc, zero, ◌+◌, ◌<◌, ◌≤◌, ℤ, pos, ◌≤ℤ◌, true, false, List, [], ◌∷◌, ◌++◌, length, replicate, Option, Some, None, refl, sym, ap, subst, ◌∙◌, append-nil, arith, ◌⊎◌, inl, inr, lit<, lit≤}
use Rattle.std.specs.Prelude.{codes, IsSome, IfSome, ◌+ℤ◌, ◌*ℤ◌}
use Rattle.std.proofs.lemmas.Bool.{both_ways}
use Rattle.std.proofs.lemmas.Int.{ints}
use Rattle.std.proofs.lemmas.List.{length-append}
use Rattle.eds_base.specs.declared.fault.Step.TheVariants as step
use Rattle.eds_base.specs.Spans.{IsWithin}
use Rattle.eds_bits.proofs.FormLaws.{has_canonical}
use Rattle.eds_bits.specs.Bits.{Bits, octets_for, bits_of, low_bits, first_pieces}
use Rattle.eds_bits.specs.IntForms.{IsNumber}
use Rattle.eds_bits.specs.Style.{canonical, is_zero}
use Rattle.eds_types.specs.declared.reason.PackReason.TheVariants as reason
use Rattle.eds_types.specs.declared.row.Kind.{Kind}
use Rattle.eds_types.specs.declared.row.Kind.TheVariants as kind
use Rattle.eds_types.specs.declared.row.TypeRow.{TypeRow}
use Rattle.eds_types.specs.Fields.{Field, listed, IsAtOrUnder, field_at}
use Rattle.eds_types.specs.Packing.{PackFault, pack_fault_here, NoSizeFits, IsFilled, TextFits, IsOfKind, KindPackFails, PackFailsWithin, PackFailsAt, pack_fault_at}
use Rattle.eds_types.specs.Plain.{Plain, num, label, text, bits, items, fields, none, plains_of}
use Rattle.eds_types.specs.Rows.{Table, id_of, chain, chain_within, list_has}
use Rattle.eds_types.specs.Rules.{HasKind, IsValueOf}
use Rattle.eds_types.specs.Sizes.{size_within}
use Rattle.eds_types.specs.Spelling.{Progress, started, with_bits, with_octets, BinHas, KindSpells, SpellsWithin, Canon}
use Rattle.eds_types.proofs.CanonicalPatterns.{length-zeros, zeros_false, zeros_zero}
use Rattle.eds_types.proofs.PackingLaws.{packs_within}
use Rattle.eds_types.proofs.ReadingTests.{has_in}
use Rattle.eds_types.proofs.RuleFacts.{table_of, facts_of}
use Rattle.eds_types.proofs.SameValues.{bin_bits}
use Rattle.eds_types.proofs.SpellingSizes.{canon_spells, same_row}
use Rattle.eds_types.proofs.TailSizes.{size_is, open_to}
use Rattle.eds_overlap.specs.Example.{example, any_number, unsigned_form, tail_packet, WorkedPacking}
use Rattle.eds_overlap.proofs.Concrete.{index_small}
use Rattle.eds_overlap.proofs.ExampleRules.{keeps_rules, last_of, row}

-- ---- values that pack

module _ (t : Table) (E : ℕ → Plain → Bits → Type 0) (F : ℕ → Plain → PackFault → Type 0) (id : ℕ) where
  -- a value of a scalar type, a text or bits doesn't fail
  value_fits : (k : Kind) (v : Plain) (w : PackFault) → IsValueOf k v → KindPackFails t E F id k v w → ⊥
  value_fits (kind.Int form spans) v w i (inl h) = h.0 (subst (IsOfKind (kind.Int form spans)) (sym i.1) tt)
  value_fits (kind.Int form spans) v w i (inr h) = let e : num i.0 ≡ num h.0 = sym i.1 ∙ h.1 in let n : i.0 ≡ h.0 = cc in h.2 (subst (IsWithin spans) n i.2)
  value_fits (kind.Enum form listing) v w i (inl h) = h.0 (subst (IsOfKind (kind.Enum form listing)) (sym i.1) tt)
  value_fits (kind.Enum form listing) v w i (inr h) = let e : label i.0 ≡ label h.0 = sym i.1 ∙ h.1 in let l : i.0 ≡ h.0 = cc in unlisted (listed listing h.0) h.2 (subst (λ z. IsSome (listed listing z)) l i.2)
    where
      unlisted : (o : Option ℤ) → o ≡ None → IsSome o → ⊥
      unlisted None e s = cc
      unlisted (Some n) e s = cc
  value_fits (kind.Bool form) v w i (inl h) = h.0 (subst (IsOfKind (kind.Bool form)) (sym i.1) tt)
  value_fits (kind.Bool form) v w i (inr h) = h
  value_fits (kind.Str form) v w i (inl h) = h.0 (subst (IsOfKind (kind.Str form)) (sym i.1) tt)
  value_fits (kind.Str form) v w i (inr h) = go h.2
    where
      e : i.0 ≡ h.0
      e = let q : text i.0 ≡ text h.0 = sym i.1 ∙ h.1 in cc

      go : (((TextFits form h.0 → ⊥) × (w ≡ pack_fault_here reason.BadText)) ⊎ (TextFits form h.0 × (form.length < length h.0) × (w ≡ pack_fault_here reason.WrongSize))) → ⊥
      go (inl f) = f.0 (subst (TextFits form) e i.2)
      go (inr f) = let few = i.3 in let many = f.1 in let l = ap length e in omega arith
  value_fits (kind.Bin n free) v w i (inl h) = h.0 (subst (IsOfKind (kind.Bin n free)) (sym i.2) tt)
  value_fits (kind.Bin n free) v w i (inr h) =
      let e : bits i.0 i.1 ≡ bits h.0 h.1 = sym i.2 ∙ h.2 in let m : i.0 ≡ h.0 = cc in let o : i.1 ≡ h.1 = cc in
      h.3 (subst (BinHas n free) m i.3, subst (λ z. IsFilled z h.1) m (subst (IsFilled i.0) o i.4))
  value_fits (kind.Arr item n) v w i h = i
  value_fits (kind.Con c) v w i h = i

abbrev Fails : ℕ → ℕ → Plain → PackFault → Type 0
Fails n x v w = PackFailsWithin n example x v w

abbrev IsOf : ℕ → Plain → Type 0
IsOf x v = HasKind example x (λ k. IsValueOf k v)

fits : (n x : ℕ) (v : Plain) → IsOf x v → (w : PackFault) → Fails n x v w → ⊥
unfolding PackFailsWithin
fits zero x v i w f = f
fits (suc n) x v i w f = value_fits example (SpellsWithin n canonical example) (PackFailsWithin n example) x (f.0).kind v w (subst (λ (r : TypeRow). IsValueOf r.kind v) (same_row example x i.0 f.0 i.1 f.1) i.2) f.2

some_plain : (v w : Plain) → Some v ≡ Some w → v ≡ w
some_plain v w e = cc

-- no entry fails whose value is one of its type
entry_fits : (x : ℕ) (v : Plain) → IsOf x v → (u : Plain) → Some v ≡ Some u → (w : PackFault) → Fails 31 x u w → ⊥
entry_fits x v i u e w f = fits 31 x v i w (subst (λ z. Fails 31 x z w) (sym (some_plain v u e)) f)

-- numbers of eight and of four bits
octet : (n : ℕ) → n ≤ 255 → IsOf 8 (num (pos n))
octet n l = (row 8, refl, (pos n, refl, inl (omega (arith, ints), omega (arith, ints))))

nibble : (n : ℕ) → n ≤ 15 → IsOf 13 (num (pos n))
nibble n l = (row 13, refl, (pos n, refl, inl (omega (arith, ints), omega (arith, ints))))

outside : (n high : ℕ) → high < n → IsWithin (record { low = pos 0; high = pos high } ∷ []) (pos n) → ⊥
outside n high l (inl h) = let b = h.1 in omega (arith, ints)
outside n high l (inr h) = h

-- 99 is no number of four bits
too_great : Fails 31 13 (num (pos 99)) (pack_fault_at reason.OutOfRange [])
unfolding PackFailsWithin
too_great = (_, refl, inr (pos 99, refl, outside 99 15 (lit< tt), refl))

not_under : (x k : ℕ) → list_has (chain example k) x ≡ false → IsAtOrUnder example x k → ⊥
not_under x k e h = both_ways (list_has (chain example k) x) e (has_in (chain example k) x h.before h.after h.is)

-- ---- kinds, scalars and items

kinds_differ : PackFailsAt example 8 (label (codes "x")) (pack_fault_at reason.WrongKind [])
unfolding PackFailsWithin
kinds_differ = inl (_, refl, inl ((λ e. e), refl))

few_fields : PackFailsAt example 14 (fields 14 (plains_of [])) (pack_fault_at reason.WrongKind [])
unfolding PackFailsWithin chain_within
few_fields = inl (_, refl, inr (14, _, refl, inl ((λ h. let c : 0 ≡ 2 = h.count in omega arith), refl)))

not_derived : PackFailsAt example 14 (fields 30 (plains_of (num (pos 1) ∷ []))) (pack_fault_at reason.NotDerived (step.Choice (id_of 30) ∷ []))
unfolding PackFailsWithin chain_within
not_derived = inl (_, refl, inr (30, _, refl, inr (inl (record { container = refl; count = refl }, not_under 14 30 refl, refl))))

abstract : PackFailsAt example 15 (fields 15 (plains_of (num (pos 1) ∷ []))) (pack_fault_at reason.Abstract (step.Choice (id_of 15) ∷ []))
unfolding PackFailsWithin chain_within
abstract = inl (_, refl, inr (15, _, refl, inr (inr (inl (record { container = refl; count = refl }, record { before = []; after = []; is = refl }, refl, refl)))))

range : PackFailsAt example 13 (num (pos 16)) (pack_fault_at reason.OutOfRange [])
unfolding PackFailsWithin
range = inl (_, refl, inr (pos 16, refl, outside 16 15 (lit< tt), refl))

unlisted : PackFailsAt example 5 (label (codes "x")) (pack_fault_at reason.NoLabel [])
unfolding PackFailsWithin
unlisted = inl (_, refl, inr (codes "x", refl, refl, refl))

stop_within : PackFailsAt example 21 (text (codes "a" ++ 10 ∷ [])) (pack_fault_at reason.BadText [])
unfolding PackFailsWithin
stop_within = inl (_, refl, inr (_, refl, inl ((λ h. h.1 (record { before = codes "a"; after = []; is = refl })), refl)))

abcde_fits : TextFits (record { length = 4; fixed = false; ascii = true; stop = 10; some = lit≤ tt; few = lit≤ tt; plain = lit≤ tt }) (codes "abcde")
abcde_fits = (index_small (codes "abcde") 128 refl refl, λ h. both_ways (list_has (codes "abcde") 10) refl (has_in (codes "abcde") 10 h.before h.after h.is))

long_text : PackFailsAt example 21 (text (codes "abcde")) (pack_fault_at reason.WrongSize [])
unfolding PackFailsWithin
long_text = inl (_, refl, inr (_, refl, inr (abcde_fits, lit< tt, refl)))

few_bits : PackFailsAt example 22 (bits 8 (0xAB ∷ [])) (pack_fault_at reason.WrongSize [])
unfolding PackFailsWithin
few_bits = inl (_, refl, inr (8, _, refl, (λ h. absurd (let q : 8 ≡ 12 = h.0 in omega arith)), refl))

items_missing : PackFailsAt example 23 (items (plains_of (num (pos 1) ∷ []))) (pack_fault_at reason.WrongSize [])
unfolding PackFailsWithin
items_missing = inl (_, refl, inr (_, refl, inl ((λ e. absurd (let q : 1 ≡ 2 = e in omega arith)), refl)))

item : PackFailsAt example 23 (items (plains_of (num (pos 1) ∷ num (pos 99) ∷ []))) (pack_fault_at reason.OutOfRange (step.Item 1 ∷ []))
unfolding PackFailsWithin
item = inl (_, refl, inr (_, refl, inr (refl, inr ((λ w f. fits 31 13 (num (pos 1)) (nibble 1 (lit≤ tt)) w f), inl ((pack_fault_at reason.OutOfRange []), too_great, refl)))))

-- ---- parts of containers

count : PackFailsAt example 14 (fields 14 (plains_of (num (pos 3) ∷ items (plains_of (num (pos 1) ∷ [])) ∷ []))) (pack_fault_at reason.CountWrong (step.Part (id_of 14) 1 ∷ []))
unfolding PackFailsWithin chain_within
count = inl (
  _,
  refl,
  inr (
    14,
    _,
    refl,
    inr (inr (inr (
      record { container = refl; count = refl },
      record { before = []; after = []; is = refl },
      refl,
      inr ((λ w f. entry_fits 8 (num (pos 3)) (octet 3 (lit≤ tt)) (f.1).0 (f.1).1 f.0 (f.1).2), inl ((pack_fault_at reason.CountWrong []), inl ((λ e. absurd (let q : ◌≡◌ {A = Option Plain} (Some (num (pos 3))) (Some (num (pos 1))) = e in cc)), refl), refl)),
    ))),
  ),
)

list_item : PackFailsAt example 14 (fields 14 (plains_of (num (pos 2) ∷ items (plains_of (num (pos 1) ∷ num (pos 99) ∷ [])) ∷ []))) (pack_fault_at reason.OutOfRange (step.Part (id_of 14) 1 ∷ step.Item 1 ∷ []))
unfolding PackFailsWithin chain_within
list_item = inl (
  _,
  refl,
  inr (
    14,
    _,
    refl,
    inr (inr (inr (
      record { container = refl; count = refl },
      record { before = []; after = []; is = refl },
      refl,
      inr ((λ w f. entry_fits 8 (num (pos 2)) (octet 2 (lit≤ tt)) (f.1).0 (f.1).1 f.0 (f.1).2), inl ((pack_fault_at reason.OutOfRange (step.Item 1 ∷ [])), inr (refl, inr ((λ w f. fits 31 13 (num (pos 1)) (nibble 1 (lit≤ tt)) w f), inl ((pack_fault_at reason.OutOfRange []), too_great, refl))), refl)),
    ))),
  ),
)

asked : PackFailsAt example 15 (fields 16 (plains_of (num (pos 15) ∷ []))) (pack_fault_at reason.Constraint (step.Part (id_of 15) 0 ∷ []))
unfolding PackFailsWithin chain_within
asked = inl (
  _,
  refl,
  inr (
    16,
    _,
    refl,
    inr (inr (inr (
      record { container = refl; count = refl },
      record { before = []; after = 16 ∷ []; is = refl },
      refl,
      inr ((λ w f. entry_fits 8 (num (pos 15)) (octet 15 (lit≤ tt)) (f.1).0 (f.1).1 f.0 (f.1).2), inl ((λ h. outside 15 10 (lit< tt) (subst (IsWithin (record { low = pos 0; high = pos 10 } ∷ [])) (sym (same_number (pos 15) h.number h.is)) h.within)), refl)),
    ))),
  ),
)
  where
    same_number : (n m : ℤ) → Some n ≡ Some m → n ≡ m
    same_number n m e = cc

derived : PackFailsAt example 30 (fields 30 (plains_of (num (pos 1) ∷ []))) (pack_fault_at reason.NotMostDerived (step.Choice (id_of 30) ∷ []))
unfolding PackFailsWithin chain_within
derived = inl (
  _,
  refl,
  inr (
    30,
    _,
    refl,
    inr (inr (inr (
      record { container = refl; count = refl },
      record { before = []; after = []; is = refl },
      refl,
      inr (
        (λ w f. entry_fits 8 (num (pos 1)) (octet 1 (lit≤ tt)) (f.1).0 (f.1).1 f.0 (f.1).2),
        inl (
          31,
          (λ e. absurd (let q : 31 ≡ 30 = e in omega arith)),
          record { before = []; after = 31 ∷ []; is = refl },
          record { concrete = refl; under = record { before = []; after = 31 ∷ []; is = refl }; holds = ((λ s. record { number = pos 1; is = refl; within = inl (omega (arith, ints), omega (arith, ints)) }), tt) },
          refl,
        ),
      ),
    ))),
  ),
)

-- ---- tails

two_octets : BinHas 64 true 16 × IsFilled 16 (0xAA ∷ 0xBB ∷ [])
unfolding low_bits first_pieces
two_octets = ((lit≤ tt, (2, refl)), (bits_of (0xAA ∷ 0xBB ∷ []), refl, refl))

two_fit : (n : ℕ) (v : Plain) (w : PackFault) → bits 16 (0xAA ∷ 0xBB ∷ []) ≡ v → Fails n 18 v w → ⊥
unfolding PackFailsWithin
two_fit zero v w e f = f
two_fit (suc n) v w e f = by_kind (subst (λ (r : TypeRow). KindPackFails example (SpellsWithin n canonical example) (PackFailsWithin n example) 18 r.kind v w) (same_row example 18 f.0 (row 18) f.1 refl) f.2)
  where
    by_kind : KindPackFails example (SpellsWithin n canonical example) (PackFailsWithin n example) 18 (kind.Bin 64 true) v w → ⊥
    by_kind (inl h) = h.0 (subst (IsOfKind (kind.Bin 64 true)) e tt)
    by_kind (inr h) =
        let q : bits 16 (0xAA ∷ 0xBB ∷ []) ≡ bits h.0 h.1 = e ∙ h.2 in let m : 16 ≡ h.0 = cc in let o : 0xAA ∷ 0xBB ∷ [] ≡ h.1 = cc in
        h.3 (subst (λ m. BinHas 64 true m × IsFilled m h.1) m (subst (λ o. BinHas 64 true 16 × IsFilled 16 o) o two_octets))

abbrev nine : List ℕ
nine = 0 ∷ 0 ∷ 0 ∷ 0 ∷ 0 ∷ 0 ∷ 0 ∷ 0 ∷ 0 ∷ []

too_many : PackFailsAt example 19 (tail_packet 19 nine) (pack_fault_at reason.WrongSize (step.Part (id_of 19) 2 ∷ []))
unfolding PackFailsWithin chain_within
too_many = inl (
  _,
  refl,
  inr (
    19,
    _,
    refl,
    inr (inr (inr (
      record { container = refl; count = refl },
      record { before = []; after = []; is = refl },
      refl,
      inr ((λ w f. entry_fits 8 (num (pos 1)) (octet 1 (lit≤ tt)) (f.1).0 (f.1).1 f.0 (f.1).2), inr ((λ w f. f.1), inl ((pack_fault_at reason.WrongSize []), (bits 72 nine, refl, (_, refl, inr (72, nine, refl, (λ h. let l = (h.0).0 in omega arith), refl))), refl))),
    ))),
  ),
)

abbrev C : ℕ → Plain → Bits → Type 0
C x v b = SpellsWithin 31 canonical example x v b

octet_size : (v : Plain) (b : Bits) → C 8 v b → length b ≡ 8
unfolding size_within
octet_size v b h = size_is example 31 32 8 8 v b refl (canon_spells example 31 8 v b h)

blob_size : (v : Plain) (b : Bits) → C 18 v b → length b ≡ bin_bits v
blob_size v b h = sym (ap bin_bits (open_to example 31 18 64 refl v b (canon_spells example 31 18 v b h)).1)

tail_in : List Field → ℕ
tail_in [] = 0
tail_in (f ∷ []) = 0
tail_in (f ∷ g ∷ fs) = bin_bits (g.value)

five_or_even : (r : ℤ) → pos 0 +ℤ (pos 2 *ℤ r) ≡ pos 5 → ⊥
five_or_even r e = omega (arith, ints, e)

no_pairs : NoSizeFits example C (PackFailsWithin 31 example) 20 (field_at 20 0 (num (pos 1)) ∷ field_at 20 2 (bits 16 (0xAA ∷ 0xBB ∷ [])) ∷ [])
unfolding chain_within tail_in
no_pairs u b h e fits =
    let p1 = h.4 in let h2 = h.5 in let p2 = h2.4 in let h3 = h2.5 in let p3 = h3.4 in let h4 = h3.5 in let p4 = h4.4 in let last = h4.5 in
    let field : bin_bits p3.0 ≡ 16 = ap tail_in (sym (ap (λ (z : Progress). z.fields) (last.0 ∙ p4.1) ∙ ap (λ (z : Progress). z.fields) p3.2 ∙ ap (λ (z : Progress). z.fields ++ field_at 20 2 p3.0 ∷ []) p2.2 ∙ ap (λ (z : Progress). z.fields ++ field_at 20 2 p3.0 ∷ []) p1.2)) ∙ ap tail_in e in
    let size : length u.before ≡ 40 =
    ap (λ (z : Progress). length z.before) (last.0 ∙ p4.1) ∙ length-append (h3.0).before h4.1 ∙ ap (λ m. m + length h4.1) (ap (λ (z : Progress). length z.before) p3.2 ∙ length-append (h2.0).before h3.1 ∙ ap (λ m. m + length h3.1) (ap (λ (z : Progress). length z.before) p2.2 ∙ length-append (h.0).before h2.1 ∙ ap (λ m. m + length h2.1) (ap (λ (z : Progress). length z.before) p1.2)))
    ∙ omega (arith, octet_size p1.0 h.1 p1.1, octet_size (num p2.0) h2.1 p2.1, blob_size p3.0 h3.1 p3.1, field, octet_size _ h4.1 p4.0) in
    let told : u.octets ≡ Some (pos 0 +ℤ (pos 2 *ℤ p2.0)) = ap (λ (z : Progress). z.octets) (last.0 ∙ p4.1) ∙ ap (λ (z : Progress). z.octets) p3.2 ∙ ap (λ (z : Progress). z.octets) p2.2 in
    five_or_even p2.0 (subst (λ o. IfSome o (λ n. n ≡ pos (octets_for (length u.before)))) told fits ∙ ap (λ m. pos (octets_for m)) size)

odd : PackFailsAt example 20 (tail_packet 20 (0xAA ∷ 0xBB ∷ [])) (pack_fault_at reason.LengthField (step.Part (id_of 20) 1 ∷ []))
unfolding PackFailsWithin chain_within
odd = inl (
  _,
  refl,
  inr (
    20,
    _,
    refl,
    inr (inr (inr (
      record { container = refl; count = refl },
      record { before = []; after = []; is = refl },
      refl,
      inr ((λ w f. entry_fits 8 (num (pos 1)) (octet 1 (lit≤ tt)) (f.1).0 (f.1).1 f.0 (f.1).2), inr ((λ w f. f.1), inr ((λ w f. two_fit 31 (f.1).0 f.0 (some_plain (bits 16 (0xAA ∷ 0xBB ∷ [])) (f.1).0 (f.1).1) (f.1).2), inr ((λ w f. f.1 (last_of 20 refl f.0 f.2)), inr ((λ w f. f.1), inl (no_pairs, refl)))))),
    ))),
  ),
)

-- ---- padding of the most bits

octet_within : (n : ℕ) (r : ℤ) (b : Bits) → SpellsWithin n canonical example 8 (num r) b → r ≤ℤ pos 255
unfolding SpellsWithin
octet_within zero r b h = absurd h
octet_within (suc n) r b h = by_kind (subst (λ (q : TypeRow). KindSpells canonical example (SpellsWithin n canonical example) 8 q.kind (num r) b) (same_row example 8 h.0 (row 8) h.1 refl) h.2)
  where
    in_span : (m : ℤ) → IsWithin (record { low = pos 0; high = pos 255 } ∷ []) m → m ≤ℤ pos 255
    in_span m (inl h) = h.1
    in_span m (inr h) = absurd h

    by_kind : KindSpells canonical example (SpellsWithin n canonical example) 8 (any_number 8 refl refl) (num r) b → r ≤ℤ pos 255
    by_kind h = let e : num r ≡ num h.0 = h.1 in let q : r ≡ h.0 = cc in subst (λ z. z ≤ℤ pos 255) (sym q) (in_span h.0 h.2)

-- 65,537 octets aren't told by a number of eight bits
few_told : (r : ℤ) → r ≤ℤ pos 255 → pos 0 +ℤ (pos 1 *ℤ r) ≡ pos 65537 → ⊥
few_told r l e = omega (arith, ints, e)

untellable : NoSizeFits example C (PackFailsWithin 31 example) 33 []
unfolding chain_within
untellable u b h e fits =
    let length_part = h.4 in let h2 = h.5 in let pad = h2.4 in let last = h2.5 in
    let size : length u.before ≡ 524296 =
    ap (λ (z : Progress). length z.before) (last.0 ∙ pad.2) ∙ length-append (h.0).before h2.1 ∙ ap (λ m. m + length h2.1) (ap (λ (z : Progress). length z.before) length_part.2)
    ∙ omega (arith, octet_size (num length_part.0) h.1 length_part.1, pad.0) in
    let told : u.octets ≡ Some (pos 0 +ℤ (pos 1 *ℤ length_part.0)) = ap (λ (z : Progress). z.octets) (last.0 ∙ pad.2) ∙ ap (λ (z : Progress). z.octets) length_part.2 in
    few_told length_part.0 (octet_within 31 length_part.0 h.1 length_part.1) (subst (λ o. IfSome o (λ n. n ≡ pos (octets_for (length u.before)))) told fits ∙ ap (λ m. pos (octets_for m)) size)

untold : PackFailsAt example 33 (fields 33 (plains_of [])) (pack_fault_at reason.LengthField (step.Part (id_of 33) 0 ∷ []))
unfolding PackFailsWithin chain_within
untold = inl (
  _,
  refl,
  inr (
    33,
    _,
    refl,
    inr (inr (inr (
      record { container = refl; count = refl },
      record { before = []; after = []; is = refl },
      refl,
      inr ((λ w f. f.1), inr ((λ w f. f.1), inr ((λ w f. f.1 (last_of 33 refl f.0 f.2)), inl (untellable, refl)))),
    ))),
  ),
)

-- where 32 bits tell the octets, the padding alone has the most bits
told_by : (bs : Bits) × IsNumber canonical (unsigned_form 32 refl refl) (pos 65540) bs
told_by = has_canonical (unsigned_form 32 refl refl) (pos 65540) (record { from_least = record { le = tt }; to_greatest = record { le = tt } })

padding : Bits
padding = replicate 524288 false

padding_size : length padding ≡ 524288
unfolding padding
padding_size = length-zeros 524288

padding_zero : is_zero padding ≡ true
unfolding padding
padding_zero = zeros_zero (replicate 524288 false) (zeros_false 524288)

whole_size : length (told_by.0 ++ padding) ≡ 524320
whole_size = length-append told_by.0 padding ∙ omega (arith, ((told_by.1).is).size, padding_size)

number_told : C 32 (num (pos 65540)) told_by.0
unfolding SpellsWithin
number_told = (row 32, refl, (pos 65540, refl, inl (omega (arith, ints), omega (arith, ints)), told_by.1))

long_spelling : Canon example 34 (fields 34 none) (told_by.0 ++ padding)
unfolding SpellsWithin chain_within
long_spelling = (
  row 34,
  refl,
  (
    34,
    none,
    refl,
    record {
      concrete = refl;
      under = record { before = []; after = []; is = refl };
      end = with_bits (with_octets started (pos 65540) told_by.0) padding;
      parts = (with_octets started (pos 65540) told_by.0, told_by.0, padding, refl, (pos 65540, number_told, refl), (with_bits (with_octets started (pos 65540) told_by.0) padding, padding, [], sym (append-nil padding), (padding_size, padding_zero, refl), (refl, refl)));
      values = refl;
      size = sym (ap (λ m. pos (octets_for m)) whole_size);
      constraints = tt;
      most_derived = λ l ne under c. ne (last_of 34 refl l under);
    },
  ),
)

too_long : PackFailsAt example 34 (fields 34 (plains_of [])) (pack_fault_at reason.TooLong [])
too_long = inr (
  record {
    nothing_else = λ w f. (packs_within example (table_of example keeps_rules) (facts_of example keeps_rules) 32 34 ((table_of example keeps_rules).nested 34) (lit< tt) (fields 34 none)).apart (told_by.0 ++ padding) w long_spelling f;
    spelling = told_by.0 ++ padding;
    is = long_spelling;
    long = omega (arith, whole_size);
  },
  refl,
)

pub worked_packing : WorkedPacking
worked_packing = record {
  kind = kinds_differ;
  few_fields = few_fields;
  not_derived = not_derived;
  abstract = abstract;
  range = range;
  unlisted = unlisted;
  stop_within = stop_within;
  long_text = long_text;
  few_bits = few_bits;
  items_missing = items_missing;
  item = item;
  count = count;
  list_item = list_item;
  asked = asked;
  derived = derived;
  too_many = too_many;
  odd = odd;
  untold = untold;
  too_long = too_long;
}
