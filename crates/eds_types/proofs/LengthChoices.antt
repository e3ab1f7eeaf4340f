-- Whether some number of a length entry tells a given size.
use Rattle.std.proofs.Common.{◌≡◌, ℕ, ℤ, pos, ◌+ℤ◌, ◌*ℤ◌, List, [], ◌∷◌, Option, Some, None, refl, sym, ap, subst, ◌∙◌, ◌⊎◌, inl, inr, int_eq}
use Rattle.std.specs.Prelude.{IfSome}
use Rattle.std.specs.List.{AllByRecursion}
use Rattle.std.proofs.lemmas.Bool.{cases_Bool, both_ways}
use Rattle.std.proofs.lemmas.Bool.Decides.{Decides-int_eq}
use Rattle.eds_types.specs.declared.row.Part.{Part}
use Rattle.eds_types.specs.declared.row.Part.TheVariants as part
use Rattle.eds_bits.specs.Bits.{Bits}
use Rattle.eds_bits.specs.Style.{canonical}
use Rattle.eds_types.proofs.Scales.{scaled_same, told_decides}
use Rattle.eds_types.proofs.TableFacts.{IsScaled, NoLength, IsLengthOnce}
use Rattle.eds_types.specs.Plain.{Plain, num}
use Rattle.eds_types.specs.Rows.{Table, Placed}
use Rattle.eds_types.specs.Spelling.{Progress, PartPasses, PartsPass}

-- ---- the numbers of the length entries

module _ (C : ℕ → Plain → Bits → Type 0) where
  -- a number for a length entry, with its bits
  abbrev pub Choice : Part → Type 0
  Choice (part.Plain name id) = Unit {0}
  Choice (part.Fixed name id v) = Unit {0}
  Choice (part.Pad n) = Unit {0}
  Choice (part.List name id y i) = Unit {0}
  Choice (part.Length name id c0 c1) = (r : ℤ) × (b : Bits) × C id.0 (num r) b
  Choice (part.Check name id k) = Unit {0}

  abbrev pub tell : (q : Part) → Choice q → Option ℤ → Option ℤ
  tell (part.Plain name id) c o = o
  tell (part.Fixed name id v) c o = o
  tell (part.Pad n) c o = o
  tell (part.List name id y i) c o = o
  tell (part.Length name id c0 c1) c o = Some (c0 +ℤ (c1 *ℤ c.0))
  tell (part.Check name id k) c o = o

  abbrev pub Choices : List Placed → Type 0
  Choices ps = AllByRecursion (λ (p : Placed). Choice p.part) ps

  abbrev pub tell_all : (ps : List Placed) → Choices ps → Option ℤ → Option ℤ
  tell_all [] c o = o
  tell_all (p ∷ ps) c o = tell_all ps c.1 (tell p.part c.0 o)

  -- whether a number of the length entry's type has bits
  abbrev pub NumbersDecided : Part → Type 0
  NumbersDecided (part.Plain name id) = Unit {0}
  NumbersDecided (part.Fixed name id v) = Unit {0}
  NumbersDecided (part.Pad n) = Unit {0}
  NumbersDecided (part.List name id y i) = Unit {0}
  NumbersDecided (part.Length name id c0 c1) = (r : ℤ) → ((b : Bits) × C id.0 (num r) b) ⊎ ((b : Bits) → C id.0 (num r) b → ⊥)
  NumbersDecided (part.Check name id k) = Unit {0}

  abbrev pub Told : Option ℤ → ℕ → Type 0
  Told o n = IfSome o (λ m. m ≡ pos n)

  told_none : (q : Part) → NoLength q → (c : Choice q) (o : Option ℤ) → tell q c o ≡ o
  told_none (part.Plain name id) h c o = refl
  told_none (part.Fixed name id v) h c o = refl
  told_none (part.Pad n) h c o = refl
  told_none (part.List name id y i) h c o = refl
  told_none (part.Length name id c0 c1) h c o = absurd h
  told_none (part.Check name id k) h c o = refl

  pub told_rest : (ps : List Placed) → AllByRecursion (λ (p : Placed). NoLength p.part) ps → (c : Choices ps) (o : Option ℤ) → tell_all ps c o ≡ o
  told_rest [] h c o = refl
  told_rest (p ∷ ps) h c o = told_rest ps h.1 c.1 (tell p.part c.0 o) ∙ told_none p.part h.0 c.0 o

  length_or : (q : Part) → NoLength q ⊎ (NoLength q → ⊥)
  length_or (part.Plain name id) = inl tt
  length_or (part.Fixed name id v) = inl tt
  length_or (part.Pad m) = inl tt
  length_or (part.List name id y i) = inl tt
  length_or (part.Length name id c0 c1) = inr (λ h. h)
  length_or (part.Check name id k) = inl tt

  some_told : (o : Option ℤ) (n : ℕ) → Told o n ⊎ (Told o n → ⊥)
  some_told None n = inl tt
  some_told (Some m) n = elim (cases_Bool (int_eq m (pos n))) [ inl t ↦ inl ((Decides-int_eq m (pos n)).0 t) | inr f ↦ inr (λ e. both_ways (int_eq m (pos n)) f ((Decides-int_eq m (pos n)).1 e)) ]

  one_length : (n : ℕ) (o : Option ℤ) (q : Part) → (NoLength q → ⊥) → IsScaled q → NumbersDecided q → ((c : Choice q) × Told (tell q c o) n) ⊎ ((c : Choice q) → Told (tell q c o) n → ⊥)
  one_length n o (part.Plain name id) h sc d = absurd (h tt)
  one_length n o (part.Fixed name id v) h sc d = absurd (h tt)
  one_length n o (part.Pad m) h sc d = absurd (h tt)
  one_length n o (part.List name id y i) h sc d = absurd (h tt)
  one_length n o (part.Length name id c0 c1) h sc d = go (told_decides c0 c1 sc.0 sc.1 (pos n))
    where
      spelt : (r : ℤ) → c0 +ℤ (c1 *ℤ r) ≡ pos n → (((b : Bits) × C id.0 (num r) b) ⊎ ((b : Bits) → C id.0 (num r) b → ⊥)) → ((c : Choice (part.Length name id c0 c1)) × Told (tell (part.Length name id c0 c1) c o) n) ⊎ ((c : Choice (part.Length name id c0 c1)) → Told (tell (part.Length name id c0 c1) c o) n → ⊥)
      spelt r e (inl s) = inl ((r, s.0, s.1), e)
      spelt r e (inr s) = inr (λ c f. s c.1 (subst (λ z. C id.0 (num z) c.1) (scaled_same c0 c1 c.0 r sc.0 sc.1 (f ∙ sym e)) c.2))

      go : (((r : ℤ) × (c0 +ℤ (c1 *ℤ r) ≡ pos n)) ⊎ ((r : ℤ) → c0 +ℤ (c1 *ℤ r) ≡ pos n → ⊥)) → ((c : Choice (part.Length name id c0 c1)) × Told (tell (part.Length name id c0 c1) c o) n) ⊎ ((c : Choice (part.Length name id c0 c1)) → Told (tell (part.Length name id c0 c1) c o) n → ⊥)
      go (inl k) = spelt k.0 k.1 (d k.0)
      go (inr k) = inr (λ c f. k c.0 f)
  one_length n o (part.Check name id k) h sc d = absurd (h tt)

  -- whether numbers for the length entries tell n in the end
  pub choices_decide : (n : ℕ) (ps : List Placed) (o : Option ℤ) → Choices ps → AllByRecursion (λ (p : Placed). IsScaled p.part) ps → IsLengthOnce ps → AllByRecursion (λ (p : Placed). NumbersDecided p.part) ps → ((c : Choices ps) × Told (tell_all ps c o) n) ⊎ ((c : Choices ps) → Told (tell_all ps c o) n → ⊥)
  choices_decide n [] o d sc once nd = elim (some_told o n) [ inl h ↦ inl (tt, h) | inr h ↦ inr (λ c f. h f) ]
  choices_decide n (p ∷ ps) o d sc once nd = go (length_or p.part) (choices_decide n ps o d.1 sc.1 once.1 nd.1)
    where
      by_one : AllByRecursion (λ (p : Placed). NoLength p.part) ps → (((c : Choice p.part) × Told (tell p.part c o) n) ⊎ ((c : Choice p.part) → Told (tell p.part c o) n → ⊥)) → ((c : Choices (p ∷ ps)) × Told (tell_all (p ∷ ps) c o) n) ⊎ ((c : Choices (p ∷ ps)) → Told (tell_all (p ∷ ps) c o) n → ⊥)
      by_one none (inl k) = inl ((k.0, d.1), subst (λ z. Told z n) (sym (told_rest ps none d.1 (tell p.part k.0 o))) k.1)
      by_one none (inr k) = inr (λ c f. k c.0 (subst (λ z. Told z n) (told_rest ps none c.1 (tell p.part c.0 o)) f))

      go : (NoLength p.part ⊎ (NoLength p.part → ⊥)) → (((c : Choices ps) × Told (tell_all ps c o) n) ⊎ ((c : Choices ps) → Told (tell_all ps c o) n → ⊥)) → ((c : Choices (p ∷ ps)) × Told (tell_all (p ∷ ps) c o) n) ⊎ ((c : Choices (p ∷ ps)) → Told (tell_all (p ∷ ps) c o) n → ⊥)
      go (inl none) (inl k) = inl ((d.0, k.0), subst (λ z. Told (tell_all ps k.0 z) n) (sym (told_none p.part none d.0 o)) k.1)
      go (inl none) (inr k) = inr (λ c f. k c.1 (subst (λ z. Told (tell_all ps c.1 z) n) (told_none p.part none c.0 o) f))
      go (inr some) r = by_one (once.0 some) (one_length n o p.part some sc.0 nd.0)

  -- ---- the numbers of a run

  part_chosen : (t : Table) (s : Progress) (p : Placed) (q : Part) (u : Progress) (b : Bits) → PartPasses canonical t C s p q u b → (c : Choice q) × (u.octets ≡ tell q c s.octets)
  part_chosen t s p (part.Plain name id) u b h = (tt, ap (λ (x : Progress). x.octets) h.2)
  part_chosen t s p (part.Fixed name id v) u b h = (tt, ap (λ (x : Progress). x.octets) h.1)
  part_chosen t s p (part.Pad m) u b h = (tt, ap (λ (x : Progress). x.octets) h.2)
  part_chosen t s p (part.List name id y i) u b h = (tt, ap (λ (x : Progress). x.octets) h.3)
  part_chosen t s p (part.Length name id c0 c1) u b h = ((h.0, b, h.1), ap (λ (x : Progress). x.octets) h.2)
  part_chosen t s p (part.Check name id k) u b h = (tt, ap (λ (x : Progress). x.octets) h.1)

  pub run_chosen : (t : Table) (ps : List Placed) (s u : Progress) (b : Bits) → PartsPass canonical t C s ps u b → (c : Choices ps) × (u.octets ≡ tell_all ps c s.octets)
  run_chosen t [] s u b h = (tt, ap (λ (x : Progress). x.octets) h.0)
  run_chosen t (p ∷ ps) s u b h =
      let one = part_chosen t s p p.part h.0 h.1 h.4 in
      let rest = run_chosen t ps h.0 u h.2 h.5 in
      ((one.0, rest.0), rest.1 ∙ ap (tell_all ps rest.0) one.1)
