-- Scalars, texts and binaries pack, or fail for one reason.
use Rattle.std.proofs.Common.{◌≡◌, ℕ, ◌*◌, ◌/◌, ◌<◌, ◌≤◌, ℤ, Bool, true, false, List, [], length, take, Option, Some, None, refl, sym, ap, subst, ◌∙◌, arith, ◌⊎◌, inl, inr}
use Rattle.std.specs.Prelude.{◌&&◌, ◌==◌}
use Rattle.std.proofs.lemmas.Bool.{and_parts, and_from, cases_Bool, cases_lt, cases_eq, both_ways, eqb-true, eq-eqb}
use Rattle.eds_base.specs.declared.spans.Span.{Span}
use Rattle.eds_base.specs.Spans.{IsWithin}
use Rattle.eds_base.specs.Reading.{same as same_text}
use Rattle.eds_bits.specs.declared.forms.IntForm.{IntForm}
use Rattle.eds_bits.specs.declared.forms.BoolForm.{BoolForm}
use Rattle.eds_bits.specs.declared.forms.TextForm.{TextForm}
use Rattle.eds_bits.proofs.FormLaws.{has_canonical}
use Rattle.eds_bits.specs.Bits.{Bits, bits_of, octets_of}
use Rattle.eds_bits.specs.Lists.{Has}
use Rattle.eds_bits.specs.Scalars.{IsText, IsCoded}
use Rattle.eds_bits.specs.Style.{canonical}
use Rattle.eds_types.specs.declared.reason.PackReason.TheVariants as reason
use Rattle.eds_types.specs.declared.row.Kind.{Kind}
use Rattle.eds_types.specs.declared.row.Kind.TheVariants as kind
use Rattle.eds_types.specs.Fields.{listed}
use Rattle.eds_types.specs.Packing.{PackFault, pack_fault_here, TextFits, IsFilled, IsOfKind, OfKindFails, KindPackFails}
use Rattle.eds_types.specs.Plain.{Plain, num, label, truth, text, bits, items, fields}
use Rattle.eds_types.specs.Reading.{is_within, is_coded}
use Rattle.eds_types.specs.Rows.{Table}
use Rattle.eds_types.specs.Rules.{KindKeeps}
use Rattle.eds_types.specs.Spelling.{BinHas, KindSpells}
use Rattle.eds_types.proofs.CanonicalPatterns.{bits_back, bool_exists, text_exists, text_fits}
use Rattle.eds_types.proofs.CanonicalSpelling.{listed_number}
use Rattle.eds_types.proofs.DecidedPacking.{Decided, spelled, refused, of_kind, of_other_kind}
use Rattle.eds_types.proofs.SameValues.{same_text-is, text_same}
use Rattle.eds_types.proofs.ScalarReading.{size_of, coded_from, coded_in}
use Rattle.eds_types.proofs.SpellingSizes.{text_any}
use Rattle.eds_types.proofs.ReadingTests.{within_from, within_in, cases_has}

-- ---- texts and binaries are judged

coded_decides : (ascii : Bool) (s : List ℕ) → IsCoded ascii s ⊎ (IsCoded ascii s → ⊥)
coded_decides ascii s = elim (cases_Bool (is_coded ascii s)) [ inl t ↦ inl (coded_from ascii s t) | inr f ↦ inr (λ h. both_ways (is_coded ascii s) f (coded_in ascii s h)) ]

fits_decides : (form : TextForm) (s : List ℕ) → TextFits form s ⊎ (TextFits form s → ⊥)
fits_decides form s = go (coded_decides form.ascii s) (cases_has s form.stop)
  where
    go : (IsCoded form.ascii s ⊎ (IsCoded form.ascii s → ⊥)) → (Has s form.stop ⊎ (Has s form.stop → ⊥)) → TextFits form s ⊎ (TextFits form s → ⊥)
    go (inr n) h = inr (λ f. n f.0)
    go (inl c) (inl h) = inr (λ f. f.1 h)
    go (inl c) (inr n) = inl (c, n)

-- ---- binaries

filled_decides : (n : ℕ) (o : List ℕ) → IsFilled n o ⊎ (IsFilled n o → ⊥)
filled_decides n o = go (cases_Bool (length c == n && same_text (octets_of c) o))
  where
    c : Bits
    c = take n (bits_of o)

    again : IsFilled n o → c ≡ take n (bits_of o) → (length c == n && same_text (octets_of c) o) ≡ true
    again h e =
        let same : c ≡ h.0 = e ∙ ap (λ x. take n (bits_of x)) (sym h.2) ∙ bits_back n h.0 h.1 in
        and_from (length c == n) (same_text (octets_of c) o) (eq-eqb (length c) n (ap length same ∙ h.1)) (subst (λ x. same_text x o ≡ true) (sym (ap octets_of same ∙ h.2)) (text_same o))

    go : ((length c == n && same_text (octets_of c) o) ≡ true) ⊎ ((length c == n && same_text (octets_of c) o) ≡ false) → IsFilled n o ⊎ (IsFilled n o → ⊥)
    go (inl t) = let p = and_parts (length c == n) (same_text (octets_of c) o) t in inl (c, eqb-true (length c) n p.0, same_text-is (octets_of c) o p.1)
    go (inr f) = inr (λ h. both_ways (length c == n && same_text (octets_of c) o) f (again h refl))

-- ---- the scalar kinds

some_none : (n : ℤ) (o : Option ℤ) → o ≡ Some n → o ≡ None → ⊥
some_none n o e f = let q : ◌≡◌ {A = Option ℤ} (Some n) None = sym e ∙ f in cc

num_is : (n m : ℤ) → num n ≡ num m → n ≡ m
num_is n m e = cc

label_is : (l m : List ℕ) → label l ≡ label m → l ≡ m
label_is l m e = cc

text_is : (s r : List ℕ) → text s ≡ text r → s ≡ r
text_is s r e = cc

abbrev size_in : Plain → ℕ
size_in (num x) = 0
size_in (label x) = 0
size_in (truth x) = 0
size_in (text x) = 0
size_in (bits m o) = m
size_in (items x) = 0
size_in (fields k x) = 0

abbrev octets_in : Plain → List ℕ
octets_in (num x) = []
octets_in (label x) = []
octets_in (truth x) = []
octets_in (text x) = []
octets_in (bits m o) = o
octets_in (items x) = []
octets_in (fields k x) = []

module _ (t : Table) (SpellsInner : ℕ → Plain → Bits → Type 0) (FailsInner : ℕ → Plain → PackFault → Type 0) (id : ℕ) where
  abbrev Packs : Kind → Plain → Type 0
  Packs k v = Decided (KindSpells canonical t SpellsInner id k v) (KindPackFails t SpellsInner FailsInner id k v)

  abbrev Spelt : Kind → Plain → Bits → Type 0
  Spelt k v b = KindSpells canonical t SpellsInner id k v b

  abbrev Faults : Kind → Plain → PackFault → Type 0
  Faults k v g = OfKindFails t SpellsInner FailsInner id k v g

  pub int_decided : (form : IntForm) (spans : List Span) → KindKeeps (kind.Int form spans) → (v : Plain) → Packs (kind.Int form spans) v
  int_decided form spans h (num n) = of_kind t SpellsInner FailsInner id (kind.Int form spans) (num n) (Spelt (kind.Int form spans) (num n)) (λ b p. subst (IsOfKind (kind.Int form spans)) (sym p.1) tt) (λ g f. subst (IsOfKind (kind.Int form spans)) (sym f.1) tt) (go (cases_Bool (is_within spans n)))
    where
      go : ((is_within spans n ≡ true) ⊎ (is_within spans n ≡ false)) → Decided (Spelt (kind.Int form spans) (num n)) (Faults (kind.Int form spans) (num n))
      go (inl e) =
          let w = within_from spans n e in
          let c = has_canonical form n (h.of_form n w) in
          spelled (Spelt (kind.Int form spans) (num n)) (Faults (kind.Int form spans) (num n)) c.0 (n, refl, w, c.1) (λ g f. f.2 (subst (IsWithin spans) (num_is n f.0 f.1) w))
      go (inr e) = refused (Spelt (kind.Int form spans) (num n)) (Faults (kind.Int form spans) (num n)) (pack_fault_here reason.OutOfRange) (n, refl, (λ w. both_ways (is_within spans n) e (within_in spans n w)), refl)
          (λ b p. both_ways (is_within spans n) e (within_in spans n (subst (IsWithin spans) (sym (num_is n p.0 p.1)) p.2))) (λ g f. f.3)
  int_decided form spans h v = of_other_kind t SpellsInner FailsInner id (kind.Int form spans) v (Spelt (kind.Int form spans) v) (λ b p. subst (IsOfKind (kind.Int form spans)) (sym p.1) tt) (λ g f. subst (IsOfKind (kind.Int form spans)) (sym f.1) tt) (λ e. e)

  pub enum_decided : (form : IntForm) (listing : List (List ℕ × ℤ)) → KindKeeps (kind.Enum form listing) → (v : Plain) → Packs (kind.Enum form listing) v
  enum_decided form listing h (label l) = of_kind t SpellsInner FailsInner id (kind.Enum form listing) (label l) (Spelt (kind.Enum form listing) (label l)) (λ b p. subst (IsOfKind (kind.Enum form listing)) (sym p.2) tt) (λ g f. subst (IsOfKind (kind.Enum form listing)) (sym f.1) tt) (go (listed listing l) refl)
    where
      go : (o : Option ℤ) → listed listing l ≡ o → Decided (Spelt (kind.Enum form listing) (label l)) (Faults (kind.Enum form listing) (label l))
      go (Some n) e =
          let c = has_canonical form n (listed_number form listing l n h.of_form e) in
          spelled (Spelt (kind.Enum form listing) (label l)) (Faults (kind.Enum form listing) (label l)) c.0 (l, n, refl, e, c.1) (λ g f. some_none n (listed listing l) e (ap (listed listing) (label_is l f.0 f.1) ∙ f.2))
      go None e = refused (Spelt (kind.Enum form listing) (label l)) (Faults (kind.Enum form listing) (label l)) (pack_fault_here reason.NoLabel) (l, refl, e, refl)
          (λ b p. some_none p.1 (listed listing l) (ap (listed listing) (label_is l p.0 p.2) ∙ p.3) e) (λ g f. f.3)
  enum_decided form listing h v = of_other_kind t SpellsInner FailsInner id (kind.Enum form listing) v (Spelt (kind.Enum form listing) v) (λ b p. subst (IsOfKind (kind.Enum form listing)) (sym p.2) tt) (λ g f. subst (IsOfKind (kind.Enum form listing)) (sym f.1) tt) (λ e. e)

  pub bool_decided : (form : BoolForm) (v : Plain) → Packs (kind.Bool form) v
  bool_decided form (truth x) = of_kind t SpellsInner FailsInner id (kind.Bool form) (truth x) (Spelt (kind.Bool form) (truth x)) (λ b p. subst (IsOfKind (kind.Bool form)) (sym p.1) tt) (λ g f. absurd f)
      (let c = bool_exists form x in spelled (Spelt (kind.Bool form) (truth x)) (Faults (kind.Bool form) (truth x)) c.0 (x, refl, c.1) (λ g f. f))
  bool_decided form v = of_other_kind t SpellsInner FailsInner id (kind.Bool form) v (Spelt (kind.Bool form) v) (λ b p. subst (IsOfKind (kind.Bool form)) (sym p.1) tt) (λ g f. absurd f) (λ e. e)

  pub text_decided : (form : TextForm) (v : Plain) → Packs (kind.Str form) v
  text_decided form (text s) = of_kind t SpellsInner FailsInner id (kind.Str form) (text s) (Spelt (kind.Str form) (text s)) (λ b p. subst (IsOfKind (kind.Str form)) (sym p.1) tt) (λ g f. subst (IsOfKind (kind.Str form)) (sym f.1) tt) (go (fits_decides form s) (cases_lt form.length (length s)))
    where
      said : (b : Bits) → Spelt (kind.Str form) (text s) b → TextFits form s × (length s ≤ form.length)
      said b p = text_fits form.length form.fixed form.ascii form.stop (size_of form) s b (text_any t SpellsInner SpellsInner (λ x v c q. q) form.length form.fixed form.ascii form.stop (size_of form) s b (subst (λ r. IsText canonical form r b) (sym (text_is s p.0 p.1)) p.2))

      go : (TextFits form s ⊎ (TextFits form s → ⊥)) → ((form.length < length s) ⊎ (length s ≤ form.length)) → Decided (Spelt (kind.Str form) (text s)) (Faults (kind.Str form) (text s))
      go (inr n) l = refused (Spelt (kind.Str form) (text s)) (Faults (kind.Str form) (text s)) (pack_fault_here reason.BadText) (s, refl, inl (n, refl)) (λ b p. n (said b p).0) is
        where
          is : (g : PackFault) → Faults (kind.Str form) (text s) g → g ≡ pack_fault_here reason.BadText
          is g f = elim (f.2) [ inl k ↦ k.1 | inr k ↦ absurd (n (subst (TextFits form) (sym (text_is s f.0 f.1)) k.0)) ]
      go (inl y) (inl l) = refused (Spelt (kind.Str form) (text s)) (Faults (kind.Str form) (text s)) (pack_fault_here reason.WrongSize) (s, refl, inr (y, l, refl)) (λ b p. let k = (said b p).1 in omega arith) is
        where
          is : (g : PackFault) → Faults (kind.Str form) (text s) g → g ≡ pack_fault_here reason.WrongSize
          is g f = elim (f.2) [ inl k ↦ absurd (k.0 (subst (TextFits form) (text_is s f.0 f.1) y)) | inr k ↦ k.2 ]
      go (inl y) (inr l) =
          let c = text_exists form.length form.fixed form.ascii form.stop (size_of form) s y l in
          spelled (Spelt (kind.Str form) (text s)) (Faults (kind.Str form) (text s)) c.0 (s, refl, c.1) none
        where
          none : (g : PackFault) → Faults (kind.Str form) (text s) g → ⊥
          none g f = let e = text_is s f.0 f.1 in elim (f.2) [ inl k ↦ k.0 (subst (TextFits form) e y) | inr k ↦ (let m = k.1 in let q = ap length e in omega arith) ]
  text_decided form v = of_other_kind t SpellsInner FailsInner id (kind.Str form) v (Spelt (kind.Str form) v) (λ b p. subst (IsOfKind (kind.Str form)) (sym p.1) tt) (λ g f. subst (IsOfKind (kind.Str form)) (sym f.1) tt) (λ e. e)

  bin_has : (n : ℕ) (free : Bool) (m : ℕ) → BinHas n free m ⊎ (BinHas n free m → ⊥)
  bin_has n false m = cases_eq m n
  bin_has n true m = go (cases_lt n m) (cases_eq m (8 * (m / 8)))
    where
      go : ((n < m) ⊎ (m ≤ n)) → ((m ≡ 8 * (m / 8)) ⊎ (m ≡ 8 * (m / 8) → ⊥)) → BinHas n true m ⊎ (BinHas n true m → ⊥)
      go (inl l) e = inr (λ h. let k = h.0 in omega arith)
      go (inr l) (inl e) = inl (l, (m / 8, e))
      go (inr l) (inr ne) = inr (λ h. let e = (h.1).1 in ne (omega arith))

  pub bin_decided : (n : ℕ) (free : Bool) (v : Plain) → Packs (kind.Bin n free) v
  bin_decided n free (bits m o) = of_kind t SpellsInner FailsInner id (kind.Bin n free) (bits m o) (Spelt (kind.Bin n free) (bits m o)) (λ b p. subst (IsOfKind (kind.Bin n free)) (sym p.1) tt) (λ g f. subst (IsOfKind (kind.Bin n free)) (sym f.2) tt) (go (bin_has n free m) (filled_decides m o))
    where
      Fits : ℕ → List ℕ → Type 0
      Fits m o = BinHas n free m × IsFilled m o

      said : (b : Bits) → Spelt (kind.Bin n free) (bits m o) b → Fits m o
      said b p = (subst (BinHas n free) (sym (ap size_in p.1)) p.0, (b, sym (ap size_in p.1), sym (ap octets_in p.1)))

      again : (g : PackFault) → (f : Faults (kind.Bin n free) (bits m o) g) → Fits m o → Fits f.0 f.1
      again g f h = (subst (BinHas n free) (ap size_in f.2) h.0, subst (λ z. IsFilled z f.1) (ap size_in f.2) (subst (IsFilled m) (ap octets_in f.2) h.1))

      wrong : (Fits m o → ⊥) → Decided (Spelt (kind.Bin n free) (bits m o)) (Faults (kind.Bin n free) (bits m o))
      wrong ne = refused (Spelt (kind.Bin n free) (bits m o)) (Faults (kind.Bin n free) (bits m o)) (pack_fault_here reason.WrongSize) (m, o, refl, ne, refl) (λ b p. ne (said b p)) (λ g f. f.4)

      go : (BinHas n free m ⊎ (BinHas n free m → ⊥)) → (IsFilled m o ⊎ (IsFilled m o → ⊥)) → Decided (Spelt (kind.Bin n free) (bits m o)) (Faults (kind.Bin n free) (bits m o))
      go (inr ne) h = wrong (λ x. ne x.0)
      go (inl e) (inr ne) = wrong (λ x. ne x.1)
      go (inl e) (inl h) = spelled (Spelt (kind.Bin n free) (bits m o)) (Faults (kind.Bin n free) (bits m o)) h.0 (subst (BinHas n free) (sym h.1) e, ap (λ k. bits k o) (sym h.1) ∙ ap (bits (length h.0)) (sym h.2)) (λ g f. f.3 (again g f (e, h)))
  bin_decided n free v = of_other_kind t SpellsInner FailsInner id (kind.Bin n free) v (Spelt (kind.Bin n free) v) (λ b p. subst (IsOfKind (kind.Bin n free)) (sym p.1) tt) (λ g f. subst (IsOfKind (kind.Bin n free)) (sym f.2) tt) (λ e. e)
