-- The size that one pass over a value finds is that of its canonical spelling, and the fault is the one that is there.
use Rattle.std.proofs.Common.{◌≡◌, ℕ, ◌+◌, ◌/◌, ◌%◌, ◌<◌, ℤ, Bool, true, false, cond, List, [], ◌∷◌, length, take, Ok, Err, refl, sym, ap, subst, ◌∙◌, arith, ◌⊎◌, inl, inr}
use Rattle.std.specs.Prelude.{not, nat_lt, nat_le, ◌&&◌, ◌==◌}
use Rattle.std.proofs.lemmas.Bool.{and_parts, and_from, eqb-true, eq-eqb, false_from_ne_true, ltb-true, leb-true, le-leb, lt-ltb}
use Rattle.std.proofs.lemmas.List.{length-append}
use Rattle.eds_base.specs.Reading.{same as same_text}
use Rattle.eds_base.specs.declared.ids.TypeId.{TypeId}
use Rattle.eds_base.specs.declared.spans.Span.{Span}
use Rattle.eds_bits.specs.declared.forms.IntForm.{IntForm}
use Rattle.eds_bits.specs.declared.forms.BoolForm.{BoolForm}
use Rattle.eds_bits.specs.declared.forms.TextForm.{TextForm}
use Rattle.eds_bits.specs.Bits.{Bits, bits_of, octets_of}
use Rattle.eds_bits.specs.Scalars.{IsText}
use Rattle.eds_bits.specs.Style.{canonical}
use Rattle.eds_types.specs.declared.reason.PackReason.TheVariants as reason
use Rattle.eds_types.specs.declared.row.Kind.{Kind}
use Rattle.eds_types.specs.declared.row.Kind.TheVariants as kind
use Rattle.eds_types.specs.Packing.{PackFault, pack_fault_here, item_step, ItemPackFails, TextFits, IsFilled, IsOfKind, KindPackFails}
use Rattle.eds_types.specs.PackedSizes.{Size, size_inside, after, number_size, label_size, listed_size, truth_size, text_fits, text_bits, text_size, has_bits, is_filled, binary_size, items_size, array_size}
use Rattle.eds_types.specs.Plain.{Plain, num, label, truth, text, bits, items, list_of}
use Rattle.eds_types.specs.Reading.{is_coded, is_within}
use Rattle.eds_types.specs.Rows.{Table, list_has}
use Rattle.eds_types.specs.Spelling.{BinHas, ItemsSpell, KindSpells}
use Rattle.eds_types.proofs.CanonicalPatterns.{bits_back, text_fits as fits_of_text}
use Rattle.eds_types.proofs.DecidedPacking.{Decided}
use Rattle.eds_types.proofs.ReadingTests.{within_from, within_in, has_from, has_in}
use Rattle.eds_types.proofs.SameValues.{same_text-is, text_same}
use Rattle.eds_types.proofs.ScalarReading.{IsTextSize, size_of, text_form, coded_from, coded_in}
use Rattle.eds_types.proofs.SpellingSizes.{text_any}

-- what the pass gives is the size of what is spelled, and the fault that is there
pub record Ties (r : Size) (P : Bits → Type 0) (F : PackFault → Type 0) : Type 0 where
  pub spelled : (b : Bits) → P b → r ≡ Ok (length b)
  pub fails : (g : PackFault) → F g → r ≡ Err g

-- where one of both is, and the pass gives a size, something is spelled
pub spelled_by : (r : Size) (P : Bits → Type 0) (F : PackFault → Type 0) → Ties r P F → Decided P F → ((n : ℕ) × (b : Bits) × P b × (r ≡ Ok n) × (length b ≡ n)) ⊎ ((g : PackFault) × F g × (r ≡ Err g))
spelled_by r P F t d = go d.either
  where
    go : (((b : Bits) × P b) ⊎ ((g : PackFault) × F g)) → ((n : ℕ) × (b : Bits) × P b × (r ≡ Ok n) × (length b ≡ n)) ⊎ ((g : PackFault) × F g × (r ≡ Err g))
    go (inl h) = inl (length h.0, h.0, h.1, t.spelled h.0 h.1, refl)
    go (inr h) = inr (h.0, h.1, t.fails h.0 h.1)

-- ---- scalars, texts and binaries

pub fits_true : (form : TextForm) (s : List ℕ) → TextFits form s → text_fits form s ≡ true
fits_true form s h = and_from (is_coded form.ascii s) (not (list_has s form.stop)) (coded_in form.ascii s h.0) (ap not (false_from_ne_true (list_has s form.stop) (λ e. h.1 (has_from s form.stop e))))

pub fits_from : (form : TextForm) (s : List ℕ) → text_fits form s ≡ true → TextFits form s
fits_from form s e = let p = and_parts (is_coded form.ascii s) (not (list_has s form.stop)) e in (coded_from form.ascii s p.0, λ x. none (list_has s form.stop) p.1 (has_in s form.stop x.before x.after x.is))
  where
    none : (b : Bool) → not b ≡ true → b ≡ true → ⊥
    none true e h = cc
    none false e h = cc

pub fits_false : (form : TextForm) (s : List ℕ) → (TextFits form s → ⊥) → text_fits form s ≡ false
fits_false form s h = false_from_ne_true (text_fits form s) (λ e. h (fits_from form s e))

pub filled_true : (m : ℕ) (o : List ℕ) → IsFilled m o → is_filled m o ≡ true
filled_true m o h = and_from (length c == m) (same_text (octets_of c) o) (eq-eqb (length c) m (ap length same ∙ h.1)) (subst (λ x. same_text x o ≡ true) (sym (ap octets_of same ∙ h.2)) (text_same o))
  where
    c : Bits
    c = take m (bits_of o)

    same : c ≡ h.0
    same = ap (λ x. take m (bits_of x)) (sym h.2) ∙ bits_back m h.0 h.1

pub filled_from : (m : ℕ) (o : List ℕ) → is_filled m o ≡ true → IsFilled m o
filled_from m o e = let p = and_parts (length (take m (bits_of o)) == m) (same_text (octets_of (take m (bits_of o))) o) e in (take m (bits_of o), eqb-true (length (take m (bits_of o))) m p.0, same_text-is (octets_of (take m (bits_of o))) o p.1)

pub has_true : (n : ℕ) (free : Bool) (m : ℕ) → BinHas n free m → has_bits n free m ≡ true
has_true n false m h = eq-eqb m n h
has_true n true m h = and_from (nat_le m n) (m % 8 == 0) (le-leb m n h.0) (eq-eqb (m % 8) 0 (let e = (h.1).1 in omega arith))

pub has_is : (n : ℕ) (free : Bool) (m : ℕ) → has_bits n free m ≡ true → BinHas n free m
has_is n false m e = eqb-true m n e
has_is n true m e = let p = and_parts (nat_le m n) (m % 8 == 0) e in (leb-true m n p.0, (m / 8, let z = eqb-true (m % 8) 0 p.1 in omega arith))

-- a text that is spelled, and its size
text_spelled : (form : TextForm) (s : List ℕ) (b : Bits) → IsText canonical form s b → (text_fits form s ≡ true) × (nat_lt form.length (length s) ≡ false) × (length b ≡ text_bits form.fixed form.length (length s))
text_spelled form s b h = parts form.length form.fixed form.ascii form.stop (size_of form) h
  where
    parts : (n : ℕ) (fixed ascii : Bool) (stop : ℕ) (size : IsTextSize n stop) → IsText canonical (text_form n fixed ascii stop size) s b → (text_fits (text_form n fixed ascii stop size) s ≡ true) × (nat_lt n (length s) ≡ false) × (length b ≡ text_bits fixed n (length s))
    parts n fixed ascii stop size h =
        let f = fits_of_text n fixed ascii stop size s b (text_any [] (λ x v c. ⊥) (λ x v c. ⊥) (λ x v c q. q) n fixed ascii stop size s b h) in
        (fits_true (text_form n fixed ascii stop size) s f.0, false_from_ne_true (nat_lt n (length s)) (λ e. let l = ltb-true n (length s) e in let k = f.1 in omega arith), long fixed h)
      where
        long : (fixed : Bool) → IsText canonical (text_form n fixed ascii stop size) s b → length b ≡ text_bits fixed n (length s)
        long true h = h.size
        long false h = h.size

module _ (t : Table) (E : ℕ → Plain → Bits → Type 0) (F : ℕ → Plain → PackFault → Type 0) (id : ℕ) where
  abbrev KindTies : Size → Kind → Plain → Type 0
  KindTies r k v = Ties r (KindSpells canonical t E id k v) (KindPackFails t E F id k v)

  pub int_ties : (form : IntForm) (spans : List Span) (v : Plain) → KindTies (number_size form spans v) (kind.Int form spans) v
  int_ties form spans v = record {
    spelled = λ b p. ap (number_size form spans) p.1 ∙ ap (λ w. cond w (Ok form.bits) (Err (pack_fault_here reason.OutOfRange))) (within_in spans p.0 p.2) ∙ ap (λ n. Ok n) (sym (p.3).is.size);
    fails = λ g f. elim f [
      | inl h ↦ other v h.0 ∙ ap (λ w. Err w) (sym h.1)
      | inr h ↦ ap (number_size form spans) h.1 ∙ ap (λ w. cond w (Ok form.bits) (Err (pack_fault_here reason.OutOfRange))) (false_from_ne_true (is_within spans h.0) (λ e. h.2 (within_from spans h.0 e))) ∙ ap (λ w. Err w) (sym h.3)
    ];
  }
    where
      other : (v : Plain) → (IsOfKind (kind.Int form spans) v → ⊥) → number_size form spans v ≡ Err (pack_fault_here reason.WrongKind)
      other (num n) h = absurd (h tt)
      other v h = refl

  pub enum_ties : (form : IntForm) (listing : List (List ℕ × ℤ)) (v : Plain) → KindTies (label_size form listing v) (kind.Enum form listing) v
  enum_ties form listing v = record {
    spelled = λ b p. ap (label_size form listing) p.2 ∙ ap (listed_size form) p.3 ∙ ap (λ n. Ok n) (sym (p.4).is.size);
    fails = λ g f. elim f [
      | inl h ↦ other v h.0 ∙ ap (λ w. Err w) (sym h.1)
      | inr h ↦ ap (label_size form listing) h.1 ∙ ap (listed_size form) h.2 ∙ ap (λ w. Err w) (sym h.3)
    ];
  }
    where
      other : (v : Plain) → (IsOfKind (kind.Enum form listing) v → ⊥) → label_size form listing v ≡ Err (pack_fault_here reason.WrongKind)
      other (label l) h = absurd (h tt)
      other v h = refl

  pub bool_ties : (form : BoolForm) (v : Plain) → KindTies (truth_size form.bits v) (kind.Bool form) v
  bool_ties form v = record {
    spelled = λ b p. ap (truth_size form.bits) p.1 ∙ ap (λ n. Ok n) (sym (p.2).size);
    fails = λ g f. elim f [ inl h ↦ other v h.0 ∙ ap (λ w. Err w) (sym h.1) | inr h ↦ absurd h ];
  }
    where
      other : (v : Plain) → (IsOfKind (kind.Bool form) v → ⊥) → truth_size form.bits v ≡ Err (pack_fault_here reason.WrongKind)
      other (truth b) h = absurd (h tt)
      other v h = refl

  pub text_ties : (form : TextForm) (v : Plain) → KindTies (text_size form v) (kind.Str form) v
  text_ties form v = record {
    spelled = λ b p. (let q = text_spelled form p.0 b p.2 in ap (text_size form) p.1 ∙ ap (λ w. judged p.0 w (nat_lt form.length (length p.0))) q.0 ∙ ap (judged p.0 true) q.1 ∙ ap (λ n. Ok n) (sym q.2));
    fails = λ g f. elim f [ inl h ↦ other v h.0 ∙ ap (λ w. Err w) (sym h.1) | inr h ↦ ap (text_size form) h.1 ∙ bad h.0 g h.2 ];
  }
    where
      judged : List ℕ → Bool → Bool → Size
      judged s fits long = cond fits (cond long (Err (pack_fault_here reason.WrongSize)) (Ok (text_bits form.fixed form.length (length s)))) (Err (pack_fault_here reason.BadText))

      other : (v : Plain) → (IsOfKind (kind.Str form) v → ⊥) → text_size form v ≡ Err (pack_fault_here reason.WrongKind)
      other (text s) h = absurd (h tt)
      other v h = refl

      bad : (s : List ℕ) (g : PackFault) → ((TextFits form s → ⊥) × (g ≡ pack_fault_here reason.BadText)) ⊎ (TextFits form s × (form.length < length s) × (g ≡ pack_fault_here reason.WrongSize)) → text_size form (text s) ≡ Err g
      bad s g (inl h) = ap (λ w. judged s w (nat_lt form.length (length s))) (fits_false form s h.0) ∙ ap (λ w. Err w) (sym h.1)
      bad s g (inr h) = ap (λ w. judged s w (nat_lt form.length (length s))) (fits_true form s h.0) ∙ ap (judged s true) (lt-ltb form.length (length s) h.1) ∙ ap (λ w. Err w) (sym h.2)

  pub bin_ties : (n : ℕ) (free : Bool) (v : Plain) → KindTies (binary_size n free v) (kind.Bin n free) v
  bin_ties n free v = record {
    spelled = λ b p. ap (binary_size n free) p.1 ∙ ap (judged (length b)) (and_from (has_bits n free (length b)) (is_filled (length b) (octets_of b)) (has_true n free (length b) p.0) (filled_true (length b) (octets_of b) (b, refl, refl)));
    fails = λ g f. elim f [ inl h ↦ other v h.0 ∙ ap (λ w. Err w) (sym h.1) | inr h ↦ ap (binary_size n free) h.2 ∙ ap (judged h.0) (wrong h.0 h.1 h.3) ∙ ap (λ w. Err w) (sym h.4) ];
  }
    where
      judged : ℕ → Bool → Size
      judged m b = cond b (Ok m) (Err (pack_fault_here reason.WrongSize))

      other : (v : Plain) → (IsOfKind (kind.Bin n free) v → ⊥) → binary_size n free v ≡ Err (pack_fault_here reason.WrongKind)
      other (bits m o) h = absurd (h tt)
      other v h = refl

      wrong : (m : ℕ) (o : List ℕ) → ((BinHas n free m × IsFilled m o) → ⊥) → (has_bits n free m && is_filled m o) ≡ false
      wrong m o h = false_from_ne_true (has_bits n free m && is_filled m o) (λ e. let p = and_parts (has_bits n free m) (is_filled m o) e in h (has_is n free m p.0, filled_from m o p.1))

-- ---- items

module _ (size : Plain → Size) (E : Plain → Bits → Type 0) (F : Plain → PackFault → Type 0) (ties : (v : Plain) → Ties (size v) (E v) (F v)) (d : (v : Plain) → Decided (E v) (F v)) where
  pub items_spelled : (vs : List Plain) (j before : ℕ) (b : Bits) → ItemsSpell E vs b → items_size size j before vs ≡ Ok (before + length b)
  items_spelled [] j before b h = ap (λ n. Ok n) (let z = ap length h in omega arith)
  items_spelled (v ∷ vs) j before b h =
      ap (λ r. after (size_inside (item_step j) r) (λ n. items_size size (j + 1) (before + n) vs)) ((ties v).spelled h.0 h.3)
      ∙ items_spelled vs (j + 1) (before + length h.0) h.1 h.4
      ∙ ap (λ n. Ok n) (omega (arith, ap length h.2, length-append h.0 h.1))

  pub items_fail : (vs : List Plain) (j before : ℕ) (g : PackFault) → ItemPackFails F j vs g → items_size size j before vs ≡ Err g
  items_fail [] j before g h = absurd h
  items_fail (v ∷ vs) j before g (inl h) = ap (λ r. after (size_inside (item_step j) r) (λ n. items_size size (j + 1) (before + n) vs)) ((ties v).fails h.0 h.1) ∙ ap (λ w. Err w) (sym h.2)
  items_fail (v ∷ vs) j before g (inr h) = elim (spelled_by (size v) (E v) (F v) (ties v) (d v)) [
    | inl s ↦ ap (λ r. after (size_inside (item_step j) r) (λ n. items_size size (j + 1) (before + n) vs)) s.3 ∙ items_fail vs (j + 1) (before + s.0) g h.1
    | inr f ↦ absurd (h.0 f.0 f.1)
  ]

-- all items
pub items_whole : (size : Plain → Size) (E : Plain → Bits → Type 0) (F : Plain → PackFault → Type 0) → ((v : Plain) → Ties (size v) (E v) (F v)) → ((v : Plain) → Decided (E v) (F v)) → (vs : List Plain) (b : Bits) → ItemsSpell E vs b → items_size size 0 0 vs ≡ Ok (length b)
items_whole size E F ties d vs b h = items_spelled size E F ties d vs 0 0 b h ∙ ap (λ n. Ok n) (omega arith)

pub array_ties : (t : Table) (E : ℕ → Plain → Bits → Type 0) (F : ℕ → Plain → PackFault → Type 0) (size : ℕ → Plain → Size) (id : ℕ) (item : TypeId) (n : ℕ) → ((v : Plain) → Ties (size item.0 v) (E item.0 v) (F item.0 v)) → ((v : Plain) → Decided (E item.0 v) (F item.0 v)) → (v : Plain) → KindTies t E F id (array_size (size item.0) n v) (kind.Arr item n) v
array_ties t E F size id item n ties d v = record {
  spelled = λ b p. ap (array_size (size item.0) n) p.1 ∙ ap (judged (list_of p.0)) (eq-eqb (length (list_of p.0)) n p.2) ∙ items_whole (size item.0) (E item.0) (F item.0) ties d (list_of p.0) b p.3;
  fails = λ g f. elim f [ inl h ↦ other v h.0 ∙ ap (λ w. Err w) (sym h.1) | inr h ↦ ap (array_size (size item.0) n) h.1 ∙ bad (list_of h.0) g h.2 ];
}
  where
    judged : List Plain → Bool → Size
    judged vs b = cond b (items_size (size item.0) 0 0 vs) (Err (pack_fault_here reason.WrongSize))

    other : (v : Plain) → (IsOfKind (kind.Arr item n) v → ⊥) → array_size (size item.0) n v ≡ Err (pack_fault_here reason.WrongKind)
    other (items vs) h = absurd (h tt)
    other v h = refl

    bad : (vs : List Plain) (g : PackFault) → ((length vs ≡ n → ⊥) × (g ≡ pack_fault_here reason.WrongSize)) ⊎ ((length vs ≡ n) × ItemPackFails (F item.0) 0 vs g) → judged vs (length vs == n) ≡ Err g
    bad vs g (inl h) = ap (judged vs) (false_from_ne_true (length vs == n) (λ e. h.0 (eqb-true (length vs) n e))) ∙ ap (λ w. Err w) (sym h.1)
    bad vs g (inr h) = ap (judged vs) (eq-eqb (length vs) n h.0) ∙ items_fail (size item.0) (E item.0) (F item.0) ties d vs 0 0 g h.1
