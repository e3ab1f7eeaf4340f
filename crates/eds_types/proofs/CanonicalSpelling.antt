-- What is spelled has a canonical spelling.
use Rattle.std.proofs.Common.{◌≡◌, ℕ, zero, suc, ◌<◌, ℤ, pos, ◌+ℤ◌, ◌*ℤ◌, Bool, true, false, cond, List, [], ◌∷◌, ◌++◌, length, replicate, Option, Some, refl, sym, ap, subst, ◌∙◌, append_assoc, append-nil, arith}
use Rattle.std.specs.Prelude.{IfSome}
use Rattle.std.specs.List.{AllByRecursion}
use Rattle.eds_base.specs.Reading.{same as same_text}
use Rattle.eds_bits.specs.declared.forms.IntForm.{IntForm}
use Rattle.eds_bits.specs.declared.forms.CheckKind.{CheckKind}
use Rattle.eds_bits.proofs.FormLaws.{has_canonical}
use Rattle.eds_bits.specs.Bits.{Bits, octets_for}
use Rattle.eds_bits.specs.IntForms.{HasNumber}
use Rattle.eds_bits.specs.Scalars.{check_of}
use Rattle.eds_bits.specs.Style.{Style, any, canonical}
use Rattle.eds_types.specs.declared.row.Kind.{Kind}
use Rattle.eds_types.specs.declared.row.Kind.TheVariants as kind
use Rattle.eds_types.specs.declared.row.Part.{Part}
use Rattle.eds_types.specs.declared.row.Part.TheVariants as part
use Rattle.eds_types.specs.Fields.{value_at, values_of, listed, Holds, IsCandidate, constraints_along, field_of}
use Rattle.eds_types.specs.Plain.{Plain, num, items, list_of}
use Rattle.eds_types.specs.Rows.{Table, Placed, sequence}
use Rattle.eds_types.specs.Rules.{IsInt, IsIntBy, HoldsCheck, KindKeeps}
use Rattle.eds_types.specs.Spelling.{Progress, started, with_bits, with_value, with_octets, count_in, ItemsSpell, PartPasses, PartsPass, KindSpells, SpellsWithin}
use Rattle.eds_types.proofs.CanonicalPatterns.{zeros_false, length-zeros, zeros_zero, bool_exists, text_exists, text_fits}
use Rattle.eds_types.proofs.CheckBounds.{check_number}
use Rattle.eds_types.proofs.ScalarReading.{size_of}
use Rattle.eds_types.proofs.SpellingSizes.{canon_spells, same_size, parts_any, parts_size, all_sized}
use Rattle.eds_types.proofs.TableFacts.{Facts, CheckFits}

-- ---- scalars

-- a number that is listed is one of the form
pub listed_number : (form : IntForm) (listing : List (List ℕ × ℤ)) (l : List ℕ) (n : ℤ) → AllByRecursion (λ e. HasNumber form e.1) listing → listed listing l ≡ Some n → HasNumber form n
listed_number form [] l n a e = absurd cc
listed_number form (x ∷ xs) l n a e = go (same_text x.0 l) e (listed_number form xs l n a.1)
  where
    go : (b : Bool) → cond b (Some x.1) (listed xs l) ≡ Some n → (listed xs l ≡ Some n → HasNumber form n) → HasNumber form n
    go true e ih = let q : x.1 ≡ n = cc in subst (HasNumber form) q a.0
    go false e ih = ih e

-- ---- checks

-- a type of which there is a value isn't nested too deep
some_level : (t : Table) (n : ℕ) (style : Style) (id : ℕ) (v : Plain) (b : Bits) → SpellsWithin n style t id v b → 0 < n
unfolding SpellsWithin
some_level t zero style id v b h = absurd h
some_level t (suc n) style id v b h = omega arith

-- the type of a check has a spelling for it
pub check_spelt : (t : Table) (n x : ℕ) (k : CheckKind) (before : Bits) → 0 < n → IsInt t x (HoldsCheck k) → (b : Bits) × SpellsWithin n canonical t x (num (pos (check_of k before))) b
unfolding SpellsWithin
check_spelt t zero x k before h f = absurd (omega arith)
check_spelt t (suc n) x k before h f = let c = by_kind (f.0).kind f.2 in (c.0, (f.0, f.1, c.1))
  where
    by_kind : (q : Kind) → IsIntBy (HoldsCheck k) q → (b : Bits) × KindSpells canonical t (SpellsWithin n canonical t) x q (num (pos (check_of k before))) b
    by_kind (kind.Int form spans) f =
        let has = check_number k form spans before f in
        let c = has_canonical form (pos (check_of k before)) has in
        (c.0, (pos (check_of k before), refl, f.all (pos (check_of k before)) has, c.1))
    by_kind (kind.Enum form listing) f = absurd f
    by_kind (kind.Bool form) f = absurd f
    by_kind (kind.Str form) f = absurd f
    by_kind (kind.Bin m free) f = absurd f
    by_kind (kind.Arr item m) f = absurd f
    by_kind (kind.Con con) f = absurd f

-- ---- parts

items_canon : (A C : Plain → Bits → Type 0) → ((v : Plain) (b : Bits) → A v b → (c : Bits) × C v c) → (vs : List Plain) (b : Bits) → ItemsSpell A vs b → (c : Bits) × ItemsSpell C vs c
items_canon A C g [] b h = ([], refl)
items_canon A C g (v ∷ vs) b h = let one = g v h.0 h.3 in let rest = items_canon A C g vs h.1 h.4 in (one.0 ++ rest.0, (one.0, rest.0, refl, one.1, rest.1))

module _ (t : Table) (n : ℕ) (g : (id : ℕ) (v : Plain) (b : Bits) → SpellsWithin n any t id v b → (c : Bits) × SpellsWithin n canonical t id v c) where
  abbrev A : ℕ → Plain → Bits → Type 0
  A = SpellsWithin n any t

  abbrev C : ℕ → Plain → Bits → Type 0
  C = SpellsWithin n canonical t

  -- a canonical run beside a run
  record Beside (z : Progress) (p : Placed) (q : Part) (u : Progress) : Type 0 where
    w : Progress
    c : Bits
    passes : PartPasses canonical t C z p q w c
    fields : u.fields ≡ w.fields
    octets : u.octets ≡ w.octets

  part_canon : (s z : Progress) (p : Placed) (q : Part) (u : Progress) (b : Bits) → CheckFits t q → s.fields ≡ z.fields → s.octets ≡ z.octets → PartPasses any t A s p q u b → Beside z p q u
  part_canon s z p (part.Plain name id) u b f e o h = let x = g id.0 h.0 b h.1 in record { w = with_value z p h.0 x.0; c = x.0; passes = (h.0, x.1, refl); fields = ap (λ (y : Progress). y.fields) h.2 ∙ ap (λ l. l ++ (field_of p h.0) ∷ []) e; octets = ap (λ (y : Progress). y.octets) h.2 ∙ o }
  part_canon s z p (part.Fixed name id v) u b f e o h = let x = g id.0 _ b h.0 in record { w = with_bits z x.0; c = x.0; passes = (x.1, refl); fields = ap (λ (y : Progress). y.fields) h.1 ∙ e; octets = ap (λ (y : Progress). y.octets) h.1 ∙ o }
  part_canon s z p (part.Pad m) u b f e o h = record { w = with_bits z (replicate m false); c = replicate m false; passes = (length-zeros m, zeros_zero (replicate m false) (zeros_false m), refl); fields = ap (λ (y : Progress). y.fields) h.2 ∙ e; octets = ap (λ (y : Progress). y.octets) h.2 ∙ o }
  part_canon s z p (part.List name id y i) u b f e o h = let x = items_canon (A id.0) (C id.0) (g id.0) (list_of h.0) b h.2 in record { w = with_value z p (items h.0) x.0; c = x.0; passes = (h.0, h.1 ∙ ap (λ l. count_in (value_at l y.0 i)) e, x.1, refl); fields = ap (λ (y : Progress). y.fields) h.3 ∙ ap (λ l. l ++ (field_of p (items h.0)) ∷ []) e; octets = ap (λ (y : Progress). y.octets) h.3 ∙ o }
  part_canon s z p (part.Length name id c0 c1) u b f e o h = let x = g id.0 _ b h.1 in record { w = with_octets z (c0 +ℤ (c1 *ℤ h.0)) x.0; c = x.0; passes = (h.0, x.1, refl); fields = ap (λ (y : Progress). y.fields) h.2 ∙ e; octets = ap (λ (y : Progress). y.octets) h.2 }
  part_canon s z p (part.Check name id k) u b f e o h = let x = check_spelt t n id.0 k z.before (some_level t n any id.0 (num (pos (check_of k s.before))) b h.0) f in record { w = with_bits z x.0; c = x.0; passes = (x.1, refl); fields = ap (λ (y : Progress). y.fields) h.1 ∙ e; octets = ap (λ (y : Progress). y.octets) h.1 ∙ o }

  record BesideAll (z : Progress) (ps : List Placed) (u : Progress) : Type 0 where
    w : Progress
    c : Bits
    passes : PartsPass canonical t C z ps w c
    fields : u.fields ≡ w.fields
    octets : u.octets ≡ w.octets

  parts_canon : (ps : List Placed) (s z u : Progress) (b : Bits) → AllByRecursion (λ (p : Placed). CheckFits t p.part) ps → s.fields ≡ z.fields → s.octets ≡ z.octets → PartsPass any t A s ps u b → BesideAll z ps u
  parts_canon [] s z u b f e o h = record { w = z; c = []; passes = (refl, refl); fields = ap (λ (y : Progress). y.fields) h.0 ∙ e; octets = ap (λ (y : Progress). y.octets) h.0 ∙ o }
  parts_canon (p ∷ ps) s z u b f e o h =
      let one = part_canon s z p p.part h.0 h.1 f.0 e o h.4 in
      let rest = parts_canon ps h.0 one.w u h.2 f.1 one.fields one.octets h.5 in
      record { w = rest.w; c = one.c ++ rest.c; passes = (one.w, one.c, rest.c, refl, one.passes, rest.passes); fields = rest.fields; octets = rest.octets }

-- the bits that have been passed
pub part_before : (t : Table) (E : ℕ → Plain → Bits → Type 0) (s : Progress) (p : Placed) (q : Part) (u : Progress) (b : Bits) → PartPasses any t E s p q u b → u.before ≡ s.before ++ b
part_before t E s p (part.Plain name id) u b h = ap (λ (y : Progress). y.before) h.2
part_before t E s p (part.Fixed name id v) u b h = ap (λ (y : Progress). y.before) h.1
part_before t E s p (part.Pad m) u b h = ap (λ (y : Progress). y.before) h.2
part_before t E s p (part.List name id y i) u b h = ap (λ (y : Progress). y.before) h.3
part_before t E s p (part.Length name id c0 c1) u b h = ap (λ (y : Progress). y.before) h.2
part_before t E s p (part.Check name id k) u b h = ap (λ (y : Progress). y.before) h.1

pub parts_before : (t : Table) (E : ℕ → Plain → Bits → Type 0) (ps : List Placed) (s u : Progress) (b : Bits) → PartsPass any t E s ps u b → u.before ≡ s.before ++ b
parts_before t E [] s u b h = ap (λ (y : Progress). y.before) h.0 ∙ sym (append-nil s.before) ∙ ap (λ l. s.before ++ l) (sym h.1)
parts_before t E (p ∷ ps) s u b h = parts_before t E ps h.0 u h.2 h.5 ∙ ap (λ l. l ++ h.2) (part_before t E s p p.part h.0 h.1 h.4) ∙ append_assoc s.before h.1 h.2 ∙ ap (λ l. s.before ++ l) (sym h.3)

fits_too : (o q : Option ℤ) (b c : Bits) → o ≡ q → length b ≡ length c → IfSome o (λ n. n ≡ pos (octets_for (length b))) → IfSome q (λ n. n ≡ pos (octets_for (length c)))
fits_too o q b c e l h = subst (λ m. IfSome q (λ n. n ≡ pos (octets_for m))) l (subst (λ z. IfSome z (λ n. n ≡ pos (octets_for (length b)))) e h)

module _ (t : Table) (can : Facts t) where
  kind_canon : (n : ℕ) → ((id : ℕ) (v : Plain) (b : Bits) → SpellsWithin n any t id v b → (c : Bits) × SpellsWithin n canonical t id v c) → (id : ℕ) (k : Kind) (v : Plain) (b : Bits) → KindKeeps k → KindSpells any t (SpellsWithin n any t) id k v b → (c : Bits) × KindSpells canonical t (SpellsWithin n canonical t) id k v c
  kind_canon n g id (kind.Int form spans) v b st h = let x = has_canonical form h.0 (st.of_form h.0 h.2) in (x.0, (h.0, h.1, h.2, x.1))
  kind_canon n g id (kind.Enum form listing) v b st h = let x = has_canonical form h.1 (listed_number form listing h.0 h.1 st.of_form h.3) in (x.0, (h.0, h.1, h.2, h.3, x.1))
  kind_canon n g id (kind.Bool form) v b st h = let x = bool_exists form h.0 in (x.0, (h.0, h.1, x.1))
  kind_canon n g id (kind.Str form) v b st h =
      let fit = text_fits form.length form.fixed form.ascii form.stop (size_of form) h.0 b h.2 in
      let x = text_exists form.length form.fixed form.ascii form.stop (size_of form) h.0 fit.0 fit.1 in
      (x.0, (h.0, h.1, x.1))
  kind_canon n g id (kind.Bin m free) v b st h = (b, h)
  kind_canon n g id (kind.Arr item m) v b st h = let x = items_canon (SpellsWithin n any t item.0) (SpellsWithin n canonical t item.0) (g item.0) (list_of h.0) b h.3 in (x.0, (h.0, h.1, h.2, x.1))
  kind_canon n g id (kind.Con con) v b st h =
      let sp = h.3 in
      let k = h.0 in
      let r = parts_canon t n g (sequence t k) started started (sp.end) b (can.checks k) refl refl sp.parts in
      let weak = parts_any t (SpellsWithin n canonical t) (SpellsWithin n any t) (canon_spells t n) (sequence t k) started r.w r.c r.passes in
      let size = parts_size t (SpellsWithin n any t) (same_size t can.numbered n) (sequence t k) started started (sp.end) r.w b r.c (all_sized t n (sequence t k) (can.numbered k)) refl r.fields sp.parts weak in
      let before : length (sp.end).before ≡ length (r.w).before = ap length (parts_before t (SpellsWithin n any t) (sequence t k) started (sp.end) b sp.parts) ∙ size ∙ ap length (sym (parts_before t (SpellsWithin n any t) (sequence t k) started r.w r.c weak)) in (
        r.c,
        (
          k,
          h.1,
          h.2,
          record {
            concrete = sp.concrete;
            under = sp.under;
            end = r.w;
            parts = r.passes;
            values = sp.values ∙ ap values_of r.fields;
            size = fits_too (sp.end).octets (r.w).octets (sp.end).before (r.w).before r.octets before sp.size;
            constraints = subst (λ fs. AllByRecursion (Holds t fs) (constraints_along t k)) r.fields sp.constraints;
            most_derived = λ l ne un c. sp.most_derived l ne un (subst (λ fs. IsCandidate t k l fs) (sym r.fields) c);
          },
        ),
      )

  -- a value that is spelled has a canonical spelling
  pub canon_within : (n id : ℕ) (v : Plain) (b : Bits) → SpellsWithin n any t id v b → (c : Bits) × SpellsWithin n canonical t id v c
  unfolding SpellsWithin
  canon_within zero id v b h = absurd h
  canon_within (suc n) id v b h = let x = kind_canon n (canon_within n) id (h.0).kind v b (can.kinds id h.0 h.1) h.2 in (x.0, (h.0, h.1, x.1))
