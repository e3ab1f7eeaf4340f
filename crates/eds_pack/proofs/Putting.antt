-- Bits that are put into a room one after another.
use Rattle.std.proofs.Common.{◌≡◌, ◌↔◌, ℕ, ℤ, zero, suc, ◌+◌, ◌*◌, ◌≤◌, Bool, true, false, List, [], ◌∷◌, ◌++◌, length, replicate, Some, refl, sym, ap, subst, ◌∙◌, append_assoc, append-nil, arith}
use Rattle.std.specs.Prelude.{slice_get, IsTrue}
use Rattle.std.specs.Bool.{OnTrue}
use Rattle.std.proofs.lemmas.Bool.{both_ways}
use Rattle.std.proofs.lemmas.List.{length-append}
use Rattle.eds_bits.specs.declared.forms.IntForm.{IntForm}
use Rattle.eds_bits.specs.Bits.{Bits, bits_of, octets_of, low_bits, with_piece}
use Rattle.eds_bits.specs.IntForms.{IsNumber}
use Rattle.eds_bits.specs.declared.forms.BoolForm.{BoolForm}
use Rattle.eds_bits.specs.declared.forms.TextForm.{TextForm}
use Rattle.eds_bits.specs.Scalars.{IsBool, IsText}
use Rattle.eds_bits.specs.Style.{any, canonical, is_zero}
use Rattle.eds_bits.specs.Texts.{IsBinary, IsTextOf, spelled_size, text_bits}
use Rattle.eds_codec.specs.declared.text.TextFail.{TextFail}
use Rattle.eds_codec.specs.declared.text.TextFail.TheVariants.{BadText, TooLong, Room}
use Rattle.eds_types.proofs.CanonicalPatterns.{bool_unique, text_unique, text_fits, octets_same, false_same, zero_zeros, zeros_false, length-zeros}
use Rattle.eds_types.proofs.ScalarReading.{IsTextSize, text_form}
use Rattle.eds_pack.proofs.Filling.{low_zero}
use Rattle.eds_bits.proofs.BitLaws.{length-with_piece, with_piece-append, with_piece-nil}
use Rattle.eds_bits.proofs.FormLaws.{one_canonical}
use Rattle.eds_bits.proofs.OctetLaws.{length-bits_of}
use Rattle.eds_codec.specs.Writing.{Written, TextRefused}
use Rattle.eds_types.specs.Fields.{Field, values_of}
use Rattle.eds_types.specs.Plain.{Plain, truth, text, bits}
use Rattle.eds_types.specs.Spelling.{ItemsSpell}
use Rattle.eds_pack.specs.Putting.{IsPut, HasRoom, Writes, TruthSpells, TextSpells, BitsSpell}

-- ---- one after another

pub puts_none : (at : ℕ) (old : List ℕ) → IsPut [] at old old at
puts_none at old = (sym (with_piece-nil at (bits_of old)), omega arith)

pub puts_more : (c d : Bits) (at mid end : ℕ) (old m new : List ℕ) → IsPut c at old m mid → IsPut d mid m new end → at + length (c ++ d) ≤ 8 * length old → IsPut (c ++ d) at old new end
puts_more c d at mid end old m new h k fits = (
  k.0 ∙ ap (λ a. with_piece a d (bits_of m)) h.1 ∙ ap (with_piece (at + length c) d) h.0 ∙ with_piece-append at c d (bits_of old) (omega (arith, length-bits_of old, length-append c d, fits)),
  omega (arith, h.1, k.1, length-append c d),
)

pub same_room : (c : Bits) (at mid : ℕ) (old m : List ℕ) → IsPut c at old m mid → at + length c ≤ 8 * length old → length m ≡ length old
same_room c at mid old m h fits = omega (arith, length-bits_of m, length-bits_of old, ap length h.0, length-with_piece at c (bits_of old) (omega (arith, length-bits_of old, fits)))

-- ---- items

module _ (E : Plain → Bits → Type 0) where
  pub record ItemsHalf (left : List Plain) (b : Bits) (at : ℕ) (old m : List ℕ) (end : ℕ) : Type 0 where
    pub c : Bits
    pub d : Bits
    pub is : b ≡ c ++ d
    pub rest : ItemsSpell E left d
    pub put : IsPut c at old m end

  pub items_begin : (vs : List Plain) (b : Bits) (at : ℕ) (old : List ℕ) → ItemsSpell E vs b → ItemsHalf vs b at old old at
  items_begin vs b at old s = record { c = []; d = b; is = refl; rest = s; put = puts_none at old }

  pub items_end : (b : Bits) (at : ℕ) (old m : List ℕ) (end : ℕ) → ItemsHalf [] b at old m end → IsPut b at old m end
  items_end b at old m end h = subst (λ x. IsPut x at old m end) (sym (h.is ∙ ap (λ x. h.c ++ x) h.rest ∙ append-nil h.c)) h.put

  module _ (v : Plain) (vs : List Plain) (b : Bits) (at : ℕ) (old m : List ℕ) (end : ℕ) (h : ItemsHalf (v ∷ vs) b at old m end) (fits : at + length b ≤ 8 * length old) where
    length_is : length b ≡ length h.c + (length (h.rest).0 + length (h.rest).1)
    length_is = ap length (h.is ∙ ap (λ x. h.c ++ x) (h.rest).2) ∙ length-append h.c ((h.rest).0 ++ (h.rest).1) ∙ ap (λ n. length h.c + n) (length-append (h.rest).0 (h.rest).1)

    room_is : length m ≡ length old
    room_is = same_room h.c at end old m h.put (omega (arith, length_is, fits))

    pub item_room : at + length b ≤ 524288 → HasRoom (E v) end m
    item_room few = record { bits = (h.rest).0; has = (h.rest).3; fits = omega (arith, length_is, room_is, fits, (h.put).1); few = omega (arith, length_is, few, (h.put).1) }

    pub items_next : (new : List ℕ) (after : ℕ) → Writes (E v) end m new after → ItemsHalf vs b at old new after
    items_next new after w = record {
      c = h.c ++ (h.rest).0;
      d = (h.rest).1;
      is = h.is ∙ ap (λ x. h.c ++ x) (h.rest).2 ∙ sym (append_assoc h.c (h.rest).0 (h.rest).1);
      rest = (h.rest).4;
      put = puts_more h.c (h.rest).0 at end after old m new h.put (w (h.rest).0 (h.rest).3 (omega (arith, length_is, room_is, fits, (h.put).1))) (omega (arith, length_is, fits, length-append h.c (h.rest).0));
    }

-- ---- values that follow each other

values_more : (xs ys : List Field) → values_of (xs ++ ys) ≡ values_of xs ++ values_of ys
values_more [] ys = refl
values_more (x ∷ xs) ys = ap (λ l. x.value ∷ l) (values_more xs ys)

at_end : (vs ws : List Plain) (v : Plain) → slice_get (vs ++ v ∷ ws) (length vs) ≡ Some v
at_end [] ws v = refl
at_end (x ∷ vs) ws v = at_end vs ws v

-- a value behind those so far
pub found_next : (f : List Plain) (s m gs : List Field) (x : Field) (used : ℕ) → m ≡ s ++ x ∷ [] → f ≡ values_of (m ++ gs) → used ≡ length (values_of s) → slice_get f used ≡ Some x.value
found_next f s m gs x used grows is count =
    ap (slice_get f) count
    ∙ ap (λ l. slice_get l (length (values_of s))) (is ∙ ap (λ l. values_of (l ++ gs)) grows ∙ ap values_of (append_assoc s (x ∷ []) gs) ∙ values_more s (x ∷ gs))
    ∙ at_end (values_of s) (values_of gs) x.value

pub more_values : (s m : List Field) (x : Field) → m ≡ s ++ x ∷ [] → length (values_of m) ≡ length (values_of s) + 1
more_values s m x e = ap (λ l. length (values_of l)) e ∙ ap length (values_more s (x ∷ [])) ∙ length-append (values_of s) (x.value ∷ [])

-- ---- numbers

pub number_put : (form : IntForm) (n : ℤ) (raw at end : ℕ) (old new : List ℕ) (ok : Bool) → IsNumber canonical form n (low_bits form.bits raw) → IsTrue ok ↔ (at + form.bits ≤ 8 * length old)
    → OnTrue ok (bits_of new ≡ with_piece at (low_bits form.bits raw) (bits_of old)) → end ≡ at + form.bits → Writes (IsNumber canonical form n) at old new end
number_put form n raw at end old new true is enough put ends b p fits =
    (put ∙ ap (λ c. with_piece at c (bits_of old)) (one_canonical form n (low_bits form.bits raw) b is p), omega (arith, ends, p.is.size))
number_put form n raw at end old new false is enough put ends b p fits = absurd (both_ways false refl (enough.1 (omega (arith, fits, p.is.size))))

-- what is written is put, where no other bits have P
pub written_put : (P : Bits → Type 0) (n at end : ℕ) (old new : List ℕ) → ((b c : Bits) → P b → P c → b ≡ c) → ((b : Bits) → P b → length b ≡ n) → Written P at old new → end ≡ at + n → Writes P at old new end
written_put P n at end old new one size w ends b p fits = (w.placed ∙ ap (λ c. with_piece at c (bits_of old)) (one w.piece b w.spelled p), omega (arith, ends, size b p))

-- ---- truth values, texts and binaries

pub truth_put : (form : BoolForm) (x : Bool) (v : Plain) (at end : ℕ) (old new : List ℕ) → v ≡ truth x → Written (IsBool canonical form x) at old new → end ≡ at + form.bits → Writes (TruthSpells form v) at old new end
truth_put form x v at end old new is w ends b p fits =
    let same : truth x ≡ truth p.0 = sym is ∙ p.1 in
    let y : x ≡ p.0 = cc in
    (w.placed ∙ ap (λ c. with_piece at c (bits_of old)) (bool_unique form x p.0 w.piece b y w.spelled p.2), omega (arith, ends, (p.2).size))

text_size_is : (form : TextForm) (s : List ℕ) (b : Bits) → IsText canonical form s b → length b ≡ text_bits form s
text_size_is form s b h = go form.length form.fixed form.ascii form.stop (record { some = form.some; few = form.few; plain = form.plain }) h
  where
    go : (n : ℕ) (f ascii : Bool) (stop : ℕ) (size : IsTextSize n stop) → IsText canonical (text_form n f ascii stop size) s b → length b ≡ 8 * spelled_size f n (length s)
    go n true ascii stop size h = h.size
    go n false ascii stop size h = h.size

pub text_put : (form : TextForm) (s : List ℕ) (v : Plain) (n at end : ℕ) (old new : List ℕ) → v ≡ text s → n ≡ text_bits form s → Written (IsText canonical form s) at old new → end ≡ at + n → Writes (TextSpells form v) at old new end
text_put form s v n at end old new is size w ends b p fits =
    let same : text s ≡ text p.0 = sym is ∙ p.1 in
    let y : s ≡ p.0 = cc in
    let h = subst (λ r. IsText canonical form r b) (sym y) p.2 in
    (w.placed ∙ ap (λ c. with_piece at c (bits_of old)) (text_unique form.length form.fixed form.ascii form.stop (record { some = form.some; few = form.few; plain = form.plain }) s s w.piece b refl w.spelled h), omega (arith, ends, size, text_size_is form s b h))

pub binary_put : (n : ℕ) (os : List ℕ) (v : Plain) (at end : ℕ) (old new : List ℕ) (ok : Bool) → v ≡ bits n os → IsTrue ok ↔ (at + n ≤ 8 * length old) → OnTrue ok (Written (IsBinary n os) at old new) → end ≡ at + n → Writes (BitsSpell v) at old new end
binary_put n os v at end old new true is enough w ends b p fits =
    let same : bits n os ≡ bits (length b) (octets_of b) = sym is ∙ p in
    let l : n ≡ length b = cc in
    let o : os ≡ octets_of b = cc in
    (w.placed ∙ ap (λ c. with_piece at c (bits_of old)) (octets_same w.piece b ((w.spelled).size ∙ l) (sym (w.spelled).value ∙ o)), omega (arith, ends, l))
binary_put n os v at end old new false is enough w ends b p fits =
    let same : bits n os ≡ bits (length b) (octets_of b) = sym is ∙ p in
    let l : n ≡ length b = cc in
    absurd (both_ways false refl (enough.1 (omega (arith, l, fits))))

text_any : (n : ℕ) (f ascii : Bool) (stop : ℕ) (size : IsTextSize n stop) (s : List ℕ) (b : Bits) → IsText canonical (text_form n f ascii stop size) s b → IsText any (text_form n f ascii stop size) s b
text_any n true ascii stop size s b h = record { size = h.size; value = h.value; coded = h.coded; filler = tt }
text_any n false ascii stop size s b h = h

text_of : (form : TextForm) (s : List ℕ) (b : Bits) → IsText canonical form s b → IsTextOf form s × (length s ≤ form.length)
text_of form s b t =
    let size : IsTextSize form.length form.stop = record { some = form.some; few = form.few; plain = form.plain } in
    let f = text_fits form.length form.fixed form.ascii form.stop size s b (text_any form.length form.fixed form.ascii form.stop size s b t) in
    (record { coded = (f.0).0; free = (f.0).1 }, f.1)

-- a text that is spelled is not refused
pub not_refused : (form : TextForm) (v : Plain) (s : List ℕ) (at : ℕ) (room : List ℕ) (why : TextFail) → v ≡ text s → HasRoom (TextSpells form v) at room → TextRefused form s at room why → ⊥
not_refused form v s at room why is h r =
    let same : text s ≡ text (h.has).0 = sym is ∙ (h.has).1 in
    let y : s ≡ (h.has).0 = cc in
    let t = subst (λ x. IsText canonical form x h.bits) (sym y) (h.has).2 in
    go why (text_of form s h.bits t) (text_size_is form s h.bits t) r
  where
    go : (w : TextFail) → IsTextOf form s × (length s ≤ form.length) → length h.bits ≡ text_bits form s → TextRefused form s at room w → ⊥
    go BadText f l r = r f.0
    go TooLong f l r = let a = f.1 in let c = r.1 in omega arith
    go Room f l r = let a = h.fits in let c = r.1 in omega arith

-- ---- zeros

zeros_same : (n : ℕ) (b : Bits) → length b ≡ n → is_zero b ≡ true → b ≡ replicate n false
zeros_same n b l z = false_same b (replicate n false) (l ∙ sym (length-zeros n)) (zero_zeros b z) (zeros_false n)

replicate-add : (n m : ℕ) → replicate (n + m) false ≡ replicate n false ++ replicate m false
replicate-add zero m = ap (λ k. replicate k false) (omega arith)
replicate-add (suc n) m = let k : suc n + m ≡ suc (n + m) = omega arith in ap (λ j. replicate j false) k ∙ ap (λ l. false ∷ l) (replicate-add n m)

-- so many zeros are put so far
abbrev pub ZerosTo : ℕ → ℕ → List ℕ → List ℕ → Type 0
ZerosTo n at old m = bits_of m ≡ with_piece at (replicate n false) (bits_of old)

pub zeros_next : (n more at : ℕ) (old m new : List ℕ) (ok : Bool) → ZerosTo n at old m → at + (n + more) ≤ 8 * length old → IsTrue ok ↔ (at + n + more ≤ 8 * length m) → OnTrue ok (bits_of new ≡ with_piece (at + n) (low_bits more 0) (bits_of m)) → ZerosTo (n + more) at old new
zeros_next n more at old m new ok z fits enough put =
    let c : IsPut (replicate n false) at old m (at + n) = (z, omega (arith, length-zeros n)) in
    let l = same_room (replicate n false) at (at + n) old m c (omega (arith, length-zeros n, fits)) in
    go ok enough put l
  where
    go : (ok : Bool) → IsTrue ok ↔ (at + n + more ≤ 8 * length m) → OnTrue ok (bits_of new ≡ with_piece (at + n) (low_bits more 0) (bits_of m)) → length m ≡ length old → ZerosTo (n + more) at old new
    go true e p l =
        p ∙ ap (λ w. with_piece (at + n) w (bits_of m)) (low_zero more) ∙ ap (λ a. with_piece a (replicate more false) (bits_of m)) (omega (arith, length-zeros n))
        ∙ ap (with_piece (at + length (replicate n false)) (replicate more false)) z
        ∙ with_piece-append at (replicate n false) (replicate more false) (bits_of old) (omega (arith, length-zeros n, length-zeros more, length-bits_of old, fits))
        ∙ ap (λ w. with_piece at w (bits_of old)) (sym (replicate-add n more))
    go false e p l = absurd (both_ways false refl (e.1 (omega (arith, l, fits))))

pub zeros_put_all : (n at end : ℕ) (old new : List ℕ) → ZerosTo n at old new → end ≡ at + n → Writes (λ b. (length b ≡ n) × IsTrue (is_zero b)) at old new end
zeros_put_all n at end old new z ends b p fits = (z ∙ ap (λ w. with_piece at w (bits_of old)) (sym (zeros_same n b p.0 p.1)), omega (arith, ends, p.0))

pub truth_put_on : (form : BoolForm) (x : Bool) (v : Plain) (at end : ℕ) (old new : List ℕ) (ok : Bool) → v ≡ truth x → IsTrue ok ↔ (at + form.bits ≤ 8 * length old) → OnTrue ok (Written (IsBool canonical form x) at old new) → end ≡ at + form.bits → Writes (TruthSpells form v) at old new end
truth_put_on form x v at end old new true is enough w ends b p fits = truth_put form x v at end old new is w ends b p fits
truth_put_on form x v at end old new false is enough w ends b p fits = absurd (both_ways false refl (enough.1 (omega (arith, (p.2).size, fits))))
