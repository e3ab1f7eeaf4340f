-- Texts: where they end, and why they are not read or written.
use Rattle.std.proofs.Common.{◌≡◌, ℕ, zero, suc, ◌+◌, ◌-◌, ◌*◌, ◌/◌, ◌<◌, ◌≤◌, Bool, true, false, List, [], ◌∷◌, ◌++◌, length, get_or, take, drop, replicate, All, refl, sym, ap, subst, ◌∙◌, append_assoc, inl, inr, arith}
use Rattle.std.specs.Prelude.{◌⊎◌, nat_lt}
use Rattle.std.proofs.lemmas.Bool.{ltb-true, ltb-false}
use Rattle.std.proofs.lemmas.List.{take_all, take_more, take-append-drop, take-replicate, replicate-append-replicate, length-take, length-append, length-replicate, append-nil}
use Rattle.std.proofs.Math.Seq.{take-append-add}
use Rattle.std.proofs.lemmas.List.Elements.{All-append, All-nil, All-cons}
use Rattle.eds_bits.specs.declared.forms.TextForm.{TextForm}
use Rattle.std.specs.Prelude.{IsUtf8}
use Rattle.std.proofs.lemmas.Str.{IsUtf8-from_ascii}
use borrow.Rule.Slice.PartMut.{put_mid}
use Rattle.eds_bits.specs.Bits.{Bits, bits_of, octets_of, with_piece}
use Rattle.eds_bits.proofs.BitLaws.{with_piece-append}
use Rattle.eds_bits.proofs.Shifts.{part_put}
use Rattle.eds_bits.specs.Lists.{Has}
use Rattle.eds_bits.specs.Scalars.{before_stop, IsCoded, IsFixedText, IsOpenText, IsText}
use Rattle.eds_bits.specs.Style.{Style, any, canonical}
use Rattle.eds_bits.specs.Texts.{front_octets, whole, ShortBy, UnterminatedBy, BadBy, IsTextOf, spelled_size, text_bits}
use Rattle.eds_bits.proofs.OctetLaws.{length-bits_of, bits_of-append, octets_of-bits_of}
use Rattle.eds_bits.proofs.TextLaws.{length-front_octets, take-front_octets, length-whole, take-whole, before_is, before-append, before_first, before_free, before-take, has_at}
use Rattle.eds_codec.specs.declared.text.TextFault.{TextFault}
use Rattle.eds_codec.specs.declared.text.TextFault.TheVariants as fault
use Rattle.eds_codec.specs.Reading.{BeginsWith, TextFails}
use Rattle.eds_codec.specs.Writing.{Written}

-- ---- by whether the form is fixed

fixed_by : (style : Style) (n : ℕ) (fixed ascii : Bool) (stop : ℕ) (some : 1 ≤ n) (few : n ≤ 65536) (plain : stop ≤ 127) (text : List ℕ) (bs : Bits) → fixed ≡ true
    → IsFixedText style (record { length = n; fixed = fixed; ascii = ascii; stop = stop; some = some; few = few; plain = plain }) text bs
    → IsText style (record { length = n; fixed = fixed; ascii = ascii; stop = stop; some = some; few = few; plain = plain }) text bs
fixed_by style n true ascii stop some few plain text bs e h = h
fixed_by style n false ascii stop some few plain text bs e h = absurd cc

open_by : (style : Style) (n : ℕ) (fixed ascii : Bool) (stop : ℕ) (some : 1 ≤ n) (few : n ≤ 65536) (plain : stop ≤ 127) (text : List ℕ) (bs : Bits) → fixed ≡ false
    → IsOpenText (record { length = n; fixed = fixed; ascii = ascii; stop = stop; some = some; few = few; plain = plain }) text bs
    → IsText style (record { length = n; fixed = fixed; ascii = ascii; stop = stop; some = some; few = few; plain = plain }) text bs
open_by style n false ascii stop some few plain text bs e h = h
open_by style n true ascii stop some few plain text bs e h = absurd cc

as_fixed : (style : Style) (form : TextForm) (text : List ℕ) (bs : Bits) → form.fixed ≡ true → IsFixedText style form text bs → IsText style form text bs
as_fixed style form text bs e h = fixed_by style form.length form.fixed form.ascii form.stop form.some form.few form.plain text bs e h

as_open : (style : Style) (form : TextForm) (text : List ℕ) (bs : Bits) → form.fixed ≡ false → IsOpenText form text bs → IsText style form text bs
as_open style form text bs e h = open_by style form.length form.fixed form.ascii form.stop form.some form.few form.plain text bs e h

-- ---- reading

-- a text of n octets stands at the front of the bits
pub record Sized (form : TextForm) (bs : Bits) (n : ℕ) : Type 0 where
  pub text : IsText any form (front_octets n bs) (take (text_bits form (front_octets n bs)) bs)
  pub size : length (front_octets n bs) ≡ n
  pub within : text_bits form (front_octets n bs) ≤ length bs
  pub most : n ≤ form.length

-- the first n octets, where so many stand before the termination octet of a longer front
front_text : (stop n most : ℕ) (bs : Bits) → 8 * most ≤ length bs → n ≡ length (before_stop stop (front_octets most bs)) → front_octets n bs ≡ before_stop stop (front_octets most bs)
front_text stop n most bs h is =
    let os : List ℕ = front_octets most bs in
    let before = before_is stop os in
    take-front_octets n most bs (omega (arith, before.short, length-front_octets most bs h)) h ∙ ap (λ k. take k os) is ∙ sym before.front

pub fixed_sized : (form : TextForm) (bs : Bits) (n : ℕ) → form.fixed ≡ true → 8 * form.length ≤ length bs → n ≡ length (before_stop form.stop (front_octets form.length bs)) → IsCoded form.ascii (before_stop form.stop (front_octets form.length bs)) → Sized form bs n
fixed_sized form bs n e h is coded =
    let os : List ℕ = front_octets form.length bs in
    let before = before_is form.stop os in
    let counted = length-front_octets form.length bs h in
    let same = front_text form.stop n form.length bs h is in
    let bits : text_bits form (front_octets n bs) ≡ 8 * form.length = ap (λ b. 8 * spelled_size b form.length (length (front_octets n bs))) e in
    let spelled : IsFixedText any form (front_octets n bs) (take (8 * form.length) bs) = record {
      size = omega (arith, length-take (8 * form.length) bs);
      value = same;
      coded = subst (IsCoded form.ascii) (sym same) coded;
      filler = tt;
    } in
    record {
      text = subst (λ k. IsText any form (front_octets n bs) (take k bs)) (sym bits) (as_fixed any form (front_octets n bs) (take (8 * form.length) bs) e spelled);
      size = ap length same ∙ sym is;
      within = omega arith;
      most = omega (arith, before.short);
    }

-- the octets that are searched: all whole ones, or one more than the text has at most
pub record Window (form : TextForm) (bs : Bits) (most : ℕ) : Type 0 where
  pub there : 8 * most ≤ length bs
  pub few : most ≤ form.length + 1
  pub all : most ≤ form.length → most ≡ length bs / 8

split : (b n : ℕ) → (b < n) ⊎ (n ≤ b)
split b n = go (nat_lt b n) refl
  where
    go : (t : Bool) → nat_lt b n ≡ t → (b < n) ⊎ (n ≤ b)
    go true e = inl (ltb-true b n e)
    go false e = inr (ltb-false b n e)

window_octets : (form : TextForm) (bs : Bits) (most : ℕ) → Window form bs most → take (form.length + 1) (whole bs) ≡ front_octets most bs
window_octets form bs most w =
    elim (split form.length most) [
      | inl l ↦ (let e : form.length + 1 ≡ most = omega (arith, w.few) in ap (λ k. take k (whole bs)) e ∙ take-whole most bs w.there)
      | inr l ↦ (let e : length bs / 8 ≡ most = sym (w.all l) in take_all (form.length + 1) (whole bs) (omega (arith, length-whole bs)) ∙ ap (λ k. front_octets k bs) e)
    ]

has_front : (n stop : ℕ) (os : List ℕ) → Has (take n os) stop → Has os stop
has_front n stop os h = record { before = h.before; after = h.after ++ drop n os; is = sym (take-append-drop n os) ∙ ap (λ r. r ++ drop n os) h.is ∙ append_assoc h.before (stop ∷ h.after) (drop n os) }

-- the termination octet is found
pub record Found (form : TextForm) (bs : Bits) (most : ℕ) : Type 0 where
  pub inside : Has (take (form.length + 1) (whole bs)) form.stop
  pub anywhere : Has (whole bs) form.stop
  pub text : before_stop form.stop (whole bs) ≡ before_stop form.stop (front_octets most bs)

pub found_in : (form : TextForm) (bs : Bits) (most n : ℕ) → Window form bs most → n ≡ length (before_stop form.stop (front_octets most bs)) → n < most → Found form bs most
found_in form bs most n w is less =
    let same = window_octets form bs most w in
    let counted = length-front_octets most bs w.there in
    let has : Has (front_octets most bs) form.stop = has_at form.stop (front_octets most bs) (omega arith) in
    let front : Has (take (form.length + 1) (whole bs)) form.stop = subst (λ os. Has os form.stop) (sym same) has in
    record {
      inside = front;
      anywhere = has_front (form.length + 1) form.stop (whole bs) front;
      text = before-take form.stop (form.length + 1) (whole bs) (omega (arith, ap length same, ap (λ os. length (before_stop form.stop os)) same)) ∙ ap (before_stop form.stop) same;
    }

-- it is not
pub missing_in : (form : TextForm) (bs : Bits) (most n : ℕ) → Window form bs most → n ≡ length (before_stop form.stop (front_octets most bs)) → most ≤ n → Has (take (form.length + 1) (whole bs)) form.stop → ⊥
missing_in form bs most n w is more has =
    let before = before_is form.stop (front_octets most bs) in
    absurd (omega (arith, before.has (subst (λ os. Has os form.stop) (window_octets form bs most w) has), length-front_octets most bs w.there))

pub missing_anywhere : (form : TextForm) (bs : Bits) (most n : ℕ) → Window form bs most → n ≡ length (before_stop form.stop (front_octets most bs)) → most ≤ n → most ≤ form.length → Has (whole bs) form.stop → ⊥
missing_anywhere form bs most n w is more short has =
    missing_in form bs most n w is more (subst (λ os. Has os form.stop) (sym (take_all (form.length + 1) (whole bs) (omega (arith, length-whole bs, w.all short)))) has)

pub open_sized : (form : TextForm) (bs : Bits) (most n : ℕ) → form.fixed ≡ false → Window form bs most → n ≡ length (before_stop form.stop (front_octets most bs)) → n < most → IsCoded form.ascii (before_stop form.stop (front_octets most bs)) → Sized form bs n
open_sized form bs most n e w is less coded =
    let os : List ℕ = front_octets most bs in
    let before = before_is form.stop os in
    let counted = length-front_octets most bs w.there in
    let text : List ℕ = front_octets n bs in
    let same : text ≡ before_stop form.stop os = front_text form.stop n most bs w.there is in
    let size : length text ≡ n = ap length same ∙ sym is in
    let bits : text_bits form text ≡ 8 * (length text + 1) = ap (λ b. 8 * spelled_size b form.length (length text)) e in
    let last : get_or os n 0 ≡ form.stop = ap (λ k. get_or os k 0) is ∙ before.end (omega arith) in
    let front : take n os ≡ text = ap (λ k. take k os) is ∙ sym before.front ∙ sym same in
    let place : length text + 1 ≡ n + 1 = omega arith in
    let ended : front_octets (length text + 1) bs ≡ text ++ form.stop ∷ [] =
    ap (λ k. front_octets k bs) place ∙ take-front_octets (n + 1) most bs (omega arith) w.there ∙ take_more os n 0 (omega arith)
    ∙ ap (λ r. r ++ get_or os n 0 ∷ []) front ∙ ap (λ o. text ++ o ∷ []) last in
    let spelled : IsOpenText form text (take (8 * (length text + 1)) bs) = record {
      size = omega (arith, length-take (8 * (length text + 1)) bs, w.there);
      octets = ended;
      short = omega (arith, w.few);
      coded = subst (IsCoded form.ascii) (sym same) coded;
      free = λ h. before.free (subst (λ r. Has r form.stop) same h);
    } in
    record {
      text = subst (λ k. IsText any form text (take k bs)) (sym bits) (as_open any form text (take (8 * (length text + 1)) bs) e spelled);
      size = size;
      within = omega (arith, w.there);
      most = omega (arith, w.few);
    }

-- ---- why a text is not read

-- nothing but this is wrong
abbrev pub Only : TextForm → Bits → TextFault → Type 0
Only form bs is = (why : TextFault) → TextFails form bs why → is ≡ why

pub fixed_short : (form : TextForm) (bs : Bits) → form.fixed ≡ true → length bs < 8 * form.length → TextFails form bs fault.Short
fixed_short form bs e h = subst (λ b. ShortBy b form bs) (sym e) h

pub fixed_bad : (form : TextForm) (bs : Bits) → form.fixed ≡ true → 8 * form.length ≤ length bs → (IsCoded form.ascii (before_stop form.stop (front_octets form.length bs)) → ⊥) → TextFails form bs fault.BadText
fixed_bad form bs e h bad = subst (λ b. BadBy b form bs) (sym e) (h, bad)

fixed_unterminated : (form : TextForm) (bs : Bits) → form.fixed ≡ true → TextFails form bs fault.Unterminated → ⊥
fixed_unterminated form bs e h = subst (λ b. UnterminatedBy b form bs) e h

pub fixed_only_short : (form : TextForm) (bs : Bits) → form.fixed ≡ true → length bs < 8 * form.length → Only form bs fault.Short
fixed_only_short form bs e h fault.Short f = refl
fixed_only_short form bs e h fault.BadText f = let g = subst (λ b. BadBy b form bs) e f in absurd (omega (arith, g.0))
fixed_only_short form bs e h fault.Unterminated f = absurd (fixed_unterminated form bs e f)

pub fixed_only_bad : (form : TextForm) (bs : Bits) → form.fixed ≡ true → 8 * form.length ≤ length bs → Only form bs fault.BadText
fixed_only_bad form bs e h fault.Short f = let g = subst (λ b. ShortBy b form bs) e f in absurd (omega arith)
fixed_only_bad form bs e h fault.BadText f = refl
fixed_only_bad form bs e h fault.Unterminated f = absurd (fixed_unterminated form bs e f)

pub fixed_good : (form : TextForm) (bs : Bits) → form.fixed ≡ true → 8 * form.length ≤ length bs → IsCoded form.ascii (before_stop form.stop (front_octets form.length bs)) → (why : TextFault) → TextFails form bs why → ⊥
fixed_good form bs e h coded fault.Short f = let g = subst (λ b. ShortBy b form bs) e f in absurd (omega arith)
fixed_good form bs e h coded fault.BadText f = (subst (λ b. BadBy b form bs) e f).1 coded
fixed_good form bs e h coded fault.Unterminated f = fixed_unterminated form bs e f

pub open_short : (form : TextForm) (bs : Bits) (most n : ℕ) → form.fixed ≡ false → Window form bs most → n ≡ length (before_stop form.stop (front_octets most bs)) → most ≤ n → most ≤ form.length → TextFails form bs fault.Short
open_short form bs most n e w is more short =
    subst (λ b. ShortBy b form bs) (sym e) (missing_anywhere form bs most n w is more short, omega (arith, length-whole bs, w.all short))

pub open_unterminated : (form : TextForm) (bs : Bits) (most n : ℕ) → form.fixed ≡ false → Window form bs most → n ≡ length (before_stop form.stop (front_octets most bs)) → most ≤ n → form.length < most → TextFails form bs fault.Unterminated
open_unterminated form bs most n e w is more long =
    subst (λ b. UnterminatedBy b form bs) (sym e) (omega (arith, length-whole bs, w.there), missing_in form bs most n w is more)

pub open_bad : (form : TextForm) (bs : Bits) (most n : ℕ) → form.fixed ≡ false → Window form bs most → n ≡ length (before_stop form.stop (front_octets most bs)) → n < most → (IsCoded form.ascii (before_stop form.stop (front_octets most bs)) → ⊥) → TextFails form bs fault.BadText
open_bad form bs most n e w is less bad =
    let f = found_in form bs most n w is less in
    subst (λ b. BadBy b form bs) (sym e) (f.inside, λ k. bad (subst (IsCoded form.ascii) f.text k))

pub open_only_short : (form : TextForm) (bs : Bits) (most n : ℕ) → form.fixed ≡ false → Window form bs most → n ≡ length (before_stop form.stop (front_octets most bs)) → most ≤ n → most ≤ form.length → Only form bs fault.Short
open_only_short form bs most n e w is more short fault.Short f = refl
open_only_short form bs most n e w is more short fault.BadText f = absurd (missing_in form bs most n w is more (subst (λ b. BadBy b form bs) e f).0)
open_only_short form bs most n e w is more short fault.Unterminated f = let g = subst (λ b. UnterminatedBy b form bs) e f in absurd (omega (arith, g.0, length-whole bs, w.all short))

pub open_only_unterminated : (form : TextForm) (bs : Bits) (most n : ℕ) → form.fixed ≡ false → Window form bs most → n ≡ length (before_stop form.stop (front_octets most bs)) → most ≤ n → form.length < most → Only form bs fault.Unterminated
open_only_unterminated form bs most n e w is more long fault.Short f = let g = subst (λ b. ShortBy b form bs) e f in absurd (omega (arith, g.1, length-whole bs, w.there))
open_only_unterminated form bs most n e w is more long fault.BadText f = absurd (missing_in form bs most n w is more (subst (λ b. BadBy b form bs) e f).0)
open_only_unterminated form bs most n e w is more long fault.Unterminated f = refl

found_fails : (form : TextForm) (bs : Bits) (most n : ℕ) → form.fixed ≡ false → Window form bs most → n ≡ length (before_stop form.stop (front_octets most bs)) → n < most → (why : TextFault) → TextFails form bs why → (fault.BadText ≡ why) × (IsCoded form.ascii (before_stop form.stop (front_octets most bs)) → ⊥)
found_fails form bs most n e w is less fault.Short f = absurd ((subst (λ b. ShortBy b form bs) e f).0 (found_in form bs most n w is less).anywhere)
found_fails form bs most n e w is less fault.BadText f = (refl, λ k. (subst (λ b. BadBy b form bs) e f).1 (subst (IsCoded form.ascii) (sym (found_in form bs most n w is less).text) k))
found_fails form bs most n e w is less fault.Unterminated f = absurd ((subst (λ b. UnterminatedBy b form bs) e f).1 (found_in form bs most n w is less).inside)

pub open_only_bad : (form : TextForm) (bs : Bits) (most n : ℕ) → form.fixed ≡ false → Window form bs most → n ≡ length (before_stop form.stop (front_octets most bs)) → n < most → Only form bs fault.BadText
open_only_bad form bs most n e w is less why f = (found_fails form bs most n e w is less why f).0

pub open_good : (form : TextForm) (bs : Bits) (most n : ℕ) → form.fixed ≡ false → Window form bs most → n ≡ length (before_stop form.stop (front_octets most bs)) → n < most → IsCoded form.ascii (before_stop form.stop (front_octets most bs)) → (why : TextFault) → TextFails form bs why → ⊥
open_good form bs most n e w is less coded why f = (found_fails form bs most n e w is less why f).1 coded

-- ---- what was read

pub text_front : (form : TextForm) (bs rest : Bits) (n k : ℕ) (text : List ℕ) → Sized form bs n → text ≡ front_octets n bs → k ≡ 8 * spelled_size form.fixed form.length n → rest ≡ drop k bs → BeginsWith (IsText any form text) bs rest
text_front form bs rest n k text s is size end =
    let same : k ≡ text_bits form (front_octets n bs) = size ∙ ap (λ m. 8 * spelled_size form.fixed form.length m) (sym s.size) in
    record {
      piece = take k bs;
      spelled = subst (λ t. IsText any form t (take k bs)) (sym is) (subst (λ j. IsText any form (front_octets n bs) (take j bs)) (sym same) s.text);
      is = sym (take-append-drop k bs) ∙ ap (λ r. take k bs ++ r) (sym end);
    }

-- ---- writing

pub free_size : (stop : ℕ) (os : List ℕ) → length (before_stop stop os) ≡ length os → Has os stop → ⊥
free_size stop os e h = absurd (omega (arith, (before_is stop os).has h))

pub size_free : (stop : ℕ) (os : List ℕ) → (Has os stop → ⊥) → length (before_stop stop os) ≡ length os
size_free stop os free = ap length (before_free stop os free)

-- how many octets spell a text that is not too long
pub spelled_enough : (form : TextForm) (n : ℕ) → n ≤ form.length → n ≤ spelled_size form.fixed form.length n
spelled_enough form n h = go form.fixed
  where
    go : (b : Bool) → n ≤ spelled_size b form.length n
    go true = h
    go false = omega arith

pub spelled_few : (form : TextForm) (n : ℕ) → n ≤ form.length → spelled_size form.fixed form.length n ≤ 65537
spelled_few form n h = go form.fixed
  where
    go : (b : Bool) → spelled_size b form.length n ≤ 65537
    go true = let f = form.few in omega arith
    go false = let f = form.few in omega arith

copies_below : (n o : ℕ) → o < 256 → All (λ x. x < 256) (replicate n o)
copies_below zero o h = All-nil (λ x. x < 256)
copies_below (suc n) o h = All-cons (λ x. x < 256) o (replicate n o) h (copies_below n o h)

before_copies : (stop n : ℕ) (text : List ℕ) → (Has text stop → ⊥) → before_stop stop (text ++ replicate n stop) ≡ text
before_copies stop n text free = before-append stop text (replicate n stop) free ∙ ap (λ r. text ++ r) (none n) ∙ append-nil text
  where
    none : (n : ℕ) → before_stop stop (replicate n stop) ≡ []
    none zero = refl
    none (suc n) =
        let b = before_is stop (stop ∷ replicate n stop) in
        b.front ∙ ap (λ k. take k (stop ∷ replicate n stop)) (first n)
      where
        first : (n : ℕ) → length (before_stop stop (stop ∷ replicate n stop)) ≡ 0
        first n = before_first stop (stop ∷ replicate n stop) 0 (omega arith) refl (λ i l. absurd (omega arith))

pub text_spelled : (form : TextForm) (text : List ℕ) (count : ℕ) → IsTextOf form text → length text ≤ form.length → All (λ o. o < 256) text → count ≡ spelled_size form.fixed form.length (length text)
    → IsText canonical form text (bits_of (text ++ replicate (count - length text) form.stop))
text_spelled form text count is short below e = go form.fixed refl
  where
    own : octets_of (bits_of (text ++ replicate (count - length text) form.stop)) ≡ text ++ replicate (count - length text) form.stop
    own =
        octets_of-bits_of (text ++ replicate (count - length text) form.stop)
        (All-append (λ o. o < 256) text (replicate (count - length text) form.stop) below (copies_below (count - length text) form.stop (let p = form.plain in omega arith)))

    all : length (bits_of (text ++ replicate (count - length text) form.stop)) ≡ 8 * (length text + (count - length text))
    all = omega (arith, length-bits_of (text ++ replicate (count - length text) form.stop), length-append text (replicate (count - length text) form.stop), length-replicate (count - length text) form.stop)

    go : (b : Bool) → form.fixed ≡ b → IsText canonical form text (bits_of (text ++ replicate (count - length text) form.stop))
    go true f =
        let n : count ≡ form.length = e ∙ ap (λ b. spelled_size b form.length (length text)) f in
        let gap : ℕ = count - length text in
        let full : form.length ≡ length text + gap = omega arith in
        as_fixed canonical form text (bits_of (text ++ replicate gap form.stop)) f (record {
          size = all ∙ (let x : 8 * (length text + gap) ≡ 8 * form.length = omega arith in x);
          value = sym (ap (before_stop form.stop) own ∙ before_copies form.stop gap text is.free);
          coded = is.coded;
          filler =
              own ∙ ap (λ r. text ++ r) (sym (take-replicate gap form.length form.stop (omega arith))) ∙ sym (take-append-add text (replicate form.length form.stop) gap)
              ∙ ap (λ k. take k (text ++ replicate form.length form.stop)) (sym full);
        })
    go false f =
        let n : count ≡ length text + 1 = e ∙ ap (λ b. spelled_size b form.length (length text)) f in
        let gap : ℕ = count - length text in
        let one : gap ≡ 1 = omega arith in
        as_open canonical form text (bits_of (text ++ replicate gap form.stop)) f (record {
          size = all ∙ (let x : 8 * (length text + gap) ≡ 8 * (length text + 1) = omega arith in x);
          octets = own ∙ ap (λ k. text ++ replicate k form.stop) one;
          short = short;
          coded = is.coded;
          free = is.free;
        })

-- octets behind octets
pub put_behind : (xs ys room one two : List ℕ) (at : ℕ) → at + 8 * (length xs + length ys) ≤ 8 * length room → bits_of one ≡ with_piece at (bits_of xs) (bits_of room) → bits_of two ≡ with_piece (at + 8 * length xs) (bits_of ys) (bits_of one)
    → bits_of two ≡ with_piece at (bits_of (xs ++ ys)) (bits_of room)
put_behind xs ys room one two at h first second =
    let size : 8 * length xs ≡ length (bits_of xs) = omega (arith, length-bits_of xs) in
    second ∙ ap (with_piece (at + 8 * length xs) (bits_of ys)) first ∙ ap (λ k. with_piece (at + k) (bits_of ys) (with_piece at (bits_of xs) (bits_of room))) size
    ∙ with_piece-append at (bits_of xs) (bits_of ys) (bits_of room) (omega (arith, length-bits_of xs, length-bits_of ys, length-bits_of room))
    ∙ ap (λ p. with_piece at p (bits_of room)) (sym (bits_of-append xs ys))

-- some more copies of an octet
pub copies_more : (o done n : ℕ) (room one two : List ℕ) (at : ℕ) → n ≤ 64 → at + 8 * (done + n) ≤ 8 * length room → bits_of one ≡ with_piece at (bits_of (replicate done o)) (bits_of room)
    → bits_of two ≡ with_piece (at + 8 * done) (bits_of (take n (replicate 64 o))) (bits_of one) → bits_of two ≡ with_piece at (bits_of (replicate (done + n) o)) (bits_of room)
copies_more o done n room one two at few h first second =
    let xs : List ℕ = replicate done o in
    let ys : List ℕ = replicate n o in
    let lx : length xs ≡ done = length-replicate done o in
    let ly : length ys ≡ n = length-replicate n o in
    let next : bits_of two ≡ with_piece (at + 8 * length xs) (bits_of ys) (bits_of one) =
    second ∙ ap (λ r. with_piece (at + 8 * done) (bits_of r) (bits_of one)) (take-replicate n 64 o few) ∙ ap (λ k. with_piece (at + 8 * k) (bits_of ys) (bits_of one)) (sym lx) in
    put_behind xs ys room one two at (omega arith) first next ∙ ap (λ r. with_piece at (bits_of r) (bits_of room)) (replicate-append-replicate done n o)

pub text_written : (form : TextForm) (text octets room new : List ℕ) (count size at first cnt skip : ℕ) → octets ≡ text → IsTextOf form text → length octets ≤ form.length → All (λ o. o < 256) text
    → size ≡ 8 * spelled_size form.fixed form.length (length octets) → count ≡ size / 8 → first + cnt ≤ length room → skip + size ≤ 8 * cnt → 8 * first + skip ≡ at
    → bits_of new ≡ with_piece skip (bits_of (octets ++ replicate (count - length octets) form.stop)) (bits_of (take cnt (drop first room)))
    → Written (IsText canonical form text) at room (put_mid first cnt room new)
text_written form text octets room new count size at first cnt skip same is short below esize ecount h fits place e =
    let piece : Bits = bits_of (octets ++ replicate (count - length octets) form.stop) in
    let n : count ≡ spelled_size form.fixed form.length (length octets) = omega arith in
    let enough = spelled_enough form (length octets) short in
    let long : length piece ≡ size =
    omega (arith, length-bits_of (octets ++ replicate (count - length octets) form.stop), length-append octets (replicate (count - length octets) form.stop), length-replicate (count - length octets) form.stop) in
    let P : List ℕ → Type 0 = λ os. IsText canonical form text (bits_of (os ++ replicate (count - length os) form.stop)) in
    record {
      piece = piece;
      spelled = subst P (sym same) (text_spelled form text count is (omega (arith, ap length same)) below (n ∙ ap (λ os. spelled_size form.fixed form.length (length os)) same));
      placed = part_put first cnt skip room new piece h (omega arith) e ∙ ap (λ k. with_piece k piece (bits_of room)) place;
    }

-- ---- a text that was read is of its encoding

coded_by : (n : ℕ) (fixed ascii : Bool) (stop : ℕ) (some : 1 ≤ n) (few : n ≤ 65536) (plain : stop ≤ 127) (text : List ℕ) (bs : Bits)
    → IsText any (record { length = n; fixed = fixed; ascii = ascii; stop = stop; some = some; few = few; plain = plain }) text bs → IsCoded ascii text
coded_by n true ascii stop some few plain text bs h = h.coded
coded_by n false ascii stop some few plain text bs h = h.coded

utf8_of : (ascii : Bool) (text : List ℕ) → IsCoded ascii text → IsUtf8 text
utf8_of true text h = IsUtf8-from_ascii text h
utf8_of false text h = h

pub text_utf8 : (form : TextForm) (text : List ℕ) (bs : Bits) → IsText any form text bs → IsUtf8 text
text_utf8 form text bs h = utf8_of form.ascii text (coded_by form.length form.fixed form.ascii form.stop form.some form.few form.plain text bs h)

-- the octets of such a text are there
pub sized_enough : (form : TextForm) (bs : Bits) (n : ℕ) → Sized form bs n → 8 * n ≤ length bs
sized_enough form bs n s = omega (arith, s.within, spelled_enough form n s.most, ap (spelled_size form.fixed form.length) s.size)

pub untrue : (b : Bool) → b ≡ false → b ≡ true → ⊥
untrue b e t = absurd cc
