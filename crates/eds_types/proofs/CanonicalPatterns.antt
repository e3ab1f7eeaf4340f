-- Canonical patterns of scalars, texts and binaries: there is one, and only one.
use Rattle.std.proofs.Common.{◌≡◌, ℕ, zero, suc, ◌+◌, ◌*◌, ◌-◌, ◌/◌, ◌%◌, ◌<◌, ◌≤◌, ◌^◌, Bool, true, false, cond, not, List, [], ◌∷◌, ◌++◌, length, take, replicate, refl, sym, ap, subst, ◌∙◌, arith, ◌⊎◌, inl, inr, IsAscii}
use Rattle.std.specs.Prelude.{◌==◌, nat_lt}
use lib.Utf8.{encode, encodes, scalar, scalars, scalar_cases}
use Rattle.std.specs.List.{AllByRecursion}
use Rattle.std.proofs.lemmas.Bool.{and_parts, and_from, cases_Bool, cases_lt, not-true, both_ways, ltb-true, eqb-true, eqb-false}
use Rattle.std.proofs.lemmas.List.{length-append, length-take}
use Rattle.std.proofs.lemmas.List.Elements.{All-from_recursion}
use Rattle.eds_bits.specs.declared.forms.BoolForm.{BoolForm}
use Rattle.eds_bits.specs.Lists.{Has}
use Rattle.eds_bits.specs.Bits.{Bits, bits_of, octets_of, oct, filled, unsigned_of, bit_value}
use Rattle.eds_bits.specs.Scalars.{IsBool, IsText, IsCoded, before_stop}
use Rattle.eds_bits.specs.Style.{any, canonical, is_zero}
use Rattle.eds_bits.proofs.BitLaws.{unsigned_same}
use Rattle.eds_bits.proofs.OctetLaws.{length-bits_of, octets_of-bits_of, bits_of-octets_of}
use Rattle.eds_types.specs.Packing.{TextFits}
use Rattle.eds_types.proofs.AllOf.{All-both}
use Rattle.eds_types.proofs.ScalarReading.{IsTextSize, text_form}
use Rattle.eds_types.proofs.TextReading.{before_found, before_on, none_has, more_has, later_has, octets_octs, length_octs}

-- ---- zeros

abbrev pub AllFalse : Bits → Type 0
AllFalse bs = AllByRecursion (λ b. b ≡ false) bs

pub zeros_false : (n : ℕ) → AllFalse (replicate n false)
zeros_false zero = tt
zeros_false (suc n) = (refl, zeros_false n)

pub length-zeros : (n : ℕ) → length (replicate n false) ≡ n
length-zeros zero = refl
length-zeros (suc n) = ap suc (length-zeros n)

pub zeros_zero : (bs : Bits) → AllFalse bs → is_zero bs ≡ true
zeros_zero [] h = refl
zeros_zero (b ∷ bs) h = and_from (not b) (is_zero bs) (ap not h.0) (zeros_zero bs h.1)

pub zero_zeros : (bs : Bits) → is_zero bs ≡ true → AllFalse bs
zero_zeros [] h = tt
zero_zeros (b ∷ bs) h = let p = and_parts (not b) (is_zero bs) h in (not-true b p.0, zero_zeros bs p.1)

pub unsigned_zeros : (bs : Bits) → AllFalse bs → unsigned_of bs ≡ 0
unsigned_zeros [] h = refl
unsigned_zeros (b ∷ bs) h = omega (arith, ap (λ c. bit_value c * 2 ^ length bs) h.0, unsigned_zeros bs h.1)

pub false_same : (bs cs : Bits) → length bs ≡ length cs → AllFalse bs → AllFalse cs → bs ≡ cs
false_same bs cs l h k = unsigned_same bs cs l (unsigned_zeros bs h ∙ sym (unsigned_zeros cs k))

-- ---- truth values

one_unsigned : (n : ℕ) → unsigned_of (replicate n false ++ true ∷ []) ≡ 1
one_unsigned zero = refl
one_unsigned (suc n) = omega (arith, one_unsigned n)

one_nonzero : (n : ℕ) → is_zero (replicate n false ++ true ∷ []) ≡ false
one_nonzero zero = refl
one_nonzero (suc n) = one_nonzero n

pub bool_exists : (form : BoolForm) (v : Bool) → (c : Bits) × IsBool canonical form v c
bool_exists form v = go (cases_Bool v) (cases_Bool form.zero_is_false)
  where
    meaning : Bool → Bool
    meaning q = cond q (not form.zero_is_false) form.zero_is_false

    zeros : v ≡ not form.zero_is_false → (c : Bits) × IsBool canonical form v c
    zeros e =
        let z = replicate form.bits false in
        (z, record { size = length-zeros form.bits; meaning = e ∙ ap meaning (sym (zeros_zero z (zeros_false form.bits))); one = omega (arith, unsigned_zeros z (zeros_false form.bits)) })

    last : v ≡ form.zero_is_false → (c : Bits) × IsBool canonical form v c
    last e =
        let z = replicate (form.bits - 1) false in
        let some = form.some in
        (z ++ true ∷ [], record { size = omega (arith, length-append z (true ∷ []), length-zeros (form.bits - 1)); meaning = e ∙ ap meaning (sym (one_nonzero (form.bits - 1))); one = omega (arith, one_unsigned (form.bits - 1)) })

    go : ((v ≡ true) ⊎ (v ≡ false)) → ((form.zero_is_false ≡ true) ⊎ (form.zero_is_false ≡ false)) → (c : Bits) × IsBool canonical form v c
    go (inl a) (inl b) = last (a ∙ sym b)
    go (inl a) (inr b) = zeros (a ∙ sym (ap not b))
    go (inr a) (inl b) = zeros (a ∙ sym (ap not b))
    go (inr a) (inr b) = last (a ∙ sym b)

meaning_zero : (z p q : Bool) → cond p (not z) z ≡ cond q (not z) z → p ≡ q
meaning_zero true true true e = refl
meaning_zero true true false e = absurd cc
meaning_zero true false true e = absurd cc
meaning_zero true false false e = refl
meaning_zero false true true e = refl
meaning_zero false true false e = absurd cc
meaning_zero false false true e = absurd cc
meaning_zero false false false e = refl

zero_is : (b : Bits) → unsigned_of b ≡ 0 → is_zero b ≡ true
zero_is b e = ap is_zero (unsigned_same b (replicate (length b) false) (sym (length-zeros (length b))) (e ∙ sym (unsigned_zeros (replicate (length b) false) (zeros_false (length b))))) ∙ zeros_zero (replicate (length b) false) (zeros_false (length b))

pub bool_unique : (form : BoolForm) (v w : Bool) (b c : Bits) → v ≡ w → IsBool canonical form v b → IsBool canonical form w c → b ≡ c
bool_unique form v w b c e h k =
    let same : is_zero b ≡ is_zero c = meaning_zero form.zero_is_false (is_zero b) (is_zero c) (sym h.meaning ∙ e ∙ k.meaning) in
    unsigned_same b c (h.size ∙ sym k.size) (go (cases_Bool (is_zero b)) same)
  where
    one : (d : Bits) → is_zero d ≡ false → unsigned_of d ≤ 1 → unsigned_of d ≡ 1
    one d e l = elim (cases_lt (unsigned_of d) 1) [ inl h ↦ absurd (both_ways (is_zero d) e (zero_is d (omega arith))) | inr h ↦ omega arith ]

    go : ((is_zero b ≡ true) ⊎ (is_zero b ≡ false)) → is_zero b ≡ is_zero c → unsigned_of b ≡ unsigned_of c
    go (inl t) s = unsigned_zeros b (zero_zeros b t) ∙ sym (unsigned_zeros c (zero_zeros c (sym s ∙ t)))
    go (inr f) s = one b f h.one ∙ sym (one c (sym s ∙ f) k.one)

-- ---- octets

abbrev pub AreOctets : List ℕ → Type 0
AreOctets os = AllByRecursion (λ o. o < 256) os

pub octets_back : (os : List ℕ) → AreOctets os → octets_of (bits_of os) ≡ os
octets_back os h = octets_of-bits_of os (All-from_recursion (λ o. o < 256) os h)

ascii_low : (s : List ℕ) → IsAscii s → AreOctets s
ascii_low [] h = tt
ascii_low (o ∷ s) h = (let x = h 0 in omega arith, ascii_low s (λ i. h (suc i)))

encode_low : (c : ℕ) → scalar c ≡ true → AreOctets (encode c)
unfolding encode
encode_low c h = go (nat_lt c 128) refl (nat_lt c 2048) refl (nat_lt c 65536) refl (scalar_cases c h)
  where
    low : (c < 55296) ⊎ ((57344 ≤ c) × (c < 1114112)) → c < 1114112
    low (inl h) = omega arith
    low (inr h) = h.1

    go : (x : Bool) → nat_lt c 128 ≡ x → (y : Bool) → nat_lt c 2048 ≡ y → (z : Bool) → nat_lt c 65536 ≡ z → ((c < 55296) ⊎ ((57344 ≤ c) × (c < 1114112)))
        → AreOctets (cond x (c ∷ []) (cond y ((192 + c / 64) ∷ (128 + c % 64) ∷ []) (cond z ((224 + c / 4096) ∷ (128 + (c / 64) % 64) ∷ (128 + c % 64) ∷ []) ((240 + c / 262144) ∷ (128 + (c / 4096) % 64) ∷ (128 + (c / 64) % 64) ∷ (128 + c % 64) ∷ []))))
    go true e y f z g h = let l = ltb-true c 128 e in (omega arith, tt)
    go false e true f z g h = let l = ltb-true c 2048 f in (omega arith, (omega arith, tt))
    go false e false f true g h = let l = ltb-true c 65536 g in (omega arith, (omega arith, (omega arith, tt)))
    go false e false f false g h = let l = low h in (omega arith, (omega arith, (omega arith, (omega arith, tt))))

encodes_low : (cs : List ℕ) → scalars cs ≡ true → AreOctets (encodes cs)
encodes_low [] h = tt
encodes_low (c ∷ cs) h = let p = and_parts (scalar c) (scalars cs) h in All-both (λ o. o < 256) (encode c) (encodes cs) (encode_low c p.0) (encodes_low cs p.1)

-- ASCII and UTF-8 are octets
pub coded_low : (ascii : Bool) (s : List ℕ) → IsCoded ascii s → AreOctets s
coded_low true s h = ascii_low s h
coded_low false s h = subst AreOctets h.1.1 (encodes_low h.0 h.1.0)

take_own : (c rest : Bits) → take (length c) (c ++ rest) ≡ c
take_own [] rest = refl
take_own (x ∷ c) rest = ap (λ y. x ∷ y) (take_own c rest)

-- so many bits of the octets that hold them
pub bits_back : (n : ℕ) (b : Bits) → length b ≡ n → take n (bits_of (octets_of b)) ≡ b
bits_back n b l = ap (take n) (bits_of-octets_of b) ∙ ap (λ m. take m (filled b)) (sym l) ∙ take_own b (replicate (8 * oct b - length b) false)

-- bits of one size are those that their octets hold
pub octets_same : (b c : Bits) → length b ≡ length c → octets_of b ≡ octets_of c → b ≡ c
octets_same b c l e = sym (bits_back (length c) b l) ∙ ap (λ os. take (length c) (bits_of os)) e ∙ bits_back (length c) c refl

-- ---- texts

before_low : (stop : ℕ) (os : List ℕ) → length (before_stop stop os) ≤ length os
before_low stop [] = omega arith
before_low stop (o ∷ os) = go (o == stop) (before_low stop os)
  where
    go : (b : Bool) → length (before_stop stop os) ≤ length os → length (cond b [] (o ∷ before_stop stop os)) ≤ suc (length os)
    go true ih = omega arith
    go false ih = omega arith

before_free : (stop : ℕ) (os : List ℕ) → Has (before_stop stop os) stop → ⊥
before_free stop [] h = none_has stop h
before_free stop (o ∷ os) h = go (o == stop) refl (before_free stop os)
  where
    go : (b : Bool) → (o == stop) ≡ b → (Has (before_stop stop os) stop → ⊥) → ⊥
    go true e ih = none_has stop (subst (λ l. Has l stop) (before_found stop o os (eqb-true o stop e)) h)
    go false e ih = let ne = eqb-false o stop e in ih (more_has o (before_stop stop os) stop ne (subst (λ l. Has l stop) (before_on stop o os ne) h))

-- filled up, the text is the same
filled_text : (n m stop : ℕ) (s : List ℕ) → length s ≤ n → (Has s stop → ⊥) → before_stop stop (take n (s ++ replicate m stop)) ≡ s
filled_text zero m stop [] h f = refl
filled_text (suc n) zero stop [] h f = refl
filled_text (suc n) (suc m) stop [] h f = before_found stop stop (take n (replicate m stop)) refl
filled_text zero m stop (x ∷ s) h f = absurd (omega arith)
filled_text (suc n) m stop (x ∷ s) h f =
    before_on stop x (take n (s ++ replicate m stop)) (λ e. f (record { before = []; after = s; is = ap (λ z. z ∷ s) e })) ∙ ap (λ l. x ∷ l) (filled_text n m stop s (omega arith) (λ k. f (later_has x s stop k)))

fill_low : (n m stop : ℕ) (s : List ℕ) → stop < 256 → AreOctets s → AreOctets (take n (s ++ replicate m stop))
fill_low zero m stop s h a = tt
fill_low (suc n) zero stop [] h a = tt
fill_low (suc n) (suc m) stop [] h a = (h, fill_low n m stop [] h tt)
fill_low (suc n) m stop (x ∷ s) h a = (a.0, fill_low n m stop s h a.1)

length-replicate : (m x : ℕ) → length (replicate m x) ≡ m
length-replicate zero x = refl
length-replicate (suc m) x = ap suc (length-replicate m x)

pub text_exists : (n : ℕ) (fixed ascii : Bool) (stop : ℕ) (size : IsTextSize n stop) (s : List ℕ) → TextFits (text_form n fixed ascii stop size) s → length s ≤ n → (c : Bits) × IsText canonical (text_form n fixed ascii stop size) s c
text_exists n true ascii stop size s fit short =
    let os = take n (s ++ replicate n stop) in
    let low = size.plain in
    let len : length os ≡ n = omega (arith, length-take n (s ++ replicate n stop), length-append s (replicate n stop), length-replicate n stop) in
    let back = octets_back os (fill_low n n stop s (omega arith) (coded_low ascii s fit.0)) in
    (bits_of os, record { size = length-bits_of os ∙ ap (λ m. 8 * m) len; value = sym (ap (before_stop stop) back ∙ filled_text n n stop s short fit.1); coded = fit.0; filler = back })
text_exists n false ascii stop size s fit short =
    let os = s ++ stop ∷ [] in
    let low = size.plain in
    let back = octets_back os (All-both (λ o. o < 256) s (stop ∷ []) (coded_low ascii s fit.0) (omega arith, tt)) in
    (bits_of os, record { size = length-bits_of os ∙ ap (λ m. 8 * m) (length-append s (stop ∷ [])); octets = back; short = short; coded = fit.0; free = fit.1 })

-- what is spelled fits its form
pub text_fits : (n : ℕ) (fixed ascii : Bool) (stop : ℕ) (size : IsTextSize n stop) (s : List ℕ) (b : Bits) → IsText any (text_form n fixed ascii stop size) s b → TextFits (text_form n fixed ascii stop size) s × (length s ≤ n)
text_fits n true ascii stop size s b h =
    ((h.coded, λ k. before_free stop (octets_of b) (subst (λ l. Has l stop) h.value k)), omega (arith, ap length h.value, before_low stop (octets_of b), ap length (octets_octs n b h.size), length_octs n b))
text_fits n false ascii stop size s b h = ((h.coded, h.free), h.short)

pub text_unique : (n : ℕ) (fixed ascii : Bool) (stop : ℕ) (size : IsTextSize n stop) (s r : List ℕ) (b c : Bits) → s ≡ r → IsText canonical (text_form n fixed ascii stop size) s b → IsText canonical (text_form n fixed ascii stop size) r c → b ≡ c
text_unique n true ascii stop size s r b c e h k = octets_same b c (h.size ∙ sym k.size) (h.filler ∙ ap (λ l. take n (l ++ replicate n stop)) e ∙ sym k.filler)
text_unique n false ascii stop size s r b c e h k = octets_same b c (h.size ∙ ap (λ l. 8 * (length l + 1)) e ∙ sym k.size) (h.octets ∙ ap (λ l. l ++ stop ∷ []) e ∙ sym k.octets)
