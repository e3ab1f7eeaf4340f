-- What a text of an attribute stands for is a value of the kind, and each value has a text.
use Rattle.std.proofs.Common.{◌≡◌, ℕ, zero, suc, ◌+◌, ◌-◌, ◌*◌, ◌/◌, ◌^◌, ◌<◌, ◌≤◌, ℤ, pos, negsuc, ◌≤ℤ◌, Bool, true, false, cond, List, [], ◌∷◌, length, get_or, take, drop, Option, Some, None, Result, Ok, Err, refl, sym, ap, subst, ◌∙◌, arith}
use Rattle.std.specs.Prelude.{◌&&◌, ◌||◌, nat_eq, nat_lt, nat_le, codes, is_ok, is_some, option_map, slice_get, IsTrue, ◌↔◌, not}
use Rattle.std.specs.Char.{is_ascii_digit, digit_value}
use Rattle.std.specs.Fmt.{decimal}
use Rattle.std.specs.Result.{result_ok}
use Rattle.std.specs.List.{All, list_any, prefix_len}
use Rattle.std.proofs.Math.Nat.{pow-le-pow_right}
use Rattle.std.proofs.lemmas.Bool.{and_parts, and_from, eqb-true, leb-true, le-leb, lt-ltb, ltb-true, false_from_ne_true}
use Rattle.std.proofs.lemmas.Fmt.{decimal_is_IsNumeral, length-decimal-le}
use Rattle.std.proofs.lemmas.Int.{ints}
use Rattle.std.proofs.lemmas.List.Elements.{All-get_or}
use Rattle.std.proofs.lemmas.Str.{digit_value_digit}
use Rattle.std.proofs.lemmas.Str.Parse.{digit_from_value}
use Rattle.std.specs.Str.Parse.{AllDigits, digits_value, digits_value_after}
use Rattle.hex.specs.Hex.{decode_of, encode_lower, IsBytes}
use Rattle.hex.specs.declared.error.FromHexError.{FromHexError}
use Rattle.hex.proofs.HexLemmas.{decode_of-encode_lower}
use Rattle.eds_base.specs.declared.spans.Span.{Span}
use Rattle.eds_base.specs.Numbers.{decimal_value, magnitude, magnitude_by, whole_number, flag_value}
use Rattle.eds_base.specs.Reading.{only, ◌>>=◌}
use Rattle.eds_base.specs.Spans.{IsWithin}
use Rattle.eds_bits.specs.declared.forms.Encoding.{Encoding}
use Rattle.eds_bits.specs.declared.forms.Encoding.TheVariants.{Unsigned, TwosComplement, SignMagnitude, OnesComplement, PackedBcd, Bcd}
use Rattle.eds_bits.specs.declared.forms.IntForm.{IntForm}
use Rattle.eds_bits.specs.declared.forms.TextForm.{TextForm}
use Rattle.eds_bits.specs.Bits.{octets_for}
use Rattle.eds_bits.specs.Encodings.{least_by, greatest_by}
use Rattle.eds_bits.specs.IntForms.{HasNumber}
use Rattle.eds_bits.specs.Scalars.{IsCoded}
use Rattle.eds_bits.proofs.OctetLaws.{octets_of_below}
use Rattle.eds_types.specs.declared.reason.PackReason.TheVariants as reason
use Rattle.eds_types.specs.declared.row.Kind.{Kind}
use Rattle.eds_types.specs.declared.row.Kind.TheVariants as kind
use Rattle.eds_types.specs.declared.row.TypeRow.{TypeRow}
use Rattle.eds_types.specs.Fields.{listed}
use Rattle.eds_types.specs.Packing.{IsFilled, most_bits, pack_fault_here}
use Rattle.eds_types.specs.PackedSizes.{Size, number_size, label_size, listed_size, truth_size, text_bits, text_fits, text_size, has_bits, is_filled, binary_size, packed_kind_size, packed_row_size, packed_size_within, packed_size, not_long}
use Rattle.eds_types.specs.Plain.{Plain, num, label, truth, text, bits}
use Rattle.eds_types.specs.Reading.{is_within, is_coded}
use Rattle.eds_types.specs.Rows.{Table, list_has}
use Rattle.eds_types.specs.Rules.{KindKeeps, IsValueOf}
use Rattle.eds_types.specs.Spelling.{BinHas}
use Rattle.eds_types.specs.TextValues.{number_value, truth_value, is_short, string_value, text_value_of, bits_in, octets_value, binary_value, TextsAreValues, TextsPack, ValuesHaveTexts}
use Rattle.eds_types.proofs.Binaries.{filled_length}
use Rattle.eds_types.proofs.PackedSizes.{fits_true, fits_from, filled_true, filled_from, has_true, has_is}
use Rattle.eds_types.proofs.ReadingTests.{within_from, within_in}
use Rattle.eds_types.proofs.ScalarReading.{coded_from, coded_in}

-- ---- what a text stands for is a value

only_is : (b : Bool) (x v : Plain) → only b x ≡ Some v → (b ≡ true) × (v ≡ x)
only_is true x v e = (refl, cc)
only_is false x v e = absurd cc

number_is : (spans : List Span) (o : Option ℤ) (v : Plain) → (o >>= λ n. only (is_within spans n) (num n)) ≡ Some v → (n : ℤ) × (v ≡ num n) × IsWithin spans n
number_is spans None v e = absurd cc
number_is spans (Some n) v e = let h = only_is (is_within spans n) (num n) v e in (n, h.1, within_from spans n h.0)

number_in : (spans : List Span) (o : Option ℤ) (v : Plain) → (o >>= λ n. only (is_within spans n) (num n)) ≡ Some v → (n : ℤ) × (v ≡ num n) × (is_within spans n ≡ true)
number_in spans None v e = absurd cc
number_in spans (Some n) v e = let h = only_is (is_within spans n) (num n) v e in (n, h.1, h.0)

-- the size of a label that is listed
listed_packs : (form : IntForm) (o : Option ℤ) → is_some o ≡ true → is_ok (not_long (listed_size form o)) ≡ true
listed_packs form None e = absurd cc
listed_packs form (Some n) e = ap (λ b. is_ok (cond b (Ok form.bits) (Err (pack_fault_here reason.TooLong)))) (le-leb form.bits most_bits (let few = (form.valid).few in omega arith))

-- the size of a text that is one of the form and not too long for it
text_size_is : (form : TextForm) (s : List ℕ) → text_fits form s ≡ true → length s ≤ form.length → text_size form (text s) ≡ Ok (text_bits form.fixed form.length (length s))
text_size_is form s fits few =
    ap (λ b. cond b (cond (nat_lt form.length (length s)) (Err (pack_fault_here reason.WrongSize)) (Ok (text_bits form.fixed form.length (length s)))) (Err (pack_fault_here reason.BadText))) fits
    ∙ ap (λ b. cond b (Err (pack_fault_here reason.WrongSize)) (Ok (text_bits form.fixed form.length (length s)))) (false_from_ne_true (nat_lt form.length (length s)) (λ e. let z = ltb-true form.length (length s) e in absurd (omega arith)))

-- a binary of n bits, or an open one of at most so many, has no more
bits_within : (n : ℕ) (free : Bool) (m : ℕ) → BinHas n free m → m ≤ n
bits_within n true m h = h.0
bits_within n false m h = omega (arith, h)

truth_is : (o : Option Bool) (v : Plain) → option_map truth o ≡ Some v → (b : Bool) × (v ≡ truth b)
truth_is None v e = absurd cc
truth_is (Some b) v e = (b, cc)

octets_in : (n : ℕ) (free : Bool) (r : Result (List ℕ) FromHexError) (v : Plain) → (result_ok r >>= octets_value n free) ≡ Some v → (m : ℕ) × (o : List ℕ) × (v ≡ bits m o) × ((has_bits n free m && is_filled m o) ≡ true)
octets_in n free (Err f) v e = absurd cc
octets_in n free (Ok o) v e =
    let m = bits_in n free o in
    let w = only_is (has_bits n free m && is_filled m o) (bits m o) v e in
    (m, o, w.1, w.0)

octets_are : (n : ℕ) (free : Bool) (r : Result (List ℕ) FromHexError) (v : Plain) → (result_ok r >>= octets_value n free) ≡ Some v → IsValueOf (kind.Bin n free) v
octets_are n free (Err e) v h = absurd cc
octets_are n free (Ok o) v h =
    let m = bits_in n free o in
    let w = only_is (has_bits n free m && is_filled m o) (bits m o) v h in
    let p = and_parts (has_bits n free m) (is_filled m o) w.0 in
    (m, o, w.1, has_is n free m p.0, filled_from m o p.1)

string_is : (form : TextForm) (s : List ℕ) (v : Plain) → string_value form s ≡ Some v → (v ≡ text s) × (text_fits form s ≡ true) × (nat_le (length s) form.length ≡ true) × (is_short form s ≡ true)
string_is form s v e =
    let h = only_is ((text_fits form s && nat_le (length s) form.length) && is_short form s) (text s) v e in
    let p = and_parts (text_fits form s && nat_le (length s) form.length) (is_short form s) h.0 in
    let q = and_parts (text_fits form s) (nat_le (length s) form.length) p.0 in
    (h.1, q.0, q.1, p.1)

pub texts_are_values : TextsAreValues
texts_are_values (kind.Int form spans) s v e = number_is spans (whole_number s) v e
texts_are_values (kind.Enum form listing) s v e = let h = only_is (is_some (listed listing s)) (label s) v e in (s, h.1, h.0)
texts_are_values (kind.Bool form) s v e = truth_is (flag_value s) v e
texts_are_values (kind.Str form) s v e =
    let h = string_is form s v e in
    (s, h.0, fits_from form s h.1, leb-true (length s) form.length h.2)
texts_are_values (kind.Bin n free) s v e = octets_are n free (decode_of s) v e
texts_are_values (kind.Arr item n) s v e = absurd cc
texts_are_values (kind.Con c) s v e = absurd cc

-- ---- tests

same_test : (b c : Bool) → (b ≡ true → c ≡ true) → (c ≡ true → b ≡ true) → b ≡ c
same_test true c f g = sym (f refl)
same_test false true f g = g refl
same_test false false f g = refl

pub within_test : (spans : List Span) (n m : ℤ) (b : Bool) → m ≡ n → (IsTrue b ↔ IsWithin spans m) → b ≡ is_within spans n
within_test spans n m b e h = same_test b (is_within spans m) (λ t. within_in spans m (h.0 t)) (λ t. h.1 (within_from spans m t)) ∙ ap (is_within spans) e

coded_test : (ascii : Bool) (s : List ℕ) (b : Bool) → (IsTrue b ↔ IsCoded ascii s) → b ≡ is_coded ascii s
coded_test ascii s b h = same_test b (is_coded ascii s) (λ e. coded_in ascii s (h.0 e)) (λ e. h.1 (coded_from ascii s e))

any_is_has : (xs : List ℕ) (x : ℕ) → list_any (λ y. nat_eq y x) xs ≡ list_has xs x
any_is_has [] x = refl
any_is_has (y ∷ ys) x = go (nat_eq y x) (any_is_has ys x)
  where
    go : (b : Bool) → list_any (λ z. nat_eq z x) ys ≡ list_has ys x → (b || list_any (λ z. nat_eq z x) ys) ≡ cond b true (list_has ys x)
    go true e = refl
    go false e = e

module _ (form : TextForm) (s : List ℕ) (coded stops : Bool) (is : IsTrue coded ↔ IsCoded form.ascii s) where
  pub fits_then : coded ≡ true → stops ≡ list_any (λ o. nat_eq o form.stop) s → not stops ≡ text_fits form s
  fits_then e h = ap not (h ∙ any_is_has s form.stop) ∙ ap (λ b. b && not (list_has s form.stop)) (sym (sym (coded_test form.ascii s coded is) ∙ e))

  pub fits_else : coded ≡ false → coded ≡ text_fits form s
  fits_else e = e ∙ ap (λ b. b && not (list_has s form.stop)) (sym (sym (coded_test form.ascii s coded is) ∙ e))

-- ---- numbers are spelled by their digits

is_digit : (c : ℕ) → digit_value c < 10 → is_ascii_digit c ≡ true
is_digit c h = let r = digit_from_value c h in and_from (nat_le 48 c) (nat_le c 57) (le-leb 48 c r.0) (le-leb c 57 r.1)

all_digits : (ds : List ℕ) → AllDigits 10 ds → prefix_len is_ascii_digit ds ≡ length ds
all_digits [] h = refl
all_digits (d ∷ ds) h = rw (is_digit d h.0, all_digits ds h.1) (omega arith)

same_number : (k : ℕ) (ds : List ℕ) → AllDigits 10 ds → decimal_value k ds ≡ digits_value_after 10 k ds
same_number k [] h = refl
same_number k (d ∷ ds) h =
    let e : 10 * k + (d - 48) ≡ k * 10 + digit_value d = omega (arith, digit_value_digit d (digit_from_value d h.0)) in
    ap (λ m. decimal_value m ds) e ∙ same_number (k * 10 + digit_value d) ds h.1

take_whole : (ds : List ℕ) → take (length ds) ds ≡ ds
take_whole [] = refl
take_whole (d ∷ ds) = ap (λ l. d ∷ l) (take_whole ds)

drop_whole : (ds : List ℕ) → drop (length ds) ds ≡ []
drop_whole [] = refl
drop_whole (d ∷ ds) = drop_whole ds

magnitude_is : (n : ℕ) (ds : List ℕ) → AllDigits 10 ds → 0 < length ds → length ds ≤ 20 → n < 2 ^ 64 → digits_value 10 ds ≡ n → magnitude ds ≡ Some n
magnitude_is n ds h some few small is =
    let value : decimal_value 0 ds ≡ n = same_number 0 ds h ∙ is in
    ap (λ m. magnitude_by m ds) (all_digits ds h) ∙ rw (lt-ltb 0 (length ds) some, le-leb (length ds) 20 few, drop_whole ds, take_whole ds, value, le-leb n (2 ^ 64) (omega arith)) refl

of_decimal : (n : ℕ) → n < 2 ^ 64 → magnitude (decimal n) ≡ Some n
of_decimal n h = let d = decimal_is_IsNumeral n h in magnitude_is n (decimal n) d.0.1 d.0.0 (length-decimal-le 20 n (omega arith) (omega arith) h) h d.1

apart : (m n : ℕ) → (m ≡ n → ⊥) → nat_eq m n ≡ false
apart m n ne = false_from_ne_true (nat_eq m n) (λ e. ne (eqb-true m n e))

plain_number : (n : ℕ) (ds : List ℕ) → AllDigits 10 ds → magnitude ds ≡ Some n → whole_number ds ≡ Some (pos n)
plain_number n [] h e = absurd cc
plain_number n (d ∷ ds) h e =
    let r = digit_from_value d h.0 in
    rw (apart d 43 (λ q. omega arith), apart d 45 (λ q. omega arith), e) refl

-- the digits of a number, behind a minus where it is below 0
abbrev text_of : ℤ → List ℕ
text_of (pos n) = decimal n
text_of (negsuc u) = 45 ∷ decimal (suc u)

abbrev IsSmall : ℤ → Type 0
IsSmall (pos n) = n < 2 ^ 64
IsSmall (negsuc u) = suc u < 2 ^ 64

reads_back : (n : ℤ) → IsSmall n → whole_number (text_of n) ≡ Some n
reads_back (pos n) h = plain_number n (decimal n) (decimal_is_IsNumeral n h).0.1 (of_decimal n h)
reads_back (negsuc u) h = rw (of_decimal (suc u) h) refl

two : (i : ℕ) → i ≤ 64 → 2 ^ i ≤ 2 ^ 64
two i h = pow-le-pow_right (omega arith) h

half : (i : ℕ) → i ≤ 63 → 2 ^ i ≤ 2 ^ 63
half i h = pow-le-pow_right (omega arith) h

ten : (i : ℕ) → i ≤ 16 → 10 ^ i ≤ 10 ^ 16
ten i h = pow-le-pow_right (omega arith) h

-- every number of a form is small
is_small : (e : Encoding) (k : ℕ) (n : ℤ) → 1 ≤ k → k ≤ 64 → least_by e k ≤ℤ n → n ≤ℤ greatest_by e k → IsSmall n
is_small Unsigned k (pos n) s l a b = omega (arith, ints, two k l, a, b)
is_small Unsigned k (negsuc u) s l a b = absurd (omega (arith, ints, a))
is_small TwosComplement k (pos n) s l a b = omega (arith, ints, two (k - 1) (omega arith), b)
is_small TwosComplement k (negsuc u) s l a b = omega (arith, ints, half (k - 1) (omega arith), a)
is_small SignMagnitude k (pos n) s l a b = omega (arith, ints, two (k - 1) (omega arith), b)
is_small SignMagnitude k (negsuc u) s l a b = omega (arith, ints, two (k - 1) (omega arith), a)
is_small OnesComplement k (pos n) s l a b = omega (arith, ints, two (k - 1) (omega arith), b)
is_small OnesComplement k (negsuc u) s l a b = omega (arith, ints, two (k - 1) (omega arith), a)
is_small PackedBcd k (pos n) s l a b = omega (arith, ints, ten (k / 4) (omega arith), b)
is_small PackedBcd k (negsuc u) s l a b = absurd (omega (arith, ints, a))
is_small Bcd k (pos n) s l a b = omega (arith, ints, ten (k / 8) (omega arith), b)
is_small Bcd k (negsuc u) s l a b = absurd (omega (arith, ints, a))

form_small : (form : IntForm) (n : ℤ) → HasNumber form n → IsSmall n
form_small form n h = is_small form.encoding form.bits n (form.valid).some (form.valid).few h.from_least h.to_greatest

-- ---- each value has a text

only_true : (b : Bool) (x : Plain) → b ≡ true → only b x ≡ Some x
only_true b x e = ap (λ c. only c x) e

are_bytes : (xs : List ℕ) → ((i : ℕ) → i < length xs → get_or xs i 0 < 256) → IsBytes xs
are_bytes [] h i = omega arith
are_bytes (x ∷ xs) h zero = h 0 (omega arith)
are_bytes (x ∷ xs) h (suc i) = are_bytes xs (λ j l. h (suc j) (omega arith)) i

-- the octets of a binary tell its number of bits
tells : (n : ℕ) (free : Bool) (m : ℕ) (o : List ℕ) → BinHas n free m → length o ≡ octets_for m → bits_in n free o ≡ m
tells n false m o h e = sym h
tells n true m o h e = let j = (h.1).1 in omega arith

number_text : (form : IntForm) (spans : List Span) (n : ℤ) → HasNumber form n → IsWithin spans n → number_value spans (text_of n) ≡ Some (num n)
number_text form spans n h w = ap (λ o. o >>= λ n. only (is_within spans n) (num n)) (reads_back n (form_small form n h)) ∙ only_true (is_within spans n) (num n) (within_in spans n w)

truth_text : (b : Bool) → (s : List ℕ) × (truth_value s ≡ Some (truth b))
truth_text true = (codes "true", refl)
truth_text false = (codes "false", refl)

binary_text : (n : ℕ) (free : Bool) (m : ℕ) (o : List ℕ) → BinHas n free m → IsFilled m o → binary_value n free (encode_lower o) ≡ Some (bits m o)
binary_text n free m o h f =
    let many = filled_length m o f in
    let same = tells n free m o h many in
    ap (λ r. result_ok r >>= octets_value n free) (decode_of-encode_lower o (are_bytes o (λ i l. All-get_or (λ x. x < 256) o i 0 l (subst (All (λ x. x < 256)) f.2 (octets_of_below f.0)))))
    ∙ ap (λ z. only (has_bits n free z && is_filled z o) (bits z o)) same
    ∙ only_true (has_bits n free m && is_filled m o) (bits m o) (and_from (has_bits n free m) (is_filled m o) (has_true n free m h) (filled_true m o f))

-- ---- what packs

-- the size of a value is that of its row's kind
packed_as : (t : Table) (id : ℕ) (row : TypeRow) (v : Plain) → slice_get t id ≡ Some row → packed_size t id v ≡ not_long (packed_kind_size t (packed_size_within 31 t) id row.kind v)
unfolding packed_size_within
packed_as t id row v e = ap (λ o. not_long (packed_row_size t (packed_size_within 31 t) id o v)) e

-- a size that is not too long
ok_within : (n : ℕ) → nat_le n most_bits ≡ true → is_ok (not_long (Ok n)) ≡ true
ok_within n e = ap (λ b. is_ok (cond b (Ok n) (Err (pack_fault_here reason.TooLong)))) e

form_within : (n : ℕ) → n ≤ 64 → is_ok (not_long (Ok n)) ≡ true
form_within n h = ok_within n (le-leb n most_bits (omega arith))

-- ---- what a text stands for packs

module _ (t : Table) (size : ℕ → Plain → Size) (id : ℕ) where
  kind_packs : (k : Kind) (s : List ℕ) (v : Plain) → KindKeeps k → text_value_of k s ≡ Some v → is_ok (not_long (packed_kind_size t size id k v)) ≡ true
  kind_packs (kind.Int form spans) s v keeps e =
      let h = number_in spans (whole_number s) v e in
      ap (λ w. is_ok (not_long (number_size form spans w))) h.1
      ∙ ap (λ b. is_ok (not_long (cond b (Ok form.bits) (Err (pack_fault_here reason.OutOfRange))))) h.2
      ∙ form_within form.bits (form.valid).few
  kind_packs (kind.Enum form listing) s v keeps e =
      let h = only_is (is_some (listed listing s)) (label s) v e in
      ap (λ w. is_ok (not_long (label_size form listing w))) h.1 ∙ listed_packs form (listed listing s) h.0
  kind_packs (kind.Bool form) s v keeps e =
      let h = truth_is (flag_value s) v e in
      ap (λ w. is_ok (not_long (truth_size form.bits w))) h.1 ∙ form_within form.bits form.few
  kind_packs (kind.Str form) s v keeps e =
      let h = string_is form s v e in
      ap (λ w. is_ok (not_long (text_size form w))) h.0 ∙ ap (λ r. is_ok (not_long r)) (text_size_is form s h.1 (leb-true (length s) form.length h.2)) ∙ ok_within (text_bits form.fixed form.length (length s)) h.3
  kind_packs (kind.Bin n free) s v keeps e =
      let h = octets_in n free (decode_of s) v e in
      ap (λ w. is_ok (not_long (binary_size n free w))) h.2
      ∙ ap (λ b. is_ok (not_long (cond b (Ok h.0) (Err (pack_fault_here reason.WrongSize))))) h.3
      ∙ ok_within h.0 (le-leb h.0 most_bits (let z = bits_within n free h.0 (has_is n free h.0 (and_parts (has_bits n free h.0) (is_filled h.0 h.1) h.3).0) in let w = keeps.1 in omega arith))
  kind_packs (kind.Arr item n) s v keeps e = absurd cc
  kind_packs (kind.Con c) s v keeps e = absurd cc

pub texts_pack : TextsPack
texts_pack t id row s v rules e h = ap is_ok (packed_as t id row v e) ∙ kind_packs t (packed_size_within 31 t) id row.kind s v (rules.kinds id row e) h

-- ---- each value that packs has a text

-- a text that packs is not too long
short_from : (form : TextForm) (s : List ℕ) → text_fits form s ≡ true → length s ≤ form.length → is_ok (not_long (text_size form (text s))) ≡ true → is_short form s ≡ true
short_from form s fits few e = short (nat_le (text_bits form.fixed form.length (length s)) most_bits) (ap (λ r. is_ok (not_long r)) (sym (text_size_is form s fits few)) ∙ e)
  where
    short : (b : Bool) → is_ok (cond b (Ok (text_bits form.fixed form.length (length s))) (Err (pack_fault_here reason.TooLong))) ≡ true → b ≡ true
    short true e = refl
    short false e = absurd cc

module _ (t : Table) (size : ℕ → Plain → Size) (id : ℕ) where
  kind_text : (k : Kind) (v : Plain) → KindKeeps k → IsValueOf k v → is_ok (not_long (packed_kind_size t size id k v)) ≡ true → (s : List ℕ) × (text_value_of k s ≡ Some v)
  kind_text (kind.Int form spans) v keeps h e = (text_of h.0, number_text form spans h.0 (keeps.of_form h.0 h.2) h.2 ∙ ap Some (sym h.1))
  kind_text (kind.Enum form listing) v keeps h e = (h.0, only_true (is_some (listed listing h.0)) (label h.0) h.2 ∙ ap Some (sym h.1))
  kind_text (kind.Bool form) v keeps h e = let t = truth_text h.0 in (t.0, t.1 ∙ ap Some (sym h.1))
  kind_text (kind.Str form) v keeps h e =
      let fits = fits_true form h.0 h.2 in
      let short = short_from form h.0 fits h.3 (ap (λ w. is_ok (not_long (text_size form w))) (sym h.1) ∙ e) in
      (h.0, only_true ((text_fits form h.0 && nat_le (length h.0) form.length) && is_short form h.0) (text h.0) (and_from (text_fits form h.0 && nat_le (length h.0) form.length) (is_short form h.0) (and_from (text_fits form h.0) (nat_le (length h.0) form.length) fits (le-leb (length h.0) form.length h.3)) short) ∙ ap Some (sym h.1))
  kind_text (kind.Bin n free) v keeps h e = (encode_lower h.1, binary_text n free h.0 h.1 h.3 h.4 ∙ ap Some (sym h.2))
  kind_text (kind.Arr item n) v keeps h e = absurd h
  kind_text (kind.Con c) v keeps h e = absurd h

pub values_have_texts : ValuesHaveTexts
values_have_texts t id row v rules e h p = kind_text t (packed_size_within 31 t) id row.kind v (rules.kinds id row e) h (ap is_ok (sym (packed_as t id row v e)) ∙ p)
