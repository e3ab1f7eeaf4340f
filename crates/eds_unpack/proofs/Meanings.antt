-- What operations make of bits is what the kinds of their types say.
use Rattle.std.proofs.Common.{◌≡◌, ℕ, ◌+◌, ◌-◌, ◌*◌, ◌/◌, ◌%◌, ◌^◌, ◌<◌, ◌≤◌, ℤ, pos, ◌-ℤ◌, ◌+ℤ◌, Bool, true, false, cond, eqb, not, List, [], ◌∷◌, ◌++◌, length, map, Option, Some, None, Ok, Err, refl, sym, ap, subst, ◌∙◌, arith, inl, inr}
use Rattle.std.specs.Prelude.{◌≤ℤ◌, Result, IfSome, slice_get, is_none, is_some}
use Rattle.std.specs.Bool.{OnTrue}
use Rattle.std.proofs.lemmas.Bool.{cases_lt, le-ltb, lt-ltb}
use Rattle.std.proofs.lemmas.Int.{ints}
use Rattle.std.proofs.lemmas.List.{map-append}
use Rattle.std.proofs.lemmas.Nat.{shr_below}
use Rattle.std.specs.Int.{w64, swap_bytes}
use Rattle.eds_base.specs.declared.fault.Fault.{Fault}
use Rattle.eds_base.specs.declared.fault.Reason.TheVariants.{OutOfRange}
use Rattle.eds_base.specs.declared.spans.Span.{Span}
use Rattle.eds_bits.specs.declared.forms.BoolForm.{BoolForm}
use Rattle.eds_bits.specs.declared.forms.ByteOrder.{ByteOrder}
use Rattle.eds_bits.specs.declared.forms.ByteOrder.TheVariants.{Big, Little}
use Rattle.eds_bits.specs.declared.forms.Encoding.TheVariants.{Unsigned, TwosComplement, OnesComplement, SignMagnitude}
use Rattle.eds_bits.specs.declared.forms.IntForm.{IntForm}
use Rattle.eds_bits.specs.Bits.{Bits, low_bits, unsigned_of}
use Rattle.eds_bits.specs.Encodings.{number_by, order_bits, ordered}
use Rattle.eds_bits.specs.IntForms.{number_of}
use Rattle.eds_bits.proofs.BitLaws.{length-low, low-unsigned, unsigned-lt, unsigned_small}
use Rattle.eds_bits.proofs.Groups.{little-swapped}
use Rattle.eds_bits.proofs.Patterns.{unsigned_pattern, twos_positive, twos_negative, ones_positive, ones_negative, magnitude_positive, magnitude_negative}
use Rattle.eds_codec.proofs.Booleans.{is_zero_number}
use Rattle.eds_types.specs.Failing.{fault_here}
use Rattle.eds_types.specs.declared.value.Value.{Value}
use Rattle.eds_types.specs.Plain.{Plain, plain, num, truth}
use Rattle.eds_types.specs.Reading.{is_within, ranged}
use Rattle.eds_types.proofs.ReadingTests.{within_in}
use Rattle.eds_base.specs.declared.ids.TypeId.{TypeId}
use Rattle.eds_types.specs.declared.row.Kind.{Kind}
use Rattle.eds_types.specs.declared.row.Kind.TheVariants as kind
use Rattle.eds_types.specs.declared.row.Part.{Part}
use Rattle.eds_types.specs.declared.row.Part.TheVariants as part
use Rattle.eds_types.specs.declared.row.TypeRow.{TypeRow}
use Rattle.eds_types.specs.Fields.{type_by}
use Rattle.eds_types.specs.Rows.{Table}
use Rattle.eds_types.specs.Sizes.{open_by, open_in}
use Rattle.eds_unpack.specs.declared.segment.Coding.{Coding}
use Rattle.eds_unpack.specs.declared.segment.Digits.{Digits}
use Rattle.eds_unpack.specs.declared.segment.Meaning.{Meaning}
use Rattle.eds_unpack.specs.declared.segment.Meaning.TheVariants as meaning
use Rattle.eds_unpack.specs.declared.segment.Numbers.{Numbers}
use Rattle.eds_unpack.specs.declared.segment.Operation.{Operation}
use Rattle.eds_unpack.specs.Segments.{scalar_bits, scalar_of, bits_in, value_in, in_order, from_half, signed, made, truth_by, decimal_by, Agrees, AgreesIn, AreDigits, AreNumbers, IsCoding, IsInDomain, IsOperation, IsOperationOf, IsPut, IsScalar, IsSure}
use Rattle.eds_unpack.specs.Straight.{is_straight_entry}

-- ---- numbers

signed_below : (down : Bool) (half less x : ℕ) → x < half → signed down half less x ≡ pos x
signed_below down half less x h = ap (λ b. cond b (pos x) (from_half down less x)) (lt-ltb x half h)

signed_above : (down : Bool) (half less x : ℕ) → half ≤ x → signed down half less x ≡ from_half down less x
signed_above down half less x h = ap (λ b. cond b (pos x) (from_half down less x)) (le-ltb x half h)

-- what a result says that computes it by cases
pub signed_is : (down : Bool) (half less x : ℕ) (z : ℤ) → x < half → z ≡ pos x → z ≡ signed down half less x
signed_is down half less x z h e = e ∙ sym (signed_below down half less x h)

pub unsigned_numbers : (n half less : ℕ) → half ≡ 2 ^ n → (x : ℕ) → x < 2 ^ n → number_by Unsigned (low_bits n x) ≡ Some (signed false half less x)
unsigned_numbers n half less e x h =
    let below : x < half = omega arith in
    unsigned_pattern n x (signed false half less x) h (sym (signed_below false half less x below))

pub twos_numbers : (n half less : ℕ) → 1 ≤ n → half ≡ 2 ^ (n - 1) → less ≡ 2 ^ n → (x : ℕ) → x < 2 ^ n → number_by TwosComplement (low_bits n x) ≡ Some (signed false half less x)
twos_numbers n half less some e f x h = elim (cases_lt x half) [
  | inl below ↦ let small : x < 2 ^ (n - 1) = omega arith in twos_positive n x (signed false half less x) some small (sym (signed_below false half less x below))
  | inr above ↦ let large : 2 ^ (n - 1) ≤ x = omega arith in twos_negative n x (signed false half less x) some large h (ap (λ m. pos x -ℤ pos m) (sym f) ∙ sym (signed_above false half less x above))
]

pub ones_numbers : (n half less : ℕ) → 1 ≤ n → half ≡ 2 ^ (n - 1) → less ≡ 2 ^ n - 1 → (x : ℕ) → x < 2 ^ n → number_by OnesComplement (low_bits n x) ≡ Some (signed false half less x)
ones_numbers n half less some e f x h = elim (cases_lt x half) [
  | inl below ↦ let small : x < 2 ^ (n - 1) = omega arith in ones_positive n x (signed false half less x) some small (sym (signed_below false half less x below))
  | inr above ↦ let large : 2 ^ (n - 1) ≤ x = omega arith in ones_negative n x (signed false half less x) some large h (ap (λ m. pos x -ℤ pos m) (sym f) ∙ sym (signed_above false half less x above))
]

pub magnitudes : (n half less : ℕ) → 1 ≤ n → half ≡ 2 ^ (n - 1) → less ≡ 2 ^ (n - 1) → (x : ℕ) → x < 2 ^ n → number_by SignMagnitude (low_bits n x) ≡ Some (signed true half less x)
magnitudes n half less some e f x h = elim (cases_lt x half) [
  | inl below ↦ let small : x < 2 ^ (n - 1) = omega arith in magnitude_positive n x (signed true half less x) some small (sym (signed_below true half less x below))
  | inr above ↦ let large : 2 ^ (n - 1) ≤ x = omega arith in magnitude_negative n x (signed true half less x) some large h (ap (λ m. pos m -ℤ pos x) (sym f) ∙ sym (signed_above true half less x above))
]

-- ---- the order of octets

module _ (n x : ℕ) (whole : n % 8 ≡ 0) (few : n ≤ 64) where
  turned_length : length (ordered Little (low_bits n x)) ≡ n
  turned_length = ap length (sym (little-swapped n x whole few)) ∙ length-low n (swap_bytes w64 x / 2 ^ (64 - n))

  turned_bits : low_bits n (unsigned_of (ordered Little (low_bits n x))) ≡ ordered Little (low_bits n x)
  turned_bits = ap (λ k. low_bits k (unsigned_of (ordered Little (low_bits n x)))) (sym turned_length) ∙ low-unsigned (ordered Little (low_bits n x))

  turned_small : unsigned_of (ordered Little (low_bits n x)) < 2 ^ n
  turned_small = subst (λ k. unsigned_of (ordered Little (low_bits n x)) < 2 ^ k) turned_length (unsigned-lt (ordered Little (low_bits n x)))

  swapped_small : swap_bytes w64 x < 2 ^ 64 → swap_bytes w64 x / 2 ^ (64 - n) < 2 ^ n
  swapped_small h = let all : n + (64 - n) ≡ 64 = omega arith in shr_below (swap_bytes w64 x) n (64 - n) (rw all h)

  -- the number with its octets in the other order
  pub swapped_is : (y : ℕ) → y ≡ swap_bytes w64 x → y < 2 ^ 64 → (y / 2 ^ (64 - n) ≡ unsigned_of (ordered Little (low_bits n x))) × (y / 2 ^ (64 - n) < 2 ^ n)
  swapped_is y e h =
      let small : swap_bytes w64 x / 2 ^ (64 - n) < 2 ^ n = swapped_small (subst (λ z. z < 2 ^ 64) e h) in
      let is : swap_bytes w64 x / 2 ^ (64 - n) ≡ unsigned_of (ordered Little (low_bits n x)) = sym (unsigned_small n (swap_bytes w64 x / 2 ^ (64 - n)) small) ∙ ap unsigned_of (little-swapped n x whole few) in
      (ap (λ z. z / 2 ^ (64 - n)) e ∙ is, subst (λ z. z / 2 ^ (64 - n) < 2 ^ n) (sym e) small)

in_order_small : (little : Bool) (n x : ℕ) → (little ≡ true → n % 8 ≡ 0) → n ≤ 64 → x < 2 ^ n → in_order little n x < 2 ^ n
in_order_small true n x whole few h = turned_small n x (whole refl) few
in_order_small false n x whole few h = h

in_order_bits : (little : Bool) (order : ByteOrder) (n x : ℕ) → (little ≡ true → order ≡ Little) → (little ≡ false → order ≡ Big) → (little ≡ true → n % 8 ≡ 0) → n ≤ 64 → ordered order (low_bits n x) ≡ low_bits n (in_order little n x)
in_order_bits true order n x l b whole few = ap (λ r. ordered r (low_bits n x)) (l refl) ∙ sym (turned_bits n x (whole refl) few)
in_order_bits false order n x l b whole few = ap (λ r. ordered r (low_bits n x)) (b refl)

-- ---- domains

pub one_interval : (spans : List Span) (s : Span) (low high : ℤ) → spans ≡ s ∷ [] → low ≡ s.low → high ≡ s.high → (n : ℤ) → low ≤ℤ n → n ≤ℤ high → is_within spans n ≡ true
one_interval spans s low high e p q n h k = ap (λ ss. is_within ss n) e ∙ within_in (s ∷ []) n (inl (subst (λ m. m ≤ℤ n) p h, subst (λ m. n ≤ℤ m) q k))

pub ranged_is : (spans : List Span) (o : Option ℤ) (n : ℤ) → o ≡ Some n → is_within spans n ≡ true → ranged spans o ≡ Ok (num n)
ranged_is spans o n e h = ap (ranged spans) e ∙ ap (λ b. cond b (Ok (num n)) (Err (fault_here OutOfRange))) h

pub codes : (form : IntForm) (r : Coding) → form.bits ≤ 62 → (r.little ≡ true → form.order ≡ Little) → (r.little ≡ false → form.order ≡ Big)
    → ((x : ℕ) → x < 2 ^ form.bits → number_by form.encoding (low_bits form.bits x) ≡ Some (signed r.down r.half r.less x)) → IsCoding (number_of form) form.bits r
codes form r few little big numbers =
    let small : form.bits ≤ 64 = omega arith in
    let whole = λ (e : r.little ≡ true). ap (λ order. form.bits % order_bits order) (sym (little e)) ∙ form.valid.whole_octets in
    record {
      few = few;
      whole = whole;
      numbers = λ x h. ap (number_by form.encoding) (in_order_bits r.little form.order form.bits x little big whole small) ∙ numbers (in_order r.little form.bits x) (in_order_small r.little form.bits x whole small h);
    }

pub number_agrees : (form : IntForm) (spans : List Span) (r : Numbers) → IsCoding (number_of form) form.bits r.coding → ((n : ℤ) → r.low ≤ℤ n → n ≤ℤ r.high → is_within spans n ≡ true) → AreNumbers (λ c. ranged spans (number_of form c)) form.bits r
number_agrees form spans r is within = record {
  few = is.few;
  whole = is.whole;
  numbers = λ x h domain. ranged_is spans (number_of form (low_bits form.bits x)) (made r.coding form.bits x) (is.numbers x h) (within (made r.coding form.bits x) domain.low domain.high);
}

pub digits_agree : (form : IntForm) (spans : List Span) (r : Digits) → form.bits ≡ r.digit_bits * r.digits → ((c : Bits) → number_of form c ≡ decimal_by r.digit_bits c) → ((n : ℤ) → r.low ≤ℤ n → n ≤ℤ r.high → is_within spans n ≡ true) → AreDigits (λ c. ranged spans (number_of form c)) form.bits r
digits_agree form spans r size numbers within = record {
  size = size;
  numbers = λ x d h is low high. ranged_is spans (number_of form (low_bits form.bits x)) d (numbers (low_bits form.bits x) ∙ is) (within d low high);
}

-- the numbers of an operation, whose row is there
pub in_row : (row : Option TypeRow) (n : ℕ) (r : Numbers) → AgreesIn row n (meaning.Number r) → AreNumbers (value_in row) n r
in_row None n r h = absurd h
in_row (Some row) n r h = h

-- and its decimal digits
pub digits_in_row : (row : Option TypeRow) (n : ℕ) (r : Digits) → AgreesIn row n (meaning.Digits r) → AreDigits (value_in row) n r
digits_in_row None n r h = absurd h
digits_in_row (Some row) n r h = h

-- ---- truth values

pub truth_agrees : (form : BoolForm) → Agrees (kind.Bool form) form.bits (meaning.Truth form.zero_is_false)
truth_agrees form = λ x h. ap (λ z. Ok (truth (cond z (not form.zero_is_false) form.zero_is_false))) (is_zero_number (low_bits form.bits x) ∙ ap (λ n. eqb n 0) (unsigned_small form.bits x h))

-- ---- what has a value whatever the bits

-- the bounds of a domain that has all numbers of n bits
pub record HasAll (r : Numbers) (n : ℕ) : Type 0 where
  pub from_zero : r.low ≤ℤ pos 0
  pub to_half : pos r.coding.half ≤ℤ (r.high +ℤ pos 1)
  pub from_least : r.coding.down ≡ false → r.low ≤ℤ (pos r.coding.half -ℤ pos r.coding.less)
  pub to_greatest : r.coding.down ≡ false → (pos (2 ^ n) -ℤ pos r.coding.less) ≤ℤ (r.high +ℤ pos 1)
  pub down_to_least : r.coding.down ≡ true → (r.low +ℤ pos (2 ^ n)) ≤ℤ (pos r.coding.less +ℤ pos 1)
  pub down_from_greatest : r.coding.down ≡ true → (pos r.coding.less -ℤ pos r.coding.half) ≤ℤ r.high

up_has : (half less n x : ℕ) (low high : ℤ) → low ≤ℤ (pos half -ℤ pos less) → (pos (2 ^ n) -ℤ pos less) ≤ℤ (high +ℤ pos 1) → half ≤ x → x < 2 ^ n → (low ≤ℤ (pos x -ℤ pos less)) × ((pos x -ℤ pos less) ≤ℤ high)
up_has half less n x low high h k above small = (omega (arith, ints), omega (arith, ints))

down_has : (half less n x : ℕ) (low high : ℤ) → (low +ℤ pos (2 ^ n)) ≤ℤ (pos less +ℤ pos 1) → (pos less -ℤ pos half) ≤ℤ high → half ≤ x → x < 2 ^ n → (low ≤ℤ (pos less -ℤ pos x)) × ((pos less -ℤ pos x) ≤ℤ high)
down_has half less n x low high h k above small = (omega (arith, ints), omega (arith, ints))

above_has : (down : Bool) (half less n x : ℕ) (low high : ℤ) → (down ≡ false → low ≤ℤ (pos half -ℤ pos less)) → (down ≡ false → (pos (2 ^ n) -ℤ pos less) ≤ℤ (high +ℤ pos 1)) → (down ≡ true → (low +ℤ pos (2 ^ n)) ≤ℤ (pos less +ℤ pos 1)) → (down ≡ true → (pos less -ℤ pos half) ≤ℤ high)
    → half ≤ x → x < 2 ^ n → (low ≤ℤ from_half down less x) × (from_half down less x ≤ℤ high)
above_has true half less n x low high a b c d above small = down_has half less n x low high (c refl) (d refl) above small
above_has false half less n x low high a b c d above small = up_has half less n x low high (a refl) (b refl) above small

below_has : (half x : ℕ) (low high : ℤ) → low ≤ℤ pos 0 → pos half ≤ℤ (high +ℤ pos 1) → x < half → (low ≤ℤ pos x) × (pos x ≤ℤ high)
below_has half x low high h k small = (omega (arith, ints), omega (arith, ints))

signed_domain : (r : Numbers) (n x : ℕ) → HasAll r n → x < 2 ^ n → IsInDomain r (signed r.coding.down r.coding.half r.coding.less x)
signed_domain r n x all small = elim (cases_lt x r.coding.half) [
  | inl h ↦
      let has = below_has r.coding.half x r.low r.high all.from_zero all.to_half h in
      subst (IsInDomain r) (sym (signed_below r.coding.down r.coding.half r.coding.less x h)) (record { low = has.0; high = has.1 })
  | inr h ↦
      let has = above_has r.coding.down r.coding.half r.coding.less n x r.low r.high all.from_least all.to_greatest all.down_to_least all.down_from_greatest h small in
      subst (IsInDomain r) (sym (signed_above r.coding.down r.coding.half r.coding.less x h)) (record { low = has.0; high = has.1 })
]

pub number_is_sure : (value : Bits → Result Plain Fault) (n : ℕ) (r : Numbers) → AreNumbers value n r → HasAll r n → IsSure value n
number_is_sure value n r are all =
    let few = are.few in
    let small : n ≤ 64 = omega arith in
    λ x h. (num (made r.coding n x), are.numbers x h (signed_domain r n (in_order r.coding.little n x) all (in_order_small r.coding.little n x are.whole small h)))

pub truth_is_sure : (value : Bits → Result Plain Fault) (n : ℕ) (zero_is_false : Bool) → ((x : ℕ) → x < 2 ^ n → value (low_bits n x) ≡ Ok (truth (truth_by zero_is_false x))) → IsSure value n
truth_is_sure value n zero_is_false agrees = λ x h. (truth (truth_by zero_is_false x), agrees x h)

-- ---- values that are put last

pub put_last : (found : Result Plain Fault) (old new : List Value) (x : Value) (v : Plain) → new ≡ old ++ x ∷ [] → plain x ≡ v → found ≡ Ok v → IsPut found old new
put_last found old new x v e p f = record { value = v; is = f; last = ap (map plain) e ∙ map-append plain old (x ∷ []) ∙ ap (λ w. map plain old ++ w ∷ []) p }

-- ---- operations

no_tail : (k : Kind) (n : ℕ) → scalar_bits k ≡ Some n → open_by k ≡ None
no_tail (kind.Int form spans) n e = refl
no_tail (kind.Enum form listing) n e = refl
no_tail (kind.Bool form) n e = refl
no_tail (kind.Str form) n e = refl
no_tail (kind.Bin m free) n e = absurd cc
no_tail (kind.Arr item m) n e = refl
no_tail (kind.Con c) n e = refl

-- a scalar is no open binary
scalar_entry : (t : Table) (p : Part) (name : List ℕ) (id : TypeId) (row : TypeRow) (n : ℕ) → p ≡ part.Plain name id → slice_get t id.0 ≡ Some row → scalar_bits row.kind ≡ Some n → is_straight_entry t p ≡ true
scalar_entry t p name id row n is e s = ap (is_straight_entry t) is ∙ ap (λ r. is_none (open_in r)) e ∙ ap is_none (no_tail row.kind n s)

-- the operation that was made is one of the type
pub operation_is : (t : Table) (id : TypeId) (row : TypeRow) (n : ℕ) (m : Meaning) (o : Option Operation) → slice_get t id.0 ≡ Some row → scalar_bits row.kind ≡ Some n → Agrees row.kind n m
    → IfSome o (λ x. x.id ≡ id) → IfSome o (λ x. x.bits ≡ n) → IfSome o (λ x. x.meaning ≡ m) → ((k : Kind) → Agrees k n m → IfSome o (λ x. x.sure ≡ true → IsSure (scalar_of k) n)) → IfSome o (IsOperation t)
operation_is t id row n m None e s g a b c f = tt
operation_is t id row n m (Some x) e s g a b c f =
    let here : AgreesIn (slice_get t id.0) n m = subst (λ (r : Option TypeRow). AgreesIn r n m) (sym e) g in
    let sure = λ (k : x.sure ≡ true). subst (λ (r : Option TypeRow). IsSure (value_in r) n) (sym e) (f row.kind g k) in
    let same : id.0 ≡ x.id.0 = ap (λ (i : TypeId). i.0) (sym a) in
    record {
      size = sym (ap (λ i. bits_in (slice_get t i)) same) ∙ ap bits_in e ∙ s ∙ ap Some (sym b);
      agrees = subst (λ i. AgreesIn (slice_get t i) x.bits x.meaning) same (subst (λ k. AgreesIn (slice_get t id.0) k x.meaning) (sym b) (subst (AgreesIn (slice_get t id.0) n) (sym c) here));
      sure = λ k. subst (λ i. IsSure (value_in (slice_get t i)) x.bits) same (subst (IsSure (value_in (slice_get t id.0))) (sym b) (sure k));
    }

-- an entry whose type has such bits has a value, and is no open binary
entry_by : (t : Table) (p : Part) (name : List ℕ) (id : TypeId) (row : Option TypeRow) (n : ℕ) → p ≡ part.Plain name id → slice_get t id.0 ≡ row → bits_in row ≡ Some n → is_straight_entry t p ≡ true
entry_by t p name id None n is e s = absurd cc
entry_by t p name id (Some row) n is e s = scalar_entry t p name id row n is e s

-- and that of an entry of the type
pub entry_operation : (t : Table) (p : Part) (name : List ℕ) (id : TypeId) (o : Option Operation) → p ≡ part.Plain name id → IfSome o (λ x. x.id ≡ id) → IfSome o (IsOperation t) → IfSome o (IsOperationOf t p)
entry_operation t p name id None is a op = tt
entry_operation t p name id (Some x) is a op =
    let same : id.0 ≡ x.id.0 = ap (λ (i : TypeId). i.0) (sym a) in
    record {
      entry = entry_by t p name id (slice_get t id.0) x.bits is refl (ap (λ i. bits_in (slice_get t i)) same ∙ op.size);
      typed = ap (λ q. type_by (Some q)) is ∙ ap Some same;
      is = op;
    }

-- the operation of a type at the first bit
pub scalar_is : (t : Table) (id : TypeId) (o : Option Operation) → IfSome o (λ x. x.id ≡ id) → IfSome o (λ x. x.at ≡ 0) → IfSome o (IsOperation t) → IfSome o (IsScalar t id.0)
scalar_is t id None a b is = tt
scalar_is t id (Some x) a b is = record { typed = ap (λ (i : TypeId). i.0) a; first = b; is = is }

pub on_true : {P : Type 0} (b : Bool) → OnTrue b P → b ≡ true → P
on_true true h e = h
on_true false h e = absurd cc

pub some_weaker : {A : Type 0} (P Q : A → Type 0) (o : Option A) → ((x : A) → P x → Q x) → IfSome o P → IfSome o Q
some_weaker P Q None f h = tt
some_weaker P Q (Some x) f h = f x h

pub some_has : {A : Type 0} (P : A → Type 0) (o : Option A) (b : Bool) → IfSome o P → b ≡ is_some o → b ≡ true → (x : A) × P x
some_has P None b h e t = absurd (cc (e, t))
some_has P (Some x) b h e t = (x, h)
