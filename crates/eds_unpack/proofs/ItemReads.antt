-- Items of a scalar type are read one right behind the other as the reading function reads them.
use Rattle.std.proofs.Common.{◌≡◌, ℕ, suc, ◌+◌, ◌*◌, ◌<◌, ◌≤◌, List, [], ◌∷◌, ◌++◌, length, map, get_or, take, drop, Some, Result, Ok, sym, ap, ap₂, subst, ◌∙◌, arith, length-drop}
use Rattle.std.specs.Prelude.{slice_get}
use Rattle.std.proofs.lemmas.List.{drop-drop, drop_more, length-map}
use Rattle.eds_base.specs.declared.fault.Fault.{Fault}
use Rattle.eds_base.specs.declared.fault.Step.TheVariants as step
use Rattle.eds_bits.specs.Bits.{Bits, bits_of, low_bits, unsigned_of}
use Rattle.eds_bits.proofs.OctetLaws.{take-bits_of, drop-bits_of, unsigned-bits_of_push}
use Rattle.eds_types.specs.declared.value.Value.{Value}
use Rattle.eds_types.specs.Plain.{Plain, plain}
use Rattle.eds_types.specs.Reading.{Read, ◌>>=◌, inside, read_items, read_within}
use Rattle.eds_types.specs.Rows.{Table}
use Rattle.eds_unpack.specs.Entries.{IsInner}
use Rattle.eds_unpack.specs.Items.{AreItems, ItemsReadAs}
use Rattle.eds_unpack.specs.declared.segment.Operation.{Operation}
use Rattle.eds_unpack.specs.Segments.{bits_in, value_in, IsPut, IsScalar, ScalarReadsAs}
use Rattle.eds_unpack.proofs.Numbers.{pattern}
use Rattle.eds_unpack.proofs.SegmentReads.{said, type_reads}

-- the number of an octet
pub octet_number : (os : List ℕ) (at n i o : ℕ) → n ≡ 8 → at ≡ 8 * i → i < length os → o ≡ get_or os i 0 → o < 256 → o ≡ unsigned_of (take n (drop at (bits_of os)))
octet_number os at n i o e f lt is small =
    let one : take 1 (drop i os) ≡ o ∷ [] = ap (take 1) (drop_more os i 0 lt) ∙ ap (λ x. x ∷ []) (sym is) in
    let push : unsigned_of (bits_of (o ∷ [])) ≡ 256 * 0 + o = unsigned-bits_of_push [] o small in
    let number : unsigned_of (bits_of (o ∷ [])) ≡ o = omega (arith, push) in
    sym (ap₂ (λ k p. unsigned_of (take k (drop p (bits_of os)))) e f ∙ ap (λ c. unsigned_of (take 8 c)) (drop-bits_of i os) ∙ ap unsigned_of (take-bits_of 1 (drop i os)) ∙ ap (λ c. unsigned_of (bits_of c)) one ∙ number)

-- ---- one item more

item_last : (value : Bits → Result Plain Fault) (n : ℕ) (b : Bits) (vs : List Plain) (v : Plain) → AreItems value n b vs → value (take n (drop (length vs * n) b)) ≡ Ok v → AreItems value n b (vs ++ v ∷ [])
item_last value n b [] v so h = let none : 0 ≡ length {A = Plain} [] * n = omega arith in (ap (λ k. value (take n (drop k b))) none ∙ h, tt)
item_last value n b (w ∷ vs) v so h =
    let place : drop (length vs * n) (drop n b) ≡ drop (length (w ∷ vs) * n) b = drop-drop (length vs * n) n b ∙ ap (λ k. drop k b) (omega arith) in
    (so.0, item_last value n (drop n b) vs v so.1 (ap (λ d. value (take n d)) place ∙ h))

-- the value of the number of the bits is put behind the values of those before them
pub items_more : (value : Bits → Result Plain Fault) (n at count x : ℕ) (b : Bits) (old new : List Value) → at ≡ count * n → length old ≡ count → at + n ≤ length b → x ≡ unsigned_of (take n (drop at b)) → IsPut (value (low_bits n x)) old new
    → AreItems value n b (map plain old) → AreItems value n b (map plain new)
items_more value n at count x b old new place size enough e put so =
    let few : n ≤ length (drop at b) = omega (arith, length-drop at b) in
    let here : length (map plain old) * n ≡ at = ap (λ k. k * n) (length-map old plain ∙ size) ∙ sym place in
    let found : value (take n (drop (length (map plain old) * n) b)) ≡ Ok put.value =
    ap (λ k. value (take n (drop k b))) here ∙ ap value (sym (pattern n (drop at b) few)) ∙ ap (λ y. value (low_bits n y)) (sym e) ∙ put.is in
    subst (AreItems value n b) (sym put.last) (item_last value n b (map plain old) put.value so found)

-- ---- all items

item_before : (read : Bits → Read Plain) (n j : ℕ) (b d e : Bits) (v : Plain) (vs : List Plain) → read b ≡ Ok (v, d) → read_items read n (j + 1) d ≡ Ok (vs, e) → read_items read (suc n) j b ≡ Ok (v ∷ vs, e)
unfolding read_items
item_before read n j b d e v vs h k = ap (λ r. inside (step.Item j) r >>= λ w. read_items read n (j + 1) w.1 >>= λ ws. Ok (w.0 ∷ ws.0, ws.1)) h ∙ ap (λ r. r >>= λ ws. Ok (v ∷ ws.0, ws.1)) k

module _ (t : Table) (n id m : ℕ) (inner : IsInner t n id) (size : bits_in (slice_get t id) ≡ Some m) where
  items_are_read : (j : ℕ) (b : Bits) (vs : List Plain) → length vs * m ≤ length b → AreItems (value_in (slice_get t id)) m b vs → read_items (read_within n t id) (length vs) j b ≡ Ok (vs, drop (length vs * m) b)
  unfolding read_items
  items_are_read j b [] enough so = let none : 0 ≡ length {A = Plain} [] * m = omega arith in ap (λ k. Ok ([], drop k b)) none
  items_are_read j b (v ∷ vs) enough so =
      let here : m ≤ length b = omega arith in
      let rest : length vs * m ≤ length (drop m b) = omega (arith, length-drop m b) in
      let place : drop (length vs * m) (drop m b) ≡ drop (length (v ∷ vs) * m) b = drop-drop (length vs * m) m b ∙ ap (λ k. drop k b) (omega arith) in
      let others : read_items (read_within n t id) (length vs) (j + 1) (drop m b) ≡ Ok (vs, drop (length (v ∷ vs) * m) b) = items_are_read (j + 1) (drop m b) vs rest so.1 ∙ ap (λ d. Ok (vs, d)) place in
      item_before (read_within n t id) (length vs) j b (drop m b) (drop (length (v ∷ vs) * m) b) v vs (type_reads t n id m b v inner size here so.0) others

pub items_read : (t : Table) (id m count : ℕ) (b d : Bits) (vs : List Value) → bits_in (slice_get t id) ≡ Some m → count * m ≤ length b → length vs ≡ count → AreItems (value_in (slice_get t id)) m b (map plain vs) → d ≡ drop (count * m) b → ItemsReadAs t id count b (map plain vs) d
items_read t id m count b d vs size enough l so e = λ n inner.
    let count_is : length (map plain vs) ≡ count = length-map vs plain ∙ l in
    ap (λ k. read_items (read_within n t id) k 0 b) (sym count_is) ∙ items_are_read t n id m inner size 0 b (map plain vs) (subst (λ k. k * m ≤ length b) (sym count_is) enough) so
    ∙ ap (λ k. Ok (map plain vs, drop (k * m) b)) count_is ∙ ap (λ c. Ok (map plain vs, c)) (sym e)

-- ---- one value

-- the bits of an operation at the first bit lie in eight octets
pub few_bits : (o : Operation) → o.at ≡ 0 → o.bits ≤ 64
few_bits o first = let start = o.start in let end = o.end in omega arith

-- the type of an operation at the first bit is read as the value of its bits
pub scalar_reads : (t : Table) (id : ℕ) (o : Operation) (x : ℕ) (b d : Bits) (v w : Plain) → IsScalar t id o → o.bits ≤ length b → x ≡ unsigned_of (take o.bits (drop o.at b)) → value_in (slice_get t o.id.0) (low_bits o.bits x) ≡ Ok w → v ≡ w → d ≡ drop o.bits b → ScalarReadsAs t id b v d
scalar_reads t id o x b d v w is enough e found same rest = λ n inner.
    let begun : o.at + o.bits ≤ length b = omega (arith, is.first) in
    let here : value_in (slice_get t o.id.0) (take o.bits b) ≡ Ok w = ap (λ k. value_in (slice_get t o.id.0) (take o.bits (drop k b))) (sym is.first) ∙ said t b o x w begun e found in
    let typed : o.id.0 ≡ id = is.typed in
    ap (λ i. read_within n t i b) (sym typed) ∙ type_reads t n o.id.0 o.bits b w (subst (IsInner t n) (sym typed) inner) (is.is).size enough here
    ∙ ap₂ (λ u c. Ok (u, c)) (sym same) (sym rest)
