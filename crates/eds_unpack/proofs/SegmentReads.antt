-- A container is read by its segment as the reading function reads it.
use Rattle.std.proofs.Common.{◌≡◌, ℕ, zero, suc, ◌+◌, ◌-◌, ◌^◌, ◌<◌, ◌≤◌, true, List, [], ◌∷◌, ◌++◌, length, map, get_or, take, drop, Option, Some, None, Result, Ok, refl, sym, ap, ap₂, subst, ◌∙◌, arith, ◌⊎◌, inl, inr, append_assoc, length-drop}
use Rattle.std.specs.Prelude.{slice_get}
use Rattle.std.specs.List.{All, AllByRecursion, AllZip, list_all}
use Rattle.std.proofs.Math.Seq.{take-append_seam, take-length}
use Rattle.std.proofs.lemmas.List.{append-nil, drop-drop, length-append, length-map, length-take, length-take-le, take-map, take_more}
use Rattle.std.proofs.lemmas.Bool.{and_parts}
use Rattle.std.proofs.lemmas.List.Elements.{All-from_recursion, All-get_or}
use Rattle.std.proofs.lemmas.Option.{slice_get_within}
use Rattle.eds_base.specs.declared.fault.Fault.{Fault}
use Rattle.eds_base.specs.declared.ids.TypeId.{TypeId}
use Rattle.eds_base.specs.declared.fault.Step.TheVariants as step
use Rattle.eds_bits.specs.Bits.{Bits, low_bits, unsigned_of}
use Rattle.eds_bits.specs.IntForms.{number_of}
use Rattle.eds_bits.specs.Reader.{bits_left}
use Rattle.eds_bits.proofs.BitLaws.{unsigned-lt}
use Rattle.eds_types.specs.declared.row.Kind.{Kind}
use Rattle.eds_types.specs.declared.row.Kind.TheVariants as kind
use Rattle.eds_types.specs.declared.row.Part.{Part}
use Rattle.eds_types.specs.declared.row.TypeRow.{TypeRow}
use Rattle.eds_types.specs.Fields.{field_at, values_of}
use Rattle.eds_types.specs.declared.value.Value.{Value}
use Rattle.eds_types.specs.Plain.{Plain, plain, truth, fields, plains_of}
use Rattle.eds_types.specs.Reading.{Read, ◌>>=◌, inside, advance, front, judged, judge, read_bits, ranged, named, truth_of, read_kind, read_row, read_within, read_entry, read_parts}
use Rattle.eds_types.specs.Rows.{Table, id_of, entries_of, placed_from, placed_entries}
use Rattle.eds_types.specs.Spelling.{Progress, started, with_value}
use Rattle.eds_unpack.specs.declared.progress.Reached.{Reached}
use Rattle.eds_unpack.specs.declared.segment.Operation.{Operation}
use Rattle.eds_unpack.specs.declared.segment.Segment.{Segment}
use Rattle.eds_unpack.specs.Courses.{AreHeld, MovesOn, fields_at, fields_of, parts_from, progress_of}
use Rattle.eds_unpack.specs.Entries.{IsInner, IsLow, PartIsRead, placed}
use Rattle.eds_unpack.specs.Segments.{scalar_bits, scalar_of, bits_in, value_in, IsOperation, IsOperationOf, AreOperationsOf, ArePut, HeadIsPut, IsHeadOf, IsSegmentOf, AreSegments, Says, HasValue, IsPut, ReadsAs, ReadsFirst, fields_from, with_fields}
use Rattle.eds_unpack.specs.Straight.{is_straight, is_straight_entry}
use Rattle.eds_unpack.proofs.Numbers.{bits_enough, pattern}
use Rattle.eds_unpack.proofs.OnReads.{drops}
use Rattle.eds_unpack.proofs.Reaches.{fields_append, front_more, parts_append}
use Rattle.eds_unpack.proofs.Steps.{entries_low}
use Rattle.eds_unpack.proofs.StraightReads.{IsStraightSoFar, entry_is, parts_step, straight_ends}

-- ---- scalars

pub judged_bits : (value : Bits → Result Plain Fault) (m n : ℕ) (b : Bits) (v : Plain) → m ≡ n → n ≤ length b → value (take n b) ≡ Ok v → judge value (read_bits m b) ≡ Ok (v, drop n b)
judged_bits value m n b v e h k = ap (λ i. judge value (read_bits i b)) e ∙ ap (judge value) (bits_enough n b h) ∙ ap (judged (drop n b)) k

row_reads : (t : Table) (read : ℕ → Bits → Read Plain) (id : ℕ) (row : Option TypeRow) (n : ℕ) (b : Bits) (v : Plain) → bits_in row ≡ Some n → n ≤ length b → value_in row (take n b) ≡ Ok v → read_row t read id row b ≡ Ok (v, drop n b)
row_reads t read id None n b v e h k = absurd cc
row_reads t read id (Some row) n b v e h k = go row.kind e k
  where
    go : (q : Kind) → scalar_bits q ≡ Some n → scalar_of q (take n b) ≡ Ok v → read_kind t read id q b ≡ Ok (v, drop n b)
    go (kind.Int form spans) e k = let m : form.bits ≡ n = cc in judged_bits (λ c. ranged spans (number_of form c)) form.bits n b v m h k
    go (kind.Enum form listing) e k = let m : form.bits ≡ n = cc in judged_bits (λ c. named listing (number_of form c)) form.bits n b v m h k
    go (kind.Bool form) e k = let m : form.bits ≡ n = cc in judged_bits (λ c. Ok (truth (truth_of form c))) form.bits n b v m h k
    go (kind.Str form) e k = absurd cc
    go (kind.Bin m free) e k = absurd cc
    go (kind.Arr item m) e k = absurd cc
    go (kind.Con c) e k = absurd cc

-- a scalar is read as the value of its bits
pub type_reads : (t : Table) (n id m : ℕ) (b : Bits) (v : Plain) → IsInner t n id → bits_in (slice_get t id) ≡ Some m → m ≤ length b → value_in (slice_get t id) (take m b) ≡ Ok v → read_within n t id b ≡ Ok (v, drop m b)
unfolding read_within
type_reads t zero id m b v inner e h k = let low = inner.low.low in absurd (omega arith)
type_reads t (suc n) id m b v inner e h k = row_reads t (read_within n t) id (slice_get t id) m b v e h k

-- the row of an operation is there
pub is_there : (t : Table) (id n : ℕ) → bits_in (slice_get t id) ≡ Some n → id < length t
is_there t id n e = go (slice_get t id) refl e
  where
    go : (row : Option TypeRow) → slice_get t id ≡ row → bits_in row ≡ Some n → id < length t
    go None f e = absurd cc
    go (Some row) f e = slice_get_within t id row f

-- what the number of an operation's bits says is what they say
pub said : (t : Table) (b : Bits) (o : Operation) (x : ℕ) (v : Plain) → o.at + o.bits ≤ length b → x ≡ unsigned_of (take o.bits (drop o.at b)) → value_in (slice_get t o.id.0) (low_bits o.bits x) ≡ Ok v → Says t b o v
said t b o x v h e k =
    let few : o.bits ≤ length (drop o.at b) = omega (arith, length-drop o.at b) in
    sym (ap (λ y. value_in (slice_get t o.id.0) (low_bits o.bits y)) e ∙ ap (value_in (slice_get t o.id.0)) (pattern o.bits (drop o.at b) few)) ∙ k

-- an operation of which all patterns have a value has one
pub sure_value : (t : Table) (b : Bits) (o : Operation) → IsOperation t o → o.sure ≡ true → o.at + o.bits ≤ length b → HasValue t b o
sure_value t b o is sure h =
    let few : o.bits ≤ length (drop o.at b) = omega (arith, length-drop o.at b) in
    let bound : unsigned_of (take o.bits (drop o.at b)) < 2 ^ o.bits = subst (λ k. unsigned_of (take o.bits (drop o.at b)) < 2 ^ k) (length-take-le o.bits (drop o.at b) few) (unsigned-lt (take o.bits (drop o.at b))) in
    let found = is.sure sure (unsigned_of (take o.bits (drop o.at b))) bound in
    (found.0, said t b o (unsigned_of (take o.bits (drop o.at b))) found.0 h refl found.1)

zip_more : {A B : Type 0} (R : A → B → Type 0) (xs : List A) (ys : List B) (x : A) (y : B) → AllZip R xs ys → R x y → AllZip R (xs ++ x ∷ []) (ys ++ y ∷ [])
zip_more R [] [] x y h r = (r, tt)
zip_more R [] (z ∷ ys) x y h r = absurd h
zip_more R (w ∷ xs) [] x y h r = absurd h
zip_more R (w ∷ xs) (z ∷ ys) x y h r = (h.0, zip_more R xs ys x y h.1 r)

-- no value yet
pub none_put : (t : Table) (b : Bits) (old new : List Value) → new ≡ old → ArePut t b [] old new
none_put t b old new e = record { values = []; said = tt; last = ap (map plain) e ∙ sym (append-nil (map plain old)) }

-- one operation more says its value
pub say_more : (t : Table) (b : Bits) (ops : List Operation) (i : ℕ) (o : Operation) (x : ℕ) (v : Plain) (vs : List Plain) → i < length ops → o ≡ get_or ops i o → All (λ (o : Operation). o.at + o.bits ≤ length b) ops → x ≡ unsigned_of (take o.bits (drop o.at b))
    → value_in (slice_get t o.id.0) (low_bits o.bits x) ≡ Ok v → AllZip (Says t b) (take i ops) vs → AllZip (Says t b) (take (i + 1) ops) (vs ++ v ∷ [])
say_more t b ops i o x v vs lt is within e found so =
    let here : o.at + o.bits ≤ length b = subst (λ (o : Operation). o.at + o.bits ≤ length b) (sym is) (All-get_or (λ (o : Operation). o.at + o.bits ≤ length b) ops i o lt within) in
    let grown : take (i + 1) ops ≡ take i ops ++ o ∷ [] = take_more ops i o lt ∙ ap (λ p. take i ops ++ p ∷ []) (sym is) in
    subst (λ os. AllZip (Says t b) os (vs ++ v ∷ [])) (sym grown) (zip_more (Says t b) (take i ops) vs o v so (said t b o x v here e found))

-- one value more is put
pub values_more : (t : Table) (b : Bits) (ops : List Operation) (i : ℕ) (o : Operation) (x : ℕ) (start old new : List Value) → i < length ops → o ≡ get_or ops i o → All (λ (o : Operation). o.at + o.bits ≤ length b) ops → x ≡ unsigned_of (take o.bits (drop o.at b))
    → IsPut (value_in (slice_get t o.id.0) (low_bits o.bits x)) old new → ArePut t b (take i ops) start old → ArePut t b (take (i + 1) ops) start new
values_more t b ops i o x start old new lt is within e put so =
    record {
      values = so.values ++ put.value ∷ [];
      said = say_more t b ops i o x put.value so.values lt is within e put.is so.said;
      last = put.last ∙ ap (λ vs. vs ++ put.value ∷ []) so.last ∙ append_assoc (map plain start) so.values (put.value ∷ []);
    }

-- the list is cut back to what it was
pub cut_back : (n : ℕ) (old xs ys : List Value) (vs : List Plain) → n ≡ length old → ys ≡ take n xs → map plain xs ≡ map plain old ++ vs → map plain ys ≡ map plain old
cut_back n old xs ys vs l e f =
    ap (map plain) e ∙ sym (take-map plain n xs) ∙ ap₂ take (l ∙ sym (length-map old plain)) f ∙ take-append_seam (map plain old) vs

-- ---- operations

runs_to : (t : Table) (at last : ℕ) (ps : List Part) (os : List Operation) → AreOperationsOf t at last ps os → at ≤ last
runs_to t at last [] [] h = omega arith
runs_to t at last [] (o ∷ os) h = absurd h
runs_to t at last (p ∷ ps) [] h = absurd h
runs_to t at last (p ∷ ps) (o ∷ os) h = let more = runs_to t (at + o.bits) last ps os h.2 in omega arith

are_operations : (t : Table) (at last : ℕ) (ps : List Part) (os : List Operation) → AreOperationsOf t at last ps os → AllByRecursion (IsOperation t) os
are_operations t at last [] [] h = tt
are_operations t at last [] (o ∷ os) h = absurd h
are_operations t at last (p ∷ ps) [] h = absurd h
are_operations t at last (p ∷ ps) (o ∷ os) h = ((h.1).is, are_operations t (at + o.bits) last ps os h.2)

are_within : (t : Table) (at last m : ℕ) (ps : List Part) (os : List Operation) → last ≤ m → AreOperationsOf t at last ps os → AllByRecursion (λ (o : Operation). o.at + o.bits ≤ m) os
are_within t at last m [] [] few h = tt
are_within t at last m [] (o ∷ os) few h = absurd h
are_within t at last m (p ∷ ps) [] few h = absurd h
are_within t at last m (p ∷ ps) (o ∷ os) few h =
    let place = h.0 in
    let more = runs_to t (at + o.bits) last ps os h.2 in
    (omega arith, are_within t (at + o.bits) last m ps os few h.2)

-- the operations of a segment, which are those of some entries

pub all_are : (t : Table) (ps : List Part) (s : Segment) → AreOperationsOf t 0 s.bits ps s.operations.items → All (IsOperation t) s.operations.items
all_are t ps s are = All-from_recursion (IsOperation t) s.operations.items (are_operations t 0 s.bits ps s.operations.items are)

pub all_within : (t : Table) (ps : List Part) (m : ℕ) (s : Segment) → s.bits ≤ m → AreOperationsOf t 0 s.bits ps s.operations.items → All (λ (o : Operation). o.at + o.bits ≤ m) s.operations.items
all_within t ps m s few are = All-from_recursion (λ (o : Operation). o.at + o.bits ≤ m) s.operations.items (are_within t 0 s.bits m ps s.operations.items few are)

pub each_is : (t : Table) (id : ℕ) (s : Segment) → IsSegmentOf t id s → All (IsOperation t) s.operations.items
each_is t id s is = all_are t (entries_of t id) s is.operations

pub each_within : (t : Table) (id m : ℕ) (s : Segment) → s.bits ≤ m → IsSegmentOf t id s → All (λ (o : Operation). o.at + o.bits ≤ m) s.operations.items
each_within t id m s few is = all_within t (entries_of t id) m s few is.operations

as_many : (t : Table) (at last : ℕ) (ps : List Part) (os : List Operation) → AreOperationsOf t at last ps os → length ps ≡ length os
as_many t at last [] [] h = refl
as_many t at last [] (o ∷ os) h = absurd h
as_many t at last (p ∷ ps) [] h = absurd h
as_many t at last (p ∷ ps) (o ∷ os) h = ap suc (as_many t (at + o.bits) last ps os h.2)

-- there are no more operations than entries
pub no_more : (t : Table) (id : ℕ) (s : Segment) → IsHeadOf t id s → length s.operations.items ≤ length (entries_of t id)
no_more t id s is =
    let same = as_many t 0 s.bits (take (length s.operations.items) (entries_of t id)) s.operations.items is.operations in
    omega (arith, same, length-take (length s.operations.items) (entries_of t id))

-- the segment that was made of a container's first entries
pub head_is : (t : Table) (id : ℕ) (ps : List Part) (s : Segment) → ps ≡ entries_of t id → AreOperationsOf t 0 s.bits (take (length s.operations.items) ps) s.operations.items → (s.whole ≡ true → (length s.operations.items ≡ length ps) × (is_straight t id ≡ true)) → IsHeadOf t id s
head_is t id ps s e are whole = record {
  operations = subst (λ qs. AreOperationsOf t 0 s.bits (take (length s.operations.items) qs) s.operations.items) e are;
  whole = λ w. record {
    straight = (whole w).1;
    operations = subst (λ qs. AreOperationsOf t 0 s.bits qs s.operations.items) (ap (λ m. take m ps) (whole w).0 ∙ take-length ps ∙ e) are;
  };
}

-- one operation more
pub operations_more : (t : Table) (at last : ℕ) (ps : List Part) (os : List Operation) (p : Part) (o : Operation) → AreOperationsOf t at last ps os → o.at ≡ last → IsOperationOf t p o → AreOperationsOf t at (last + o.bits) (ps ++ p ∷ []) (os ++ o ∷ [])
operations_more t at last [] [] p o h e is = (e ∙ sym h, is, ap (λ k. k + o.bits) h)
operations_more t at last [] (x ∷ os) p o h e is = absurd h
operations_more t at last (q ∷ ps) [] p o h e is = absurd h
operations_more t at last (q ∷ ps) (x ∷ os) p o h e is = (h.0, h.1, operations_more t (at + x.bits) last ps os p o h.2 e is)

-- ---- segments

pub no_segments : (t : Table) → AreSegments t []
no_segments t = λ id s e. absurd cc

last_place : {A : Type 0} (xs : List A) (x y : A) (i : ℕ) → slice_get (xs ++ x ∷ []) i ≡ Some y → (slice_get xs i ≡ Some y) ⊎ ((i ≡ length xs) × (x ≡ y))
last_place [] x y zero e = inr (refl, cc)
last_place [] x y (suc i) e = absurd cc
last_place (z ∷ xs) x y zero e = inl e
last_place (z ∷ xs) x y (suc i) e = elim (last_place xs x y i e) [ inl h ↦ inl h | inr h ↦ inr (ap suc h.0, h.1) ]

-- what the next type has, if it has something
pub one_more : {A : Type 0} (Is : ℕ → A → Type 0) (each : List (Option A)) (o : Option A) (number : ℕ) → ((id : ℕ) (s : A) → slice_get each id ≡ Some (Some s) → Is id s) → length each ≡ number → ((s : A) → o ≡ Some s → Is number s) → (id : ℕ) (s : A) → slice_get (each ++ o ∷ []) id ≡ Some (Some s) → Is id s
one_more Is each o number are l is id s e = elim (last_place each o (Some s) id e) [
  | inl h ↦ are id s h
  | inr h ↦ subst (λ k. Is k s) (sym (h.0 ∙ l)) (is s h.1)
]

-- ---- entries

parts_first : (P : Part → Type 0) (k : ℕ) (ps : List Part) → AllByRecursion P ps → AllByRecursion P (take k ps)
parts_first P zero ps h = tt
parts_first P (suc k) [] h = tt
parts_first P (suc k) (p ∷ ps) h = (h.0, parts_first P k ps h.1)

pub parts_behind : (P : Part → Type 0) (k : ℕ) (ps : List Part) → AllByRecursion P ps → AllByRecursion P (drop k ps)
parts_behind P zero ps h = h
parts_behind P (suc k) [] h = tt
parts_behind P (suc k) (p ∷ ps) h = parts_behind P k ps h.1

pub straight_behind : (t : Table) (k : ℕ) (ps : List Part) → list_all (is_straight_entry t) ps ≡ true → list_all (is_straight_entry t) (drop k ps) ≡ true
straight_behind t zero ps h = h
straight_behind t (suc k) [] h = h
straight_behind t (suc k) (p ∷ ps) h = straight_behind t k ps (and_parts (is_straight_entry t p) (list_all (is_straight_entry t) ps) h).1

no_front : (d : Bits) → front d d ≡ []
no_front d = let none : length d - length d ≡ 0 = omega arith in ap (λ k. take k d) none

-- entries of which these are the operations, in the bits of the container
module _ (t : Table) (n y : ℕ) (b : Bits) (last : ℕ) (enough : last ≤ length b) where
  no_parts : (s : Progress) (d : Bits) → read_parts t (read_within n t) [] s d ≡ Ok (s, d)
  unfolding read_parts
  no_parts s d = refl

  to_last : (at : ℕ) → at ≤ last → MovesOn (drop at b) (drop last b)
  to_last at le =
      let all : at + (last - at) ≡ last = omega arith in
      subst (MovesOn (drop at b)) (drop-drop (last - at) at b ∙ ap (λ k. drop k b) all) (drops (last - at) (drop at b))

  entries_read : (ps : List Part) (os : List Operation) (vs : List Plain) (s : Progress) (place at : ℕ) → AllByRecursion (PartIsRead t n) ps → AreOperationsOf t at last ps os → AllZip (Says t b) os vs
      → read_parts t (read_within n t) (placed_from y place ps) s (drop at b) ≡ Ok (with_fields s (fields_from y place vs) (front (drop at b) (drop last b)), drop last b)
  entries_read [] [] [] s place at low are says =
      no_parts s (drop at b)
      ∙ ap₂ (λ fs c. Ok (record { fields = fs; before = c; octets = s.octets }, drop at b)) (sym (append-nil s.fields)) (sym (ap (λ c. s.before ++ c) (no_front (drop at b)) ∙ append-nil s.before))
      ∙ ap (λ k. Ok (with_fields s [] (front (drop at b) (drop k b)), drop k b)) are
  entries_read [] [] (v ∷ vs) s place at low are says = absurd says
  entries_read [] (o ∷ os) vs s place at low are says = absurd are
  entries_read (p ∷ ps) [] vs s place at low are says = absurd are
  entries_read (p ∷ ps) (o ∷ os) [] s place at low are says = absurd says
  entries_read (p ∷ ps) (o ∷ os) (v ∷ vs) s place at low are says =
      let more = runs_to t (at + o.bits) last ps os are.2 in
      let few : o.bits ≤ length (drop at b) = omega (arith, length-drop at b) in
      let here : value_in (slice_get t o.id.0) (take o.bits (drop at b)) ≡ Ok v = subst (λ k. value_in (slice_get t o.id.0) (take o.bits (drop k b)) ≡ Ok v) are.0 says.0 in
      let reads : read_within n t o.id.0 (drop at b) ≡ Ok (v, drop (at + o.bits) b) = type_reads t n o.id.0 o.bits (drop at b) v ((low.0).inner o.id.0 (are.1).typed) ((are.1).is).size few here ∙ ap (λ d. Ok (v, d)) (drop-drop o.bits at b) in
      let next : MovesOn (drop at b) (drop (at + o.bits) b) = subst (MovesOn (drop at b)) (drop-drop o.bits at b) (drops o.bits (drop at b)) in
      let one : read_entry t (read_within n t) s (placed y place p) (drop at b) ≡ Ok (with_fields s (field_at y place v ∷ []) (front (drop at b) (drop (at + o.bits) b)), drop (at + o.bits) b) =
      entry_is t (read_within n t) y place s (drop at b) p o.id.0 (are.1).entry (are.1).typed
      ∙ ap (λ r. inside (step.Part (id_of y) place) (advance (with_value s (placed y place p)) (drop at b) r)) reads
      in
      parts_step t (read_within n t) y place s (drop at b) p ps
      ∙ ap (λ r. r >>= λ u. read_parts t (read_within n t) (placed_from y (place + 1) ps) u.0 u.1) one
      ∙ entries_read ps os vs (with_fields s (field_at y place v ∷ []) (front (drop at b) (drop (at + o.bits) b))) (place + 1) (at + o.bits) low.1 are.2 says.1
      ∙ ap₂ (λ fs c. Ok (record { fields = fs; before = c; octets = s.octets }, drop last b))
      (append_assoc s.fields (field_at y place v ∷ []) (fields_from y (place + 1) vs))
      (append_assoc s.before (front (drop at b) (drop (at + o.bits) b)) (front (drop (at + o.bits) b) (drop last b)) ∙ ap (λ c. s.before ++ c) (front_more (drop at b) (drop (at + o.bits) b) (drop last b) next (to_last (at + o.bits) more)))

values_from : (y i : ℕ) (vs : List Plain) → values_of (fields_from y i vs) ≡ vs
values_from y i [] = refl
values_from y i (v ∷ vs) = ap (λ us. v ∷ us) (values_from y (i + 1) vs)

-- ---- the first entries

pub as_many_values : {A B : Type 0} (R : A → B → Type 0) (xs : List A) (ys : List B) → AllZip R xs ys → length ys ≡ length xs
as_many_values R [] [] h = refl
as_many_values R [] (y ∷ ys) h = absurd h
as_many_values R (x ∷ xs) [] h = absurd h
as_many_values R (x ∷ xs) (y ∷ ys) h = ap suc (as_many_values R xs ys h.1)

-- the segment of a container's first entries tells their values
pub head_put : (t : Table) (id k : ℕ) (s : Segment) (b d : Bits) (old new : List Value) → IsHeadOf t id s → s.bits ≤ length b → ArePut t b s.operations.items old new → k ≡ length s.operations.items → d ≡ drop s.bits b → HeadIsPut t id k b old new d
head_put t id k s b d old new is enough put l e = record {
  values = put.values;
  many = as_many_values (Says t b) s.operations.items put.values put.said ∙ sym l;
  last = put.last;
  begins = λ n u low.
      let are = subst (λ k. AreOperationsOf t 0 s.bits (take k (entries_of t id)) s.operations.items) (sym (as_many_values (Says t b) s.operations.items put.values put.said)) is.operations in
      entries_read t n id b s.bits enough (take (length put.values) (entries_of t id)) s.operations.items put.values u 0 0 (parts_first (PartIsRead t n) (length put.values) (entries_of t id) (entries_low t n id low)) are put.said
      ∙ ap (λ c. Ok (with_fields u (fields_from id 0 put.values) (front b c), c)) (sym e);
}

pub no_head : (t : Table) (id : ℕ) (b : Bits) (old new : List Value) → map plain new ≡ map plain old → HeadIsPut t id 0 b old new b
no_head t id b old new e = record {
  values = [];
  many = refl;
  last = e ∙ sym (append-nil (map plain old));
  begins = λ n s low.
      no_parts t n id b 0 (omega arith) s b
      ∙ ap₂ (λ fs c. Ok (record { fields = fs; before = c; octets = s.octets }, b)) (sym (append-nil s.fields)) (sym (ap (λ c. s.before ++ c) (no_front b) ∙ append-nil s.before));
}

parts_more : (y : TypeId) (i k : ℕ) → parts_from y i (suc k) ≡ parts_from y i k ++ (y, i + k) ∷ []
parts_more y i zero = let e : i ≡ i + 0 = omega arith in ap (λ j. (y, j) ∷ []) e
parts_more y i (suc k) = let e : i + 1 + k ≡ i + suc k = omega arith in ap (λ ps. (y, i) ∷ ps) (parts_more y (i + 1) k ∙ ap (λ j. parts_from y (i + 1) k ++ (y, j) ∷ []) e)

-- one part more of those from the first on
pub first_parts_more : (y : TypeId) (k : ℕ) → parts_from y 0 (k + 1) ≡ parts_from y 0 k ++ (y, k) ∷ []
first_parts_more y k =
    let next : k + 1 ≡ suc k = omega arith in
    let last : 0 + k ≡ k = omega arith in
    ap (parts_from y 0) next ∙ parts_more y 0 k ∙ ap (λ j. parts_from y 0 k ++ (y, j) ∷ []) last

parts_many : (y : TypeId) (i k : ℕ) → length (parts_from y i k) ≡ k
parts_many y i zero = refl
parts_many y i (suc k) = ap suc (parts_many y (i + 1) k)

fields_first : (y : TypeId) (i k : ℕ) (vs : List Plain) → length vs ≡ k → fields_at (parts_from y i k) vs ≡ fields_from y.0 i vs
fields_first y i zero [] l = refl
fields_first y i zero (v ∷ vs) l = absurd cc
fields_first y i (suc k) [] l = absurd cc
fields_first y i (suc k) (v ∷ vs) l = ap (λ fs. field_at y.0 i v ∷ fs) (fields_first y (i + 1) k vs (omega arith))

-- the values of the first entries are kept with their parts
module _ (t : Table) (y : TypeId) (k : ℕ) (r u : Reached) (b d : Bits) (put : HeadIsPut t y.0 k b r.fields.values.items u.fields.values.items d) (parts : u.fields.parts.items ≡ r.fields.parts.items ++ parts_from y 0 k) (held : AreHeld r.fields) where
  pub head_held : AreHeld u.fields
  head_held = omega (arith, held, put.many, parts_many y 0 k, ap length parts, length-append r.fields.parts.items (parts_from y 0 k), ap length put.last, length-append (map plain r.fields.values.items) put.values, length-map r.fields.values.items plain, length-map u.fields.values.items plain)

  head_fields : fields_of u.fields ≡ fields_of r.fields ++ fields_from y.0 0 put.values
  head_fields =
      let long : length r.fields.parts.items ≡ length (map plain r.fields.values.items) = omega (arith, held, length-map r.fields.values.items plain) in
      ap₂ fields_at parts put.last ∙ fields_append r.fields.parts.items (parts_from y 0 k) (map plain r.fields.values.items) put.values long
      ∙ ap (λ fs. fields_of r.fields ++ fs) (fields_first y 0 k put.values put.many)

  pub head_reads : MovesOn (bits_left r.start) b → MovesOn b d → u.octets ≡ r.octets → u.start ≡ r.start → ReadsFirst t y.0 k (progress_of r b) b (progress_of u d) d
  head_reads on next o g = λ n low.
      ap (λ j. read_parts t (read_within n t) (placed_from y.0 0 (take j (entries_of t y.0))) (progress_of r b) b) (sym put.many)
      ∙ put.begins n (progress_of r b) low
      ∙ ap₂ (λ fs c. Ok (record { fields = fs; before = c; octets = r.octets }, d)) (sym head_fields) (front_more (bits_left r.start) b d on next)
      ∙ ap₂ (λ x y. Ok (record { fields = fields_of u.fields; before = front (bits_left x) d; octets = y }, d)) (sym g) (sym o)

placed_split : (y i k : ℕ) (ps : List Part) → placed_from y i ps ≡ placed_from y i (take k ps) ++ placed_from y (i + k) (drop k ps)
placed_split y i zero ps = ap (λ m. placed_from y m ps) (omega arith)
placed_split y i (suc k) [] = refl
placed_split y i (suc k) (p ∷ ps) = ap (λ qs. placed y i p ∷ qs) (placed_split y (i + 1) k ps ∙ ap (λ m. placed_from y (i + 1) (take k ps) ++ placed_from y m (drop k ps)) (omega arith))

-- the slice of the parts behind the first ones
pub slice_behind : (k : ℕ) (ps : List Part) → take (length ps - k) (drop k ps) ≡ drop k ps
slice_behind k ps =
    let long : length ps - k ≡ length (drop k ps) = omega (arith, length-drop k ps) in
    ap (λ j. take j (drop k ps)) long ∙ take-length (drop k ps)

-- reading goes on behind the first entries
pub head_goes : (t : Table) (n id k : ℕ) (s u : Progress) (b d : Bits) (rest : List Part) → IsLow t (n + 1) id → rest ≡ drop k (entries_of t id) → ReadsFirst t id k s b u d → read_parts t (read_within n t) (placed_entries t id) s b ≡ read_parts t (read_within n t) (placed_from id k rest) u d
head_goes t n id k s u b d rest low e reads =
    ap (λ ps. read_parts t (read_within n t) ps s b) (placed_split id 0 k (entries_of t id) ∙ ap (λ m. placed_from id 0 (take k (entries_of t id)) ++ placed_from id m (drop k (entries_of t id))) (omega arith))
    ∙ parts_append t (read_within n t) (placed_from id 0 (take k (entries_of t id))) (placed_from id k (drop k (entries_of t id))) s b
    ∙ ap (λ r. r >>= λ v. read_parts t (read_within n t) (placed_from id k (drop k (entries_of t id))) v.0 v.1) (reads n low)
    ∙ ap (λ ps. read_parts t (read_within n t) (placed_from id k ps) u d) (sym e)

-- a container that is read straight begins so
pub head_straight : (t : Table) (n id k : ℕ) (b d : Bits) (rest : List Part) (old new : List Value) → old ≡ [] → IsLow t (n + 1) id → HeadIsPut t id k b old new d → rest ≡ drop k (entries_of t id) → IsStraightSoFar t (read_within n t) id b k rest (map plain new) d
head_straight t n id k b d rest old new none low put e =
    let all : map plain new ≡ put.values = put.last ∙ ap (λ xs. map plain xs ++ put.values) none in
    record {
      s = record { fields = fields_from id 0 put.values; before = front b d; octets = None };
      values = values_from id 0 put.values ∙ sym all;
      octets = refl;
      reads = sym (head_goes t n id k started (record { fields = fields_from id 0 put.values; before = front b d; octets = None }) b d rest low e (λ m h. ap (λ j. read_parts t (read_within m t) (placed_from id 0 (take j (entries_of t id))) started b) (sym put.many) ∙ put.begins m started h));
    }

-- ---- the container

pub segment_reads : (t : Table) (id : ℕ) (s : Segment) (b : Bits) (vs : List Plain) → IsSegmentOf t id s → s.bits ≤ length b → AllZip (Says t b) s.operations.items vs → ReadsAs t id b (fields id (plains_of vs)) (drop s.bits b)
segment_reads t id s b vs is enough says = λ n low.
    let done = entries_read t n id b s.bits enough (entries_of t id) s.operations.items vs started 0 0 (entries_low t n id low) is.operations says in
    straight_ends t id is.straight (read_within n t) b (record { fields = fields_from id 0 vs; before = front b (drop s.bits b); octets = None }) (drop s.bits b) refl done
    ∙ ap (λ us. Ok (fields id (plains_of us), drop s.bits b)) (values_from id 0 vs)

-- the values that were put into an empty list are the container's
pub segment_put : (t : Table) (id : ℕ) (s : Segment) (b d : Bits) (old new : List Value) → IsSegmentOf t id s → s.bits ≤ length b → old ≡ [] → ArePut t b s.operations.items old new → d ≡ drop s.bits b → ReadsAs t id b (fields id (plains_of (map plain new))) d
segment_put t id s b d old new is enough none put e = λ n low.
    let all : map plain new ≡ put.values = put.last ∙ ap (λ xs. map plain xs ++ put.values) none in
    segment_reads t id s b put.values is enough put.said n low ∙ ap₂ (λ us c. Ok (fields id (plains_of us), c)) (sym all) (sym e)
