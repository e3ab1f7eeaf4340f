-- The steps of the reader, part by part and container by container.
use Rattle.std.proofs.Common.{◌≡◌, ℕ, zero, suc, ◌+◌, ◌-◌, ◌*◌, ◌^◌, ◌<◌, ◌≤◌, ℤ, pos, nat_abs, ◌+ℤ◌, ◌*ℤ◌, Bool, true, false, cond, List, [], ◌∷◌, ◌++◌, length, map, take, drop, take-append-drop, get_or, reverse, Option, Some, None, Result, Ok, Err, refl, sym, ap, subst, ◌∙◌, arith}
use Rattle.std.specs.Prelude.{IfSome, nat_lt}
use Rattle.std.specs.List.{AllByRecursion}
use Rattle.std.proofs.lemmas.Int.{ints}
use Rattle.std.proofs.lemmas.List.{drop_more}
use Rattle.eds_base.specs.declared.ids.TypeId.{TypeId}
use Rattle.eds_base.specs.declared.fail.Fail.{Fail}
use Rattle.eds_base.specs.declared.fail.Fail.TheVariants.{Named, Memory}
use Rattle.eds_base.specs.declared.fault.Fault.{Fault}
use Rattle.eds_base.specs.declared.fault.Reason.{Reason}
use Rattle.eds_base.specs.declared.fault.Step.{Step}
use Rattle.eds_base.specs.declared.fault.Step.TheVariants as step
use Rattle.eds_base.specs.declared.fault.Reason.TheVariants.{Short, OutOfRange, BadDigit, FixedDiffers, CheckDiffers, LengthDiffers, NoDerived}
use Rattle.eds_base.specs.declared.spans.Span.{Span}
use Rattle.eds_bits.specs.declared.forms.IntForm.{IntForm}
use Rattle.eds_bits.specs.declared.forms.CheckKind.{CheckKind}
use Rattle.eds_bits.specs.Bits.{Bits, octets_of}
use Rattle.eds_bits.specs.IntForms.{number_of, HasNumber}
use Rattle.eds_bits.specs.Reader.{bits_left}
use Rattle.eds_bits.specs.Scalars.{check_of}
use Rattle.eds_bits.proofs.PatternLaws.{are_small}
use Rattle.eds_types.specs.declared.row.Kind.{Kind}
use Rattle.eds_types.specs.declared.row.Kind.TheVariants as kind
use Rattle.eds_types.specs.declared.row.Part.{Part}
use Rattle.eds_types.specs.declared.row.Part.TheVariants as part
use Rattle.eds_types.specs.declared.row.TypeRow.{TypeRow}
use Rattle.eds_types.specs.declared.value.Value.{Value}
use Rattle.eds_types.specs.Failing.{fault_at, fault_here, fault_behind, part_step, length_path}
use Rattle.eds_types.specs.Fields.{Field, field_at, values_of}
use Rattle.eds_types.specs.Plain.{Plain, plain, num, bits, items, fields, plains_of}
use Rattle.eds_types.specs.Reading.{Read, Ends, Next, stay, nowhere, under, ◌>>=◌, judged, judge, advance, front, expected, number_in, after_number, ranged, is_within, read_bits, read_items, read_part, read_parts, check_all, read_own, read_chain, read_under, read_to_end, go_on, next, finish, size_fits, ended, read_tail, inside, read_kind, read_row, read_within}
use Rattle.eds_types.specs.Rows.{Table, id_of, chain, constraints_of, entries_of, trailers_of, Placed, placed_from, placed_entries, placed_trailers, numbers_of}
use Rattle.eds_types.specs.Rules.{KeepsRules, IsInt, IsIntBy, KindKeeps}
use Rattle.eds_types.specs.Spelling.{Progress, started, with_bits, with_value, count_at}
use Rattle.eds_types.proofs.ReadingTests.{within_from}
use Rattle.eds_unpack.specs.declared.progress.Reached.{Reached}
use Rattle.eds_types.specs.Choices.{IsNear}
use Rattle.eds_types.specs.Seeking.{trailers_in_turn}
use Rattle.eds_types.proofs.Paths.{rest_is}
use Rattle.eds_types.proofs.Seeking.{last_of, trailers_are}
use Rattle.eds_unpack.specs.Courses.{AreHeld, MovesOn, IsUnderWay, fields_of, progress_of, told_by}
use Rattle.eds_unpack.specs.Entries.{IsLow, PartIsRead, placed}
use Rattle.eds_unpack.specs.Readers.{Stops, passed, stop_at}
use Rattle.eds_unpack.proofs.OnReads.{moves, stays}
use Rattle.eds_unpack.proofs.Ranks.{constraints_near, entries_are_read, trailers_are_read}
use Rattle.eds_unpack.proofs.Reaches.{bits_kept, value_kept, octets_kept, items_next, parts_append, behind_items}
use Rattle.eds_types.proofs.AllOf.{All-weaker}
use Rattle.eds_types.proofs.ExactReading.{failed, ok_is, ok_err, err_is, front_is}

-- ---- what stops a step, stops the next

pub stops_on : {A B : Type 0} (e : Fail Fault) (r : Result A Fault) (f : A → Result B Fault) → Stops e r → Stops e (r >>= f)
stops_on (Named fault) (Ok x) f h = absurd (ok_err (Ok x) x fault refl h)
stops_on {A} {B} (Named fault) (Err g) f h = ap (failed B) (err_is A g fault h)
stops_on Memory r f h = tt

pub stops_as : {A : Type 0} (e : Fail Fault) (r q : Result A Fault) → r ≡ q → Stops e r → Stops e q
stops_as e r q p h = subst (Stops e) p h

-- ---- the first and the last of a chain

module _ (t : Table) (n : ℕ) where
  abbrev pub AreLow : List TypeId → Type 0
  AreLow ids = AllByRecursion (λ (id : TypeId). IsLow t n id.0) ids

  pub last_low : (ids : List TypeId) (d : TypeId) → 0 < length ids → AreLow ids → IsLow t n (get_or ids (length ids - 1) d).0
  last_low [] d lt h = absurd (omega arith)
  last_low (x ∷ []) d lt h = h.0
  last_low (x ∷ y ∷ ids) d lt h = let k : suc (length (y ∷ ids) - 1) ≡ length (x ∷ y ∷ ids) - 1 = omega arith in subst (λ m. IsLow t n (get_or (x ∷ y ∷ ids) m d).0) k (last_low (y ∷ ids) d (omega arith) h.1)

  pub front_low : (m : ℕ) (ids : List TypeId) → AreLow ids → AreLow (take m ids)
  front_low zero ids h = tt
  front_low (suc m) [] h = tt
  front_low (suc m) (x ∷ ids) h = (h.0, front_low m ids h.1)

  pub later_low : (ids : List TypeId) → AreLow ids → AreLow (take (length ids - 1) (drop 1 ids))
  later_low [] h = tt
  later_low (x ∷ ids) h = subst AreLow (sym (rest_is (x ∷ ids))) h.1

pub near_low : (t : Table) (n y : ℕ) → IsLow t (n + 1) y → AllByRecursion (IsNear (n + 1)) (constraints_of t y)
near_low t n y h = constraints_near t h.rules n y h.low

pub near_most : (t : Table) (n y : ℕ) → n < 32 → IsLow t (n + 1) y → AllByRecursion (IsNear 32) (constraints_of t y)
near_most t n y lt h = All-weaker (IsNear (n + 1)) (IsNear 32) (λ c k. omega arith) (constraints_of t y) (near_low t n y h)

pub entries_low : (t : Table) (n y : ℕ) → IsLow t (n + 1) y → AllByRecursion (PartIsRead t n) (entries_of t y)
entries_low t n y h = entries_are_read t h.rules n y h.low

pub trailers_low : (t : Table) (n y : ℕ) → IsLow t (n + 1) y → AllByRecursion (PartIsRead t n) (trailers_of t y)
trailers_low t n y h = trailers_are_read t h.rules n y h.low

-- ---- how far the reader has come

pub under_way : (r u : Reached) (b d : Bits) → IsUnderWay r b → AreHeld u.fields → MovesOn b d → u.octets ≡ r.octets → u.start ≡ r.start → IsUnderWay u d
under_way r u b d h held on o s = record {
  held = held;
  begun = subst (λ x. MovesOn (bits_left x) d) (sym s) (moves (bits_left r.start) b d h.begun on);
  told = subst (λ x. IfSome x (λ n. nat_abs n ≤ 2 ^ 97)) (sym o) h.told;
}

pub told_way : (r u : Reached) (b d : Bits) → IsUnderWay r b → u.fields ≡ r.fields → MovesOn b d → u.start ≡ r.start → IfSome u.octets (λ n. nat_abs n ≤ 2 ^ 97) → IsUnderWay u d
told_way r u b d h e on s most = record {
  begun = subst (λ x. MovesOn (bits_left x) d) (sym s) (moves (bits_left r.start) b d h.begun on);
  held = subst AreHeld (sym e) h.held;
  told = most;
}

pub begins : (r : Reached) (b : Bits) → AreHeld r.fields → bits_left r.start ≡ b → r.octets ≡ None → IsUnderWay r b
begins r b held e o = record { begun = subst (λ x. MovesOn x b) (sym e) (stays b); held = held; told = subst (λ x. IfSome x (λ n. nat_abs n ≤ 2 ^ 97)) (sym o) tt }

progress : List Field → Bits → Option ℤ → Progress
progress fs b o = record { fields = fs; before = b; octets = o }

pub is_started : (r : Reached) (b : Bits) → fields_of r.fields ≡ [] → r.octets ≡ None → bits_left r.start ≡ b → progress_of r b ≡ started
unfolding progress
is_started r b f o e =
    let k : length b - length b ≡ 0 = omega arith in
    ap (λ fs. progress fs (front (bits_left r.start) b) r.octets) f
    ∙ ap (λ x. progress [] (front x b) r.octets) e
    ∙ ap (λ n. progress [] (take n b) r.octets) k
    ∙ ap (λ x. progress [] [] x) o

-- ---- parts

module _ (t : Table) (read : ℕ → Bits → Read Plain) (r : Reached) (y i : ℕ) (p : Part) (b d : Bits) (begun : MovesOn (bits_left r.start) b) (on : MovesOn b d) where
  pub plain_part : (u : Reached) (name : List ℕ) (id : TypeId) (v : Plain) → p ≡ part.Plain name id → read id.0 b ≡ Ok (v, d) → fields_of u.fields ≡ fields_of r.fields ++ field_at y i v ∷ [] → u.octets ≡ r.octets → u.start ≡ r.start
      → read_part t read (progress_of r b) (placed y i p) p b ≡ Ok (progress_of u d, d)
  plain_part u name id v is e f o s =
      ap (λ q. read_part t read (progress_of r b) (placed y i p) q b) is
      ∙ ap (advance (with_value (progress_of r b) (placed y i p)) b) e
      ∙ ap (λ x. Ok (x, d)) (value_kept r b d begun on u (placed y i p) v f o s)

  pub list_part : (u : Reached) (name : List ℕ) (id z : TypeId) (j n : ℕ) (vs : List Plain) → p ≡ part.List name id z j → n ≡ count_at (progress_of r b) z.0 j → read_items (read id.0) n 0 b ≡ Ok (vs, d)
      → fields_of u.fields ≡ fields_of r.fields ++ field_at y i (items (plains_of vs)) ∷ [] → u.octets ≡ r.octets → u.start ≡ r.start → read_part t read (progress_of r b) (placed y i p) p b ≡ Ok (progress_of u d, d)
  list_part u name id z j n vs is k e f o s =
      ap (λ q. read_part t read (progress_of r b) (placed y i p) q b) is
      ∙ ap (λ m. advance (λ vs c. with_value (progress_of r b) (placed y i p) (items (plains_of vs)) c) b (read_items (read id.0) m 0 b)) (sym k)
      ∙ ap (advance (λ vs c. with_value (progress_of r b) (placed y i p) (items (plains_of vs)) c) b) e
      ∙ ap (λ x. Ok (x, d)) (value_kept r b d begun on u (placed y i p) (items (plains_of vs)) f o s)

  pub fixed_part : (name : Option (List ℕ)) (id : TypeId) (v : Value) (w : Plain) → p ≡ part.Fixed name id v → read id.0 b ≡ Ok (w, d) → expected (plain v) FixedDiffers w ≡ Ok tt → read_part t read (progress_of r b) (placed y i p) p b ≡ Ok (progress_of r d, d)
  fixed_part name id v w is e k =
      ap (λ q. read_part t read (progress_of r b) (placed y i p) q b) is
      ∙ ap (λ x. advance (λ u c. with_bits (progress_of r b) c) b (judge (expected (plain v) FixedDiffers) x)) e
      ∙ ap (λ x. advance (λ u c. with_bits (progress_of r b) c) b (judged d x)) k
      ∙ ap (λ x. Ok (x, d)) (bits_kept r b d begun on)

  pub check_part : (name : List ℕ) (id : TypeId) (k : CheckKind) (n : ℕ) (w : Plain) → p ≡ part.Check name id k → read id.0 b ≡ Ok (w, d) → n ≡ check_of k (progress_of r b).before → expected (num (pos n)) CheckDiffers w ≡ Ok tt → read_part t read (progress_of r b) (placed y i p) p b ≡ Ok (progress_of r d, d)
  check_part name id k n w is e same ok =
      ap (λ q. read_part t read (progress_of r b) (placed y i p) q b) is
      ∙ ap (λ x. advance (λ u c. with_bits (progress_of r b) c) b (judge (expected (num (pos (check_of k (progress_of r b).before))) CheckDiffers) x)) e
      ∙ ap (λ m. advance (λ u c. with_bits (progress_of r b) c) b (judged d (expected (num (pos m)) CheckDiffers w))) (sym same)
      ∙ ap (λ x. advance (λ u c. with_bits (progress_of r b) c) b (judged d x)) ok
      ∙ ap (λ x. Ok (x, d)) (bits_kept r b d begun on)

  pub pad_part : (n : ℕ) → p ≡ part.Pad n → passed (read_bits n b) ≡ Ok d → read_part t read (progress_of r b) (placed y i p) p b ≡ Ok (progress_of r d, d)
  pad_part n is e = ap (λ q. read_part t read (progress_of r b) (placed y i p) q b) is ∙ go (read_bits n b) e
    where
      go : (x : Read Bits) → passed x ≡ Ok d → advance (λ u c. with_bits (progress_of r b) c) b x ≡ Ok (progress_of r d, d)
      go (Err g) h = absurd (ok_err (passed {A = Bits} (Err g)) d g h refl)
      go (Ok x) h = ap (λ z. Ok (with_bits (progress_of r b) (front b z), z)) (ok_is x.1 d h) ∙ ap (λ x. Ok (x, d)) (bits_kept r b d begun on)

  pub length_part : (u : Reached) (name : List ℕ) (id : TypeId) (c0 c1 : ℤ) (w : Plain) → p ≡ part.Length name id c0 c1 → read id.0 b ≡ Ok (w, d) → told_by c0 c1 w ≡ Ok u.octets → u.fields ≡ r.fields → u.start ≡ r.start
      → read_part t read (progress_of r b) (placed y i p) p b ≡ Ok (progress_of u d, d)
  length_part u name id c0 c1 w is e k f s =
      ap (λ q. read_part t read (progress_of r b) (placed y i p) q b) is
      ∙ ap (λ x. advance (after_number (progress_of r b) c0 c1) b (judge number_in x)) e
      ∙ go (number_in w) k
    where
      go : (m : Result ℤ Fault) → (m >>= λ n. Ok (Some (c0 +ℤ (c1 *ℤ n)))) ≡ Ok u.octets → advance (after_number (progress_of r b) c0 c1) b (judged d m) ≡ Ok (progress_of u d, d)
      go (Err g) h = absurd (ok_err (Err g >>= λ n. Ok (Some (c0 +ℤ (c1 *ℤ n)))) u.octets g h refl)
      go (Ok n) h = let q : u.octets ≡ Some (c0 +ℤ (c1 *ℤ n)) = sym (ok_is (Some (c0 +ℤ (c1 *ℤ n))) u.octets h) in ap (λ x. Ok (x, d)) (octets_kept r b d begun on u (c0 +ℤ (c1 *ℤ n)) f q s)

-- ---- the number of a length entry

ranged_by : List Span → ℤ → Bool → Result Plain Fault
ranged_by spans m b = cond b (Ok (num m)) (Err (fault_here OutOfRange))

ranged_ok : (form : IntForm) (spans : List Span) (o : Option ℤ) (v : Plain) (n : ℤ) → ranged spans o ≡ Ok v → number_in v ≡ Ok n → is_within spans n ≡ true
unfolding ranged_by
ranged_ok form spans None v n e k = absurd (ok_err (ranged spans None) v (fault_here BadDigit) e refl)
ranged_ok form spans (Some m) v n e k = go (is_within spans m) refl e
  where
    go : (b : Bool) → is_within spans m ≡ b → ranged_by spans m b ≡ Ok v → is_within spans n ≡ true
    go false h f = absurd (ok_err (ranged_by spans m false) v (fault_here OutOfRange) f refl)
    go true h f =
        let q : num m ≡ v = ok_is (num m) v f in
        subst (λ x. is_within spans x ≡ true) (ok_is m n (ap number_in q ∙ k)) h

judge_ok : (form : IntForm) (spans : List Span) (x : Read Bits) (v : Plain) (d : Bits) (n : ℤ) → judge (λ c. ranged spans (number_of form c)) x ≡ Ok (v, d) → number_in v ≡ Ok n → is_within spans n ≡ true
judge_ok form spans (Err g) v d n e k = absurd (ok_err (judge (λ c. ranged spans (number_of form c)) (Err g)) (v, d) g e refl)
judge_ok form spans (Ok x) v d n e k = go (ranged spans (number_of form x.0)) refl e
  where
    go : (r : Result Plain Fault) → ranged spans (number_of form x.0) ≡ r → judged x.1 r ≡ Ok (v, d) → is_within spans n ≡ true
    go (Err g) h f = absurd (ok_err (judged x.1 (Err g)) (v, d) g f refl)
    go (Ok w) h f = let q : w ≡ v = ap (λ y. y.0) (ok_is (w, x.1) (v, d) f) in ranged_ok form spans (number_of form x.0) v n (h ∙ ap (λ z. Ok z) q) k

form_small : (form : IntForm) (n : ℤ) → HasNumber form n → nat_abs n ≤ 2 ^ 64
form_small form n h =
    let s = are_small form.encoding form.bits form.valid.some form.valid.few in
    let low = h.from_least in
    let high = h.to_greatest in
    let least = s.least in
    let greatest = s.greatest in
    omega (arith, ints)

pub length_number : (t : Table) (m id : ℕ) (b : Bits) (v : Plain) (d : Bits) (n : ℤ) → KeepsRules t → IsInt t id (λ form spans. Unit {0}) → read_within m t id b ≡ Ok (v, d) → number_in v ≡ Ok n → nat_abs n ≤ 2 ^ 64
unfolding read_within
length_number t zero id b v d n rules int e k = absurd (ok_err (read_within zero t id b) (v, d) (fault_here Short) e refl)
length_number t (suc m) id b v d n rules int e k = go row.kind refl int.2 (rules.kinds id row int.1)
  where
    row : TypeRow
    row = int.0

    at : read_kind t (read_within m t) id row.kind b ≡ Ok (v, d)
    at = ap (λ o. read_row t (read_within m t) id o b) (sym int.1) ∙ e

    go : (q : Kind) → row.kind ≡ q → IsIntBy (λ form spans. Unit {0}) q → KindKeeps q → nat_abs n ≤ 2 ^ 64
    go (kind.Int form spans) f i keeps = form_small form n (keeps.of_form n (within_from spans n (judge_ok form spans (read_bits form.bits b) v d n (ap (λ q. read_kind t (read_within m t) id q b) (sym f) ∙ at) k)))
    go (kind.Enum form listing) f i keeps = absurd i
    go (kind.Bool form) f i keeps = absurd i
    go (kind.Str form) f i keeps = absurd i
    go (kind.Bin size free) f i keeps = absurd i
    go (kind.Arr item count) f i keeps = absurd i
    go (kind.Con c) f i keeps = absurd i

-- ---- items

pub items_more : (read : Bits → Read Plain) (n j k : ℕ) (vs ws : List Plain) (b : Bits) (v : Plain) (d : Bits) (total : Read (List Plain)) → ws ≡ vs ++ v ∷ [] → k ≡ j + 1 → j < n → read b ≡ Ok (v, d)
    → behind_items vs (read_items read (n - j) j b) ≡ total → behind_items ws (read_items read (n - k) k d) ≡ total
items_more read n j k vs ws b v d total e f lt h inv =
    ap (λ us. behind_items us (read_items read (n - k) k d)) e ∙ ap (λ m. behind_items (vs ++ v ∷ []) (read_items read (n - m) m d)) f ∙ sym (items_next read n j vs b v d lt h) ∙ inv

-- ---- trailers

module _ (t : Table) (read : ℕ → Bits → Read Plain) where
  pub trailers_step : (ids : List TypeId) (d : TypeId) (s : Progress) (b : Bits) → 0 < length ids
      → read_parts t read (trailers_in_turn t (reverse ids)) s b ≡ (read_parts t read (placed_trailers t (get_or ids (length ids - 1) d).0) s b >>= λ v. read_parts t read (trailers_in_turn t (reverse (take (length ids - 1) ids))) v.0 v.1)
  trailers_step ids d s b lt =
      ap (λ ps. read_parts t read ps s b) (last_of (λ (id : TypeId). placed_trailers t id.0) ids d lt)
      ∙ parts_append t read (placed_trailers t (get_or ids (length ids - 1) d).0) (trailers_in_turn t (reverse (take (length ids - 1) ids))) s b

  module _ (ids : List TypeId) (d : TypeId) (s : Progress) (b : Bits) (total : Read Progress) (es ts : List Part) (lt : 0 < length ids) (h : es ≡ entries_of t (get_or ids (length ids - 1) d).0) (k : ts ≡ trailers_of t (get_or ids (length ids - 1) d).0) (inv : read_parts t read (trailers_in_turn t (reverse ids)) s b ≡ total) where
    last_parts : read_parts t read (placed_from (get_or ids (length ids - 1) d).0 (length es) ts) s b ≡ read_parts t read (placed_trailers t (get_or ids (length ids - 1) d).0) s b
    last_parts = ap (λ xs. read_parts t read (placed_from (get_or ids (length ids - 1) d).0 (length xs) ts) s b) h ∙ ap (λ xs. read_parts t read (placed_from (get_or ids (length ids - 1) d).0 (length (entries_of t (get_or ids (length ids - 1) d).0)) xs) s b) k

    pub trailers_stop : (e : Fail Fault) → Stops e (read_parts t read (placed_from (get_or ids (length ids - 1) d).0 (length es) ts) s b) → Stops e total
    trailers_stop e stop =
        subst (Stops e) (sym (trailers_step ids d s b lt) ∙ inv)
        (stops_on e (read_parts t read (placed_trailers t (get_or ids (length ids - 1) d).0) s b) (λ v. read_parts t read (trailers_in_turn t (reverse (take (length ids - 1) ids))) v.0 v.1) (subst (Stops e) last_parts stop))

    pub trailers_go : (u : Progress) (c : Bits) → read_parts t read (placed_from (get_or ids (length ids - 1) d).0 (length es) ts) s b ≡ Ok (u, c) → read_parts t read (trailers_in_turn t (reverse (take (length ids - 1) ids))) u c ≡ total
    trailers_go u c ok = ap (λ r. r >>= λ v. read_parts t read (trailers_in_turn t (reverse (take (length ids - 1) ids))) v.0 v.1) (sym ok ∙ last_parts) ∙ sym (trailers_step ids d s b lt) ∙ inv

  pub trailers_done : (ids : List TypeId) (s : Progress) (b : Bits) (total : Read Progress) → length ids < 1 → read_parts t read (trailers_in_turn t (reverse ids)) s b ≡ total → total ≡ Ok (s, b)
  unfolding read_parts
  trailers_done [] s b total lt e = sym e
  trailers_done (x ∷ ids) s b total lt e = absurd (omega arith)

  -- ---- the entries of a chain

  module _ (ids : List TypeId) (i : ℕ) (d : TypeId) (s : Progress) (b : Bits) (total : Read Progress) (lt : i < length ids) (inv : read_chain t read (numbers_of (drop i ids)) s b ≡ total) where
    chain_step : read_chain t read (numbers_of (drop i ids)) s b ≡ (read_own t read (get_or ids i d).0 s b >>= λ v. read_chain t read (numbers_of (drop (i + 1) ids)) v.0 v.1)
    unfolding read_chain
    chain_step = ap (λ xs. read_chain t read (numbers_of xs) s b) (drop_more ids i d lt)

    own_stops : (e : Fail Fault) → Stops e (read_own t read (get_or ids i d).0 s b) → Stops e total
    own_stops e stop = stops_as e _ _ (sym chain_step ∙ inv) (stops_on e (read_own t read (get_or ids i d).0 s b) (λ v. read_chain t read (numbers_of (drop (i + 1) ids)) v.0 v.1) stop)

    pub chain_refused : (e : Fail Fault) → Stops e (check_all t (constraints_of t (get_or ids i d).0) s.fields) → Stops e total
    chain_refused e stop = own_stops e (stops_on e (check_all t (constraints_of t (get_or ids i d).0) s.fields) (λ u. read_parts t read (placed_entries t (get_or ids i d).0) s b) stop)

    pub chain_fails : (e : Fail Fault) → check_all t (constraints_of t (get_or ids i d).0) s.fields ≡ Ok tt → Stops e (read_parts t read (placed_entries t (get_or ids i d).0) s b) → Stops e total
    chain_fails e passed stop = own_stops e (stops_as e _ _ (ap (λ r. r >>= λ u. read_parts t read (placed_entries t (get_or ids i d).0) s b) (sym passed)) stop)

  -- ---- the choice

  abbrev pub under_by : ℕ → ℕ → Progress → Bits → Next → Ends
  under_by n x s b o = go_on t read (read_under t read n) x s b o

  pub under_step : (n x : ℕ) (s : Progress) (b : Bits) → read_under t read (suc n) x s b ≡ under_by n x s b (next t x s.fields)
  unfolding read_under
  under_step n x s b = refl

  module _ (c x : ℕ) (lt : c < 16) (s : Progress) (b : Bits) where
    pub under_is : (o : Next) → o ≡ next t x s.fields → read_under t read (16 - c) x s b ≡ under_by (15 - c) x s b o
    under_is o e = let k : 16 - c ≡ suc (15 - c) = omega arith in ap (λ n. read_under t read n x s b) k ∙ under_step (15 - c) x s b ∙ ap (under_by (15 - c) x s b) (sym e)

    abbrev pub stayed : List TypeId → Ends
    stayed ids = read_parts t read (trailers_in_turn t (reverse ids)) s b >>= finish x (length_path t x)

    pub stay_is : (ids : List TypeId) → stay ≡ next t x s.fields → ids ≡ map id_of (chain t x) → read_under t read (16 - c) x s b ≡ stayed ids
    stay_is ids e f = under_is stay e ∙ ap (λ ps. read_parts t read ps s b >>= finish x (length_path t x)) (sym (trailers_are t x ids f))

    pub stay_stops : (ids : List TypeId) (e : Fail Fault) (total : Ends) → stay ≡ next t x s.fields → ids ≡ map id_of (chain t x) → read_under t read (16 - c) x s b ≡ total → Stops e (read_parts t read (trailers_in_turn t (reverse ids)) s b) → Stops e total
    stay_stops ids e total h f inv k = subst (Stops e) (sym (stay_is ids h f) ∙ inv) (stops_on e (read_parts t read (trailers_in_turn t (reverse ids)) s b) (finish x (length_path t x)) k)

    pub stay_ends : (ids : List TypeId) (u : Progress) (d : Bits) (total : Ends) (fits : Bool) → stay ≡ next t x s.fields → ids ≡ map id_of (chain t x) → read_under t read (16 - c) x s b ≡ total → read_parts t read (trailers_in_turn t (reverse ids)) s b ≡ Ok (u, d) → fits ≡ size_fits u.octets u.before → total ≡ cond fits (Ok (x, u, d)) (Err (fault_at LengthDiffers (length_path t x)))
    stay_ends ids u d total fits h f inv k z = sym inv ∙ stay_is ids h f ∙ ap (λ q. q >>= finish x (length_path t x)) k ∙ ap (λ g. cond g (Ok (x, u, d)) (Err (fault_at LengthDiffers (length_path t x)))) (sym z)

    pub nowhere_is : (total : Ends) → nowhere ≡ next t x s.fields → read_under t read (16 - c) x s b ≡ total → total ≡ Err (fault_at NoDerived (step.Choice (id_of x) ∷ []))
    nowhere_is total h inv = sym inv ∙ under_is nowhere h

    pub under_stops : (z : ℕ) (e : Fail Fault) (total : Ends) → under z ≡ next t x s.fields → read_under t read (16 - c) x s b ≡ total → Stops e (read_parts t read (placed_entries t z) s b) → Stops e total
    under_stops z e total h inv k = subst (Stops e) (sym (under_is (under z) h) ∙ inv) (stops_on e (read_parts t read (placed_entries t z) s b) (λ v. read_under t read (15 - c) z v.0 v.1) k)

    pub under_goes : (z : ℕ) (u : Progress) (d : Bits) (total : Ends) → under z ≡ next t x s.fields → read_under t read (16 - c) x s b ≡ total → read_parts t read (placed_entries t z) s b ≡ Ok (u, d) → read_under t read (16 - (c + 1)) z u d ≡ total
    under_goes z u d total h inv k = let m : 16 - (c + 1) ≡ 15 - c = omega arith in ap (λ n. read_under t read n z u d) m ∙ ap (λ q. q >>= λ v. read_under t read (15 - c) z v.0 v.1) (sym k) ∙ sym (under_is (under z) h) ∙ inv

  pub under_ends : (c x : ℕ) (s : Progress) (b : Bits) (total : Ends) → 16 ≤ c → read_under t read (16 - c) x s b ≡ total → total ≡ Err (fault_at NoDerived (step.Choice (id_of x) ∷ []))
  unfolding read_under
  under_ends c x s b total le inv = let k : 16 - c ≡ 0 = omega arith in sym inv ∙ ap (λ n. read_under t read n x s b) k

  -- ---- containers

  stops_ended : (e : Fail Fault) (r : Ends) → Stops e r → Stops e (ended t read r)
  stops_ended (Named fault) (Ok x) h = absurd (ok_err (Ok x) x fault refl h)
  stops_ended (Named fault) (Err g) h = ap (failed (Plain × Bits)) (err_is (ℕ × Progress × Bits) g fault h)
  stops_ended Memory r h = tt

  module _ (id : ℕ) (b : Bits) (xs : List ℕ) (s : Progress) (whole : xs ≡ chain t id) (start : s ≡ started) where
    chain_is : read_chain t read xs s b ≡ read_chain t read (chain t id) started b
    chain_is = ap (λ ys. read_chain t read ys s b) whole ∙ ap (λ u. read_chain t read (chain t id) u b) start

    pub chain_stops : (e : Fail Fault) → Stops e (read_chain t read xs s b) → Stops e (ended t read (read_to_end t read id b))
    chain_stops e h = stops_ended e (read_to_end t read id b) (stops_on e (read_chain t read (chain t id) started b) (λ v. read_under t read 16 id v.0 v.1) (subst (Stops e) chain_is h))

    end_is : (u : Progress) (c : Bits) → read_chain t read xs s b ≡ Ok (u, c) → read_to_end t read id b ≡ read_under t read 16 id u c
    end_is u c h = ap (λ r. r >>= λ v. read_under t read 16 id v.0 v.1) (sym chain_is ∙ h)

    pub end_stops : (u : Progress) (c : Bits) (e : Fail Fault) → read_chain t read xs s b ≡ Ok (u, c) → Stops e (read_under t read 16 id u c) → Stops e (ended t read (read_to_end t read id b))
    end_stops u c e h k = stops_ended e (read_to_end t read id b) (subst (Stops e) (sym (end_is u c h)) k)

    pub container_reads : (u w : Progress) (c d : Bits) (k : ℕ) → read_chain t read xs s b ≡ Ok (u, c) → read_under t read 16 id u c ≡ Ok (k, w, d) → ended t read (read_to_end t read id b) ≡ Ok (fields k (plains_of (values_of w.fields)), d)
    container_reads u w c d k h e = ap (ended t read) (end_is u c h ∙ e)

pub stops_judge : {A B : Type 0} (e : Fail Fault) (j : A → Result B Fault) (r : Read A) → Stops e r → Stops e (judge j r)
stops_judge (Named fault) j (Ok x) h = absurd (ok_err (Ok x) x fault refl h)
stops_judge {A} {B} (Named fault) j (Err g) h = ap (failed (B × Bits)) (err_is (A × Bits) g fault h)
stops_judge Memory j r h = tt

-- ---- tails

bits_by : ℕ → Bits → Bool → Read Bits
bits_by n b short = cond short (Err (fault_here Short)) (Ok (take n b, drop n b))

module _ (t : Table) (j : ℕ) (s : Progress) (p : Placed) (b : Bits) where
  abbrev pub tail_value : Read Bits → Read Plain
  tail_value r = judge (λ c. Ok (bits (8 * j) (octets_of c))) r

  pub tail_reads : (v : Plain) (d : Bits) → tail_value (read_bits (8 * j) b) ≡ Ok (v, d) → read_tail t (Some j) s p b ≡ Ok (with_value s p v (front b d), d)
  unfolding bits_by
  tail_reads v d e = go (nat_lt (length b) (8 * j)) e
    where
      go : (short : Bool) → tail_value (bits_by (8 * j) b short) ≡ Ok (v, d) → inside (part_step p) (advance (λ c d. with_value s p (bits (8 * j) (octets_of d)) d) b (bits_by (8 * j) b short)) ≡ Ok (with_value s p v (front b d), d)
      go true h = absurd (ok_err (tail_value (bits_by (8 * j) b true)) (v, d) (fault_here Short) h refl)
      go false h =
          let both = ok_is (bits (8 * j) (octets_of (take (8 * j) b)), drop (8 * j) b) (v, d) h in
          let first : bits (8 * j) (octets_of (take (8 * j) b)) ≡ v = ap (λ y. y.0) both in
          let rest : drop (8 * j) b ≡ d = ap (λ y. y.1) both in
          let front_of : front b (drop (8 * j) b) ≡ take (8 * j) b = front_is b (take (8 * j) b) (drop (8 * j) b) (sym (take-append-drop (8 * j) b)) in
          ap (λ c. Ok (with_value s p (bits (8 * j) (octets_of c)) c, drop (8 * j) b)) front_of
          ∙ ap (λ w. Ok (with_value s p w (take (8 * j) b), drop (8 * j) b)) first
          ∙ ap (λ c. Ok (with_value s p v c, drop (8 * j) b)) (sym front_of)
          ∙ ap (λ z. Ok (with_value s p v (front b z), z)) rest

  pub tail_stops : (e : Fail Reason) (path : List Step) → path ≡ part_step p ∷ [] → Stops (stop_at [] e) (tail_value (read_bits (8 * j) b)) → Stops (stop_at path e) (read_tail t (Some j) s p b)
  unfolding bits_by
  tail_stops e path is h = subst (λ q. Stops (stop_at q e) (read_tail t (Some j) s p b)) (sym is) (go e (nat_lt (length b) (8 * j)) h)
    where
      go : (e : Fail Reason) (short : Bool) → Stops (stop_at [] e) (tail_value (bits_by (8 * j) b short)) → Stops (stop_at (part_step p ∷ []) e) (inside (part_step p) (advance (λ c d. with_value s p (bits (8 * j) (octets_of d)) d) b (bits_by (8 * j) b short)))
      go (Named reason) true k = ap (λ (f : Fault). failed (Progress × Bits) (fault_behind (part_step p) f)) (err_is (Plain × Bits) (fault_here Short) (fault_at reason []) k)
      go (Named reason) false k = absurd (ok_err (tail_value (bits_by (8 * j) b false)) (bits (8 * j) (octets_of (take (8 * j) b)), drop (8 * j) b) (fault_at reason []) refl k)
      go Memory short k = tt
