-- What a walk does at a part of each kind.
use Rattle.std.proofs.Common.{◌≡◌, ℕ, zero, suc, ◌*◌, ◌<◌, ◌≤◌, ℤ, pos, nat_abs, ◌+ℤ◌, ◌*ℤ◌, Bool, true, false, cond, List, [], ◌∷◌, ◌++◌, length, Option, Some, None, Result, Ok, Err, refl, sym, ap, subst, ◌∙◌, arith}
use Rattle.std.specs.Prelude.{slice_get, ◌^◌, ◌&&◌, ◌==◌, if◌then◌else◌, IsSome, IfSome, IfErr, OnOk}
use Rattle.std.specs.List.{AllByRecursion}
use Rattle.std.proofs.lemmas.Bool.{and_parts, eqb-true}
use Rattle.std.proofs.lemmas.List.{length-append}
use Rattle.eds_base.specs.declared.fault.Fault.{Fault}
use Rattle.eds_base.specs.declared.fault.Reason.{Reason}
use Rattle.eds_base.specs.declared.fault.Reason.TheVariants.{OutOfRange, FixedDiffers, CheckDiffers}
use Rattle.eds_base.specs.declared.ids.TypeId.{TypeId}
use Rattle.eds_base.specs.declared.spans.Span.{Span}
use Rattle.eds_bits.specs.declared.forms.IntForm.{IntForm}
use Rattle.eds_bits.specs.Bits.{Bits, octets_of}
use Rattle.eds_bits.specs.IntForms.{number_of}
use Rattle.eds_bits.specs.declared.forms.CheckKind.{CheckKind}
use Rattle.eds_bits.specs.Lists.{Has}
use Rattle.eds_bits.specs.Scalars.{check_of}
use Rattle.eds_bits.specs.Reader.{bits_left}
use Rattle.eds_types.specs.declared.row.TypeRow.{TypeRow}
use Rattle.eds_types.specs.declared.row.Kind.{Kind}
use Rattle.eds_types.specs.declared.row.Kind.TheVariants as kind
use Rattle.eds_types.specs.declared.row.Part.{Part}
use Rattle.eds_types.specs.declared.row.Part.TheVariants as part
use Rattle.eds_types.specs.declared.value.Value.{Value}
use Rattle.eds_types.specs.Failing.{fault_at, fault_here, part_step}
use Rattle.eds_types.specs.Fields.{Field, field_at, fields_in, has_value, number_by, number_on, part_at, type_by, value_at}
use Rattle.eds_types.specs.Plain.{Plain, plain, num, bits, items, plains_of}
use Rattle.eds_types.specs.Reading.{Read, advance, after_number, expected, front, judge, judged, number_in, number_is, inside, ranged, read_bits, read_items, read_kind, read_row, read_entry, read_entry_by, read_part, read_tail, read_within, tail_room, is_within, same}
use Rattle.eds_types.specs.Rows.{Table, Placed, id_of, chain, container_by, container_in, own_parts, sequence}
use Rattle.eds_types.specs.Rules.{KeepsRules, Follows, IsContainer, IsInt, IsIntBy, IsCounted, IsNested, IsScale, IsValueOf, HoldsCheck, PartKeeps}
use Rattle.eds_types.specs.Spelling.{Progress, count_at, count_in, with_bits, with_value, with_octets}
use Rattle.eds_types.specs.Sizes.{open_by, open_in, open_of, tail_of}
use Rattle.eds_types.proofs.AllOf.{All-at}
use Rattle.eds_types.proofs.ExactReading.{ok_err, ok_is}
use Rattle.eds_overlap.specs.Common.{each_once}
use Rattle.eds_unpack.specs.Asked.{asked}
use Rattle.eds_unpack.specs.Courses.{MovesOn}
use Rattle.eds_unpack.specs.Entries.{IsInner, LengthIsRead, placed}
use Rattle.eds_unpack.specs.Readers.{passed}
use Rattle.eds_unpack.specs.Index.{Among}
use Rattle.eds_overlap.specs.Pairs.{Steps}
use Rattle.eds_unpack.specs.Noted.{IsNoted, Shows, KeepsOuter}
use Rattle.eds_unpack.specs.Walks.{Goes, IsAt, IsNotedField, IsNumberIfInt, IsPassed, IsTold, IsWalking, IsWhole, Stands}
use Rattle.eds_unpack.specs.declared.walk.Seen.{Seen}
use Rattle.eds_unpack.specs.declared.walk.Walked.{Walked}
use Rattle.eds_unpack.proofs.AskedPaths.{asked_follows, asked_tail, asked_teller, other_next, own_in, sequence_stands, slot_is_among}
use Rattle.eds_unpack.proofs.OnReads.{OnRead, moves, on_bits, on_judge, on_within}
use Rattle.eds_unpack.proofs.Reaches.{front_more}
use Rattle.eds_unpack.proofs.Walking.{at_kept, at_passed, at_same, first_number, later_number, some_is, value_new}

-- ---- numbers of integer types

ranged_num : (spans : List Span) (o : Option ℤ) (v : Plain) → ranged spans o ≡ Ok v → (n : ℤ) × (v ≡ num n)
ranged_num spans None v e = absurd (ok_err (ranged spans None) v _ e refl)
ranged_num spans (Some m) v e = go (is_within spans m) e
  where
    go : (b : Bool) → cond b (Ok (num m)) (Err (fault_here OutOfRange)) ≡ Ok v → (n : ℤ) × (v ≡ num n)
    go true k = (m, sym (ok_is (num m) v k))
    go false k = absurd (ok_err {A = Plain} (Err (fault_here OutOfRange)) v _ k refl)

judged_num : (form : IntForm) (spans : List Span) (x : Read Bits) (v : Plain) (d : Bits) → judge (λ c. ranged spans (number_of form c)) x ≡ Ok (v, d) → (n : ℤ) × (v ≡ num n)
judged_num form spans (Err g) v d e = absurd (ok_err (judge (λ c. ranged spans (number_of form c)) (Err g)) (v, d) g e refl)
judged_num form spans (Ok x) v d e = go (ranged spans (number_of form x.0)) refl e
  where
    go : (r : Result Plain Fault) → ranged spans (number_of form x.0) ≡ r → judged x.1 r ≡ Ok (v, d) → (n : ℤ) × (v ≡ num n)
    go (Err g) h f = absurd (ok_err (judged x.1 (Err g)) (v, d) g f refl)
    go (Ok w) h f = let q : w ≡ v = ap (λ y. y.0) (ok_is (w, x.1) (v, d) f) in ranged_num spans (number_of form x.0) v (h ∙ ap (λ z. Ok z) q)

-- what is read of an integer type is a number
pub int_is_num : (t : Table) (m id : ℕ) (b : Bits) (v : Plain) (d : Bits) → read_within m t id b ≡ Ok (v, d) → IsInt t id (λ form spans. Unit {0}) → (n : ℤ) × (v ≡ num n)
unfolding read_within
int_is_num t zero id b v d e int = absurd (ok_err (read_within zero t id b) (v, d) _ e refl)
int_is_num t (suc m) id b v d e int = go int.0.kind refl int.2
  where
    at : read_kind t (read_within m t) id int.0.kind b ≡ Ok (v, d)
    at = ap (λ o. read_row t (read_within m t) id o b) (sym int.1) ∙ e

    go : (q : Kind) → int.0.kind ≡ q → IsIntBy (λ form spans. Unit {0}) q → (n : ℤ) × (v ≡ num n)
    go (kind.Int form spans) f i = judged_num form spans (read_bits form.bits b) v d (ap (λ q. read_kind t (read_within m t) id q b) (sym f) ∙ at)
    go (kind.Enum form listing) f i = absurd i
    go (kind.Bool form) f i = absurd i
    go (kind.Str form) f i = absurd i
    go (kind.Bin size free) f i = absurd i
    go (kind.Arr item count) f i = absurd i
    go (kind.Con c) f i = absurd i

-- ---- entries

some_is_same : {A : Type 0} {x y : A} → Some x ≡ Some y → x ≡ y
some_is_same e = cc

-- the type of an entry
abbrev own_type : Part → Option TypeId
own_type (part.Plain name id) = Some id
own_type (part.Fixed name id v) = None
own_type (part.Pad n) = None
own_type (part.List name id y i) = None
own_type (part.Length name id c0 c1) = None
own_type (part.Check name id k) = None

-- the part is a list
abbrev is_list : Part → Bool
is_list (part.Plain name id) = false
is_list (part.Fixed name id v) = false
is_list (part.Pad n) = false
is_list (part.List name id y i) = true
is_list (part.Length name id c0 c1) = false
is_list (part.Check name id k) = false

-- an open binary is no number and no container
not_int : (k : Kind) {n : ℕ} → IsIntBy (λ form spans. Unit {0}) k → open_in (Some (record { name = []; base = None; kind = k })) ≡ Some n → ⊥
not_int (kind.Int form spans) i e = absurd cc
not_int (kind.Enum form listing) i e = i
not_int (kind.Bool form) i e = i
not_int (kind.Str form) i e = i
not_int (kind.Bin size free) i e = i
not_int (kind.Arr item count) i e = i
not_int (kind.Con c) i e = i

no_container : (row : Option TypeRow) {n : ℕ} → open_in row ≡ Some n → IsSome (container_in row) → ⊥
no_container None e h = absurd cc
no_container (Some row) e h = go row.kind e h
  where
    go : (k : Kind) {n : ℕ} → open_by k ≡ Some n → IsSome (container_by k) → ⊥
    go (kind.Int form spans) e h = absurd cc
    go (kind.Enum form listing) e h = absurd cc
    go (kind.Bool form) e h = absurd cc
    go (kind.Str form) e h = absurd cc
    go (kind.Bin size free) e h = absurd cc
    go (kind.Arr item count) e h = absurd cc
    go (kind.Con c) e h = absurd cc

-- one type stands at a place
plain_same : (o : Option Part) (name other : List ℕ) (id own : TypeId) → o ≡ Some (part.Plain name id) → o ≡ Some (part.Plain other own) → id ≡ own
plain_same o name other id own e f = let q : part.Plain name id ≡ part.Plain other own = some_is_same (sym e ∙ f) in let r : Some id ≡ Some own = ap own_type q in cc

-- a path begins with an entry
first_follows : (t : Table) (q : TypeId × ℕ) (path : Steps) → Follows t (q ∷ path) → (name : List ℕ) × (id : TypeId) × (part_at t q ≡ Some (part.Plain name id))
first_follows t q [] f = f
first_follows t q (r ∷ path) f = (f.0, f.1, f.2)

module _ (t : Table) (rules : KeepsRules t) (paths : List Steps) (follows : (path : Steps) → Among paths path → Follows t path) (next : (p q : TypeId × ℕ) (path : Steps) → Among paths (p ∷ q ∷ path) → Among paths (q ∷ path)) (depth : ℕ) where
  abbrev read : ℕ → Bits → Read Plain
  read = read_within depth t

  module _ (w : Walked) (ns : List (Option ℤ)) (b d : Bits) (done : List Placed) (s : Progress) (y i : ℕ) (at : IsAt t paths y w ns b done s) (new : value_at s.fields y i ≡ None) (begun : MovesOn (bits_left w.start) b) (on : MovesOn b d) where
    -- the bits of the container up to those that are left
    more : s.before ++ front b d ≡ front (bits_left w.start) d
    more = ap (λ c. c ++ front b d) at.before ∙ front_more (bits_left w.start) b d begun on

    module _ (p : Part) (name : List ℕ) (id : TypeId) (is : p ≡ part.Plain name id) (stands : Stands t (placed y i p)) (lt : rules.rank id.0 < rules.rank y) (ms ks : List (Option ℤ)) (keep : KeepsOuter t paths id.0 ns ms) where
      stands_plain : part_at t (id_of y, i) ≡ Some (part.Plain name id)
      stands_plain = stands ∙ ap (λ q. Some q) is

      here_plain : (seen : Seen) (v : Plain) → seen.number ≡ number_by (slice_get t id.0) (Some v) → Shows t paths ms (fields_in t (Some v)) → IsWhole t id.0 (fields_in t (Some v)) → IsNotedField paths y i seen.number ms ks
          → (path : Steps) (g : ℕ) → slice_get paths g ≡ Some ((id_of y, i) ∷ path) → slice_get ks g ≡ Some (number_on t (s.fields ++ field_at y i v ∷ []) ((id_of y, i) ∷ path))
      here_plain seen v number shows whole noted [] g h =
          noted.last g (id_of y, i) h refl refl ∙ ap (λ n. Some n) (number ∙ sym (first_number t rules paths follows next (s.fields ++ field_at y i v ∷ []) y i name id v stands_plain (value_new s.fields y i v new)))
      here_plain seen v number shows whole noted (q ∷ path) g h =
          let among = slot_is_among paths g ((id_of y, i) ∷ q ∷ path) h in
          let f = follows ((id_of y, i) ∷ q ∷ path) among in
          let same = plain_same (part_at t (id_of y, i)) f.0 name f.1 id f.2 stands_plain in
          let slot = noted.longer g (id_of y, i) q path h refl refl (other_next t rules (id_of y, i) q path f) (next (id_of y, i) q path among) in
          let there = first_follows t q path f.5 in
          let value = some_is (value_at (fields_in t (Some v)) (q.0).0 q.1) (whole q there.0 there.1 (subst (λ (z : TypeId). IsContainer t z.0) same f.3) (subst (λ (z : TypeId). Has (chain t z.0) (q.0).0) same f.4) there.2) in
          slot.2 ∙ shows q path value.0 value.1 slot.0 slot.1 ∙ ap (λ n. Some n) (sym (later_number t rules paths follows next (s.fields ++ field_at y i v ∷ []) y i v q path (value_new s.fields y i v new)))

      pub plain_goes : (seen : Seen) → IsPassed t paths id.0 ms (read id.0 b) d seen → IsNotedField paths y i seen.number ms ks → ((v : Plain) → read id.0 b ≡ Ok (v, d) → IsInt t id.0 (λ form spans. Unit {0}) → (n : ℤ) × (v ≡ num n)) → Goes t paths y w ks d (done ++ placed y i p ∷ []) (read_part t read s (placed y i p) p b)
      plain_goes seen passed noted int = record {
        state = with_value s (placed y i p) passed.value (front b d);
        is = ap (λ q. read_part t read s (placed y i p) q b) is ∙ ap (advance (with_value s (placed y i p)) b) passed.is;
        at = at_kept t rules paths follows next y w ns b done s at ms ks d y i p id.0 passed.value new (ap has_value is) (λ rs. refl) lt keep w (with_value s (placed y i p) passed.value (front b d))
            (here_plain seen passed.value passed.number passed.shows passed.whole noted)
            noted.others
            (λ other own e k. int passed.value passed.is (subst (λ (z : TypeId). IsInt t z.0 (λ form spans. Unit {0})) (plain_same (part_at t (id_of y, i)) other name own id e stands_plain) k))
            more at.octets refl;
      }

    -- what a part without a value leaves, where at most a type of a lower rank was passed
    without : (u : Walked) (ms : List (Option ℤ)) (p : Part) (id : ℕ) (r : Progress) → has_value p ≡ false → rules.rank id < rules.rank y → KeepsOuter t paths id ns ms → r.before ≡ front (bits_left u.start) d → r.octets ≡ u.octets → r.fields ≡ s.fields → IsAt t paths y u ms d (done ++ placed y i p ∷ []) r
    without u ms p id r none lt keep before octets same = at_passed t rules paths follows next y w ns b done s at u ms d r (placed y i p) id none (λ rs. refl) lt keep before octets same

    pub fixed_goes : (p : Part) (name : Option (List ℕ)) (id : TypeId) (v : Value) (ms : List (Option ℤ)) → p ≡ part.Fixed name id v → rules.rank id.0 < rules.rank y → KeepsOuter t paths id.0 ns ms → judge (expected (plain v) FixedDiffers) (read_within depth t id.0 b) ≡ Ok (tt, d) → Goes t paths y w ms d (done ++ placed y i p ∷ []) (read_part t (read_within depth t) s (placed y i p) p b)
    fixed_goes p name id v ms is lt keep e = record {
      state = with_bits s (front b d);
      is = ap (λ q. read_part t (read_within depth t) s (placed y i p) q b) is ∙ ap (advance (λ u c. with_bits s c) b) e;
      at = without w ms p id.0 (with_bits s (front b d)) (ap has_value is) lt keep more at.octets refl;
    }

    pub check_goes : (p : Part) (name : List ℕ) (id : TypeId) (k : CheckKind) (n : ℕ) (v : Plain) (ms : List (Option ℤ)) → p ≡ part.Check name id k → rules.rank id.0 < rules.rank y → KeepsOuter t paths id.0 ns ms → n ≡ check_of k (front (bits_left w.start) b) → read_within depth t id.0 b ≡ Ok (v, d) → expected (num (pos n)) CheckDiffers v ≡ Ok tt → Goes t paths y w ms d (done ++ placed y i p ∷ []) (read_part t (read_within depth t) s (placed y i p) p b)
    check_goes p name id k n v ms is lt keep sum e ok = record {
      state = with_bits s (front b d);
      is =
          ap (λ q. read_part t (read_within depth t) s (placed y i p) q b) is
          ∙ ap (λ m. advance (λ u c. with_bits s c) b (judge (expected (num (pos m)) CheckDiffers) (read_within depth t id.0 b))) (ap (check_of k) at.before ∙ sym sum)
          ∙ ap (λ r. advance (λ u c. with_bits s c) b (judge (expected (num (pos n)) CheckDiffers) r)) e
          ∙ ap (λ r. advance (λ u c. with_bits s c) b (judged d r)) ok;
      at = without w ms p id.0 (with_bits s (front b d)) (ap has_value is) lt keep more at.octets refl;
    }

    pub pad_goes : (p : Part) (n : ℕ) → p ≡ part.Pad n → passed (read_bits n b) ≡ Ok d → Goes t paths y w ns d (done ++ placed y i p ∷ []) (read_part t (read_within depth t) s (placed y i p) p b)
    pad_goes p n is e = record {
      state = with_bits s (front b d);
      is = ap (λ q. read_part t (read_within depth t) s (placed y i p) q b) is ∙ go (read_bits n b) e;
      at = at_skipped;
    }
      where
        go : (x : Read Bits) → passed x ≡ Ok d → advance (λ u c. with_bits s c) b x ≡ Ok (with_bits s (front b d), d)
        go (Err g) h = absurd (ok_err (passed {A = Bits} (Err g)) d g h refl)
        go (Ok x) h = ap (λ z. Ok (with_bits s (front b z), z)) (ok_is x.1 d h)

        at_skipped : IsAt t paths y w ns d (done ++ placed y i p ∷ []) (with_bits s (front b d))
        at_skipped = at_same t rules paths follows next y w ns b done s at w d (with_bits s (front b d)) (placed y i p) (ap has_value is) (λ rs. refl) more at.octets refl

    pub length_goes : (p : Part) (name : List ℕ) (id : TypeId) (c0 c1 n : ℤ) (v : Plain) (u : Walked) (ms : List (Option ℤ)) → p ≡ part.Length name id c0 c1 → rules.rank id.0 < rules.rank y → KeepsOuter t paths id.0 ns ms → read_within depth t id.0 b ≡ Ok (v, d) → v ≡ num n → u.octets ≡ Some (c0 +ℤ (c1 *ℤ n)) → u.start ≡ w.start → Goes t paths y u ms d (done ++ placed y i p ∷ []) (read_part t (read_within depth t) s (placed y i p) p b)
    length_goes p name id c0 c1 n v u ms is lt keep e number octets start = record {
      state = with_octets s (c0 +ℤ (c1 *ℤ n)) (front b d);
      is =
          ap (λ q. read_part t (read_within depth t) s (placed y i p) q b) is
          ∙ ap (λ r. advance (after_number s c0 c1) b (judge number_in r)) e
          ∙ ap (λ z. advance (after_number s c0 c1) b (judged d (number_in z))) number;
      at = without u ms p id.0 (with_octets s (c0 +ℤ (c1 *ℤ n)) (front b d)) (ap has_value is) lt keep (more ∙ ap (λ z. front (bits_left z) d) (sym start)) (sym octets) refl;
    }

    -- no path begins in a list
    pub list_goes : (p : Part) (name : List ℕ) (id z : TypeId) (j c : ℕ) (vs : List Plain) (ms : List (Option ℤ)) → p ≡ part.List name id z j → Stands t (placed y i p) → rules.rank id.0 < rules.rank y → KeepsOuter t paths id.0 ns ms → c ≡ count_at s z.0 j → read_items (read_within depth t id.0) c 0 b ≡ Ok (vs, d) → Goes t paths y w ms d (done ++ placed y i p ∷ []) (read_part t (read_within depth t) s (placed y i p) p b)
    list_goes p name id z j c vs ms is stands lt keep count e = record {
      state = with_value s (placed y i p) (items (plains_of vs)) (front b d);
      is =
          ap (λ q. read_part t (read_within depth t) s (placed y i p) q b) is
          ∙ ap (λ m. advance (λ us c. with_value s (placed y i p) (items (plains_of us)) c) b (read_items (read_within depth t id.0) m 0 b)) (sym count)
          ∙ ap (advance (λ us c. with_value s (placed y i p) (items (plains_of us)) c) b) e;
      at = at_kept t rules paths follows next y w ns b done s at ms ms d y i p id.0 (items (plains_of vs)) new (ap has_value is) (λ rs. refl) lt keep w (with_value s (placed y i p) (items (plains_of vs)) (front b d)) (λ path g h. absurd (no_entry (first_follows t (id_of y, i) path (follows ((id_of y, i) ∷ path) (slot_is_among paths g ((id_of y, i) ∷ path) h))))) (λ g q path h off. refl) (λ other own k int. absurd (no_entry (other, own, k))) more at.octets refl;
    }
      where
        no_entry : ((other : List ℕ) × (own : TypeId) × (part_at t (id_of y, i) ≡ Some (part.Plain other own))) → ⊥
        no_entry h = let q : part.List name id z j ≡ part.Plain h.0 h.1 = some_is_same (sym (stands ∙ ap (λ q. Some q) is) ∙ h.2) in let r : true ≡ false = ap is_list q in absurd cc

    -- a tail has no number, and no path goes on behind it
    pub tail_goes : (p : Part) (name : List ℕ) (id : TypeId) (n j : ℕ) (o : List ℕ) (c : Bits) (ks : List (Option ℤ)) (read_it : Read Progress) → p ≡ part.Plain name id → Stands t (placed y i p) → tail_of t p ≡ Some n → rules.rank id.0 < rules.rank y → IsNotedField paths y i None ns ks → front b d ≡ c → read_it ≡ Ok (with_value s (placed y i p) (bits j o) c, d) → Goes t paths y w ks d (done ++ placed y i p ∷ []) read_it
    tail_goes p name id n j o c ks read_it is stands most lt noted fr e = record {
      state = with_value s (placed y i p) (bits j o) c;
      is = e;
      at = at_kept t rules paths follows next y w ns b done s at ns ks d y i p id.0 (bits j o) new (ap has_value is) (λ rs. refl) lt (record { long = refl; same = λ rs g q path h l. refl }) w (with_value s (placed y i p) (bits j o) c) here noted.others (λ other own k int. absurd (open_int own (plain_same (part_at t (id_of y, i)) other name own id k (stands ∙ ap (λ q. Some q) is)) int)) (ap (λ z. s.before ++ z) (sym fr) ∙ more) at.octets refl;
    }
      where
        opened : open_of t id.0 ≡ Some n
        opened = ap (tail_of t) (sym is) ∙ most

        open_int : (own : TypeId) → own ≡ id → IsInt t own.0 (λ form spans. Unit {0}) → ⊥
        open_int own k int = not_int int.0.kind int.2 (ap open_in (sym int.1) ∙ ap (λ (z : TypeId). open_of t z.0) k ∙ opened)

        here : (path : Steps) (g : ℕ) → slice_get paths g ≡ Some ((id_of y, i) ∷ path) → slice_get ks g ≡ Some (number_on t (s.fields ++ field_at y i (bits j o) ∷ []) ((id_of y, i) ∷ path))
        here [] g h = noted.last g (id_of y, i) h refl refl ∙ ap (λ m. Some m) (sym (first_number t rules paths follows next (s.fields ++ field_at y i (bits j o) ∷ []) y i name id (bits j o) (stands ∙ ap (λ q. Some q) is) (value_new s.fields y i (bits j o) new)))
        here (q ∷ path) g h =
            let f = follows ((id_of y, i) ∷ q ∷ path) (slot_is_among paths g ((id_of y, i) ∷ q ∷ path) h) in
            let same = plain_same (part_at t (id_of y, i)) f.0 name f.1 id f.2 (stands ∙ ap (λ q. Some q) is) in
            absurd (no_container (slice_get t id.0) opened (subst (λ (z : TypeId). IsContainer t z.0) same f.3))

-- ---- tails

octets_fail : (n : ℕ) (r : Read Bits) (g : Fault) (f : Bits → Plain) (k : Bits → Bits → Progress) (b : Bits) → judge (λ c. Ok (f c)) r ≡ Err g → advance k b r ≡ Err g
octets_fail n (Ok x) g f k b e = absurd (ok_err (judge (λ c. Ok (f c)) (Ok x)) (f x.0, x.1) g refl e)
octets_fail n (Err h) g f k b e = ap (λ q. Err q) (err_same h g e)
  where
    err_same : (h g : Fault) → judge {A = Bits} (λ c. Ok (f c)) (Err h) ≡ Err g → h ≡ g
    err_same h g e = cc

pub tail_fails : (t : Table) (j : ℕ) (s : Progress) (p : Placed) (b : Bits) (r : Reason) → judge (λ c. Ok (bits (8 * j) (octets_of c))) (read_bits (8 * j) b) ≡ Err (fault_here r) → read_tail t (Some j) s p b ≡ Err (fault_at r (part_step p ∷ []))
tail_fails t j s p b r e = ap (inside (part_step p)) (octets_fail j (read_bits (8 * j) b) (fault_here r) (λ c. bits (8 * j) (octets_of c)) (λ c d. with_value s p (bits (8 * j) (octets_of d)) d) b e)

-- ---- what is asked for

pub follows_of : (t : Table) → KeepsRules t → (paths : List Steps) → paths ≡ each_once (asked t) → (path : Steps) → Among paths path → Follows t path
follows_of t rules paths e path h = asked_follows t rules path (subst (λ ps. Among ps path) e h)

pub next_of : (t : Table) (paths : List Steps) → paths ≡ each_once (asked t) → (p q : TypeId × ℕ) (path : Steps) → Among paths (p ∷ q ∷ path) → Among paths (q ∷ path)
next_of t paths e p q path h = subst (λ ps. Among ps (q ∷ path)) (sym e) (asked_tail t p q path (subst (λ ps. Among ps (p ∷ q ∷ path)) e h))

-- ---- ranks

-- the type of a part is of a lower rank than its container
pub part_lower : (t : Table) (rules : KeepsRules t) (y i : ℕ) (p : Part) (id : ℕ) → Stands t (placed y i p) → type_by (Some p) ≡ Some id → rules.rank id < rules.rank y
part_lower t rules y i p id stands is = (All-at (λ (q : Placed). (j : ℕ) → type_by (Some q.part) ≡ Some j → IsNested t rules.rank y j) (own_parts t y) (placed y i p) (own_in t y i p stands) (rules.parts_nest y) id is).1

-- what a part keeps
pub part_keeps : (t : Table) (rules : KeepsRules t) (y i : ℕ) (p : Part) → Stands t (placed y i p) → PartKeeps t (placed y i p) p
part_keeps t rules y i p stands = All-at (λ (q : Placed). PartKeeps t q q.part) (own_parts t y) (placed y i p) (own_in t y i p stands) (rules.parts y)

module _ (t : Table) (paths : List Steps) where
  pub outer_none : (y : ℕ) (ns : List (Option ℤ)) → KeepsOuter t paths y ns ns
  outer_none y ns = record { long = refl; same = λ rs g p path h lt. refl }

  pub outer_weak : (id y : ℕ) (ns ms : List (Option ℤ)) → ((rs : KeepsRules t) → rs.rank id < rs.rank y) → KeepsOuter t paths id ns ms → KeepsOuter t paths y ns ms
  outer_weak id y ns ms lt keep = record { long = keep.long; same = λ rs g p path h up. keep.same rs g p path h (let l = lt rs in omega arith) }

  pub outer_noted : (id y i : ℕ) (n : Option ℤ) (ns ms ks : List (Option ℤ)) → ((rs : KeepsRules t) → rs.rank id < rs.rank y) → KeepsOuter t paths id ns ms → IsNotedField paths y i n ms ks → KeepsOuter t paths y ns ks
  outer_noted id y i n ns ms ks lt keep noted = record {
    long = noted.long ∙ keep.long;
    same = λ rs g p path h up. noted.others g p path h (λ a c. let e = ap rs.rank a in absurd (omega (arith, e, up))) ∙ keep.same rs g p path h (let l = lt rs in omega arith);
  }

-- ---- moving on

pub walking_on : (w : Walked) (b d : Bits) → IsWalking w b → MovesOn b d → IsWalking w d
walking_on w b d h on = record { begun = moves (bits_left w.start) b d h.begun on; told = h.told }

pub walking_told : (w u : Walked) (b d : Bits) → IsWalking w b → MovesOn b d → u.start ≡ w.start → IfSome u.octets (λ n. nat_abs n ≤ 2 ^ 97) → IsWalking u d
walking_told w u b d h on s told = record { begun = subst (λ x. MovesOn (bits_left x) d) (sym s) (moves (bits_left w.start) b d h.begun on); told = told }

pub moved_short : (a b : Bits) (n : ℕ) → MovesOn a b → length a ≤ n → length b ≤ n
moved_short a b n on h = omega (arith, ap length on.1, length-append on.0 b)

pub judged_moves : (n : ℕ) (t : Table) (id : ℕ) (b : Bits) {X : Type 0} (j : Plain → Result X Fault) (x : X) (d : Bits) → judge j (read_within n t id b) ≡ Ok (x, d) → MovesOn b d
judged_moves n t id b j x d e = subst (OnRead b) e (on_judge j b (read_within n t id b) (on_within n t id b))

pub passed_moves : (n : ℕ) (b d : Bits) → passed (read_bits n b) ≡ Ok d → MovesOn b d
passed_moves n b d e = go (read_bits n b) (on_bits n b) e
  where
    go : (r : Read Bits) → OnRead b r → passed r ≡ Ok d → MovesOn b d
    go (Err g) h k = absurd (ok_err (passed {A = Bits} (Err g)) d g k refl)
    go (Ok x) h k = subst (MovesOn b) (ok_is x.1 d k) h

-- ---- answers

pub on_ok : {X E : Type 0} {P Q : Type 0} (r : Result X E) → (P → Q) → OnOk r P → OnOk r Q
on_ok (Ok x) f h = f h
on_ok (Err e) f h = h

pub if_err : {X E : Type 0} {P Q : E → Type 0} (r : Result X E) → ((e : E) → P e → Q e) → IfErr r P → IfErr r Q
if_err (Ok x) f h = h
if_err (Err e) f h = f e h

-- the number of an integer
pub some_number : (t : Table) (id : ℕ) (o : Option ℤ) (v : Plain) (n : ℤ) → o ≡ number_by (slice_get t id) (Some v) → v ≡ num n → o ≡ Some n
some_number t id o v n e f = e ∙ ap (λ z. number_by (slice_get t id) (Some z)) f

pub sum_expected : (m : ℕ) (n : ℤ) (o : Option ℤ) (b : Bool) → o ≡ Some n → number_is o (pos m) ≡ b → expected (num (pos m)) CheckDiffers (num n) ≡ cond b (Ok tt) (Err (fault_here CheckDiffers))
unfolding same
sum_expected m n o b e f = ap (λ c. cond c (Ok tt) (Err (fault_here CheckDiffers))) (sym (ap (λ z. number_is z (pos m)) e) ∙ f)

-- ---- parts of each kind

pub low_there : (t : Table) (n id : ℕ) → IsInner t n id → n ≡ 0 → ⊥
low_there t n id h e = let l = h.low.low in omega arith

pub length_is : (t : Table) (p : Part) (name : List ℕ) (id : TypeId) (c0 c1 : ℤ) → p ≡ part.Length name id c0 c1 → LengthIsRead t p → IsInt t id.0 (λ form spans. Unit {0}) × IsScale c0 c1
length_is t p name id c0 c1 is h = subst (LengthIsRead t) is h

pub check_is : (t : Table) (rules : KeepsRules t) (y i : ℕ) (p : Part) (name : List ℕ) (id : TypeId) (k : CheckKind) → Stands t (placed y i p) → p ≡ part.Check name id k → IsInt t id.0 (λ form spans. Unit {0})
check_is t rules y i p name id k stands is =
    let keeps = subst (λ q. PartKeeps t (placed y i p) q) is (part_keeps t rules y i p stands) in
    (keeps.0.0, keeps.0.1, int_of keeps.0.0.kind keeps.0.2)
  where
    int_of : (q : Kind) → IsIntBy (HoldsCheck k) q → IsIntBy (λ form spans. Unit {0}) q
    int_of (kind.Int form spans) h = tt
    int_of (kind.Enum form listing) h = h
    int_of (kind.Bool form) h = h
    int_of (kind.Str form) h = h
    int_of (kind.Bin size free) h = h
    int_of (kind.Arr item count) h = h
    int_of (kind.Con c) h = h

pub fixed_value : (t : Table) (rules : KeepsRules t) (y i : ℕ) (p : Part) (name : Option (List ℕ)) (id : TypeId) (v : Value) (row : TypeRow) → Stands t (placed y i p) → p ≡ part.Fixed name id v → slice_get t id.0 ≡ Some row → IsValueOf row.kind (plain v)
fixed_value t rules y i p name id v row stands is e =
    let keeps = subst (λ q. PartKeeps t (placed y i p) q) is (part_keeps t rules y i p stands) in
    let same : keeps.0.0 ≡ row = some_is_same (sym keeps.0.1 ∙ e) in
    subst (λ (r : TypeRow). IsValueOf r.kind (plain v)) same keeps.0.2

-- the type of a teller has numbers
int_any : (t : Table) (id : ℕ) {P : IntForm → List Span → Type 0} → IsInt t id P → IsInt t id (λ form spans. Unit {0})
int_any t id {P} h = (h.0, h.1, by h.0.kind h.2)
  where
    by : (q : Kind) → IsIntBy P q → IsIntBy (λ form spans. Unit {0}) q
    by (kind.Int form spans) k = tt
    by (kind.Enum form listing) k = k
    by (kind.Bool form) k = k
    by (kind.Str form) k = k
    by (kind.Bin size free) k = k
    by (kind.Arr item count) k = k
    by (kind.Con c) k = k

-- the teller of a list stands in the table
teller_stands : (t : Table) (y : ℕ) (p : Placed) (z : TypeId) (j : ℕ) (h : IsCounted t p z.0 j) → part_at t (z, j) ≡ Some (part.Plain h.name h.id)
teller_stands t y p z j h = All-at (Stands t) (sequence t p.container) (record { container = z.0; place = j; part = part.Plain h.name h.id }) (record { before = h.before.before; after = h.before.between ++ p ∷ h.before.after; is = h.before.is }) (sequence_stands t p.container)

-- the number of a field whose type has numbers
field_number : (t : Table) (fs : List Field) (z : TypeId) (j : ℕ) (v : Plain) → AllByRecursion (IsNumberIfInt t) fs → value_at fs z.0 j ≡ Some v → (name : List ℕ) (id : TypeId) → part_at t (z, j) ≡ Some (part.Plain name id) → IsInt t id.0 (λ form spans. Unit {0}) → (n : ℤ) × (v ≡ num n)
field_number t [] z j v h e name id at int = absurd cc
field_number t (f ∷ fs) z j v h e name id at int = go (field_number t fs z j v h.1) (f.container == z.0 && f.place == j) refl e
  where
    go : (value_at fs z.0 j ≡ Some v → (name : List ℕ) (id : TypeId) → part_at t (z, j) ≡ Some (part.Plain name id) → IsInt t id.0 (λ form spans. Unit {0}) → (n : ℤ) × (v ≡ num n)) → (b : Bool) → (f.container == z.0 && f.place == j) ≡ b → (if b then Some f.value else value_at fs z.0 j) ≡ Some v → (n : ℤ) × (v ≡ num n)
    go ih false k m = ih m name id at int
    go ih true k m =
        let both = and_parts (f.container == z.0) (f.place == j) k in
        let here : part_at t (id_of f.container, f.place) ≡ part_at t (z, j) = ap (λ n. part_at t (id_of n, f.place)) (eqb-true f.container z.0 both.0) ∙ ap (λ n. part_at t (z, n)) (eqb-true f.place j both.1) in
        let r = h.0 name id (here ∙ at) int in
        (r.0, sym (some_is_same m) ∙ r.1)

-- how many items a list has
pub list_count : (t : Table) (rules : KeepsRules t) (paths : List Steps) → paths ≡ each_once (asked t) → (w : Walked) (ns : List (Option ℤ)) (b : Bits) (done : List Placed) (s : Progress) (y i : ℕ) → IsAt t paths y w ns b done s → (p : Part) (name : List ℕ) (id z : TypeId) (j : ℕ) → p ≡ part.List name id z j → Stands t (placed y i p) → IsTold s.fields p → (c : ℕ)
    → ((n : ℤ) → Among paths ((z, j) ∷ []) → IsNoted t paths ns s.fields ((z, j) ∷ []) → value_at s.fields z.0 j ≡ Some (num n) → c ≡ nat_abs n) → c ≡ count_at s z.0 j
list_count t rules paths e w ns b done s y i at p name id z j is stands told c counts =
    let v = some_is (value_at s.fields z.0 j) (subst (IsTold s.fields) is told) in
    let among = subst (λ ps. Among ps ((z, j) ∷ [])) (sym e) (asked_teller t y name id z j i (stands ∙ ap (λ q. Some q) is)) in
    let counted = (subst (λ q. PartKeeps t (placed y i p) q) is (part_keeps t rules y i p stands)).2 in
    let n = field_number t s.fields z j v.0 at.ints v.1 counted.name counted.id (teller_stands t y (placed y i p) z j counted) (int_any t counted.id.0 counted.counts) in
    let is_num = v.1 ∙ ap (λ u. Some u) n.1 in
    counts n.0 among (at.shows (z, j) [] v.0 v.1) is_num ∙ sym (ap count_in is_num)

-- ---- entries and tails

pub none_is : (o : Option ℕ) → ((n : ℕ) → o ≡ Some n → ⊥) → o ≡ None
none_is None h = refl
none_is (Some n) h = absurd (h n refl)

pub entry_goes : (t : Table) (paths : List Steps) (read : ℕ → Bits → Read Plain) (x : ℕ) (u : Walked) (ms : List (Option ℤ)) (b d : Bits) (done : List Placed) (s : Progress) (y i : ℕ) (p : Part) → tail_of t p ≡ None → Goes t paths x u ms d (done ++ placed y i p ∷ []) (read_part t read s (placed y i p) p b) → Goes t paths x u ms d (done ++ placed y i p ∷ []) (read_entry t read s (placed y i p) b)
entry_goes t paths read x u ms b d done s y i p none g = record {
  state = g.state;
  is = ap (λ o. read_entry_by t read o s (placed y i p) b) none ∙ ap (inside (part_step (placed y i p))) g.is;
  at = g.at;
}

-- a part with a tail is an entry
pub tail_is : (t : Table) (p : Part) (n : ℕ) → tail_of t p ≡ Some n → (name : List ℕ) × (id : TypeId) × (p ≡ part.Plain name id)
tail_is t (part.Plain name id) n e = (name, id, refl)
tail_is t (part.Fixed name id v) n e = absurd cc
tail_is t (part.Pad m) n e = absurd cc
tail_is t (part.List name id z j) n e = absurd cc
tail_is t (part.Length name id c0 c1) n e = absurd cc
tail_is t (part.Check name id k) n e = absurd cc

pub tail_outer : (t : Table) (rules : KeepsRules t) (paths : List Steps) (y i : ℕ) (p : Part) → Stands t (placed y i p) → (n : ℕ) → tail_of t p ≡ Some n → (ns ks : List (Option ℤ)) {X : Type 0} (r : Result X Reason) → OnOk r (IsNotedField paths y i None ns ks) → IfErr r (λ e. ks ≡ ns) → KeepsOuter t paths y ns ks
tail_outer t rules paths y i p stands n most ns ks (Ok x) noted still =
    let is = tail_is t p n most in
    outer_noted t paths is.1.0 y i None ns ns ks (λ rs. part_lower t rs y i p is.1.0 stands (ap (λ q. type_by (Some q)) is.2)) (outer_none t paths is.1.0 ns) noted
tail_outer t rules paths y i p stands n most ns ks (Err e) noted still = subst (λ ms. KeepsOuter t paths y ns ms) (sym still) (outer_none t paths y ns)

pub tail_answer : (t : Table) (rules : KeepsRules t) (paths : List Steps) → paths ≡ each_once (asked t) → (depth y i : ℕ) (p : Part) → Stands t (placed y i p) → (n : ℕ) → tail_of t p ≡ Some n → (w u : Walked) (ns ks : List (Option ℤ)) (b d : Bits) → MovesOn (bits_left w.start) b → {X : Type 0} (r : Result X Reason) → u ≡ w → OnOk r (MovesOn b d) → OnOk r (IsNotedField paths y i None ns ks)
    → OnOk r ((q : Part) (s : Progress) → s.before ≡ front (bits_left w.start) b → s.octets ≡ w.octets → (j : ℕ) × (o : List ℕ) × (read_tail t (tail_room t n s (placed y i q)) s (placed y i q) b ≡ Ok (with_value s (placed y i q) (bits j o) (front b d), d)))
    → OnOk r ((done : List Placed) (s : Progress) → IsAt t paths y w ns b done s → value_at s.fields y i ≡ None → IsTold s.fields p → Goes t paths y u ks d (done ++ placed y i p ∷ []) (read_entry t (read_within depth t) s (placed y i p) b))
tail_answer t rules paths e depth y i p stands n most w u ns ks b d begun (Err g) same on noted tail = tail
tail_answer t rules paths e depth y i p stands n most w u ns ks b d begun (Ok x) same on noted tail = λ done s at new told.
    let is = tail_is t p n most in
    let lt = part_lower t rules y i p is.1.0 stands (ap (λ q. type_by (Some q)) is.2) in
    let r = tail p s at.before at.octets in
    subst (λ v. Goes t paths y v ks d (done ++ placed y i p ∷ []) (read_entry t (read_within depth t) s (placed y i p) b)) (sym same)
    (tail_goes t rules paths (follows_of t rules paths e) (next_of t paths e) depth w ns b d done s y i at new begun on p is.0 is.1 n r.0 r.1 (front b d) ks (read_entry t (read_within depth t) s (placed y i p) b) is.2 stands most lt noted refl (ap (λ o. read_entry_by t (read_within depth t) o s (placed y i p) b) most ∙ r.2))
