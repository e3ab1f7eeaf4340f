-- Whatever is read, the bits that are left are the last of those that there were.
use Rattle.eds_base.specs.declared.fault.Fault.{Fault}
use Rattle.std.proofs.Common.{◌≡◌, ℕ, zero, suc, ◌+◌, ◌*◌, Bool, true, false, cond, List, [], ◌∷◌, ◌++◌, length, take, drop, Option, Some, None, Result, Ok, Err, refl, sym, ap, subst, ◌∙◌, append_assoc, take-append-drop, pos}
use Rattle.std.specs.Prelude.{nat_lt, slice_get}
use Rattle.eds_base.specs.declared.fault.Step.{Step}
use Rattle.eds_base.specs.declared.fault.Reason.TheVariants.{Short, Unterminated, FixedDiffers, LengthDiffers, CheckDiffers}
use Rattle.eds_bits.specs.declared.forms.TextForm.{TextForm}
use Rattle.eds_bits.specs.Bits.{Bits, octets_of}
use Rattle.eds_bits.specs.IntForms.{number_of}
use Rattle.eds_bits.specs.Scalars.{before_stop, check_of}
use Rattle.eds_types.specs.declared.row.TypeRow.{TypeRow}
use Rattle.eds_types.specs.declared.row.Kind.{Kind}
use Rattle.eds_types.specs.declared.row.Kind.TheVariants as kind
use Rattle.eds_types.specs.declared.row.Part.{Part}
use Rattle.eds_types.specs.declared.row.Part.TheVariants as part
use Rattle.eds_types.specs.Failing.{fault_here, whole_octets, length_path, part_step, fault_at}
use Rattle.eds_types.specs.Plain.{Plain, plain, num, truth, bits, items, plains_of}
use Rattle.eds_types.specs.Reading.{Read, Ends, Next, stay, nowhere, under, ◌>>=◌, inside, judged, judge, advance, read_bits, ranged, named, truth_of, expected, number_in, after_number, coded, stopped, unstopped, read_text, read_items, read_part, read_tail, tail_room, read_entry_by, read_entry, read_parts, check_all, read_own, read_chain, next, finish, size_fits, go_on, read_under, ended, read_to_end, read_kind, read_row, read_within, trailers_up}
use Rattle.eds_types.specs.Rows.{Table, list_has, Placed, placed_entries, chain, constraints_of}
use Rattle.eds_types.specs.Sizes.{tail_of}
use Rattle.eds_types.specs.Spelling.{Progress, started, with_bits, with_value, count_at}
use Rattle.eds_types.proofs.ExactReading.{ok_is, ok_err}
use Rattle.eds_unpack.specs.Courses.{MovesOn}
use Rattle.eds_unpack.specs.Readers.{passed}

pub stays : (b : Bits) → MovesOn b b
stays b = ([], refl)

pub moves : (a b c : Bits) → MovesOn a b → MovesOn b c → MovesOn a c
moves a b c f g = (f.0 ++ g.0, f.1 ∙ ap (λ d. f.0 ++ d) g.1 ∙ sym (append_assoc f.0 g.0 c))

pub drops : (n : ℕ) (b : Bits) → MovesOn b (drop n b)
drops n b = (take n b, sym (take-append-drop n b))

abbrev pub OnRead : {A : Type 0} → Bits → Read A → Type 0
OnRead b (Ok x) = MovesOn b x.1
OnRead b (Err g) = Unit {0}

abbrev pub OnEnds : Bits → Ends → Type 0
OnEnds b (Ok e) = MovesOn b e.2
OnEnds b (Err g) = Unit {0}

on_judged : {B : Type 0} (b rest : Bits) (r : Result B Fault) → MovesOn b rest → OnRead b (judged rest r)
on_judged b rest (Ok y) h = h
on_judged b rest (Err g) h = tt

pub on_judge : {A B : Type 0} (j : A → Result B Fault) (b : Bits) (r : Read A) → OnRead b r → OnRead b (judge j r)
on_judge j b (Ok x) h = on_judged b x.1 (j x.0) h
on_judge j b (Err g) h = tt

on_advance : {A B : Type 0} (f : A → Bits → B) (b : Bits) (r : Read A) → OnRead b r → OnRead b (advance f b r)
on_advance f b (Ok x) h = h
on_advance f b (Err g) h = tt

on_inside : {A : Type 0} (s : Step) (b : Bits) (r : Read A) → OnRead b r → OnRead b (inside s r)
on_inside s b (Ok x) h = h
on_inside s b (Err g) h = tt

on_bind : {A B : Type 0} (b : Bits) (r : Read A) (f : A × Bits → Read B) → OnRead b r → ((x : A) (d : Bits) → OnRead d (f (x, d))) → OnRead b (r >>= f)
on_bind {A} {B} b (Ok x) f h k = go (f x) (k x.0 x.1)
  where
    go : (r : Read B) → OnRead x.1 r → OnRead b r
    go (Ok y) m = moves b x.1 y.1 h m
    go (Err g) m = tt
on_bind b (Err g) f h k = tt

pub on_bits : (n : ℕ) (b : Bits) → OnRead b (read_bits n b)
on_bits n b = go (nat_lt (length b) n)
  where
    go : (short : Bool) → OnRead b (cond short (Err (fault_here Short)) (Ok (take n b, drop n b)))
    go true = tt
    go false = drops n b

on_text : (form : TextForm) (fixed : Bool) (b : Bits) → OnRead b (read_text form fixed b)
on_text form true b = on_judge (λ c. coded form.ascii (before_stop form.stop (octets_of c))) b (read_bits (8 * form.length) b) (on_bits (8 * form.length) b)
on_text form false b = go (list_has (take (form.length + 1) (whole_octets b)) form.stop)
  where
    un : (short : Bool) → OnRead {A = Plain} b (cond short (Err (fault_here Short)) (Err (fault_here Unterminated)))
    un true = tt
    un false = tt

    go : (stop : Bool) → OnRead b (cond stop (stopped form b) (unstopped form b))
    go true = on_judged b (drop (8 * (length (before_stop form.stop (whole_octets b)) + 1)) b) (coded form.ascii (before_stop form.stop (whole_octets b))) (drops (8 * (length (before_stop form.stop (whole_octets b)) + 1)) b)
    go false = un (nat_lt (length (whole_octets b)) (form.length + 1))

on_items : (read : Bits → Read Plain) → ((b : Bits) → OnRead b (read b)) → (n j : ℕ) (b : Bits) → OnRead b (read_items read n j b)
unfolding read_items
on_items read h zero j b = stays b
on_items read h (suc n) j b = on_bind b (inside _ (read b)) _ (on_inside _ b (read b) (h b)) (λ v d. on_bind d (read_items read n (j + 1) d) _ (on_items read h n (j + 1) d) (λ vs e. stays e))

module _ (t : Table) (read : ℕ → Bits → Read Plain) (h : (id : ℕ) (b : Bits) → OnRead b (read id b)) where
  on_part : (s : Progress) (p : Placed) (q : Part) (b : Bits) → OnRead b (read_part t read s p q b)
  on_part s p (part.Plain name id) b = on_advance (with_value s p) b (read id.0 b) (h id.0 b)
  on_part s p (part.Fixed name id v) b = on_advance (λ u c. with_bits s c) b (judge (expected (plain v) FixedDiffers) (read id.0 b)) (on_judge (expected (plain v) FixedDiffers) b (read id.0 b) (h id.0 b))
  on_part s p (part.Pad n) b = on_advance (λ u c. with_bits s c) b (read_bits n b) (on_bits n b)
  on_part s p (part.List name id y i) b = on_advance (λ vs c. with_value s p (items (plains_of vs)) c) b (read_items (read id.0) (count_at s y.0 i) 0 b) (on_items (read id.0) (h id.0) (count_at s y.0 i) 0 b)
  on_part s p (part.Length name id c0 c1) b = on_advance (after_number s c0 c1) b (judge number_in (read id.0 b)) (on_judge number_in b (read id.0 b) (h id.0 b))
  on_part s p (part.Check name id k) b = on_advance (λ u c. with_bits s c) b (judge (expected (num (pos (check_of k s.before))) CheckDiffers) (read id.0 b)) (on_judge (expected (num (pos (check_of k s.before))) CheckDiffers) b (read id.0 b) (h id.0 b))

  on_tail : (o : Option ℕ) (s : Progress) (p : Placed) (b : Bits) → OnRead b (read_tail t o s p b)
  on_tail None s p b = tt
  on_tail (Some j) s p b = on_inside (part_step p) b (advance (λ c d. with_value s p (bits (8 * j) (octets_of d)) d) b (read_bits (8 * j) b)) (on_advance (λ c d. with_value s p (bits (8 * j) (octets_of d)) d) b (read_bits (8 * j) b) (on_bits (8 * j) b))

  on_entry_by : (o : Option ℕ) (s : Progress) (p : Placed) (b : Bits) → OnRead b (read_entry_by t read o s p b)
  on_entry_by None s p b = on_inside (part_step p) b (read_part t read s p p.part b) (on_part s p p.part b)
  on_entry_by (Some n) s p b = on_tail (tail_room t n s p) s p b

  on_parts : (ps : List Placed) (s : Progress) (b : Bits) → OnRead b (read_parts t read ps s b)
  unfolding read_parts
  on_parts [] s b = stays b
  on_parts (p ∷ ps) s b = on_bind b (read_entry t read s p b) _ (on_entry_by (tail_of t p.part) s p b) (λ v d. on_parts ps v d)

  on_checked : (y : ℕ) (s : Progress) (b : Bits) (r : Result (Unit {0}) Fault) → OnRead b (r >>= λ u. read_parts t read (placed_entries t y) s b)
  on_checked y s b (Ok u) = on_parts (placed_entries t y) s b
  on_checked y s b (Err g) = tt

  on_chain : (ys : List ℕ) (s : Progress) (b : Bits) → OnRead b (read_chain t read ys s b)
  unfolding read_chain
  on_chain [] s b = stays b
  on_chain (y ∷ ys) s b = on_bind b (read_own t read y s b) _ (on_checked y s b (check_all t (constraints_of t y) s.fields)) (λ v d. on_chain ys v d)

  on_finish : (x : ℕ) (steps : List Step) (b : Bits) (r : Read Progress) → OnRead b r → OnEnds b (r >>= finish x steps)
  on_finish x steps b (Err g) m = tt
  on_finish x steps b (Ok v) m = go (size_fits (v.0).octets (v.0).before)
    where
      go : (fits : Bool) → OnEnds b (cond fits (Ok (x, v.0, v.1)) (Err (fault_at LengthDiffers steps)))
      go true = m
      go false = tt

  on_then : (b : Bits) (r : Read Progress) (f : Progress → Bits → Ends) → OnRead b r → ((v : Progress) (d : Bits) → OnEnds d (f v d)) → OnEnds b (r >>= λ v. f v.0 v.1)
  on_then b (Err g) f m k = tt
  on_then b (Ok x) f m k = go (f x.0 x.1) (k x.0 x.1)
    where
      go : (r : Ends) → OnEnds x.1 r → OnEnds b r
      go (Ok e) n = moves b x.1 e.2 m n
      go (Err g) n = tt

  on_go : (then : ℕ → Progress → Bits → Ends) → ((z : ℕ) (v : Progress) (d : Bits) → OnEnds d (then z v d)) → (x : ℕ) (s : Progress) (b : Bits) (o : Next) → OnEnds b (go_on t read then x s b o)
  on_go then k x s b stay = on_finish x (length_path t x) b (read_parts t read (trailers_up t read x) s b) (on_parts (trailers_up t read x) s b)
  on_go then k x s b nowhere = tt
  on_go then k x s b (under z) = on_then b (read_parts t read (placed_entries t z) s b) (then z) (on_parts (placed_entries t z) s b) (k z)

  on_under : (n x : ℕ) (s : Progress) (b : Bits) → OnEnds b (read_under t read n x s b)
  unfolding read_under
  on_under zero x s b = tt
  on_under (suc n) x s b = on_go (read_under t read n) (on_under n) x s b (next t x s.fields)

  on_ended : (b : Bits) (r : Ends) → OnEnds b r → OnRead b (ended t read r)
  on_ended b (Ok e) m = m
  on_ended b (Err g) m = tt

  on_kind : (id : ℕ) (k : Kind) (b : Bits) → OnRead b (read_kind t read id k b)
  on_kind id (kind.Int form spans) b = on_judge (λ c. ranged spans (number_of form c)) b (read_bits form.bits b) (on_bits form.bits b)
  on_kind id (kind.Enum form listing) b = on_judge (λ c. named listing (number_of form c)) b (read_bits form.bits b) (on_bits form.bits b)
  on_kind id (kind.Bool form) b = on_judge (λ c. Ok (truth (truth_of form c))) b (read_bits form.bits b) (on_bits form.bits b)
  on_kind id (kind.Str form) b = on_text form form.fixed b
  on_kind id (kind.Bin n free) b = on_judge (λ c. Ok (bits n (octets_of c))) b (read_bits n b) (on_bits n b)
  on_kind id (kind.Arr item n) b = on_judge (λ vs. Ok (items (plains_of vs))) b (read_items (read item.0) n 0 b) (on_items (read item.0) (h item.0) n 0 b)
  on_kind id (kind.Con c) b = on_ended b (read_to_end t read id b) (on_then b (read_chain t read (chain t id) started b) (read_under t read 16 id) (on_chain (chain t id) started b) (on_under 16 id))

  on_row : (id : ℕ) (o : Option TypeRow) (b : Bits) → OnRead b (read_row t read id o b)
  on_row id None b = tt
  on_row id (Some row) b = on_kind id row.kind b

pub on_within : (n : ℕ) (t : Table) (id : ℕ) (b : Bits) → OnRead b (read_within n t id b)
unfolding read_within
on_within zero t id b = tt
on_within (suc n) t id b = on_row t (read_within n t) (on_within n t) id (slice_get t id) b

pub value_moves : (n : ℕ) (t : Table) (id : ℕ) (b : Bits) (v : Plain) (rest : Bits) → read_within n t id b ≡ Ok (v, rest) → MovesOn b rest
value_moves n t id b v rest e = subst (OnRead b) e (on_within n t id b)

pub items_move : (n : ℕ) (t : Table) (id count : ℕ) (b : Bits) (vs : List Plain) (rest : Bits) → read_items (read_within n t id) count 0 b ≡ Ok (vs, rest) → MovesOn b rest
items_move n t id count b vs rest e = subst (OnRead b) e (on_items (read_within n t id) (on_within n t id) count 0 b)

pub bits_move : (n : ℕ) (b c rest : Bits) → read_bits n b ≡ Ok (c, rest) → MovesOn b rest
bits_move n b c rest e = subst (OnRead b) e (on_bits n b)

pub octets_move : (j : ℕ) (b : Bits) (v : Plain) (rest : Bits) → judge (λ c. Ok (bits (8 * j) (octets_of c))) (read_bits (8 * j) b) ≡ Ok (v, rest) → MovesOn b rest
octets_move j b v rest e = subst (OnRead b) e (on_judge (λ c. Ok (bits (8 * j) (octets_of c))) b (read_bits (8 * j) b) (on_bits (8 * j) b))

pub pad_moves : (n : ℕ) (b rest : Bits) → passed (read_bits n b) ≡ Ok rest → MovesOn b rest
pad_moves n b rest e = go (read_bits n b) (on_bits n b) e
  where
    go : (r : Read Bits) → OnRead b r → passed r ≡ Ok rest → MovesOn b rest
    go (Err g) h f = absurd (ok_err (passed {A = Bits} (Err g)) rest g f refl)
    go (Ok x) h f = subst (MovesOn b) (ok_is x.1 rest f) h
