-- Reading a container whose value is that of its entries alone.
use Rattle.std.proofs.Common.{◌≡◌, ℕ, ◌+◌, ◌<◌, Bool, true, false, cond, List, [], ◌∷◌, ◌++◌, length, map, reverse, get_or, Option, Some, None, Result, Ok, Err, refl, sym, ap, ◌∙◌, arith}
use Rattle.std.specs.Prelude.{◌==◌, ◌&&◌, is_none, not, drop}
use Rattle.std.specs.List.{list_all, flat_map}
use Rattle.std.proofs.lemmas.List.{drop_more}
use Rattle.std.proofs.lemmas.Bool.{eqb-true, eq-eqb, and_parts, false≢true}
use Rattle.eds_base.specs.declared.fail.Fail.{Fail}
use Rattle.eds_base.specs.declared.fail.Fail.TheVariants.{Named, Memory}
use Rattle.eds_base.specs.declared.fault.Fault.{Fault}
use Rattle.eds_base.specs.declared.fault.Step.{Step}
use Rattle.eds_base.specs.declared.fault.Step.TheVariants as step
use Rattle.eds_bits.specs.Bits.{Bits}
use Rattle.eds_types.specs.declared.row.Part.{Part}
use Rattle.eds_types.specs.declared.row.Part.TheVariants as part
use Rattle.eds_types.specs.Failing.{fault_at, fault_behind, length_path}
use Rattle.eds_types.specs.Families.{first_of}
use Rattle.eds_types.specs.Fields.{Field, type_by, field_of, values_of, constraints_along}
use Rattle.eds_types.specs.Plain.{Plain, fields, plains_of}
use Rattle.eds_types.specs.Reading.{Read, stay, nowhere, next, size_fits, next_of, ◌>>=◌, inside, advance, front, check_all, read_entry_by, read_entry, read_parts, read_chain, read_under, finish, trailers_up, read_to_end, ended}
use Rattle.eds_types.specs.Rows.{Table, id_of, chain, family, is_concrete, constraints_of, entries_of, trailers_of, placed_from, placed_entries, placed_trailers}
use Rattle.eds_types.specs.Sizes.{tail_of}
use Rattle.eds_types.specs.Spelling.{Progress, started, with_value}
use Rattle.eds_base.specs.declared.fault.Reason.TheVariants.{LengthDiffers}
use Rattle.eds_types.specs.Choices.{meets, fits_choice}
use Rattle.eds_types.proofs.Candidates.{numbers_are, candidate_is_first}
use Rattle.eds_unpack.specs.Entries.{placed}
use Rattle.eds_unpack.specs.Readers.{Stops}
use Rattle.eds_unpack.specs.Straight.{is_only, is_straight_entry, is_straight}
use Rattle.eds_unpack.proofs.Steps.{stops_on, stops_as, under_step, under_by, chain_stops, container_reads}
use Rattle.eds_types.proofs.ExactReading.{failed, ok_err, err_is}

-- ---- the entries

-- so many entries were read, and the values are theirs
pub record IsStraightSoFar (t : Table) (read : ℕ → Bits → Read Plain) (y : ℕ) (b : Bits) (place : ℕ) (rest : List Part) (vs : List Plain) (d : Bits) : Type 0 where
  pub s : Progress
  pub values : values_of s.fields ≡ vs
  pub octets : s.octets ≡ None
  pub reads : read_parts t read (placed_from y place rest) s d ≡ read_parts t read (placed_entries t y) started b

values_append : (fs gs : List Field) → values_of (fs ++ gs) ≡ values_of fs ++ values_of gs
values_append [] gs = refl
values_append (f ∷ fs) gs = ap (λ vs. f.value ∷ vs) (values_append fs gs)

inside_ok : {A : Type 0} (s : Step) (r : Result A Fault) (x : A) → inside s r ≡ Ok x → r ≡ Ok x
inside_ok s (Ok y) x e = e
inside_ok s (Err g) x e = absurd (ok_err (Err (fault_behind s g)) x (fault_behind s g) e refl)

stops_inside : {A B : Type 0} (e : Fail Fault) (s : Step) (f : A → Bits → B) (b : Bits) (r : Read A) → Stops e (inside s r) → Stops e (inside s (advance f b r))
stops_inside (Named g) s f b (Ok x) h = absurd (ok_err (Ok x) x g refl h)
stops_inside {A} {B} (Named g) s f b (Err w) h = ap (failed (B × Bits)) (err_is (A × Bits) (fault_behind s w) g h)
stops_inside Memory s f b r h = tt

-- the first entry, and those behind it

pub part_left : (ps : List Part) (i : ℕ) (p : Part) → i < length ps → p ≡ get_or ps i p → drop i ps ≡ p ∷ drop (i + 1) ps
part_left ps i p lt e = drop_more ps i p lt ∙ ap (λ q. q ∷ drop (i + 1) ps) (sym e)

pub first_type : (t : Table) (p : Part) (id : ℕ) → is_straight_entry t p ≡ true → ((i : ℕ) → type_by (Some p) ≡ Some i → id ≡ i) → type_by (Some p) ≡ Some id
first_type t (part.Plain name own) id e k = ap Some (sym (k own.0 refl))
first_type t (part.Fixed name own v) id e k = absurd (false≢true e)
first_type t (part.Pad n) id e k = absurd (false≢true e)
first_type t (part.List name own z i) id e k = absurd (false≢true e)
first_type t (part.Length name own c0 c1) id e k = absurd (false≢true e)
first_type t (part.Check name own c) id e k = absurd (false≢true e)

pub first_straight : (t : Table) (ps rest : List Part) (p : Part) → ps ≡ p ∷ rest → list_all (is_straight_entry t) ps ≡ true → (is_straight_entry t p ≡ true) × (list_all (is_straight_entry t) rest ≡ true)
first_straight t ps rest p e h = and_parts (is_straight_entry t p) (list_all (is_straight_entry t) rest) (sym (ap (list_all (is_straight_entry t)) e) ∙ h)

module _ (t : Table) (read : ℕ → Bits → Read Plain) (y place : ℕ) (s : Progress) (d : Bits) where
  type_is : (a c : ℕ) → ◌≡◌ {A = Option ℕ} (Some a) (Some c) → a ≡ c
  type_is a c e = cc

  tail_is_none : (o : Option ℕ) → is_none o ≡ true → o ≡ None
  tail_is_none None e = refl
  tail_is_none (Some n) e = absurd (false≢true e)

  -- such an entry is read as its type is
  pub entry_is : (q : Part) (id : ℕ) → is_straight_entry t q ≡ true → type_by (Some q) ≡ Some id → read_entry t read s (placed y place q) d ≡ inside (step.Part (id_of y) place) (advance (with_value s (placed y place q)) d (read id d))
  entry_is (part.Plain name own) id e k = ap (λ o. read_entry_by t read o s (placed y place (part.Plain name own)) d) (tail_is_none (tail_of t (part.Plain name own)) e) ∙ ap (λ i. inside (step.Part (id_of y) place) (advance (with_value s (placed y place (part.Plain name own))) d (read i d))) (type_is own.0 id k)
  entry_is (part.Fixed name own v) id e k = absurd (false≢true e)
  entry_is (part.Pad n) id e k = absurd (false≢true e)
  entry_is (part.List name own z i) id e k = absurd (false≢true e)
  entry_is (part.Length name own c0 c1) id e k = absurd (false≢true e)
  entry_is (part.Check name own c) id e k = absurd (false≢true e)

  pub parts_step : (p : Part) (rest : List Part) → read_parts t read (placed_from y place (p ∷ rest)) s d ≡ (read_entry t read s (placed y place p) d >>= λ v. read_parts t read (placed_from y (place + 1) rest) v.0 v.1)
  unfolding read_parts
  parts_step p rest = refl

module _ (t : Table) (read : ℕ → Bits → Read Plain) (y : ℕ) (b : Bits) where
  module _ (place : ℕ) (p : Part) (rest : List Part) (vs : List Plain) (d : Bits) (so : IsStraightSoFar t read y b place (p ∷ rest) vs d) where
    module _ (id : ℕ) (plain_part : is_straight_entry t p ≡ true) (id_is : type_by (Some p) ≡ Some id) where
      pub straight_stops : (e : Fail Fault) → Stops e (inside (step.Part (id_of y) place) (read id d)) → Stops e (read_parts t read (placed_entries t y) started b)
      straight_stops e h = stops_as e _ _ (sym (parts_step t read y place so.s d p rest) ∙ so.reads) (stops_on e (read_entry t read so.s (placed y place p) d) (λ v. read_parts t read (placed_from y (place + 1) rest) v.0 v.1) (stops_as e _ _ (sym (entry_is t read y place so.s d p id plain_part id_is)) (stops_inside e (step.Part (id_of y) place) (with_value so.s (placed y place p)) d (read id d) h)))

      pub straight_goes : (v : Plain) (ws : List Plain) (c : Bits) → ws ≡ vs ++ v ∷ [] → inside (step.Part (id_of y) place) (read id d) ≡ Ok (v, c) → IsStraightSoFar t read y b (place + 1) rest ws c
      straight_goes v ws c w h =
          let k : read_entry t read so.s (placed y place p) d ≡ Ok (with_value so.s (placed y place p) v (front d c), c) = entry_is t read y place so.s d p id plain_part id_is ∙ ap (λ r. inside (step.Part (id_of y) place) (advance (with_value so.s (placed y place p)) d r)) (inside_ok (step.Part (id_of y) place) (read id d) (v, c) h) in
          record {
            s = with_value so.s (placed y place p) v (front d c);
            values = values_append so.s.fields (field_of (placed y place p) v ∷ []) ∙ ap (λ us. us ++ v ∷ []) so.values ∙ sym w;
            octets = so.octets;
            reads = sym (ap (λ r. r >>= λ u. read_parts t read (placed_from y (place + 1) rest) u.0 u.1) k) ∙ sym (parts_step t read y place so.s d p rest) ∙ so.reads;
          }

  pub straight_done : (place : ℕ) (rest : List Part) (vs : List Plain) (d : Bits) (so : IsStraightSoFar t read y b place rest vs d) → rest ≡ [] → read_parts t read (placed_entries t y) started b ≡ Ok (so.s, d)
  unfolding read_parts
  straight_done place rest vs d so e = sym so.reads ∙ ap (λ ps. read_parts t read (placed_from y place ps) so.s d) e

-- ---- the container

pub only_is : (x : ℕ) (ys : List ℕ) → is_only x ys ≡ true → ys ≡ x ∷ []
only_is x [] e = absurd (false≢true e)
only_is x (y ∷ []) e = ap (λ z. z ∷ []) (eqb-true y x e)
only_is x (y ∷ z ∷ ys) e = absurd (false≢true e)

none_is : {A : Type 0} (xs : List A) → (length xs == 0) ≡ true → xs ≡ []
none_is [] e = refl
none_is (x ∷ xs) e = let k : length (x ∷ xs) ≡ 0 = eqb-true (length (x ∷ xs)) 0 e in absurd (omega (arith, k))

pub first_is_none : (p : ℕ → Bool) (x : ℕ) (ys : List ℕ) → ys ≡ x ∷ [] → p x ≡ false → first_of p ys ≡ None
unfolding first_of
first_is_none p x ys e f = ap (first_of p) e ∙ ap (λ c. cond c (Some x) None) f

all_six : (a b c d e f : Bool) → (a && (b && (c && (d && (e && f))))) ≡ true → (a ≡ true) × (b ≡ true) × (c ≡ true) × (d ≡ true) × (e ≡ true) × (f ≡ true)
all_six a b c d e f h =
    let k = and_parts a (b && (c && (d && (e && f)))) h in
    let l = and_parts b (c && (d && (e && f))) k.1 in
    let m = and_parts c (d && (e && f)) l.1 in
    let n = and_parts d (e && f) m.1 in
    let o = and_parts e f n.1 in
    (k.0, l.0, m.0, n.0, o.0, o.1)

module _ (t : Table) (x : ℕ) (h : is_straight t x ≡ true) where
  facts : (is_concrete t x ≡ true) × (is_only x (family t x) ≡ true) × (is_only x (chain t x) ≡ true) × ((length (constraints_of t x) == 0) ≡ true) × ((length (trailers_of t x) == 0) ≡ true) × (list_all (is_straight_entry t) (entries_of t x) ≡ true)
  facts = all_six (is_concrete t x) (is_only x (family t x)) (is_only x (chain t x)) (length (constraints_of t x) == 0) (length (trailers_of t x) == 0) (list_all (is_straight_entry t) (entries_of t x)) h

  pub concrete : is_concrete t x ≡ true
  concrete = facts.0

  family_is : family t x ≡ x ∷ []
  family_is = only_is x (family t x) facts.1

  chain_is : chain t x ≡ x ∷ []
  chain_is = only_is x (chain t x) facts.2

  constraints_are : constraints_of t x ≡ []
  constraints_are = none_is (constraints_of t x) facts.3

  trailers_are_none : trailers_of t x ≡ []
  trailers_are_none = none_is (trailers_of t x) facts.4

  pub entries_straight : list_all (is_straight_entry t) (entries_of t x) ≡ true
  entries_straight = facts.5

  next_stays : (fs : List Field) → next t x fs ≡ stay
  next_stays fs =
      let self : fits_choice t x fs x ≡ false = ap (λ c. not c && list_all (meets t x fs) (constraints_along t x)) (eq-eqb x x refl) in
      ap (next_of t x) (sym (candidate_is_first t x fs (map id_of (family t x)) refl) ∙ ap (first_of (fits_choice t x fs)) (numbers_are (map id_of (family t x)) (family t x) refl) ∙ first_is_none (fits_choice t x fs) x (family t x) family_is self)
      ∙ ap (λ c. cond c stay nowhere) concrete

  module _ (read : ℕ → Bits → Read Plain) (b : Bits) where
    chain_reads : read_chain t read (chain t x) started b ≡ (read_parts t read (placed_entries t x) started b >>= λ v. Ok v)
    unfolding read_chain check_all
    chain_reads = ap (λ ys. read_chain t read ys started b) chain_is ∙ ap (λ cs. (check_all t cs [] >>= λ u. read_parts t read (placed_entries t x) started b) >>= λ v. Ok v) constraints_are

    trailers_none : trailers_up t read x ≡ []
    trailers_none = ap (λ ys. flat_map (placed_trailers t) (reverse ys)) chain_is ∙ ap (λ ps. placed_from x (length (entries_of t x)) ps ++ []) trailers_are_none

    under_reads : (s : Progress) (d : Bits) → s.octets ≡ None → read_under t read 16 x s d ≡ Ok (x, s, d)
    unfolding read_parts
    under_reads s d o =
        under_step t read 15 x s d
        ∙ ap (under_by t read 15 x s d) (next_stays s.fields)
        ∙ ap (λ ps. read_parts t read ps s d >>= finish x (length_path t x)) trailers_none
        ∙ ap (λ q. cond (size_fits q s.before) (Ok (x, s, d)) (Err (fault_at LengthDiffers (length_path t x)))) o

    pub straight_ends : (s : Progress) (d : Bits) → s.octets ≡ None → read_parts t read (placed_entries t x) started b ≡ Ok (s, d) → ended t read (read_to_end t read x b) ≡ Ok (fields x (plains_of (values_of s.fields)), d)
    straight_ends s d o e = container_reads t read x b (chain t x) started refl refl s s d d x (chain_reads ∙ ap (λ r. r >>= λ v. Ok v) e) (under_reads s d o)

    pub straight_fails : (e : Fail Fault) → Stops e (read_parts t read (placed_entries t x) started b) → Stops e (ended t read (read_to_end t read x b))
    straight_fails e k = chain_stops t read x b (chain t x) started refl refl e (stops_as e _ _ (sym chain_reads) (stops_on e (read_parts t read (placed_entries t x) started b) (λ v. Ok v) k))
