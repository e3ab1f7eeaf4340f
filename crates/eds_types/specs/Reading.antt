-- Reading from left to right, with the first fault that is met. This function is a device of the proofs: the meaning of
-- bits is said by spellings and by where reading fails, and the laws say that this function gives exactly that. The
-- reader in code is proved to give what this function gives.
use Rattle.eds_base.specs.declared.fault.Fault.{Fault}
use Rattle.std.specs.Prelude.{ℕ, zero, suc, ◌+◌, ◌-◌, ◌*◌, ℤ, pos, negsuc, ◌+ℤ◌, ◌*ℤ◌, List, [], ◌∷◌, length, take, drop, reverse, Bool, true, false, cond, not, ◌&&◌, ◌==◌, Option, Some, None, Result, Ok, Err, slice_get, nat_lt, int_le, unwrap_or}
use Rattle.std.specs.List.{flat_map, list_all}
use Rattle.std.specs.Str.{is_utf8}
use Rattle.std.specs.Ordering.{int_eq}
use Rattle.eds_base.specs.declared.ids.TypeId.{TypeId}
use Rattle.eds_base.specs.declared.fault.Step.{Step}
use Rattle.eds_base.specs.declared.fault.Step.TheVariants as step
use Rattle.eds_base.specs.declared.fault.Reason.{Reason}
use Rattle.eds_base.specs.declared.fault.Reason.TheVariants.{Short, OutOfRange, NoLabel, BadDigit, BadText, Unterminated, FixedDiffers, Constraint, NoDerived, LengthDiffers, CheckDiffers}
use Rattle.eds_base.specs.declared.spans.Span.{Span}
use Rattle.eds_base.specs.Reading.{same as same_text}
use Rattle.eds_bits.specs.declared.forms.TextForm.{TextForm}
use Rattle.eds_bits.specs.declared.forms.BoolForm.{BoolForm}
use Rattle.eds_bits.specs.Bits.{Bits, octets_of, octets_for}
use Rattle.eds_bits.specs.Style.{is_zero}
use Rattle.eds_bits.specs.IntForms.{number_of}
use Rattle.eds_bits.specs.Scalars.{before_stop, check_of}
use Rattle.eds_types.specs.declared.row.TypeRow.{TypeRow}
use Rattle.eds_types.specs.declared.row.Kind.{Kind}
use Rattle.eds_types.specs.declared.row.Kind.TheVariants as kind
use Rattle.eds_types.specs.declared.row.Part.{Part}
use Rattle.eds_types.specs.declared.row.Part.TheVariants as part
use Rattle.eds_types.specs.declared.row.Constraint.{Constraint as Condition}
use Rattle.eds_types.specs.Plain.{Plain, num, label, truth, text, bits, items, fields, Plains, none, more, plains_of, plain}
use Rattle.eds_types.specs.Rows.{Table, id_of, chain, list_has, is_concrete, entries_of, constraints_of, Placed, placed_entries, placed_trailers}
use Rattle.eds_types.specs.Fields.{Field, values_of, number_on, listed, constraints_along}
use Rattle.eds_types.specs.Spelling.{Progress, started, with_bits, with_value, with_octets, count_at}
use Rattle.eds_types.specs.Failing.{fault_behind, fault_here, path_steps, part_step, length_path, whole_octets, fault_at}
use Rattle.eds_types.specs.Sizes.{tail_of, trailers_size}

-- what is read and the bits that are left, or the fault
abbrev pub Read : Type 0 → Type 0
Read A = Result (A × Bits) Fault

-- one reading after another, until a fault
infixl 10 ◌>>=◌
abbrev pub ◌>>=◌ : {A B : Type 0} → Result A Fault → (A → Result B Fault) → Result B Fault
(Ok x) >>= f = f x
(Err e) >>= f = Err e

-- a fault inside a step
abbrev pub inside : {A : Type 0} → Step → Result A Fault → Result A Fault
inside s (Ok x) = Ok x
inside s (Err g) = Err (fault_behind s g)

-- ---- what is read, and then judged

-- what a judgement gives, with the bits that are left
abbrev pub judged : {B : Type 0} → Bits → Result B Fault → Read B
judged rest (Ok y) = Ok (y, rest)
judged rest (Err g) = Err g

-- what was read, judged
abbrev pub judge : {A B : Type 0} → (A → Result B Fault) → Read A → Read B
judge j (Ok x) = judged x.1 (j x.0)
judge j (Err g) = Err g

-- the bits before the rest
abbrev pub front : Bits → Bits → Bits
front b rest = take (length b - length rest) b

-- what was read, put to other use with the bits that it took
abbrev pub advance : {A B : Type 0} → (A → Bits → B) → Bits → Read A → Read B
advance f b (Ok x) = Ok (f x.0 (front b x.1), x.1)
advance f b (Err g) = Err g

-- the first n bits
abbrev pub read_bits : ℕ → Bits → Read Bits
read_bits n b = cond (nat_lt (length b) n) (Err (fault_here Short)) (Ok (take n b, drop n b))

-- ---- scalars

-- the number is of the interval
abbrev pub in_span : ℤ → Span → Bool
in_span n s = int_le s.low n && int_le n s.high

-- it is of one of the intervals
abbrev pub is_within : List Span → ℤ → Bool
is_within [] n = false
is_within (s ∷ spans) n = cond (in_span n s) true (is_within spans n)

-- a number that is of the domain
abbrev pub ranged : List Span → Option ℤ → Result Plain Fault
ranged spans None = Err (fault_here BadDigit)
ranged spans (Some n) = cond (is_within spans n) (Ok (num n)) (Err (fault_here OutOfRange))

-- there is a number, and it is this one
abbrev pub number_is : Option ℤ → ℤ → Bool
number_is None n = false
number_is (Some m) n = int_eq m n

-- the label, of the ones given, that is listed with the number
abbrev pub label_of : List (List ℕ × ℤ) → List (List ℕ × ℤ) → ℤ → Option (List ℕ)
label_of listing [] n = None
label_of listing (e ∷ es) n = cond (number_is (listed listing e.0) n) (Some e.0) (label_of listing es n)

-- the label, where there is one
abbrev pub label_as : Option (List ℕ) → Result Plain Fault
label_as None = Err (fault_here NoLabel)
label_as (Some l) = Ok (label l)

-- the label of a number
abbrev pub named : List (List ℕ × ℤ) → Option ℤ → Result Plain Fault
named listing None = Err (fault_here BadDigit)
named listing (Some n) = label_as (label_of listing listing n)

-- the truth value of a pattern
abbrev pub truth_of : BoolForm → Bits → Bool
truth_of form b = cond (is_zero b) (not form.zero_is_false) form.zero_is_false

-- all octets are below 128
abbrev pub is_ascii : List ℕ → Bool
is_ascii [] = true
is_ascii (o ∷ os) = nat_lt o 128 && is_ascii os

-- the octets are a text of the encoding
abbrev pub is_coded : Bool → List ℕ → Bool
is_coded true s = is_ascii s
is_coded false s = is_utf8 s

-- the text of the octets, in the encoding
abbrev pub coded : Bool → List ℕ → Result Plain Fault
coded ascii s = cond (is_coded ascii s) (Ok (text s)) (Err (fault_here BadText))

-- the text of the octets before the termination octet, which is there
abbrev pub stopped : TextForm → Bits → Read Plain
stopped form b = judged (drop (8 * (length (before_stop form.stop (whole_octets b)) + 1)) b) (coded form.ascii (before_stop form.stop (whole_octets b)))

-- why a text without its termination octet fails
abbrev pub unstopped : TextForm → Bits → Read Plain
unstopped form b = cond (nat_lt (length (whole_octets b)) (form.length + 1)) (Err (fault_here Short)) (Err (fault_here Unterminated))

-- a text that ends with its termination octet
abbrev pub read_open_text : TextForm → Bits → Read Plain
read_open_text form b = cond (list_has (take (form.length + 1) (whole_octets b)) form.stop) (stopped form b) (unstopped form b)

-- a text, fixed or not
abbrev pub read_text : TextForm → Bool → Bits → Read Plain
read_text form true b = judge (λ c. coded form.ascii (before_stop form.stop (octets_of c))) (read_bits (8 * form.length) b)
read_text form false b = read_open_text form b

-- ---- items

-- so many items, one after the other, the first with the number j
unfoldable pub read_items : (Bits → Read Plain) → ℕ → ℕ → Bits → Read (List Plain)
read_items read zero j b = Ok ([], b)
read_items read (suc n) j b = do
  v ← inside (step.Item j) (read b)
  vs ← read_items read n (j + 1) v.1
  Ok (v.0 ∷ vs.0, vs.1)

-- ---- values that are the same

-- two truth values are one
abbrev pub same_bool : Bool → Bool → Bool
same_bool true b = b
same_bool false b = not b

-- two values are one, and so are two lists of values
unfoldable mutual
  pub same : Plain → Plain → Bool
  same (num n) (num m) = int_eq n m
  same (label l) (label m) = same_text l m
  same (truth b) (truth c) = same_bool b c
  same (text s) (text u) = same_text s u
  same (bits n o) (bits m p) = n == m && same_text o p
  same (items vs) (items ws) = same_all vs ws
  same (fields k vs) (fields l ws) = k == l && same_all vs ws
  same v w = false

  pub same_all : Plains → Plains → Bool
  same_all none none = true
  same_all (more v vs) (more w ws) = same v w && same_all vs ws
  same_all vs ws = false

-- ---- parts

-- the value is the one that it must be
abbrev pub expected : Plain → Reason → Plain → Result (Unit {0}) Fault
expected v r w = cond (same w v) (Ok tt) (Err (fault_here r))

-- the number of a value
abbrev pub number_in : Plain → Result ℤ Fault
number_in (num n) = Ok n
number_in (label l) = Err (fault_here Short)
number_in (truth b) = Err (fault_here Short)
number_in (text s) = Err (fault_here Short)
number_in (bits n o) = Err (fault_here Short)
number_in (items vs) = Err (fault_here Short)
number_in (fields k vs) = Err (fault_here Short)

-- behind a length entry with the number r
abbrev pub after_number : Progress → ℤ → ℤ → ℤ → Bits → Progress
after_number s c0 c1 r b = with_octets s (c0 +ℤ (c1 *ℤ r)) b

-- how many octets a tail has: those that are told, less those of the other parts
abbrev pub octets_left : ℤ → ℕ → Option ℕ
octets_left (pos c) q = cond (nat_lt c q) None (Some (c - q))
octets_left (negsuc c) q = None

-- the same, where the tail may have so many bits
abbrev pub tail_octets : ℕ → Option ℕ → Option ℕ
tail_octets n None = None
tail_octets n (Some j) = cond (nat_lt n (8 * j)) None (Some j)

-- the octets of a tail that fit, if some do
abbrev pub tail_room : Table → ℕ → Progress → Placed → Option ℕ
tail_room t n s p = tail_octets n (octets_left (unwrap_or s.octets (pos 0)) (octets_for (length s.before + trailers_size t p.container)))

-- a tail of so many octets
abbrev pub read_tail : Table → Option ℕ → Progress → Placed → Bits → Read Progress
read_tail t None s p b = Err (fault_at LengthDiffers (length_path t p.container))
read_tail t (Some j) s p b = inside (part_step p) (advance (λ c d. with_value s p (bits (8 * j) (octets_of d)) d) b (read_bits (8 * j) b))

module _ (t : Table) (read : ℕ → Bits → Read Plain) where
  -- a part of each kind
  abbrev pub read_part : Progress → Placed → Part → Bits → Read Progress
  read_part s p (part.Plain name id) b = advance (with_value s p) b (read id.0 b)
  read_part s p (part.Fixed name id v) b = advance (λ u c. with_bits s c) b (judge (expected (plain v) FixedDiffers) (read id.0 b))
  read_part s p (part.Pad n) b = advance (λ u c. with_bits s c) b (read_bits n b)
  read_part s p (part.List name id y i) b = advance (λ vs c. with_value s p (items (plains_of vs)) c) b (read_items (read id.0) (count_at s y.0 i) 0 b)
  read_part s p (part.Length name id c0 c1) b = advance (after_number s c0 c1) b (judge number_in (read id.0 b))
  read_part s p (part.Check name id k) b = advance (λ u c. with_bits s c) b (judge (expected (num (pos (check_of k s.before))) CheckDiffers) (read id.0 b))

  -- a part, and a tail by the octets that fit
  abbrev pub read_entry_by : Option ℕ → Progress → Placed → Bits → Read Progress
  read_entry_by None s p b = inside (part_step p) (read_part s p p.part b)
  read_entry_by (Some n) s p b = read_tail t (tail_room t n s p) s p b

  -- a part of a container
  abbrev pub read_entry : Progress → Placed → Bits → Read Progress
  read_entry s p b = read_entry_by (tail_of t p.part) s p b

  -- parts, one after the other
  unfoldable pub read_parts : List Placed → Progress → Bits → Read Progress
  read_parts [] s b = Ok (s, b)
  read_parts (p ∷ ps) s b = read_entry s p b >>= λ v. read_parts ps v.0 v.1

-- ---- constraints

-- there is a number, and it is of the set
abbrev pub number_within : List Span → Option ℤ → Bool
number_within spans None = false
number_within spans (Some n) = is_within spans n

-- a constraint holds of the fields
abbrev pub holds : Table → List Field → Condition → Bool
holds t fs c = number_within c.set (number_on t fs c.path)

-- all constraints hold, or the first that doesn't
unfoldable pub check_all : Table → List Condition → List Field → Result (Unit {0}) Fault
check_all t [] fs = Ok tt
check_all t (c ∷ cs) fs = cond (holds t fs c) (check_all t cs fs) (Err (fault_at Constraint (path_steps c.path)))

-- ---- choosing

-- a path starts in an entry of x or of one of its bases
abbrev pub starts_above : Table → ℕ → List (TypeId × ℕ) → Bool
starts_above t x [] = false
starts_above t x (p ∷ path) = list_has (chain t x) (p.0).0 && nat_lt p.1 (length (entries_of t (p.0).0))

-- l may be the container of the fields that were read up to x
abbrev pub is_candidate : Table → ℕ → ℕ → List Field → Bool
is_candidate t x l fs = is_concrete t l && (list_has (chain t l) x && list_all (λ (c : Condition). cond (starts_above t x c.path) (holds t fs c) true) (constraints_along t l))

-- the first number from i on, of n, that passes
unfoldable pub first_from : (ℕ → Bool) → ℕ → ℕ → Option ℕ
first_from p zero i = None
first_from p (suc n) i = cond (p i) (Some i) (first_from p n (i + 1))

-- a candidate strictly under x
abbrev pub candidate_under : Table → ℕ → List Field → Option ℕ
candidate_under t x fs = first_from (λ l. not (l == x) && is_candidate t x l fs) (length t) 0

-- the container that reading stays at, goes on to, or that there is none
pub data Next : Type 0 where
  stay : Next
  nowhere : Next
  under : ℕ → Next

-- by the candidate under x, where there is one
abbrev pub next_of : Table → ℕ → Option ℕ → Next
next_of t x None = cond (is_concrete t x) stay nowhere
next_of t x (Some l) = under (unwrap_or (slice_get (chain t l) (length (chain t x))) 0)

-- where reading goes on from x
abbrev pub next : Table → ℕ → List Field → Next
next t x fs = next_of t x (candidate_under t x fs)

-- the octets are as many as a length entry tells, if there is one
abbrev pub size_fits : Option ℤ → Bits → Bool
size_fits None b = true
size_fits (Some n) b = int_eq n (pos (octets_for (length b)))

-- a container, its last state and the bits that are left
abbrev pub Ends : Type 0
Ends = Result (ℕ × Progress × Bits) Fault

-- the end of a container: its length entry is compared
abbrev pub finish : ℕ → List Step → Progress × Bits → Ends
finish x steps v = cond (size_fits (v.0).octets (v.0).before) (Ok (x, v.0, v.1)) (Err (fault_at LengthDiffers steps))

module _ (t : Table) (read : ℕ → Bits → Read Plain) where
  -- the trailers of a container's chain, in the order of their bits
  abbrev pub trailers_up : ℕ → List Placed
  trailers_up x = flat_map (placed_trailers t) (reverse (chain t x))

  -- the constraints and the entries of one container
  abbrev pub read_own : ℕ → Progress → Bits → Read Progress
  read_own y s b = check_all t (constraints_of t y) s.fields >>= λ u. read_parts t read (placed_entries t y) s b

  -- the same of all containers of a chain
  unfoldable pub read_chain : List ℕ → Progress → Bits → Read Progress
  read_chain [] s b = Ok (s, b)
  read_chain (y ∷ ys) s b = read_own y s b >>= λ v. read_chain ys v.0 v.1

  -- the trailers of the container that reading stays at, or the next container
  abbrev pub go_on : (ℕ → Progress → Bits → Ends) → ℕ → Progress → Bits → Next → Ends
  go_on then x s b stay = read_parts t read (trailers_up x) s b >>= finish x (length_path t x)
  go_on then x s b nowhere = Err (fault_at NoDerived (step.Choice (id_of x) ∷ []))
  go_on then x s b (under z) = read_parts t read (placed_entries t z) s b >>= λ v. then z v.0 v.1

  -- the container x and its bases have been read
  unfoldable pub read_under : ℕ → ℕ → Progress → Bits → Ends
  read_under zero x s b = Err (fault_at NoDerived (step.Choice (id_of x) ∷ []))
  read_under (suc n) x s b = go_on (read_under n) x s b (next t x s.fields)

  -- the value of what was read to the end
  abbrev pub ended : Ends → Read Plain
  ended (Ok e) = Ok (fields e.0 (plains_of (values_of (e.1).fields)), e.2)
  ended (Err g) = Err g

  -- all of a container
  abbrev pub read_to_end : ℕ → Bits → Ends
  read_to_end top b = read_chain (chain t top) started b >>= λ v. read_under 16 top v.0 v.1

  -- a value of a kind
  abbrev pub read_kind : ℕ → Kind → Bits → Read Plain
  read_kind id (kind.Int form spans) b = judge (λ c. ranged spans (number_of form c)) (read_bits form.bits b)
  read_kind id (kind.Enum form listing) b = judge (λ c. named listing (number_of form c)) (read_bits form.bits b)
  read_kind id (kind.Bool form) b = judge (λ c. Ok (truth (truth_of form c))) (read_bits form.bits b)
  read_kind id (kind.Str form) b = read_text form form.fixed b
  read_kind id (kind.Bin n free) b = judge (λ c. Ok (bits n (octets_of c))) (read_bits n b)
  read_kind id (kind.Arr item n) b = judge (λ vs. Ok (items (plains_of vs))) (read_items (read item.0) n 0 b)
  read_kind id (kind.Con c) b = ended (read_to_end id b)

  -- a value of a row's type
  abbrev pub read_row : ℕ → Option TypeRow → Bits → Read Plain
  read_row id None b = Err (fault_here Short)
  read_row id (Some row) b = read_kind id row.kind b

-- what is read, where at most n types are nested in each other
unfoldable pub read_within : ℕ → Table → ℕ → Bits → Read Plain
read_within zero t id b = Err (fault_here Short)
read_within (suc n) t id b = read_row t (read_within n t) id (slice_get t id) b
