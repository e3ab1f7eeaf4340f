-- Where reading fails, and why.
use Rattle.eds_base.specs.declared.fault.Fault.{Fault}
use Rattle.std.specs.Prelude.{◌≡◌, ◌≢◌, ℕ, zero, suc, ◌+◌, ◌*◌, ◌/◌, ◌<◌, ◌≤◌, ℤ, pos, List, [], ◌∷◌, ◌++◌, length, map, take, drop, reverse, Bool, true, false, Option, Some, None, IfSome, unwrap_or, slice_get, IsTrue, ◌⊎◌}
use Rattle.std.specs.List.{flat_map}
use Rattle.eds_base.specs.declared.ids.TypeId.{TypeId}
use Rattle.eds_base.specs.declared.fault.Step.{Step}
use Rattle.eds_base.specs.declared.fault.Step.TheVariants as step
use Rattle.eds_base.specs.declared.fault.Reason.{Reason}
use Rattle.eds_base.specs.declared.fault.Reason.TheVariants.{Short, OutOfRange, NoLabel, BadDigit, BadText, Unterminated, FixedDiffers, Constraint, NoDerived, LengthDiffers, CheckDiffers}
use Rattle.eds_base.specs.Spans.{IsWithin}
use Rattle.eds_bits.specs.declared.forms.IntForm.{IntForm}
use Rattle.eds_bits.specs.declared.forms.TextForm.{TextForm}
use Rattle.eds_bits.specs.Lists.{Has}
use Rattle.eds_bits.specs.Bits.{Bits, octets_of, octets_for}
use Rattle.eds_bits.specs.Style.{any}
use Rattle.eds_bits.specs.IntForms.{number_of}
use Rattle.eds_bits.specs.Scalars.{before_stop, IsCoded, check_of}
use Rattle.eds_types.specs.declared.row.TypeRow.{TypeRow}
use Rattle.eds_types.specs.declared.row.Kind.{Kind}
use Rattle.eds_types.specs.declared.row.Kind.TheVariants as kind
use Rattle.eds_types.specs.declared.row.Part.{Part}
use Rattle.eds_types.specs.declared.row.Part.TheVariants as part
use Rattle.eds_types.specs.declared.row.Constraint.{Constraint as Condition}
use Rattle.eds_types.specs.Plain.{Plain, num, plain}
use Rattle.eds_types.specs.Rows.{Table, id_of, chain, is_concrete, constraints_of, Placed, placed_entries, placed_trailers, sequence}
use Rattle.eds_types.specs.Sizes.{tail_of, trailers_size}
use Rattle.eds_types.specs.Fields.{listed, Holds, IsAtOrUnder, IsCandidate}
use Rattle.eds_types.specs.Spelling.{Progress, started, SizeFits, count_at, ItemsSpell, PartPasses, SpellsWithin}

-- ---- the course of reading a container

-- what is judged in turn: a constraint of a container, a part, the choice of a derived container, and at the end the
-- length entry
pub data Station : Type 0 where
  condition : (container : ℕ) → Condition → Station
  entry : Placed → Station
  choice : ℕ → Station
  end : Station

-- the containers of x's chain strictly under s
abbrev pub chain_under : Table → ℕ → ℕ → List ℕ
chain_under t s x = drop (length (chain t s)) (chain t x)

-- the constraints and then the entries of a container in the chain of the type that is read
abbrev pub own_stations : Table → ℕ → List Station
own_stations t y = map (condition y) (constraints_of t y) ++ map entry (placed_entries t y)

-- the entries of each container that was chosen, and the next choice
abbrev pub chosen_stations : Table → List ℕ → List Station
chosen_stations t [] = []
chosen_stations t (y ∷ ys) = (map entry (placed_entries t y) ++ choice y ∷ []) ++ chosen_stations t ys

-- the course of reading the type s where the container turns out to be x
abbrev pub course : Table → ℕ → ℕ → List Station
course t s x = flat_map (own_stations t) (chain t s) ++ (choice s ∷ (chosen_stations t (chain_under t s x) ++ (map entry (flat_map (placed_trailers t) (reverse (chain t x))) ++ end ∷ [])))

-- ---- what passes

-- a container at or under the next one towards x may be that of the fields
pub record GoesOn (t : Table) (y x : ℕ) (s : Progress) : Type 0 where
  pub candidate : ℕ
  pub is : IsCandidate t y candidate s.fields
  pub child : ℕ
  pub towards : (more : List ℕ) × (chain t x ≡ chain t y ++ child ∷ more)
  pub under : IsAtOrUnder t child candidate

-- no container strictly under x may be that of the fields
abbrev pub NoneUnder : Table → ℕ → Progress → Type 0
NoneUnder t x s = (l : ℕ) → l ≢ x → IsAtOrUnder t x l → IsCandidate t x l s.fields → ⊥

-- ---- tails

-- a tail of 8 * j bits after what has been read: with it and the trailers of the container's chain there are as many
-- octets as the length entry tells
abbrev pub TailFits : Table → Progress → Placed → ℕ → Type 0
TailFits t s p j = unwrap_or s.octets (pos 0) ≡ pos (j + octets_for (length s.before + trailers_size t p.container))

-- the size of a tail is the one that fits
abbrev pub IfTail : Table → Progress → Placed → Bits → Type 0
IfTail t s p b = IfSome (tail_of t p.part) (λ n. (j : ℕ) × (length b ≡ 8 * j) × TailFits t s p j)

module _ (t : Table) (SpellsInner : ℕ → Plain → Bits → Type 0) where
  -- the bits are those of the part, which has the size that fits where it is a tail
  abbrev pub EntryPasses : Progress → Placed → Progress → Bits → Type 0
  EntryPasses s p u b = PartPasses any t SpellsInner s p p.part u b × IfTail t s p b

module _ (t : Table) (SpellsInner : ℕ → Plain → Bits → Type 0) (x : ℕ) where
  -- the station lets the bits pass, from one state to the next
  abbrev pub StationPasses : Progress → Station → Progress → Bits → Type 0
  StationPasses s (condition y c) u b = (u ≡ s) × (b ≡ []) × Holds t s.fields c
  StationPasses s (entry p) u b = EntryPasses t SpellsInner s p u b
  StationPasses s (choice y) u b = (u ≡ s) × (b ≡ []) × (GoesOn t y x s ⊎ ((y ≡ x) × IsTrue (is_concrete t x) × NoneUnder t x s))
  StationPasses s end u b = (u ≡ s) × (b ≡ []) × SizeFits s

  -- all stations do, one after the other
  abbrev pub Passes : Progress → List Station → Progress → Bits → Type 0
  Passes s [] u b = (u ≡ s) × (b ≡ [])
  Passes s (p ∷ ps) u b = (m : Progress) × (c : Bits) × (d : Bits) × (b ≡ c ++ d) × StationPasses s p m c × Passes m ps u d

-- ---- what fails

-- why reading stops, and the steps from the whole value to the place where it does
abbrev pub fault_at : Reason → List Step → Fault
fault_at why path = record { reason = why; path = path }

-- the same fault, seen from one step further out
abbrev pub fault_behind : Step → Fault → Fault
fault_behind s g = fault_at g.reason (s ∷ g.path)

-- a fault of the whole value
abbrev pub fault_here : Reason → Fault
fault_here why = fault_at why []

-- the steps along a path of entries
abbrev pub path_steps : List (TypeId × ℕ) → List Step
path_steps path = map (λ p. step.Part p.0 p.1) path

-- the whole octets at the front of the bits
abbrev pub whole_octets : Bits → List ℕ
whole_octets b = octets_of (take (8 * (length b / 8)) b)

-- fewer than count items are spelled, and the next one fails
pub record ItemFails (SpellsInner : Plain → Bits → Type 0) (FailsInner : Bits → Fault → Type 0) (count : ℕ) (b : Bits) (g : Fault) : Type 0 where
  pub before : List Plain
  pub few : length before < count
  pub c : Bits
  pub d : Bits
  pub bits : b ≡ c ++ d
  pub spelled : ItemsSpell SpellsInner before c
  pub why : Fault
  pub fails : FailsInner d why
  pub is : g ≡ fault_behind (step.Item (length before)) why

-- the step into a part of a container
abbrev pub part_step : Placed → Step
part_step p = step.Part (id_of p.container) p.place

-- the step of a length entry; of another part these steps
abbrev pub if_length : Part → Placed → List Step → List Step
if_length (part.Plain name id) p steps = steps
if_length (part.Fixed name id v) p steps = steps
if_length (part.Pad n) p steps = steps
if_length (part.List name id y i) p steps = steps
if_length (part.Length name id c0 c1) p steps = step.Part (id_of p.container) p.place ∷ []
if_length (part.Check name id k) p steps = steps

-- the path of the length entry among the stations
abbrev pub length_step : List Station → List Step
length_step [] = []
length_step (condition y c ∷ ss) = length_step ss
length_step (choice y ∷ ss) = length_step ss
length_step (end ∷ ss) = length_step ss
length_step (entry p ∷ ss) = if_length p.part p (length_step ss)

-- the path of the length entry of a container
abbrev pub length_path : Table → ℕ → List Step
length_path t x = length_step (map entry (sequence t x))

-- a pattern of the form that is there, but isn't one of the type: a digit above 9, or a number that isn't Good
pub record BadNumber (form : IntForm) (Good : ℤ → Type 0) (bad : Reason) (b : Bits) (g : Fault) : Type 0 where
  pub enough : form.bits ≤ length b
  pub why : ((number_of form (take form.bits b) ≡ None) × (g ≡ fault_here BadDigit)) ⊎ ((n : ℤ) × (number_of form (take form.bits b) ≡ Some n) × (Good n → ⊥) × (g ≡ fault_here bad))

-- some label of the listing has the number
abbrev pub IsListed : List (List ℕ × ℤ) → ℤ → Type 0
IsListed listing n = (l : List ℕ) × (listed listing l ≡ Some n)

-- a fixed text: too few bits; or octets outside its encoding
abbrev pub FixedTextFails : TextForm → Bits → Fault → Type 0
FixedTextFails form b g =
    ((length b < 8 * form.length) × (g ≡ fault_here Short))
    ⊎ ((8 * form.length ≤ length b) × (IsCoded form.ascii (before_stop form.stop (octets_of (take (8 * form.length) b))) → ⊥) × (g ≡ fault_here BadText))

-- a text with a termination octet: the bits end before it may be missed; it is missing; or octets outside its encoding
abbrev pub OpenTextFails : TextForm → Bits → Fault → Type 0
OpenTextFails form b g =
    ((Has (whole_octets b) form.stop → ⊥) × (length (whole_octets b) < form.length + 1) × (g ≡ fault_here Short))
    ⊎ ((form.length + 1 ≤ length (whole_octets b)) × (Has (take (form.length + 1) (whole_octets b)) form.stop → ⊥) × (g ≡ fault_here Unterminated))
    ⊎ (Has (take (form.length + 1) (whole_octets b)) form.stop × (IsCoded form.ascii (before_stop form.stop (whole_octets b)) → ⊥) × (g ≡ fault_here BadText))

-- where reading a text fails, be it fixed or not
abbrev pub TextFails : TextForm → Bool → Bits → Fault → Type 0
TextFails form true b g = FixedTextFails form b g
TextFails form false b g = OpenTextFails form b g

-- SpellsInner says what spells a value of a type that is nested in this one, and FailsInner where reading one fails
module _ (t : Table) (SpellsInner : ℕ → Plain → Bits → Type 0) (FailsInner : ℕ → Bits → Fault → Type 0) where
  -- another value of the type is read where this one should stand
  pub record Differs (id : ℕ) (v : Plain) (b : Bits) : Type 0 where
    pub other : Plain
    pub c : Bits
    pub rest : Bits
    pub bits : b ≡ c ++ rest
    pub spelled : SpellsInner id other c
    pub differs : other ≢ v

  -- reading a part fails so, seen from inside it
  abbrev pub PartFails : Progress → Part → Bits → Fault → Type 0
  PartFails s (part.Plain name id) b g = FailsInner id.0 b g
  PartFails s (part.Fixed name id v) b g = FailsInner id.0 b g ⊎ (Differs id.0 (plain v) b × (g ≡ fault_here FixedDiffers))
  PartFails s (part.Pad n) b g = (length b < n) × (g ≡ fault_here Short)
  PartFails s (part.List name id y i) b g = ItemFails (SpellsInner id.0) (FailsInner id.0) (count_at s y.0 i) b g
  PartFails s (part.Length name id c0 c1) b g = FailsInner id.0 b g
  PartFails s (part.Check name id k) b g = FailsInner id.0 b g ⊎ (Differs id.0 (num (pos (check_of k s.before))) b × (g ≡ fault_here CheckDiffers))

  -- a tail: no size fits; or one does, and the bits are too few
  abbrev pub TailFails : ℕ → Progress → Placed → Bits → Fault → Type 0
  TailFails n s p b g =
      (((j : ℕ) → 8 * j ≤ n → TailFits t s p j → ⊥) × (g ≡ fault_at LengthDiffers (length_path t p.container)))
      ⊎ ((j : ℕ) × (8 * j ≤ n) × TailFits t s p j × (length b < 8 * j) × (g ≡ fault_behind (part_step p) (fault_here Short)))

  -- reading a part fails so, seen from its container; an open binary of at most so many bits may be of no size that fits
  abbrev pub EntryFailsBy : Option ℕ → Progress → Placed → Bits → Fault → Type 0
  EntryFailsBy None s p b g = (w : Fault) × PartFails s p.part b w × (g ≡ fault_behind (part_step p) w)
  EntryFailsBy (Some n) s p b g = TailFails n s p b g

  -- the bits are refused at the part
  abbrev pub EntryFails : Progress → Placed → Bits → Fault → Type 0
  EntryFails s p b g = EntryFailsBy (tail_of t p.part) s p b g

  -- the bits are refused at the station, in the course towards x
  abbrev pub StationFails : ℕ → Progress → Station → Bits → Fault → Type 0
  StationFails x s (condition y c) b g = (Holds t s.fields c → ⊥) × (g ≡ fault_at Constraint (path_steps c.path))
  StationFails x s (entry p) b g = EntryFails s p b g
  StationFails x s (choice y) b g = (y ≡ x) × (is_concrete t x ≡ false) × ((l : ℕ) → IsCandidate t x l s.fields → ⊥) × (g ≡ fault_at NoDerived (step.Choice (id_of x) ∷ []))
  StationFails x s end b g = (SizeFits s → ⊥) × (g ≡ fault_at LengthDiffers (length_path t x))

  -- for some container x the first stations of its course let a front of the bits pass, and the next refuses the rest
  pub record ContainerFails (s : ℕ) (b : Bits) (g : Fault) : Type 0 where
    pub x : ℕ
    pub under : IsAtOrUnder t s x
    pub done : List Station
    pub station : Station
    pub rest : List Station
    pub is_course : course t s x ≡ done ++ station ∷ rest
    pub state : Progress
    pub c : Bits
    pub d : Bits
    pub bits : b ≡ c ++ d
    pub passes : Passes t SpellsInner x started done state c
    pub fails : StationFails x state station d g

  -- reading a value of a kind fails so
  abbrev pub KindFails : ℕ → Kind → Bits → Fault → Type 0
  KindFails id (kind.Int form spans) b g = ((length b < form.bits) × (g ≡ fault_here Short)) ⊎ BadNumber form (IsWithin spans) OutOfRange b g
  KindFails id (kind.Enum form listing) b g = ((length b < form.bits) × (g ≡ fault_here Short)) ⊎ BadNumber form (IsListed listing) NoLabel b g
  KindFails id (kind.Bool form) b g = (length b < form.bits) × (g ≡ fault_here Short)
  KindFails id (kind.Str form) b g = TextFails form form.fixed b g
  KindFails id (kind.Bin n free) b g = (length b < n) × (g ≡ fault_here Short)
  KindFails id (kind.Arr item n) b g = ItemFails (SpellsInner item.0) (FailsInner item.0) n b g
  KindFails id (kind.Con c) b g = ContainerFails id b g

-- ---- all types

-- reading the bits fails, where at most n types are nested in each other
unfoldable pub FailsWithin : ℕ → Table → ℕ → Bits → Fault → Type 0
FailsWithin zero t id b g = ⊥
FailsWithin (suc n) t id b g = (row : TypeRow) × (slice_get t id ≡ Some row) × KindFails t (SpellsWithin n any t) (FailsWithin n t) id row.kind b g

-- reading the bits as the type fails for this reason at this path
abbrev pub FailsAt : Table → ℕ → Bits → Fault → Type 0
FailsAt t id b g = FailsWithin 32 t id b g
