-- Length entries of containers: the one that there is, and whether a number of its type tells a size.
use Rattle.std.proofs.Common.{◌≡◌, ℕ, ◌+◌, ◌-◌, ◌^◌, ◌<◌, ◌≤◌, ℤ, pos, ◌+ℤ◌, ◌*ℤ◌, nat_abs, Bool, true, false, cond, List, [], ◌∷◌, length, map, reverse, Option, Some, None, Ok, Err, refl, sym, ap, subst, ◌∙◌, arith, inl, inr}
use Rattle.std.specs.Prelude.{slice_get, is_ok, ◌&&◌}
use Rattle.std.specs.List.{AllByRecursion, flat_map, list_all}
use Rattle.std.specs.Ordering.{int_eq}
use Rattle.std.proofs.Math.Nat.{mul-le-mul}
use Rattle.std.proofs.lemmas.Bool.{and_from, and_parts, cases_lt, false_from_ne_true}
use Rattle.std.proofs.lemmas.Bool.Decides.{Decides-int_eq}
use Rattle.std.proofs.lemmas.Int.{ints, unsigned_abs-mul}
use Rattle.eds_base.specs.declared.fault.Step.{Step}
use Rattle.eds_base.specs.declared.fault.Step.TheVariants as step
use Rattle.eds_base.specs.declared.spans.Span.{Span}
use Rattle.eds_bits.specs.Bits.{octets_for}
use Rattle.eds_bits.specs.declared.forms.IntForm.{IntForm}
use Rattle.eds_bits.specs.IntForms.{HasNumber}
use Rattle.eds_bits.proofs.PatternLaws.{are_small}
use Rattle.eds_types.specs.declared.reason.PackReason.TheVariants as reason
use Rattle.eds_types.specs.declared.row.Kind.{Kind}
use Rattle.eds_types.specs.declared.row.Kind.TheVariants as kind
use Rattle.eds_types.specs.declared.row.Part.{Part}
use Rattle.eds_types.specs.declared.row.Part.TheVariants as part
use Rattle.eds_types.specs.declared.row.TypeRow.{TypeRow}
use Rattle.eds_types.specs.Failing.{entry, length_step, length_path, if_length as if_there}
use Rattle.eds_types.specs.Packing.{pack_fault_at, pack_fault_here}
use Rattle.eds_types.specs.PackedSizes.{Size, length_fits, number_size, packed_kind_size, packed_size_within, told_by}
use Rattle.eds_types.specs.Plain.{Plain, num}
use Rattle.eds_types.specs.Reading.{is_within}
use Rattle.eds_types.specs.Rows.{Table, Placed, chain, id_of, entries_of, trailers_of, placed_from, placed_entries, placed_trailers, own_parts, sequence, or_else}
use Rattle.eds_types.specs.Rules.{KeepsRules, KindKeeps, PartKeeps, IsInt, IsScale}
use Rattle.eds_types.proofs.AllOf.{All-both, All-front, All-back, All-flat, All-reverse}
use Rattle.eds_types.proofs.ReadingTests.{within_from}
use Rattle.eds_types.proofs.RuleFacts.{facts_of}
use Rattle.eds_types.proofs.TableFacts.{NoLength, IsLengthOnce}
use Rattle.eds_pack.specs.declared.length.LengthEntry.{LengthEntry}
use Rattle.eds_pack.specs.Counting.{capped}
use Rattle.eds_pack.specs.Lengths.{if_length, length_among, tells_octets}
use Rattle.eds_pack.specs.Nesting.{IsLow, Nests, PartNests}
use Rattle.eds_pack.proofs.Counts.{size_next}
use Rattle.eds_pack.proofs.Ranks.{chain_low, entries_nest, trailers_nest}

-- the steps to a length entry that may be there
abbrev steps_to : Option LengthEntry → List Step
steps_to None = []
steps_to (Some e) = step.Part e.container e.place ∷ []

-- ---- the path

by_steps : (q : Part) (p : Placed) (ss : List Step) (o : Option LengthEntry) → ss ≡ steps_to o → if_there q p ss ≡ steps_to (or_else (if_length q p) o)
by_steps (part.Plain name id) p ss o h = h
by_steps (part.Fixed name id v) p ss o h = h
by_steps (part.Pad n) p ss o h = h
by_steps (part.List name id y i) p ss o h = h
by_steps (part.Length name id c0 c1) p ss o h = refl
by_steps (part.Check name id k) p ss o h = h

among_steps : (ps : List Placed) → length_step (map entry ps) ≡ steps_to (length_among ps)
among_steps [] = refl
among_steps (p ∷ ps) = by_steps p.part p (length_step (map entry ps)) (length_among ps) (among_steps ps)

pub path_is : (t : Table) (k : ℕ) → length_path t k ≡ steps_to (length_among (sequence t k))
path_is t k = among_steps (sequence t k)

-- ---- what the entries keep

placed_all : (P : Part → Type 0) (y i : ℕ) (ps : List Part) → AllByRecursion P ps → AllByRecursion (λ (p : Placed). P p.part) (placed_from y i ps)
placed_all P y i [] h = tt
placed_all P y i (p ∷ ps) h = (h.0, placed_all P y (i + 1) ps h.1)

module _ (t : Table) where
  -- what holds of the own parts of each container of a chain holds of the whole sequence
  pub sequence_all : (P : Placed → Type 0) (Q : ℕ → Type 0) → ((y : ℕ) → Q y → AllByRecursion P (own_parts t y)) → (k : ℕ) → AllByRecursion Q (chain t k) → AllByRecursion P (sequence t k)
  sequence_all P Q g k h =
      All-both P (flat_map (placed_entries t) (chain t k)) (flat_map (placed_trailers t) (reverse (chain t k)))
      (All-flat P Q (placed_entries t) (λ y q. All-front P (placed_entries t y) (placed_trailers t y) (g y q)) (chain t k) h)
      (All-flat P Q (placed_trailers t) (λ y q. All-back P (placed_entries t y) (placed_trailers t y) (g y q)) (reverse (chain t k)) (All-reverse Q (chain t k) h))

  module _ (rules : KeepsRules t) (n k : ℕ) (low : IsLow t (n + 1) k) where
    pub all_nest : AllByRecursion (λ (p : Placed). PartNests t n p.part) (sequence t k)
    all_nest = sequence_all (λ (p : Placed). PartNests t n p.part) (IsLow t (n + 1))
        (λ y l. All-both (λ (p : Placed). PartNests t n p.part) (placed_entries t y) (placed_trailers t y) (placed_all (PartNests t n) y 0 (entries_of t y) (entries_nest t rules n y l)) (placed_all (PartNests t n) y (length (entries_of t y)) (trailers_of t y) (trailers_nest t rules n y l)))
        k (chain_low t (n + 1) k low)

    pub all_keep : AllByRecursion (λ (p : Placed). PartKeeps t p p.part) (sequence t k)
    all_keep = sequence_all (λ (p : Placed). PartKeeps t p p.part) (IsLow t (n + 1)) (λ y l. rules.parts y) k (chain_low t (n + 1) k low)

    -- a length entry has a type that is there, numbers that are small, and coefficients in range
    pub record EntryKeeps (e : LengthEntry) : Type 0 where
      pub nests : Nests t n e.id.0
      pub int : IsInt t e.id.0 (λ form spans. Unit {0})
      pub scale : IsScale e.c0 e.c1

    entry_keeps : (q : Part) (p : Placed) (e : LengthEntry) → PartNests t n q → PartKeeps t p q → Some e ≡ if_length q p → EntryKeeps e
    entry_keeps (part.Plain name id) p e nest keep h = absurd cc
    entry_keeps (part.Fixed name id v) p e nest keep h = absurd cc
    entry_keeps (part.Pad m) p e nest keep h = absurd cc
    entry_keeps (part.List name id y i) p e nest keep h = absurd cc
    entry_keeps (part.Length name id c0 c1) p e nest keep h =
        let f : LengthEntry = record { container = id_of p.container; place = p.place; id = id; c0 = c0; c1 = c1 } in
        let same : e ≡ f = cc in
        subst EntryKeeps (sym same) (record { nests = nest.0; int = keep.0; scale = keep.1 })
    entry_keeps (part.Check name id c) p e nest keep h = absurd cc

    among_keeps : (ps : List Placed) (e : LengthEntry) → AllByRecursion (λ (p : Placed). PartNests t n p.part) ps → AllByRecursion (λ (p : Placed). PartKeeps t p p.part) ps → Some e ≡ length_among ps → EntryKeeps e
    among_keeps [] e nest keep h = absurd cc
    among_keeps (p ∷ ps) e nest keep h = go (if_length p.part p) refl h (among_keeps ps e nest.1 keep.1)
      where
        go : (o : Option LengthEntry) → if_length p.part p ≡ o → Some e ≡ or_else o (length_among ps) → (Some e ≡ length_among ps → EntryKeeps e) → EntryKeeps e
        go None f g later = later g
        go (Some x) f g later = entry_keeps p.part p e nest.0 keep.0 (g ∙ sym f)

    pub keeps : (e : LengthEntry) → Some e ≡ length_among (sequence t k) → EntryKeeps e
    keeps e h = among_keeps (sequence t k) e all_nest all_keep h

-- ---- numbers of integer types

form_small : (form : IntForm) (n : ℤ) → HasNumber form n → nat_abs n ≤ 2 ^ 64
form_small form n h =
    let s = are_small form.encoding form.bits form.valid.some form.valid.few in
    let low = h.from_least in
    let high = h.to_greatest in
    let least = s.least in
    let greatest = s.greatest in
    omega (arith, ints)

module _ (t : Table) (n id : ℕ) (row : TypeRow) (some : 1 ≤ n) (there : slice_get t id ≡ Some row) (r : ℤ) where
  by_kind : (k : Kind) → row.kind ≡ k → is_ok (packed_size_within n t id (num r)) ≡ is_ok (packed_kind_size t (packed_size_within (n - 1) t) id k (num r))
  by_kind k e = ap is_ok (size_next n (n - 1) t id row (num r) some refl there) ∙ ap (λ q. is_ok (packed_kind_size t (packed_size_within (n - 1) t) id q (num r))) e

  within_size : (form : IntForm) (spans : List Span) → is_ok (number_size form spans (num r)) ≡ is_within spans r
  within_size form spans = go (is_within spans r)
    where
      go : (b : Bool) → is_ok (cond b (Ok form.bits) (Err (pack_fault_here reason.OutOfRange))) ≡ b
      go true = refl
      go false = refl

  -- an integer type has exactly the numbers of its domain, and no other type has numbers
  pub int_has : (form : IntForm) (spans : List Span) → row.kind ≡ kind.Int form spans → is_ok (packed_size_within n t id (num r)) ≡ is_within spans r
  int_has form spans e = by_kind (kind.Int form spans) e ∙ within_size form spans

  pub other_has : ((form : IntForm) (spans : List Span) → row.kind ≡ kind.Int form spans → ⊥) → is_ok (packed_size_within n t id (num r)) ≡ false
  other_has no_int = by_kind row.kind refl ∙ go row.kind refl
    where
      go : (k : Kind) → row.kind ≡ k → is_ok (packed_kind_size t (packed_size_within (n - 1) t) id k (num r)) ≡ false
      go (kind.Int form spans) e = absurd (no_int form spans e)
      go (kind.Enum form listing) e = refl
      go (kind.Bool form) e = refl
      go (kind.Str form) e = refl
      go (kind.Bin m free) e = refl
      go (kind.Arr item m) e = refl
      go (kind.Con c) e = refl

  pub small : KindKeeps row.kind → is_ok (packed_size_within n t id (num r)) ≡ true → nat_abs r ≤ 2 ^ 64
  small keeps h = go row.kind refl keeps
    where
      go : (k : Kind) → row.kind ≡ k → KindKeeps k → nat_abs r ≤ 2 ^ 64
      go (kind.Int form spans) e keeps = form_small form r (keeps.of_form r (within_from spans r (sym (int_has form spans e) ∙ h)))
      go (kind.Enum form listing) e keeps = absurd (let z : false ≡ true = sym (by_kind (kind.Enum form listing) e) ∙ h in cc)
      go (kind.Bool form) e keeps = absurd (let z : false ≡ true = sym (by_kind (kind.Bool form) e) ∙ h in cc)
      go (kind.Str form) e keeps = absurd (let z : false ≡ true = sym (by_kind (kind.Str form) e) ∙ h in cc)
      go (kind.Bin m free) e keeps = absurd (let z : false ≡ true = sym (by_kind (kind.Bin m free) e) ∙ h in cc)
      go (kind.Arr item m) e keeps = absurd (let z : false ≡ true = sym (by_kind (kind.Arr item m) e) ∙ h in cc)
      go (kind.Con c) e keeps = absurd (let z : false ≡ true = sym (by_kind (kind.Con c) e) ∙ h in cc)

-- ---- whether the size is told

module _ (size : ℕ → Plain → Size) where
  -- a container without a length entry tells nothing
  abbrev pub fits_of : ℕ → Option LengthEntry → Bool
  fits_of m None = true
  fits_of m (Some e) = tells_octets size m e

  module _ (e : LengthEntry) (scale : IsScale e.c0 e.c1) (bound : (r : ℤ) → is_ok (size e.id.0 (num r)) ≡ true → nat_abs r ≤ 2 ^ 64) where
    abbrev told : ℕ → ℤ
    told m = told_by e.c0 e.c1 m

    product_small : (r : ℤ) → nat_abs r ≤ 2 ^ 64 → nat_abs (e.c1 *ℤ r) ≤ 2 ^ 96
    product_small r h = let low = scale.rises in let high = scale.factor in let c : nat_abs e.c1 ≤ 2 ^ 32 = omega (arith, ints) in omega (arith, unsigned_abs-mul e.c1 r, mul-le-mul c h)

    sum_small : (p : ℤ) → nat_abs p ≤ 2 ^ 96 → (m : ℕ) → e.c0 +ℤ p ≡ pos m → m < 2 ^ 97
    sum_small p h m s = let o = scale.offset in omega (arith, ints)

    too_many : (m : ℕ) → 2 ^ 97 ≤ m → tells_octets size m e ≡ false
    too_many m many = false_from_ne_true (tells_octets size m e) (λ h.
        (let a = and_parts (int_eq (e.c0 +ℤ (e.c1 *ℤ told m)) (pos m)) (is_ok (size e.id.0 (num (told m)))) h in
        let few = sum_small (e.c1 *ℤ told m) (product_small (told m) (bound (told m) a.1)) m ((Decides-int_eq (e.c0 +ℤ (e.c1 *ℤ told m)) (pos m)).0 a.0) in
        omega (arith, few, many)))

    -- a bound beyond the sizes that are told stands for all larger ones
    pub capped_tells : (n : ℕ) → tells_octets size (octets_for (capped n)) e ≡ tells_octets size (octets_for n) e
    capped_tells n = elim (cases_lt (2 ^ 100) n) [
      | inr few ↦ ap (λ m. tells_octets size (octets_for m) e) (low n few)
      | inl many ↦ too_many (octets_for (capped n)) (high n many) ∙ sym (too_many (octets_for n) (omega (arith, many)))
    ]
      where
        low : (n : ℕ) → n ≤ 2 ^ 100 → capped n ≡ n
        low n few = omega (arith, few)

        high : (n : ℕ) → 2 ^ 100 < n → 2 ^ 97 ≤ octets_for (capped n)
        high n many = omega (arith, many)

module _ (t : Table) (size : ℕ → Plain → Size) (m : ℕ) where
  abbrev Fit : Placed → Bool
  Fit p = length_fits t size m p.part

  none_fit : (ps : List Placed) → AllByRecursion (λ (p : Placed). NoLength p.part) ps → list_all Fit ps ≡ true
  none_fit [] h = refl
  none_fit (p ∷ ps) h = and_from (Fit p) (list_all Fit ps) (one p.part h.0) (none_fit ps h.1)
    where
      one : (q : Part) → NoLength q → length_fits t size m q ≡ true
      one (part.Plain name x) h = refl
      one (part.Fixed name x v) h = refl
      one (part.Pad z) h = refl
      one (part.List name x y i) h = refl
      one (part.Length name x c0 c1) h = absurd h
      one (part.Check name x c) h = refl

  and_all : (a b : Bool) → b ≡ true → (a && b) ≡ a
  and_all true b e = e
  and_all false b e = refl

  fit_by : (q : Part) (p : Placed) (rest : Bool) (o : Option LengthEntry) → rest ≡ fits_of size m o → ((NoLength q → ⊥) → rest ≡ true) → (length_fits t size m q && rest) ≡ fits_of size m (or_else (if_length q p) o)
  fit_by (part.Plain name x) p rest o h g = h
  fit_by (part.Fixed name x v) p rest o h g = h
  fit_by (part.Pad z) p rest o h g = h
  fit_by (part.List name x y i) p rest o h g = h
  fit_by (part.Length name x c0 c1) p rest o h g = and_all (length_fits t size m (part.Length name x c0 c1)) rest (g (λ z. z))
  fit_by (part.Check name x c) p rest o h g = h

  -- the one length entry decides
  one_fits : (ps : List Placed) → IsLengthOnce ps → list_all Fit ps ≡ fits_of size m (length_among ps)
  one_fits [] once = refl
  one_fits (p ∷ ps) once = fit_by p.part p (list_all Fit ps) (length_among ps) (one_fits ps once.1) (λ some. none_fit ps (once.0 some))

  pub fits_is : KeepsRules t → (k : ℕ) → list_all Fit (sequence t k) ≡ fits_of size m (length_among (sequence t k))
  fits_is rules k = one_fits (sequence t k) ((facts_of t rules).once k)

-- counted bits are as good as all bits
pub capped_fits : (t : Table) (rules : KeepsRules t) (n k : ℕ) → IsLow t (n + 1) k → (b : ℕ)
    → list_all (λ (p : Placed). length_fits t (packed_size_within n t) (octets_for (capped b)) p.part) (sequence t k) ≡ list_all (λ (p : Placed). length_fits t (packed_size_within n t) (octets_for b) p.part) (sequence t k)
capped_fits t rules n k low b =
    fits_is t (packed_size_within n t) (octets_for (capped b)) rules k ∙ go (length_among (sequence t k)) refl ∙ sym (fits_is t (packed_size_within n t) (octets_for b) rules k)
  where
    go : (o : Option LengthEntry) → length_among (sequence t k) ≡ o → fits_of (packed_size_within n t) (octets_for (capped b)) o ≡ fits_of (packed_size_within n t) (octets_for b) o
    go None e = refl
    go (Some x) e =
        let keep = keeps t rules n k low x (sym e) in
        let some = keep.nests.rank rules in
        capped_tells (packed_size_within n t) x keep.scale (λ r h. small t n x.id.0 (keep.int).0 (omega arith) (keep.int).1 r (rules.kinds x.id.0 (keep.int).0 (keep.int).1) h) b

-- ---- the end of a container

module _ (t : Table) (rules : KeepsRules t) (n k : ℕ) where
  abbrev pub Ends : ℕ → Size
  Ends m = cond (list_all (λ (p : Placed). length_fits t (packed_size_within n t) m p.part) (sequence t k)) (Ok 0) (Err (pack_fault_at reason.LengthField (length_path t k)))

  decided : (m : ℕ) (o : Option LengthEntry) → o ≡ length_among (sequence t k) → (b : Bool) → fits_of (packed_size_within n t) m o ≡ b → Ends m ≡ cond b (Ok 0) (Err (pack_fault_at reason.LengthField (length_path t k)))
  decided m o e b f = ap (λ c. cond c (Ok 0) (Err (pack_fault_at reason.LengthField (length_path t k)))) (fits_is t (packed_size_within n t) m rules k ∙ ap (fits_of (packed_size_within n t) m) (sym e) ∙ f)

  pub ends_untold : (m : ℕ) → None ≡ length_among (sequence t k) → Ok 0 ≡ Ends m
  ends_untold m e = sym (decided m None e true refl)

  pub ends_well : (m : ℕ) (e : LengthEntry) → Some e ≡ length_among (sequence t k) → true ≡ tells_octets (packed_size_within n t) m e → Ok 0 ≡ Ends m
  ends_well m e h f = sym (decided m (Some e) h true (sym f))

  pub ends_badly : (m : ℕ) (e : LengthEntry) → Some e ≡ length_among (sequence t k) → false ≡ tells_octets (packed_size_within n t) m e → (path : List Step) → path ≡ step.Part e.container e.place ∷ [] → Err (pack_fault_at reason.LengthField path) ≡ Ends m
  ends_badly m e h f path is =
      ap (λ (p : List Step). Err (pack_fault_at reason.LengthField p)) (is ∙ ap steps_to h ∙ sym (path_is t k)) ∙ sym (decided m (Some e) h false (sym f))

  -- there is a place for the entry's type
  pub some_depth : IsLow t (n + 1) k → (e : LengthEntry) → Some e ≡ length_among (sequence t k) → 1 ≤ n
  some_depth low e h = let r = (keeps t rules n k low e h).nests.rank rules in omega arith
