-- With room for 32 nested types, more room changes neither where packing fails nor a size.
use Rattle.std.proofs.Common.{◌≡◌, ℕ, zero, suc, ◌+◌, ◌*◌, ◌<◌, Bool, true, false, cond, List, [], ◌∷◌, map, filter, sum_by, Option, Some, None, refl, sym, ap, ap₂, ◌∙◌, arith, inl, inr}
use Rattle.std.specs.Prelude.{slice_get, option_map}
use Rattle.std.specs.List.{AllByRecursion}
use Rattle.std.proofs.lemmas.List.Sums.{sum_by-cons}
use Rattle.eds_bits.specs.Bits.{Bits}
use Rattle.eds_bits.specs.Style.{canonical}
use Rattle.eds_types.specs.declared.row.Kind.{Kind}
use Rattle.eds_types.specs.declared.row.Kind.TheVariants as kind
use Rattle.eds_types.specs.declared.row.Part.{Part}
use Rattle.eds_types.specs.declared.row.Part.TheVariants as part
use Rattle.eds_types.specs.declared.row.TypeRow.{TypeRow}
use Rattle.eds_types.specs.Failing.{Station, condition, entry, choice, end, course}
use Rattle.eds_types.specs.Fields.{Field, value_at, paired, IsAtOrUnder}
use Rattle.eds_types.specs.LeastSize.{capped, least_of, least_count, size_by, least_part, least_sequence, least_family, least_row, least_within}
use Rattle.eds_types.specs.Packing.{PackFault, ItemPackFails, ListPackFails, PartPackFails, StationPackFails, FirstPackFails, NoSizeFits, ContainerPackFails, OfKindFails, KindPackFails, PackFailsWithin}
use Rattle.eds_types.specs.Plain.{Plain, num, label, truth, text, bits, items, fields, list_of}
use Rattle.eds_types.specs.Rows.{Table, chain, chain_within, is_concrete, list_has, numbers, Placed, sequence}
use Rattle.eds_types.specs.Sizes.{kind_size, row_size, size_within}
use Rattle.eds_types.specs.Spelling.{started, SpellsWithin}
use Rattle.eds_types.proofs.Tables.{IsTable}
use Rattle.eds_types.proofs.AllOf.{All-weaker}
use Rattle.eds_types.proofs.ReadingTests.{has_from}
use Rattle.eds_overlap.proofs.Bounds.{Carried, OfItem, parts_to, item_of, parts_of, spells_to}
use Rattle.eds_overlap.proofs.CourseParts.{OfPart, AtStation, Whole, course_at}

-- ---- packing

-- a type's spellings, and where packing its values fails, are the same by one depth and by another
pub record Same (E F : ℕ → Plain → Bits → Type 0) (G H : ℕ → Plain → PackFault → Type 0) (x : ℕ) : Type 0 where
  pub spells : (v : Plain) (b : Bits) → E x v b → F x v b
  pub spells_back : (v : Plain) (b : Bits) → F x v b → E x v b
  pub fails : (v : Plain) (w : PackFault) → G x v w → H x v w
  pub fails_back : (v : Plain) (w : PackFault) → H x v w → G x v w

turned : (E F : ℕ → Plain → Bits → Type 0) (G H : ℕ → Plain → PackFault → Type 0) (x : ℕ) → Same E F G H x → Same F E H G x
turned E F G H x s = record { spells = s.spells_back; spells_back = s.spells; fails = s.fails_back; fails_back = s.fails }

module _ (t : Table) (E F : ℕ → Plain → Bits → Type 0) (G H : ℕ → Plain → PackFault → Type 0) where
  abbrev Alike : ℕ → Type 0
  Alike x = Same E F G H x

  items_to : (x j : ℕ) (vs : List Plain) (w : PackFault) → Alike x → ItemPackFails (G x) j vs w → ItemPackFails (H x) j vs w
  items_to x j [] w s h = h
  items_to x j (v ∷ vs) w s (inl h) = inl (h.0, s.fails v h.0 h.1, h.2)
  items_to x j (v ∷ vs) w s (inr h) = inr ((λ u k. h.0 u (s.fails_back v u k)), items_to x (j + 1) vs w s h.1)

  list_to : (fs : List Field) (id y i : ℕ) (o : Option Plain) (w : PackFault) → Alike id → ListPackFails t G fs id y i o w → ListPackFails t H fs id y i o w
  list_to fs id y i None w s h = h
  list_to fs id y i (Some (num n)) w s h = h
  list_to fs id y i (Some (label l)) w s h = h
  list_to fs id y i (Some (truth b)) w s h = h
  list_to fs id y i (Some (text r)) w s h = h
  list_to fs id y i (Some (bits n o)) w s h = h
  list_to fs id y i (Some (fields k vs)) w s h = h
  list_to fs id y i (Some (items vs)) w s (inl h) = inl h
  list_to fs id y i (Some (items vs)) w s (inr h) = inr (h.0, items_to id 0 (list_of vs) w s h.1)

  part_to : (fs : List Field) (p : Placed) (q : Part) (w : PackFault) → OfPart Alike q → PartPackFails t G fs p q w → PartPackFails t H fs p q w
  part_to fs p (part.Plain name id) w s h = (h.0, h.1, (s id.0 refl).fails h.0 w h.2)
  part_to fs p (part.Fixed name id v) w s h = h
  part_to fs p (part.Pad n) w s h = h
  part_to fs p (part.List name id y i) w s h = list_to fs id.0 y.0 i (value_at fs p.container p.place) w (s id.0 refl) h
  part_to fs p (part.Length name id c0 c1) w s h = h
  part_to fs p (part.Check name id k) w s h = h

  station_to : (N M : Type 0) → (N → M) → (fs : List Field) (x : ℕ) (st : Station) (w : PackFault) → AtStation t Alike st → StationPackFails t G fs N x st w → StationPackFails t H fs M x st w
  station_to N M n fs x (condition y c) w s h = h
  station_to N M n fs x (entry p) w s h = (h.0, part_to fs p p.part h.0 s h.1, h.2)
  station_to N M n fs x (choice y) w s h = h
  station_to N M n fs x end w s h = (n h.0, h.1)

  turned_station : (st : Station) → AtStation t Alike st → AtStation t (Same F E H G) st
  turned_station (condition y c) s = tt
  turned_station (entry p) s = λ x e. turned E F G H x (s x e)
  turned_station (choice y) s = tt
  turned_station end s = tt

module _ (t : Table) (E F : ℕ → Plain → Bits → Type 0) (G H : ℕ → Plain → PackFault → Type 0) where
  first_to : (N M : Type 0) → (N → M) → (M → N) → (fs : List Field) (x : ℕ) (ss : List Station) (w : PackFault) → AllByRecursion (AtStation t (Same E F G H)) ss → FirstPackFails t G fs N x ss w → FirstPackFails t H fs M x ss w
  first_to N M n m fs x [] w s h = h
  first_to N M n m fs x (st ∷ ss) w s (inl h) = inl (station_to t E F G H N M n fs x st w s.0 h)
  first_to N M n m fs x (st ∷ ss) w s (inr h) = inr ((λ u k. h.0 u (station_to t F E H G M N m fs x st u (turned_station t E F G H st s.0) k)), first_to N M n m fs x ss w s.1 h.1)

  spells_of : (p : Placed) → OfPart (Same E F G H) p.part → OfPart (Carried t E F) p.part
  spells_of p s x e = (s x e).spells

  back_of : (p : Placed) → OfPart (Same E F G H) p.part → OfPart (Carried t F E) p.part
  back_of p s x e = (s x e).spells_back

  no_size : (k : ℕ) (fs : List Field) → Whole t (Same E F G H) (sequence t k) → NoSizeFits t E G k fs → NoSizeFits t F H k fs
  no_size k fs s unfit u b ps = unfit u b (parts_to t F E canonical (sequence t k) started u b (All-weaker (λ (p : Placed). OfPart (Same E F G H) p.part) (λ (p : Placed). OfPart (Carried t F E) p.part) back_of (sequence t k) s) ps)

  some_size : (k : ℕ) (fs : List Field) → Whole t (Same E F G H) (sequence t k) → NoSizeFits t F H k fs → NoSizeFits t E G k fs
  some_size k fs s unfit u b ps = unfit u b (parts_to t E F canonical (sequence t k) started u b (All-weaker (λ (p : Placed). OfPart (Same E F G H) p.part) (λ (p : Placed). OfPart (Carried t E F) p.part) spells_of (sequence t k) s) ps)

  container_to : (s k : ℕ) (f : List Plain) (w : PackFault) → ((u : IsAtOrUnder t s k) → Whole t (Same E F G H) (sequence t k) × AllByRecursion (AtStation t (Same E F G H)) (course t k k)) → ContainerPackFails t E G s k f w → ContainerPackFails t F H s k f w
  container_to s k f w all (inl h) = inl h
  container_to s k f w all (inr (inl h)) = inr (inl h)
  container_to s k f w all (inr (inr (inl h))) = inr (inr (inl h))
  container_to s k f w all (inr (inr (inr h))) =
      let fs = paired (sequence t k) f in let a = all h.1 in
      inr (inr (inr (h.0, h.1, h.2, first_to (NoSizeFits t E G k fs) (NoSizeFits t F H k fs) (no_size k fs a.0) (some_size k fs a.0) fs k (course t k k) w a.1 h.3)))

  of_kind_to : (id : ℕ) (k : Kind) (v : Plain) (w : PackFault) → OfItem (Same E F G H) k → ((c : ℕ) → IsAtOrUnder t id c → Whole t (Same E F G H) (sequence t c) × AllByRecursion (AtStation t (Same E F G H)) (course t c c)) → OfKindFails t E G id k v w → OfKindFails t F H id k v w
  of_kind_to id (kind.Int form spans) v w i all h = h
  of_kind_to id (kind.Enum form listing) v w i all h = h
  of_kind_to id (kind.Bool form) v w i all h = h
  of_kind_to id (kind.Str form) v w i all h = h
  of_kind_to id (kind.Bin n free) v w i all h = h
  of_kind_to id (kind.Arr item n) v w i all (vs, e, inl h) = (vs, e, inl h)
  of_kind_to id (kind.Arr item n) v w i all (vs, e, inr h) = (vs, e, inr (h.0, items_to t E F G H item.0 0 (list_of vs) w i h.1))
  of_kind_to id (kind.Con c) v w i all h = (h.0, h.1, h.2, container_to id h.0 (list_of h.1) w (all h.0) h.3)

  kind_to : (id : ℕ) (k : Kind) (v : Plain) (w : PackFault) → OfItem (Same E F G H) k → ((c : ℕ) → IsAtOrUnder t id c → Whole t (Same E F G H) (sequence t c) × AllByRecursion (AtStation t (Same E F G H)) (course t c c)) → KindPackFails t E G id k v w → KindPackFails t F H id k v w
  kind_to id k v w i all (inl h) = inl h
  kind_to id k v w i all (inr h) = inr (of_kind_to id k v w i all h)

module _ (t : Table) (is : IsTable t) where
  at_itself : (k : ℕ) → IsAtOrUnder t k k
  unfolding chain_within
  at_itself k = record { before = _; after = []; is = refl }

  abbrev Both : ℕ → ℕ → ℕ → Type 0
  Both n m x = Same (SpellsWithin n canonical t) (SpellsWithin m canonical t) (PackFailsWithin n t) (PackFailsWithin m t) x

  fault_to : (n m id : ℕ) → ((x : ℕ) → is.rank x < is.rank id → Both n m x) → (v : Plain) (w : PackFault) → PackFailsWithin (suc n) t id v w → PackFailsWithin (suc m) t id v w
  unfolding PackFailsWithin
  fault_to n m id low v w f = (f.0, f.1, kind_to t (SpellsWithin n canonical t) (SpellsWithin m canonical t) (PackFailsWithin n t) (PackFailsWithin m t) id (f.0).kind v w (item_of t is (Both n m) id (f.0).kind (is.items id f.0 f.1) low) (λ c u. (parts_of t is (Both n m) id c u low, course_at t (Both n m) is c c (at_itself c) (parts_of t is (Both n m) id c u low))) f.2)

  pub same_packing : (n m id : ℕ) → is.rank id < n → is.rank id < m → Both n m id
  same_packing zero m id h k = absurd (omega arith)
  same_packing (suc n) zero id h k = absurd (omega arith)
  same_packing (suc n) (suc m) id h k =
      let low : (x : ℕ) → is.rank x < is.rank id → Both n m x = λ x l. same_packing n m x (omega arith) (omega arith) in
      let low_back : (x : ℕ) → is.rank x < is.rank id → Both m n x = λ x l. turned (SpellsWithin n canonical t) (SpellsWithin m canonical t) (PackFailsWithin n t) (PackFailsWithin m t) x (low x l) in
      record { spells = spells_to t is canonical (suc n) (suc m) id k; spells_back = spells_to t is canonical (suc m) (suc n) id h; fails = fault_to n m id low; fails_back = fault_to m n id low_back }

-- ---- sizes

module _ (t : Table) (f g : ℕ → ℕ) where
  part_same : (q : Part) → OfPart (λ x. f x ≡ g x) q → least_part t f q ≡ least_part t g q
  part_same (part.Plain name id) e = e id.0 refl
  part_same (part.Fixed name id v) e = e id.0 refl
  part_same (part.Pad n) e = refl
  part_same (part.List name id y i) e = ap (λ n. least_count t y i * n) (e id.0 refl)
  part_same (part.Length name id c0 c1) e = e id.0 refl
  part_same (part.Check name id k) e = e id.0 refl

  parts_same : (ps : List Placed) → Whole t (λ x. f x ≡ g x) ps → sum_by (λ (p : Placed). least_part t f p.part) ps ≡ sum_by (λ (p : Placed). least_part t g p.part) ps
  parts_same [] e = refl
  parts_same (p ∷ ps) e = sum_by-cons (λ (p : Placed). least_part t f p.part) p ps ∙ ap₂ (λ a b. a + b) (part_same p.part e.0) (parts_same ps e.1) ∙ sym (sum_by-cons (λ (p : Placed). least_part t g p.part) p ps)

  abbrev sizes_by : (ℕ → ℕ) → List ℕ → List ℕ
  sizes_by h ks = map (least_sequence t h) (filter (is_concrete t) ks)

  concrete_same : (k : ℕ) (ks : List ℕ) (b : Bool) → least_sequence t f k ≡ least_sequence t g k → sizes_by f ks ≡ sizes_by g ks → map (least_sequence t f) (cond b (k ∷ filter (is_concrete t) ks) (filter (is_concrete t) ks)) ≡ map (least_sequence t g) (cond b (k ∷ filter (is_concrete t) ks) (filter (is_concrete t) ks))
  concrete_same k ks true e rest = ap₂ (λ a b. a ∷ b) e rest
  concrete_same k ks false e rest = rest

  under_same : (id k : ℕ) (ks : List ℕ) (b : Bool) → list_has (chain t k) id ≡ b → (IsAtOrUnder t id k → least_sequence t f k ≡ least_sequence t g k) → sizes_by f ks ≡ sizes_by g ks → sizes_by f (cond b (k ∷ ks) ks) ≡ sizes_by g (cond b (k ∷ ks) ks)
  under_same id k ks true h e rest = concrete_same k ks (is_concrete t k) (e (has_from (chain t k) id h)) rest
  under_same id k ks false h e rest = rest

  among_same : (id : ℕ) → ((c : ℕ) → IsAtOrUnder t id c → least_sequence t f c ≡ least_sequence t g c) → (ks : List ℕ) → sizes_by f (filter (λ k. list_has (chain t k) id) ks) ≡ sizes_by g (filter (λ k. list_has (chain t k) id) ks)
  among_same id e [] = refl
  among_same id e (k ∷ ks) = under_same id k (filter (λ k. list_has (chain t k) id) ks) (list_has (chain t k) id) refl (e k) (among_same id e ks)

  family_same : (id : ℕ) → ((c : ℕ) → IsAtOrUnder t id c → least_sequence t f c ≡ least_sequence t g c) → least_family t f id ≡ least_family t g id
  family_same id e = ap least_of (among_same id e (numbers t))

  kind_same : (id : ℕ) (k : Kind) → OfItem (λ x. f x ≡ g x) k → ((c : ℕ) → IsAtOrUnder t id c → least_sequence t f c ≡ least_sequence t g c) → size_by f k (least_family t f id) ≡ size_by g k (least_family t g id)
  kind_same id (kind.Int form spans) i e = refl
  kind_same id (kind.Enum form listing) i e = refl
  kind_same id (kind.Bool form) i e = refl
  kind_same id (kind.Str form) i e = refl
  kind_same id (kind.Bin n free) i e = refl
  kind_same id (kind.Arr item n) i e = ap (λ m. n * m) i
  kind_same id (kind.Con c) i e = family_same id e

one_size : (f g : ℕ → Option ℕ) (k : Kind) → OfItem (λ x. f x ≡ g x) k → kind_size f k ≡ kind_size g k
one_size f g (kind.Int form spans) i = refl
one_size f g (kind.Enum form listing) i = refl
one_size f g (kind.Bool form) i = refl
one_size f g (kind.Str form) i = refl
one_size f g (kind.Bin n free) i = refl
one_size f g (kind.Arr item n) i = ap (option_map (λ m. n * m)) i
one_size f g (kind.Con c) i = refl

module _ (t : Table) (is : IsTable t) where
  row_least : (f g : ℕ → ℕ) (id : ℕ) → ((x : ℕ) → is.rank x < is.rank id → f x ≡ g x) → (o : Option TypeRow) → slice_get t id ≡ o → least_row t f id o ≡ least_row t g id o
  row_least f g id low None e = refl
  row_least f g id low (Some row) e = ap capped (kind_same t f g id row.kind (item_of t is (λ x. f x ≡ g x) id row.kind (is.items id row e) low) (λ c u. parts_same t f g (sequence t c) (parts_of t is (λ x. f x ≡ g x) id c u low)))

  pub same_least : (n m id : ℕ) → is.rank id < n → is.rank id < m → least_within n t id ≡ least_within m t id
  unfolding least_within
  same_least zero m id h k = absurd (omega arith)
  same_least (suc n) zero id h k = absurd (omega arith)
  same_least (suc n) (suc m) id h k = row_least (least_within n t) (least_within m t) id (λ x l. same_least n m x (omega arith) (omega arith)) (slice_get t id) refl

  size_row : (f g : ℕ → Option ℕ) (id : ℕ) → ((x : ℕ) → is.rank x < is.rank id → f x ≡ g x) → (o : Option TypeRow) → slice_get t id ≡ o → row_size f o ≡ row_size g o
  size_row f g id low None e = refl
  size_row f g id low (Some row) e = one_size f g row.kind (item_of t is (λ x. f x ≡ g x) id row.kind (is.items id row e) low)

  pub same_size : (n m id : ℕ) → is.rank id < n → is.rank id < m → size_within n t id ≡ size_within m t id
  unfolding size_within
  same_size zero m id h k = absurd (omega arith)
  same_size (suc n) zero id h k = absurd (omega arith)
  same_size (suc n) (suc m) id h k = size_row (size_within n t) (size_within m t) id (λ x l. same_size n m x (omega arith) (omega arith)) (slice_get t id) refl
