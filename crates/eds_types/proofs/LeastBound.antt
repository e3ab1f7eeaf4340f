-- No value has a spelling of fewer bits than the least size of its type.
use Rattle.std.proofs.Common.{◌≡◌, ℕ, zero, suc, ◌+◌, ◌*◌, ◌<◌, ◌≤◌, min, ℤ, pos, nat_abs, Bool, true, false, cond, List, [], ◌∷◌, ◌++◌, length, map, filter, sum_by, Option, Some, refl, sym, ap, subst, ◌∙◌, arith, ◌⊎◌, inl, inr}
use Rattle.std.specs.Prelude.{◌≤ℤ◌, ◌&&◌, ◌==◌, slice_get, IsTrue}
use Rattle.std.specs.List.{AllByRecursion, range_with_len}
use Rattle.std.proofs.lemmas.Bool.{cases_eq, cases_lt, both_ways}
use Rattle.std.proofs.lemmas.Int.{ints}
use Rattle.std.proofs.lemmas.List.{length-append}
use Rattle.std.proofs.Math.Nat.{mul-le-mul_right}
use Rattle.std.proofs.lemmas.List.Sums.{sum_by-cons}
use Rattle.std.proofs.lemmas.Option.{slice_get_past}
use Rattle.eds_base.specs.declared.spans.Span.{Span}
use Rattle.eds_base.specs.Spans.{IsWithin}
use Rattle.eds_base.specs.declared.ids.TypeId.{TypeId}
use Rattle.eds_bits.specs.Bits.{Bits}
use Rattle.eds_bits.specs.Scalars.{IsText}
use Rattle.eds_bits.specs.Style.{any}
use Rattle.eds_types.specs.declared.row.Kind.{Kind}
use Rattle.eds_types.specs.declared.row.Kind.TheVariants as kind
use Rattle.eds_types.specs.declared.row.Part.{Part}
use Rattle.eds_types.specs.declared.row.Part.TheVariants as part
use Rattle.eds_types.specs.Domains.{int_domain_in}
use Rattle.eds_types.specs.Fields.{Field, value_at, has_value, row_at, type_by, part_at, field_at}
use Rattle.eds_types.specs.LeastSize.{no_size, least_of, least_in, least_number, least_number_in, least_count, size_by, least_part, least_sequence, least_family, least_row, least_within}
use Rattle.eds_types.specs.Plain.{Plain, items, list_of}
use Rattle.eds_types.specs.Rows.{Table, chain, list_has, container_in, concrete_in, is_concrete, Placed, sequence}
use Rattle.eds_types.specs.Spelling.{BinHas, Progress, started, count_in, ItemsSpell, PartPasses, PartsPass, KindSpells, SpellsWithin}
use Rattle.eds_types.proofs.AllOf.{All-both}
use Rattle.eds_types.proofs.FieldTypes.{IsPlaced, Fits, found_by, ValueFits, part_keeps, sequence_placed}
use Rattle.eds_types.proofs.Grown.{part_grown}
use Rattle.eds_types.proofs.ListCounts.{IsKnown, found_there, known_more, known_count, count_stands, told_by}
use Rattle.eds_types.proofs.ScalarReading.{IsTextSize, size_of, text_form}
use Rattle.eds_types.proofs.TableFacts.{Facts, ListFits, ListsFit}
use Rattle.eds_types.proofs.ReadingTests.{has_in, is_at_most}

-- ---- items and numbers

items_least : (E : Plain → Bits → Type 0) (m : ℕ) → ((v : Plain) (b : Bits) → E v b → m ≤ length b) → (vs : List Plain) (b : Bits) → ItemsSpell E vs b → length vs * m ≤ length b
items_least E m g [] b h = omega arith
items_least E m g (v ∷ vs) b h = omega (arith, items_least E m g vs h.1 h.4, g v h.0 h.3, ap length h.2, length-append h.0 h.1)

-- the least number is at most each
number_least : (spans : List Span) (m : ℕ) → ((n : ℤ) → IsWithin spans n → (i : ℕ) × (n ≡ pos i)) → IsWithin spans (pos m) → least_number spans ≤ m
number_least [] m g h = absurd h
number_least (s ∷ rest) m g (inl h) =
    let low = h.0 in let high = h.1 in
    let same : s.low ≤ℤ s.low = omega (arith, ints) in
    let room : s.low ≤ℤ s.high = omega (arith, ints) in
    let i = g s.low (inl (same, room)) in
    let small : pos i.0 ≤ℤ pos m = subst (λ z. z ≤ℤ pos m) i.1 low in
    let a = ap nat_abs i.1 in
    let le : i.0 ≤ m = omega (arith, ints) in
    let e : least_in s ≡ nat_abs s.low = ap (λ b. cond b (nat_abs s.low) no_size) (is_at_most s.low s.high room) in
    omega arith
number_least (s ∷ rest) m g (inr h) = let l = number_least rest m (λ n w. g n (inr w)) h in omega arith

-- ---- families

least_filtered : (f : ℕ → ℕ) (p : ℕ → Bool) (a : ℕ) (rest : List ℕ) (c : Bool) → least_of (map f (cond c (a ∷ filter p rest) (filter p rest))) ≤ least_of (map f (filter p rest))
least_filtered f p a rest true = omega arith
least_filtered f p a rest false = omega arith

least_skipped : (f : ℕ → ℕ) (p : ℕ → Bool) (a : ℕ) (rest : List ℕ) (b : Bool) → least_of (map f (filter p (cond b (a ∷ rest) rest))) ≤ least_of (map f (filter p rest))
least_skipped f p a rest true = least_filtered f p a rest (p a)
least_skipped f p a rest false = omega arith

-- the least of a family is at most that of each of it
member_least : (f : ℕ → ℕ) (p q : ℕ → Bool) (n a k : ℕ) → a ≤ k → k < a + n → p k ≡ true → q k ≡ true → least_of (map f (filter p (filter q (range_with_len a n)))) ≤ f k
member_least f p q zero a k l m ep eq = absurd (omega arith)
member_least f p q (suc n) a k l m ep eq = go (cases_eq k a) (member_least f p q n (a + 1) k)
  where
    rest : List ℕ
    rest = filter q (range_with_len (a + 1) n)

    here : k ≡ a → least_of (map f (filter p (cond (q a) (a ∷ rest) rest))) ≤ f k
    here e =
        let q' : q a ≡ true = ap q (sym e) ∙ eq in
        let p' : p a ≡ true = ap p (sym e) ∙ ep in
        let s : least_of (map f (filter p (cond (q a) (a ∷ rest) rest))) ≡ min (f a) (least_of (map f (filter p rest))) = ap (λ z. least_of (map f (filter p (cond z (a ∷ rest) rest)))) q' ∙ ap (λ z. least_of (map f (cond z (a ∷ filter p rest) (filter p rest)))) p' in
        omega (arith, ap f e)

    go : ((k ≡ a) ⊎ (k ≡ a → ⊥)) → (a + 1 ≤ k → k < (a + 1) + n → p k ≡ true → q k ≡ true → least_of (map f (filter p rest)) ≤ f k) → least_of (map f (filter p (cond (q a) (a ∷ rest) rest))) ≤ f k
    go (inl e) ih = here e
    go (inr ne) ih = omega (arith, ih (omega arith) (omega arith) ep eq, least_skipped f p a rest (q a))

-- ---- parts

ends_known : (l : List Field) (y i : ℕ) (v : Plain) → (w : Plain) × (value_at (l ++ (field_at y i v) ∷ []) y i ≡ Some w)
ends_known [] y i v = (v, found_there [] y i v [] tt)
ends_known (f ∷ l) y i v = go (f.container == y && f.place == i) (ends_known l y i v)
  where
    go : (b : Bool) → ((w : Plain) × (value_at (l ++ (field_at y i v) ∷ []) y i ≡ Some w)) → (w : Plain) × (cond b (Some f.value) (value_at (l ++ (field_at y i v) ∷ []) y i) ≡ Some w)
    go true ih = (f.value, refl)
    go false ih = ih

module _ (t : Table) (n : ℕ) (least : ℕ → ℕ) (g : (id : ℕ) (v : Plain) (b : Bits) → SpellsWithin n any t id v b → least id ≤ length b) where
  abbrev SpellsInner : ℕ → Plain → Bits → Type 0
  SpellsInner = SpellsWithin n any t

  -- a list has at least the least number of items
  count_least : (y : TypeId) (i : ℕ) (done : List Placed) (s : Progress) → ListFits t done (part.List [] y y i) → AllByRecursion (IsKnown s.fields) done → AllByRecursion (IsPlaced t) done → Fits t n s → least_count t y i ≤ count_in (value_at s.fields y.0 i)
  count_least y i done s li known placed fit =
      let w = known_count t y.0 i s.fields done li known in
      let found = found_by t n s.fields y.0 i w.0 fit w.1 in
      let stands = count_stands t y.0 i done li placed in
      let fits = subst (λ q. ValueFits t n q w.0) (same_part found.part stands.0 found.stands stands.1) found.fits in
      let told = told_by t n stands.0 w.0 stands.2 fits in
      let count : count_in (value_at s.fields y.0 i) ≡ told.m = ap count_in (w.1 ∙ ap Some told.is) in
      let domain : least_count t y i ≡ least_number told.spans = ap (λ o. least_number_in (int_domain_in (row_at t (type_by o)))) stands.1 ∙ ap least_number_in told.domain in
      omega (arith, number_least told.spans told.m told.natural told.within)
    where
      same_part : (q r : Part) → part_at t (y, i) ≡ Some q → part_at t (y, i) ≡ Some r → q ≡ r
      same_part q r a c = let z : ◌≡◌ {A = Option Part} (Some q) (Some r) = sym a ∙ c in cc

  part_bound : (done : List Placed) (s : Progress) (p : Placed) (q : Part) (u : Progress) (b : Bits) → ListFits t done q → AllByRecursion (IsKnown s.fields) done → AllByRecursion (IsPlaced t) done → Fits t n s → PartPasses any t SpellsInner s p q u b → least_part t least q ≤ length b
  part_bound done s p (part.Plain name id) u b li known placed fit h = g id.0 h.0 b h.1
  part_bound done s p (part.Fixed name id v) u b li known placed fit h = g id.0 _ b h.0
  part_bound done s p (part.Pad m) u b li known placed fit h = let e = h.0 in omega arith
  part_bound done s p (part.List name id y i) u b li known placed fit h =
      let c = count_least y i done s li known placed fit in
      let same : count_in (value_at s.fields y.0 i) ≡ length (list_of h.0) = sym h.1 in
      let few : least_count t y i ≤ length (list_of h.0) = omega arith in
      omega (arith, mul-le-mul_right (least id.0) few, items_least (SpellsInner id.0) (least id.0) (g id.0) (list_of h.0) b h.2)
  part_bound done s p (part.Length name id c0 c1) u b li known placed fit h = g id.0 _ b h.1
  part_bound done s p (part.Check name id k) u b li known placed fit h = g id.0 _ b h.0

  -- the value of a part is among the fields behind it
  part_known : (s : Progress) (p : Placed) (q : Part) (u : Progress) (b : Bits) → PartPasses any t SpellsInner s p q u b → has_value q ≡ true → (w : Plain) × (value_at u.fields p.container p.place ≡ Some w)
  part_known s p (part.Plain name id) u b h e = let k = ends_known s.fields p.container p.place h.0 in (k.0, ap (λ (z : Progress). value_at z.fields p.container p.place) h.2 ∙ k.1)
  part_known s p (part.Fixed name id v) u b h e = absurd cc
  part_known s p (part.Pad m) u b h e = absurd cc
  part_known s p (part.List name id y i) u b h e = let k = ends_known s.fields p.container p.place (items h.0) in (k.0, ap (λ (z : Progress). value_at z.fields p.container p.place) h.3 ∙ k.1)
  part_known s p (part.Length name id c0 c1) u b h e = absurd cc
  part_known s p (part.Check name id k) u b h e = absurd cc

  run_bound : (ps done : List Placed) (s u : Progress) (b : Bits) → ListsFit t done ps → AllByRecursion (IsKnown s.fields) done → AllByRecursion (IsPlaced t) done → AllByRecursion (IsPlaced t) ps → Fits t n s → PartsPass any t SpellsInner s ps u b → sum_by (λ (p : Placed). least_part t least p.part) ps ≤ length b
  run_bound [] done s u b li known placed later fit h = omega arith
  run_bound (p ∷ ps) done s u b li known placed later fit h =
      let m = h.0 in
      let new = part_grown any t SpellsInner (λ y i. Unit {0}) s p p.part m h.1 tt h.4 in
      let still = subst (λ l. AllByRecursion (IsKnown l) done) (sym new.1) (known_more done s.fields new.0 known) in
      let known' = All-both (IsKnown m.fields) done (p ∷ []) still ((λ e. part_known s p p.part m h.1 h.4 e), tt) in
      let placed' = All-both (IsPlaced t) done (p ∷ []) placed (later.0, tt) in
      let fit' = part_keeps t n s p p.part m h.1 later.0 fit h.4 in
      let one = part_bound done s p p.part m h.1 li.0 known placed fit h.4 in
      let rest = run_bound ps (done ++ p ∷ []) m u h.2 li.1 known' placed' later.1 fit' h.5 in
      omega (arith, ap length h.3, length-append h.1 h.2, sum_by-cons (λ (p : Placed). least_part t least p.part) p ps)

-- ---- kinds

pub text_bound : (m : ℕ) (fixed ascii : Bool) (stop : ℕ) (size : IsTextSize m stop) (s : List ℕ) (b : Bits) → IsText any (text_form m fixed ascii stop size) s b → cond fixed (8 * m) 8 ≤ length b
text_bound m true ascii stop size s b h = let e = h.size in omega arith
text_bound m false ascii stop size s b h = let e = h.size in omega arith

bin_bound : (n : ℕ) (free : Bool) (m : ℕ) → BinHas n free m → cond free 0 n ≤ m
bin_bound n true m h = omega arith
bin_bound n false m h = omega (arith, h)

-- a concrete container is one of the table's
pub there : (t : Table) (k : ℕ) → IsTrue (is_concrete t k) → k < length t
there t k h = elim (cases_lt k (length t)) [
  | inl lt ↦ lt
  | inr le ↦ absurd (both_ways (is_concrete t k) (ap (λ o. concrete_in (container_in o)) (slice_get_past t k le)) h)
]

module _ (t : Table) (can : Facts t) where
  kind_bound : (n : ℕ) → ((id : ℕ) (v : Plain) (b : Bits) → SpellsWithin n any t id v b → least_within n t id ≤ length b) → (id : ℕ) (k : Kind) (v : Plain) (b : Bits) → KindSpells any t (SpellsWithin n any t) id k v b → size_by (least_within n t) k (least_family t (least_within n t) id) ≤ length b
  kind_bound n g id (kind.Int form spans) v b h = let e = (h.3).is.size in omega arith
  kind_bound n g id (kind.Enum form listing) v b h = let e = (h.4).is.size in omega arith
  kind_bound n g id (kind.Bool form) v b h = let e = (h.2).size in omega arith
  kind_bound n g id (kind.Str form) v b h = text_bound form.length form.fixed form.ascii form.stop (size_of form) h.0 b h.2
  kind_bound n g id (kind.Bin m free) v b h = bin_bound m free (length b) h.0
  kind_bound n g id (kind.Arr item m) v b h = subst (λ z. z * least_within n t item.0 ≤ length b) h.2 (items_least (SpellsWithin n any t item.0) (least_within n t item.0) (g item.0) (list_of h.0) b h.3)
  kind_bound n g id (kind.Con c) v b h =
      let sp = h.3 in
      let k = h.0 in
      let member = member_least (least_sequence t (least_within n t)) (is_concrete t) (λ k. list_has (chain t k) id) (length t) 0 k (omega arith) (let l = there t k sp.concrete in omega arith) sp.concrete (has_in (chain t k) id (sp.under).before (sp.under).after (sp.under).is) in
      let run = run_bound t n (least_within n t) g (sequence t k) [] started sp.end b (can.lists k) tt tt (sequence_placed t k) tt sp.parts in
      omega arith

  pub least_bound : (n id : ℕ) (v : Plain) (b : Bits) → SpellsWithin n any t id v b → least_within n t id ≤ length b
  unfolding SpellsWithin least_within
  least_bound zero id v b h = absurd h
  least_bound (suc n) id v b h =
      let e : least_row t (least_within n t) id (slice_get t id) ≡ least_row t (least_within n t) id (Some h.0) = ap (least_row t (least_within n t) id) h.1 in
      let k = kind_bound n (least_bound n) id (h.0).kind v b h.2 in
      omega arith
