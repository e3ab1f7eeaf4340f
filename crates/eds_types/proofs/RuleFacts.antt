-- What the laws use of a table follows from the rules that it keeps.
use Rattle.std.proofs.Common.{◌≡◌, ℕ, zero, suc, ◌+◌, ◌≤◌, ℤ, pos, negsuc, Bool, true, false, cond, List, [], ◌∷◌, ◌++◌, length, map, filter, reverse, Option, Some, None, refl, sym, ap, subst, ◌∙◌, append_assoc, append-nil, arith, inl, inr}
use Rattle.std.specs.Prelude.{slice_get, IfSome, ◌≤ℤ◌}
use Rattle.std.specs.List.{AllByRecursion, flat_map}
use Rattle.std.proofs.lemmas.Grind.{flat_map-append}
use Rattle.std.proofs.lemmas.Int.{ints}
use Rattle.std.proofs.lemmas.List.{reverse-append}
use Rattle.eds_base.specs.declared.spans.Span.{Span}
use Rattle.eds_base.specs.Spans.{IsWithin}
use Rattle.eds_base.specs.Reading.{same as same_text}
use Rattle.eds_bits.specs.declared.forms.IntForm.{IntForm}
use Rattle.eds_bits.specs.Lists.{Has, HasOne}
use Rattle.eds_types.specs.declared.row.Kind.{Kind}
use Rattle.eds_types.specs.declared.row.Kind.TheVariants as kind
use Rattle.eds_types.specs.declared.row.Part.{Part}
use Rattle.eds_types.specs.declared.row.Part.TheVariants as part
use Rattle.eds_types.specs.declared.row.Constraint.{Constraint}
use Rattle.eds_types.specs.Sizes.{open_by, open_in, open_of, tail_of, trailers_along}
use Rattle.eds_types.specs.Fields.{type_by, listed, StartsInEntries}
use Rattle.eds_types.specs.Rows.{Table, chain, entries_of, trailers_of, constraints_of, Placed, placed_from, placed_entries, placed_trailers, own_parts, sequence}
use Rattle.eds_types.specs.Rules.{AreDistinct, IsBefore, IsIntBy, IsInt, IsNested, ItemsNest, IsScale, TailKeeps, PartKeeps, KindKeeps, is_length, ConstraintKeeps, KeepsRules}
use Rattle.eds_types.proofs.Tables.{IsTable, IsPartType, IsItemType, IsOneLabel, IsIntRow, IsIntKind, LengthIsInt}
use Rattle.eds_types.proofs.AllOf.{All-weaker, All-both, All-front, All-back, All-pair, All-at, All-has, All-flat, All-reverse, one_of}
use Rattle.eds_types.proofs.ChainLaws.{chain_end, under_is}
use Rattle.eds_types.proofs.DistinctParts.{Pairwise, Apart, placed_in, sequence_apart}
use Rattle.eds_types.proofs.SameValues.{same_text-is}
use Rattle.eds_types.proofs.TableFacts.{Facts, IsNumbered, CheckFits, FixedFits, IsCount, ListFits, ListsFit, IsScaled, NoLength, IsLengthOnce, IsSized, TailsFollowed}
use Rattle.eds_types.proofs.TailSizes.{Tells, one_split}
use Rattle.std.proofs.lemmas.Bool.{both_ways}

-- ---- listings

listed_has : (xs : List (List ℕ × ℤ)) (l : List ℕ) (n : ℤ) → listed xs l ≡ Some n → Has (map (λ e. e.1) xs) n
listed_has [] l n e = absurd cc
listed_has (x ∷ xs) l n e = go (same_text x.0 l) e (listed_has xs l n)
  where
    go : (b : Bool) → cond b (Some x.1) (listed xs l) ≡ Some n → (listed xs l ≡ Some n → Has (map (λ e. e.1) xs) n) → Has (x.1 ∷ map (λ e. e.1) xs) n
    go true e ih = let q : x.1 ≡ n = cc in record { before = []; after = map (λ e. e.1) xs; is = ap (λ z. z ∷ map (λ e. e.1) xs) q }
    go false e ih = let h = ih e in record { before = x.1 ∷ h.before; after = h.after; is = ap (λ z. x.1 ∷ z) h.is }

-- no two labels have one number
one_listed : (xs : List (List ℕ × ℤ)) → AreDistinct (map (λ e. e.1) xs) → (l m : List ℕ) (n : ℤ) → listed xs l ≡ Some n → listed xs m ≡ Some n → l ≡ m
one_listed [] d l m n e f = absurd cc
one_listed (x ∷ xs) d l m n e f = go (same_text x.0 l) refl e (same_text x.0 m) refl f (one_listed xs d.1 l m n)
  where
    twice : (k : List ℕ) → Some x.1 ≡ Some n → listed xs k ≡ Some n → ⊥
    twice k p q = let s : x.1 ≡ n = cc in d.0 (subst (Has (map (λ e. e.1) xs)) (sym s) (listed_has xs k n q))

    go : (b : Bool) → same_text x.0 l ≡ b → cond b (Some x.1) (listed xs l) ≡ Some n → (c : Bool) → same_text x.0 m ≡ c → cond c (Some x.1) (listed xs m) ≡ Some n → (listed xs l ≡ Some n → listed xs m ≡ Some n → l ≡ m) → l ≡ m
    go true p e true q f ih = sym (same_text-is x.0 l p) ∙ same_text-is x.0 m q
    go true p e false q f ih = absurd (twice m e f)
    go false p e true q f ih = absurd (twice l f e)
    go false p e false q f ih = ih e f

-- ---- kinds

int_kind : (P : IntForm → List Span → Type 0) (k : Kind) → IsIntBy P k → IsIntKind k
int_kind P (kind.Int form spans) h = tt
int_kind P (kind.Enum form listing) h = absurd h
int_kind P (kind.Bool form) h = absurd h
int_kind P (kind.Str form) h = absurd h
int_kind P (kind.Bin n free) h = absurd h
int_kind P (kind.Arr item n) h = absurd h
int_kind P (kind.Con c) h = absurd h

int_row : (t : Table) (id : ℕ) (P : IntForm → List Span → Type 0) → IsInt t id P → IsIntRow (slice_get t id)
int_row t id P h = subst IsIntRow (sym h.1) (int_kind P (h.0).kind h.2)

int_weaker : (P Q : IntForm → List Span → Type 0) → ((form : IntForm) (spans : List Span) → P form spans → Q form spans) → (k : Kind) → IsIntBy P k → IsIntBy Q k
int_weaker P Q g (kind.Int form spans) h = g form spans h
int_weaker P Q g (kind.Enum form listing) h = h
int_weaker P Q g (kind.Bool form) h = h
int_weaker P Q g (kind.Str form) h = h
int_weaker P Q g (kind.Bin n free) h = h
int_weaker P Q g (kind.Arr item n) h = h
int_weaker P Q g (kind.Con c) h = h

one_label_of : (k : Kind) → KindKeeps k → IsOneLabel k
one_label_of (kind.Int form spans) h = tt
one_label_of (kind.Enum form listing) h = one_listed listing h.numbers
one_label_of (kind.Bool form) h = tt
one_label_of (kind.Str form) h = tt
one_label_of (kind.Bin n free) h = tt
one_label_of (kind.Arr item n) h = tt
one_label_of (kind.Con c) h = tt

item_type : (t : Table) (rank : ℕ → ℕ) (id : ℕ) (k : Kind) → ItemsNest t rank id k → IsItemType t rank id k
item_type t rank id (kind.Int form spans) h = tt
item_type t rank id (kind.Enum form listing) h = tt
item_type t rank id (kind.Bool form) h = tt
item_type t rank id (kind.Str form) h = tt
item_type t rank id (kind.Bin n free) h = tt
item_type t rank id (kind.Arr item n) h = ((h.0).1, (h.0).0, h.2)
item_type t rank id (kind.Con c) h = tt

-- ---- parts

same_id : (a b : ℕ) → Some a ≡ Some b → a ≡ b
same_id a b e = cc

unplaced : (P : Part → Type 0) (y i : ℕ) (ps : List Part) → AllByRecursion (λ (p : Placed). P p.part) (placed_from y i ps) → AllByRecursion P ps
unplaced P y i [] h = tt
unplaced P y i (p ∷ ps) h = (h.0, unplaced P y (i + 1) ps h.1)

module _ (t : Table) where
  -- what holds of each container's own parts, holds along a sequence
  pub on_sequence : (P : Placed → Type 0) → ((y : ℕ) → AllByRecursion P (own_parts t y)) → (k : ℕ) → AllByRecursion P (sequence t k)
  on_sequence P h k =
      All-both P (flat_map (placed_entries t) (chain t k)) (flat_map (placed_trailers t) (reverse (chain t k)))
      (All-flat P (λ y. Unit {0}) (placed_entries t) (λ y _. All-front P (placed_entries t y) (placed_trailers t y) (h y)) (chain t k) (all_units (chain t k)))
      (All-flat P (λ y. Unit {0}) (placed_trailers t) (λ y _. All-back P (placed_entries t y) (placed_trailers t y) (h y)) (reverse (chain t k)) (all_units (reverse (chain t k))))
    where
      all_units : (ys : List ℕ) → AllByRecursion (λ y. Unit {0}) ys
      all_units [] = tt
      all_units (y ∷ ys) = (tt, all_units ys)

  int_closed : (id : ℕ) (P : IntForm → List Span → Type 0) → IsInt t id P → open_of t id ≡ None
  int_closed id P h = ap open_in h.1 ∙ by_kind (h.0).kind h.2
    where
      by_kind : (k : Kind) → IsIntBy P k → open_by k ≡ None
      by_kind (kind.Int form spans) i = refl
      by_kind (kind.Enum form listing) i = absurd i
      by_kind (kind.Bool form) i = absurd i
      by_kind (kind.Str form) i = absurd i
      by_kind (kind.Bin n free) i = absurd i
      by_kind (kind.Arr item n) i = absurd i
      by_kind (kind.Con c) i = absurd i

  -- only the type of a tail is an open binary
  free_is : (p : Placed) (q : Part) → PartKeeps t p q → (x : ℕ) → type_by (Some q) ≡ Some x → open_of t x ≡ tail_of t q
  free_is p (part.Plain name id) h x e = ap (open_of t) (sym (same_id id.0 x e))
  free_is p (part.Fixed name id v) h x e = ap (open_of t) (sym (same_id id.0 x e)) ∙ h.1
  free_is p (part.Pad n) h x e = absurd cc
  free_is p (part.List name id y i) h x e = ap (open_of t) (sym (same_id id.0 x e)) ∙ h.1
  free_is p (part.Length name id c0 c1) h x e = ap (open_of t) (sym (same_id id.0 x e)) ∙ int_closed id.0 _ h.0
  free_is p (part.Check name id k) h x e = ap (open_of t) (sym (same_id id.0 x e)) ∙ int_closed id.0 _ h.0

  length_int : (p : Placed) (q : Part) → PartKeeps t p q → LengthIsInt t q
  length_int p (part.Plain name id) h = tt
  length_int p (part.Fixed name id v) h = tt
  length_int p (part.Pad n) h = tt
  length_int p (part.List name id y i) h = tt
  length_int p (part.Length name id c0 c1) h = int_row t id.0 _ h.0
  length_int p (part.Check name id k) h = tt

  numbered : (p : Placed) (q : Part) → PartKeeps t p q → IsNumbered t q
  numbered p (part.Plain name id) h = tt
  numbered p (part.Fixed name id v) h = tt
  numbered p (part.Pad n) h = tt
  numbered p (part.List name id y i) h = tt
  numbered p (part.Length name id c0 c1) h = int_row t id.0 _ h.0
  numbered p (part.Check name id k) h = int_row t id.0 _ h.0

  check_fits : (p : Placed) (q : Part) → PartKeeps t p q → CheckFits t q
  check_fits p (part.Plain name id) h = tt
  check_fits p (part.Fixed name id v) h = tt
  check_fits p (part.Pad n) h = tt
  check_fits p (part.List name id y i) h = tt
  check_fits p (part.Length name id c0 c1) h = tt
  check_fits p (part.Check name id k) h = h.0

  fixed_fits : (p : Placed) (q : Part) → PartKeeps t p q → FixedFits t q
  fixed_fits p (part.Plain name id) h = tt
  fixed_fits p (part.Fixed name id v) h = h.0
  fixed_fits p (part.Pad n) h = tt
  fixed_fits p (part.List name id y i) h = tt
  fixed_fits p (part.Length name id c0 c1) h = tt
  fixed_fits p (part.Check name id k) h = tt

  rising : (c0 c1 : ℤ) → IsScale c0 c1 → (k : ℕ) × (c1 ≡ pos (suc k))
  rising c0 (pos zero) h = absurd (let l = h.rises in omega (arith, ints))
  rising c0 (pos (suc k)) h = (k, refl)
  rising c0 (negsuc k) h = absurd (let l = h.rises in omega (arith, ints))

  scaled : (p : Placed) (q : Part) → PartKeeps t p q → IsScaled q
  scaled p (part.Plain name id) h = tt
  scaled p (part.Fixed name id v) h = tt
  scaled p (part.Pad n) h = tt
  scaled p (part.List name id y i) h = tt
  scaled p (part.Length name id c0 c1) h = rising c0 c1 h.1
  scaled p (part.Check name id k) h = tt

-- ---- one length entry

no_length : (q : Part) → is_length q ≡ false → NoLength q
no_length (part.Plain name id) h = tt
no_length (part.Fixed name id v) h = tt
no_length (part.Pad n) h = tt
no_length (part.List name id y i) h = tt
no_length (part.Length name id c0 c1) h = absurd cc
no_length (part.Check name id k) h = tt

abbrev lengths : List Placed → ℕ
lengths ps = length (filter (λ (p : Placed). is_length p.part) ps)

abbrev rest_of : List Placed → List Placed
rest_of ps = filter (λ (p : Placed). is_length p.part) ps

lengths_by : (p : Placed) (ps : List Placed) (b : Bool) → is_length p.part ≡ b → lengths (p ∷ ps) ≡ cond b (suc (lengths ps)) (lengths ps)
lengths_by p ps true e = ap (λ z. length (cond z (p ∷ rest_of ps) (rest_of ps))) e
lengths_by p ps false e = ap (λ z. length (cond z (p ∷ rest_of ps) (rest_of ps))) e

none_of : (ps : List Placed) → lengths ps ≡ 0 → AllByRecursion (λ (p : Placed). NoLength p.part) ps
none_of [] h = tt
none_of (p ∷ ps) h = go (is_length p.part) refl (none_of ps)
  where
    go : (b : Bool) → is_length p.part ≡ b → (lengths ps ≡ 0 → AllByRecursion (λ (p : Placed). NoLength p.part) ps) → NoLength p.part × AllByRecursion (λ (p : Placed). NoLength p.part) ps
    go true e ih = absurd (omega (arith, lengths_by p ps true e))
    go false e ih = (no_length p.part e, ih (omega (arith, lengths_by p ps false e)))

once_of : (ps : List Placed) → lengths ps ≤ 1 → IsLengthOnce ps
once_of [] h = tt
once_of (p ∷ ps) h = go (is_length p.part) refl (once_of ps)
  where
    go : (b : Bool) → is_length p.part ≡ b → (lengths ps ≤ 1 → IsLengthOnce ps) → ((NoLength p.part → ⊥) → AllByRecursion (λ (p : Placed). NoLength p.part) ps) × IsLengthOnce ps
    go true e ih = ((λ _. none_of ps (omega (arith, lengths_by p ps true e))), ih (omega (arith, lengths_by p ps true e)))
    go false e ih = ((λ n. absurd (n (no_length p.part e))), ih (omega (arith, lengths_by p ps false e)))

-- ---- what stands before in a longer sequence

-- parts that are put in between leave the order as it is
put_has : (xs ys between : List Placed) (b : Placed) (before after : List Placed) → xs ++ ys ≡ before ++ b ∷ after → Has (xs ++ (between ++ ys)) b
put_has [] ys between b before after e = record { before = between ++ before; after = after; is = ap (λ z. between ++ z) e ∙ sym (append_assoc between before (b ∷ after)) }
put_has (x ∷ xs) ys between b [] after e = let p : x ≡ b = cc in record { before = []; after = xs ++ (between ++ ys); is = ap (λ z. z ∷ (xs ++ (between ++ ys))) p }
put_has (x ∷ xs) ys between b (z ∷ before) after e =
    let q : xs ++ ys ≡ before ++ b ∷ after = cc in
    let h = put_has xs ys between b before after q in
    record { before = x ∷ h.before; after = h.after; is = ap (λ l. x ∷ l) h.is }

put_before : (xs ys between : List Placed) (a b : Placed) (before mid after : List Placed) → xs ++ ys ≡ before ++ a ∷ (mid ++ b ∷ after) → IsBefore (xs ++ (between ++ ys)) a b
put_before [] ys between a b before mid after e = record { before = between ++ before; between = mid; after = after; is = ap (λ z. between ++ z) e ∙ sym (append_assoc between before (a ∷ (mid ++ b ∷ after))) }
put_before (x ∷ xs) ys between a b [] mid after e =
    let p : x ≡ a = cc in
    let q : xs ++ ys ≡ mid ++ b ∷ after = cc in
    let h = put_has xs ys between b mid after q in
    record { before = []; between = h.before; after = h.after; is = ap (λ z. z ∷ (xs ++ (between ++ ys))) p ∙ ap (λ l. a ∷ l) h.is }
put_before (x ∷ xs) ys between a b (z ∷ before) mid after e =
    let q : xs ++ ys ≡ before ++ a ∷ (mid ++ b ∷ after) = cc in
    let h = put_before xs ys between a b before mid after q in
    record { before = x ∷ h.before; between = h.between; after = h.after; is = ap (λ l. x ∷ l) h.is }

same_apart : (p q : Placed) → p ≡ q → Apart p q → ⊥
same_apart p q e h = h (ap (λ (x : Placed). x.container) e, ap (λ (x : Placed). x.place) e)

-- a part stands once
stands_once : (xs zs : List Placed) (p : Placed) (ys ws : List Placed) → Pairwise Apart (xs ++ p ∷ ys) → xs ++ p ∷ ys ≡ zs ++ p ∷ ws → xs ≡ zs
stands_once [] [] p ys ws h e = refl
stands_once [] (z ∷ zs) p ys ws h e = let q : ys ≡ zs ++ p ∷ ws = cc in absurd (same_apart p p refl (All-at (Apart p) ys p (record { before = zs; after = ws; is = q }) h.0))
stands_once (x ∷ xs) [] p ys ws h e = let q : x ≡ p = cc in absurd (same_apart x p q (All-at (Apart x) (xs ++ p ∷ ys) p (record { before = xs; after = ys; is = refl }) h.0))
stands_once (x ∷ xs) (z ∷ zs) p ys ws h e = let q : x ≡ z = cc in let r : xs ++ p ∷ ys ≡ zs ++ p ∷ ws = cc in rw (q, stands_once xs zs p ys ws h.1 r) refl

module _ (t : Table) (is : IsTable t) where
  -- the sequence of a derived container has that of its base, and parts in between
  longer_sequence : (y k : ℕ) → Has (chain t k) y → (between : List Placed) × (sequence t k ≡ flat_map (placed_entries t) (chain t y) ++ (between ++ flat_map (placed_trailers t) (reverse (chain t y))))
  longer_sequence y k h =
      let zs = h.after in
      let up : chain t k ≡ chain t y ++ zs = (under_is t is y k h.before zs h.is).1 in
      let es = flat_map (placed_entries t) (chain t y) in
      let ts = flat_map (placed_trailers t) (reverse (chain t y)) in
      let ez = flat_map (placed_entries t) zs in
      let tz = flat_map (placed_trailers t) (reverse zs) in
      let entries : flat_map (placed_entries t) (chain t k) ≡ es ++ ez = ap (flat_map (placed_entries t)) up ∙ flat_map-append (placed_entries t) (chain t y) zs in
      let trailers : flat_map (placed_trailers t) (reverse (chain t k)) ≡ tz ++ ts = ap (λ c. flat_map (placed_trailers t) (reverse c)) up ∙ ap (flat_map (placed_trailers t)) (reverse-append (chain t y) zs) ∙ flat_map-append (placed_trailers t) (reverse zs) (reverse (chain t y)) in
      (ez ++ tz, ap (λ z. z ++ flat_map (placed_trailers t) (reverse (chain t k))) entries ∙ ap (λ z. (es ++ ez) ++ z) trailers ∙ append_assoc es ez (tz ++ ts) ∙ ap (λ z. es ++ z) (sym (append_assoc ez tz ts)))

  before_longer : (y k : ℕ) (a b : Placed) → Has (chain t k) y → IsBefore (sequence t y) a b → IsBefore (sequence t k) a b
  before_longer y k a b h i =
      let l = longer_sequence y k h in
      subst (λ s. IsBefore s a b) (sym l.1) (put_before (flat_map (placed_entries t) (chain t y)) (flat_map (placed_trailers t) (reverse (chain t y))) l.0 a b i.before i.between i.after i.is)

  -- the container of a part is one of the chain
  of_chain : (k : ℕ) → AllByRecursion (λ (p : Placed). Has (chain t k) p.container) (sequence t k)
  of_chain k =
      All-both P (flat_map (placed_entries t) (chain t k)) (flat_map (placed_trailers t) (reverse (chain t k)))
      (All-flat P (Has (chain t k)) (placed_entries t) (λ y h. here y h (placed_entries t y) (placed_in y 0 (entries_of t y))) (chain t k) (All-has [] (chain t k)))
      (All-flat P (Has (chain t k)) (placed_trailers t) (λ y h. here y h (placed_trailers t y) (placed_in y (length (entries_of t y)) (trailers_of t y))) (reverse (chain t k)) (All-reverse (Has (chain t k)) (chain t k) (All-has [] (chain t k))))
    where
      P : Placed → Type 0
      P p = Has (chain t k) p.container

      here : (y : ℕ) → Has (chain t k) y → (ps : List Placed) → AllByRecursion (λ (q : Placed). q.container ≡ y) ps → AllByRecursion P ps
      here y h ps a = All-weaker (λ (q : Placed). q.container ≡ y) P (λ q e. subst (Has (chain t k)) (sym e) h) ps a

  -- ---- lists

  list_fits : (k : ℕ) (p : Placed) (q : Part) (done ps : List Placed) → sequence t k ≡ done ++ p ∷ ps → Has (chain t k) p.container → PartKeeps t p q → ListFits t done q
  list_fits k p (part.Plain name id) done ps e u h = tt
  list_fits k p (part.Fixed name id v) done ps e u h = tt
  list_fits k p (part.Pad n) done ps e u h = tt
  list_fits k p (part.List name id y i) done ps e u h =
      let c = h.2 in
      let field : Placed = record { container = y.0; place = i; part = part.Plain c.name c.id } in
      let b = before_longer p.container k field p u c.before in
      let two : sequence t k ≡ (b.before ++ field ∷ b.between) ++ p ∷ b.after = b.is ∙ sym (append_assoc b.before (field ∷ b.between) (p ∷ b.after)) in
      let same : done ≡ b.before ++ field ∷ b.between = stands_once done (b.before ++ field ∷ b.between) p ps b.after (subst (Pairwise Apart) e (sequence_apart t is k)) (sym e ∙ two) in
      let counts : IsCount t field.part = ((c.counts).0, (c.counts).1, int_weaker (λ form spans. (n : ℤ) → IsWithin spans n → pos 0 ≤ℤ n) (λ form spans. (n : ℤ) → IsWithin spans n → (m : ℕ) × (n ≡ pos m)) (λ form spans g n w. natural n (g n w)) ((c.counts).0).kind (c.counts).2) in
      subst (HasOne (λ (f : Placed). (f.container ≡ y.0) × (f.place ≡ i) × IsCount t f.part)) (sym same) (one_of (λ (f : Placed). (f.container ≡ y.0) × (f.place ≡ i) × IsCount t f.part) b.before field b.between (refl, refl, counts))
    where
      natural : (n : ℤ) → pos 0 ≤ℤ n → (m : ℕ) × (n ≡ pos m)
      natural (pos m) l = (m, refl)
      natural (negsuc m) l = absurd (omega (arith, ints))
  list_fits k p (part.Length name id c0 c1) done ps e u h = tt
  list_fits k p (part.Check name id kd) done ps e u h = tt

  lists_fit : (k : ℕ) (done ps : List Placed) → sequence t k ≡ done ++ ps → AllByRecursion (λ (p : Placed). Has (chain t k) p.container × PartKeeps t p p.part) ps → ListsFit t done ps
  lists_fit k done [] e h = tt
  lists_fit k done (p ∷ ps) e h = (list_fits k p p.part done ps e h.0.0 h.0.1, lists_fit k (done ++ p ∷ []) ps (e ∙ sym (append_assoc done (p ∷ []) ps)) h.1)

  -- ---- tails

  after_same : (xs : List Placed) (p : Placed) (ys zs : List Placed) → xs ++ p ∷ ys ≡ xs ++ p ∷ zs → ys ≡ zs
  after_same [] p ys zs e = cc
  after_same (x ∷ xs) p ys zs e = let q : xs ++ p ∷ ys ≡ xs ++ p ∷ zs = cc in after_same xs p ys zs q

  tail_followed : (k : ℕ) (p : Placed) (done ps : List Placed) → sequence t k ≡ done ++ p ∷ ps → Has (chain t k) p.container → is_length p.part ≡ false → TailKeeps t p → HasOne Tells done × (ps ≡ trailers_along t p.container) × AllByRecursion (IsSized t) ps
  tail_followed k p done ps e u quiet h =
      let same : k ≡ p.container = h.not_derived k u in
      let up = chain_end t is k in
      let front = flat_map (placed_entries t) up.0 in
      let es : flat_map (placed_entries t) (chain t k) ≡ (front ++ h.before) ++ p ∷ [] =
      ap (flat_map (placed_entries t)) up.1 ∙ flat_map-append (placed_entries t) up.0 (k ∷ []) ∙ ap (λ z. front ++ z) (append-nil (placed_entries t k) ∙ ap (placed_entries t) same ∙ h.last) ∙ sym (append_assoc front h.before (p ∷ [])) in
      let two : sequence t k ≡ (front ++ h.before) ++ p ∷ trailers_along t k = ap (λ z. z ++ trailers_along t k) es ∙ append_assoc (front ++ h.before) (p ∷ []) (trailers_along t k) in
      let first : done ≡ front ++ h.before = stands_once done (front ++ h.before) p ps (trailers_along t k) (subst (Pairwise Apart) e (sequence_apart t is k)) (sym e ∙ two) in
      let rest : ps ≡ trailers_along t k = after_same (front ++ h.before) p ps (trailers_along t k) (ap (λ z. z ++ p ∷ ps) (sym first) ∙ sym e ∙ two) in
      let rest' : ps ≡ trailers_along t p.container = rest ∙ ap (trailers_along t) same in
      let told : HasOne Tells ((front ++ h.before) ++ p ∷ []) = subst (HasOne Tells) (ap (λ z. flat_map (placed_entries t) (chain t z)) (sym same) ∙ es) h.told in
      (elim (one_split (front ++ h.before) p told) [ inl w ↦ subst (HasOne Tells) (sym first) w | inr i ↦ absurd (both_ways (is_length p.part) quiet i) ], rest', subst (AllByRecursion (IsSized t)) (sym rest') h.sized)

  tail_by : (k : ℕ) (p : Placed) (q : Part) → p.part ≡ q → (done ps : List Placed) → sequence t k ≡ done ++ p ∷ ps → Has (chain t k) p.container → PartKeeps t p q → IfSome (tail_of t q) (λ n. HasOne Tells done × (ps ≡ trailers_along t p.container) × AllByRecursion (IsSized t) ps)
  tail_by k p (part.Plain name id) is_q done ps e u h = if_some (open_of t id.0) h.1
    where
      if_some : (o : Option ℕ) → IfSome o (λ n. TailKeeps t p) → IfSome o (λ n. HasOne Tells done × (ps ≡ trailers_along t p.container) × AllByRecursion (IsSized t) ps)
      if_some None h = tt
      if_some (Some n) h = tail_followed k p done ps e u (ap is_length is_q) h
  tail_by k p (part.Fixed name id v) is_q done ps e u h = tt
  tail_by k p (part.Pad n) is_q done ps e u h = tt
  tail_by k p (part.List name id y i) is_q done ps e u h = tt
  tail_by k p (part.Length name id c0 c1) is_q done ps e u h = tt
  tail_by k p (part.Check name id kd) is_q done ps e u h = tt

  tails_follow : (k : ℕ) (done ps : List Placed) → sequence t k ≡ done ++ ps → AllByRecursion (λ (p : Placed). Has (chain t k) p.container × PartKeeps t p p.part) ps → TailsFollowed t done ps
  tails_follow k done [] e h = tt
  tails_follow k done (p ∷ ps) e h = (tail_by k p p.part refl done ps e h.0.0 h.0.1, tails_follow k (done ++ p ∷ []) ps (e ∙ sym (append_assoc done (p ∷ []) ps)) h.1)

-- ---- all facts

pub table_of : (t : Table) → KeepsRules t → IsTable t
table_of t keeps = record {
  level = keeps.level;
  low = keeps.chains;
  base = keeps.base_level;
  conditions = λ id base e. All-weaker (ConstraintKeeps t base id) (λ (c : Constraint). StartsInEntries t base c.path) (λ c h. h.starts) (constraints_of t id) (keeps.constraints id base e);
  root_conditions = keeps.root_constraints;
  rank = keeps.rank;
  nested = keeps.nesting;
  base_rank = keeps.base_rank;
  parts = λ y. both_lists y (own y);
  items = λ id row e. item_type t keeps.rank id row.kind (keeps.items_nest id row e);
  one_label = λ id row e. one_label_of row.kind (keeps.kinds id row e);
}
  where
    own : (y : ℕ) → AllByRecursion (λ (p : Placed). IsPartType t keeps.rank y p.part) (own_parts t y)
    own y = All-weaker (λ (p : Placed). ((id : ℕ) → type_by (Some p.part) ≡ Some id → IsNested t keeps.rank y id) × PartKeeps t p p.part) (λ (p : Placed). IsPartType t keeps.rank y p.part)
        (λ p h. record { lower = λ x e. let n = h.0 x e in (n.1, n.0); length_is_int = length_int t p p.part h.1; free = free_is t p p.part h.1 }) (own_parts t y)
        (All-pair (λ (p : Placed). (id : ℕ) → type_by (Some p.part) ≡ Some id → IsNested t keeps.rank y id) (λ (p : Placed). PartKeeps t p p.part) (own_parts t y) (keeps.parts_nest y) (keeps.parts y))

    both_lists : (y : ℕ) → AllByRecursion (λ (p : Placed). IsPartType t keeps.rank y p.part) (own_parts t y) → AllByRecursion (IsPartType t keeps.rank y) (entries_of t y ++ trailers_of t y)
    both_lists y h = All-both (IsPartType t keeps.rank y) (entries_of t y) (trailers_of t y)
        (unplaced (IsPartType t keeps.rank y) y 0 (entries_of t y) (All-front (λ (p : Placed). IsPartType t keeps.rank y p.part) (placed_entries t y) (placed_trailers t y) h))
        (unplaced (IsPartType t keeps.rank y) y (length (entries_of t y)) (trailers_of t y) (All-back (λ (p : Placed). IsPartType t keeps.rank y p.part) (placed_entries t y) (placed_trailers t y) h))

pub facts_of : (t : Table) → KeepsRules t → Facts t
facts_of t keeps = record {
  kinds = keeps.kinds;
  numbered = λ k. along (λ (p : Placed). IsNumbered t p.part) (λ p h. numbered t p p.part h) k;
  checks = λ k. along (λ (p : Placed). CheckFits t p.part) (λ p h. check_fits t p p.part h) k;
  fixed = λ k. along (λ (p : Placed). FixedFits t p.part) (λ p h. fixed_fits t p p.part h) k;
  lists = λ k. lists_fit t (table_of t keeps) k [] (sequence t k) refl (All-pair (λ (p : Placed). Has (chain t k) p.container) (λ (p : Placed). PartKeeps t p p.part) (sequence t k) (of_chain t (table_of t keeps) k) (all k));
  scaled = λ k. along (λ (p : Placed). IsScaled p.part) (λ p h. scaled t p p.part h) k;
  once = λ k. once_of (sequence t k) (keeps.sequences k).one_length;
  tails = λ k. tails_follow t (table_of t keeps) k [] (sequence t k) refl (All-pair (λ (p : Placed). Has (chain t k) p.container) (λ (p : Placed). PartKeeps t p p.part) (sequence t k) (of_chain t (table_of t keeps) k) (all k));
}
  where
    all : (k : ℕ) → AllByRecursion (λ (p : Placed). PartKeeps t p p.part) (sequence t k)
    all k = on_sequence t (λ (p : Placed). PartKeeps t p p.part) keeps.parts k

    along : (P : Placed → Type 0) → ((p : Placed) → PartKeeps t p p.part → P p) → (k : ℕ) → AllByRecursion P (sequence t k)
    along P g k = All-weaker (λ (p : Placed). PartKeeps t p p.part) P g (sequence t k) (all k)
