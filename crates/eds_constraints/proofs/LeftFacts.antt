-- What constraints leave on their paths: those of a base and those of a container, put together.
use Rattle.std.proofs.Common.{◌≡◌, inl, inr, ℕ, zero, suc, ◌+◌, ◌-◌, ◌<◌, ◌≤◌, ℤ, ◌≤ℤ◌, List, [], ◌∷◌, ◌++◌, map, length, drop, get_or, Bool, true, false, Option, Some, None, refl, sym, ap, subst, ◌∙◌, arith, append-nil, drop-cons, add-one}
use Rattle.std.specs.Prelude.{if◌then◌else◌, ◌⊎◌, option_map, slice_get, slice_set, Result, Ok, Err, IfOk}
use Rattle.std.specs.List.{flat_map}
use Rattle.std.specs.Int.Signed.{≤ℤ_refl}
use Rattle.std.proofs.lemmas.Grind.{flat_map-append}
use Rattle.std.proofs.lemmas.Slice.Eq.{bytes_eq-Decides}
use Rattle.std.proofs.lemmas.Option.{slice_get-get_or, slice_get-map}
use Rattle.eds_base.specs.declared.refusal.Refusal.{Refusal}
use Rattle.eds_base.specs.declared.spans.Span.{Span}
use Rattle.eds_base.specs.Numbers.{whole_number, flag_value}
use Rattle.eds_base.specs.Reading.{same}
use Rattle.eds_base.specs.Refusals.{least}
use Rattle.eds_base.specs.Spans.{Rises, bottom, top}
use Rattle.eds_base.proofs.SpansLemmas.{within_floor, within_top}
use Rattle.eds_names.specs.Positions.{place_from, place_among}
use Rattle.eds_types.specs.declared.row.Kind.{Kind}
use Rattle.eds_types.specs.declared.row.Kind.TheVariants as kind
use Rattle.eds_types.specs.declared.row.TypeRow.{TypeRow}
use Rattle.eds_types.specs.Fields.{listed}
use Rattle.eds_types.specs.Reading.{is_within}
use Rattle.eds_types.specs.Rows.{Table, base_of, chain_before, chain_within}
use Rattle.eds_types.proofs.ReadingTests.{within_from}
use Rattle.eds_constraints.specs.declared.asked.Aim.{Aim}
use Rattle.eds_constraints.specs.declared.asked.Asked.{Asked}
use Rattle.eds_constraints.specs.declared.left.Left.{Left}
use Rattle.eds_constraints.specs.declared.asked.Test.{Test}
use Rattle.eds_constraints.specs.declared.asked.Test.TheVariants.{Value, Within, Under}
use Rattle.eds_constraints.specs.Breaks.{Lists, Posed, aim_at, admitted, some_of, left_by, left_behind, left_after, left_on, asked_of, posed_by, posed_of, empties_after, empties_of}
use Rattle.eds_constraints.specs.ConstrainedRows.{AreRead, IsReadKind}
use Rattle.eds_constraints.specs.Lefts.{path_of, every_number_on, left_on_path, posed_over, IsPlaced, IsLeft, IsLeftOf, AreAllLeft, RiseIn, AreRising}
use Rattle.eds_constraints.specs.Sets.{one_number, all_numbers, met, truth_number, number_within, value_set, concrete_under, set_by, set_of}
use Rattle.eds_constraints.proofs.ConcreteFacts.{concrete_rises}
use Rattle.eds_domains.proofs.DomainFacts.{narrowed_rises}
use Rattle.eds_constraints.proofs.SetFacts.{met_rises, met-assoc, met-none, met-all, all_rise}
use Rattle.eds_constraints.proofs.ValueFacts.{label_bounds}

-- ---- sets that rise

-- a set that is there is kept as one list
abbrev pub IsKept : Option (List Span) → Type 0
IsKept None = Unit {0}
IsKept (Some s) = Rises s

one_rises : (n : ℤ) → bottom ≤ℤ n → n ≤ℤ top → Rises (one_number n)
one_rises n from to = (from, ≤ℤ_refl n, to, tt)

number_rises : (spans : List Span) (n : ℤ) → Rises spans → Rises (number_within spans n)
number_rises spans n r = go (is_within spans n) refl
  where
    go : (b : Bool) → is_within spans n ≡ b → Rises (number_within spans n)
    go true e = let w = within_from spans n e in rw e (one_rises n (within_floor bottom spans n r w) (within_top bottom spans n r w))
    go false e = rw e tt

truth_rises : (b : Bool) → Rises (one_number (truth_number b))
truth_rises true = grind arith
truth_rises false = grind arith

value_kept : (k : Kind) (text : List ℕ) → IsReadKind k → RiseIn k → IsKept (value_set k text)
value_kept (kind.Int form spans) text keeps r = go (whole_number text)
  where
    go : (o : Option ℤ) → IsKept (option_map (number_within spans) o)
    go None = tt
    go (Some n) = number_rises spans n r
value_kept (kind.Enum form listing) text keeps r = go (listed listing text) refl
  where
    go : (o : Option ℤ) → listed listing text ≡ o → IsKept (option_map one_number o)
    go None e = tt
    go (Some n) e = let b = label_bounds form listing text n (kind.Enum form listing) refl keeps e in one_rises n b.0 b.1
value_kept (kind.Bool form) text keeps r = go (flag_value text)
  where
    go : (o : Option Bool) → IsKept (option_map (λ b. one_number (truth_number b)) o)
    go None = tt
    go (Some b) = truth_rises b
value_kept (kind.Str form) text keeps r = tt
value_kept (kind.Bin n free) text keeps r = tt
value_kept (kind.Arr item n) text keeps r = tt
value_kept (kind.Con c) text keeps r = tt

range_kept : (k : Kind) (t : Table) (target : ℕ) (range : _) → RiseIn k → IsKept (set_by t target k (Within range))
range_kept (kind.Int form spans) t target range r = narrowed_rises range bottom spans r
range_kept (kind.Enum form listing) t target range r = tt
range_kept (kind.Bool form) t target range r = tt
range_kept (kind.Str form) t target range r = tt
range_kept (kind.Bin n free) t target range r = tt
range_kept (kind.Arr item n) t target range r = tt
range_kept (kind.Con c) t target range r = tt

only_kept : (b : Bool) (s : List Span) → Rises s → IsKept (if b then Some s else None)
only_kept true s r = r
only_kept false s r = tt

set_kept : (t : Table) (target : ℕ) (k : Kind) (test : Test) → length t ≤ 4096 → IsReadKind k → RiseIn k → IsKept (set_by t target k test)
set_kept t target k (Value text) few keeps r = value_kept k text keeps r
set_kept t target k (Within range) few keeps r = range_kept k t target range r
set_kept t target k (Under id) few keeps r = only_kept _ (concrete_under t id.0) (concrete_rises t id.0 few)

rise_at : (rows : List TypeRow) → AreRising rows → (id : ℕ) (row : TypeRow) → slice_get rows id ≡ Some row → RiseIn row.kind
rise_at [] r id row e = absurd cc
rise_at (x ∷ rows) r zero row e = let is : x ≡ row = cc in subst (λ y. RiseIn y.kind) is r.0
rise_at (x ∷ rows) r (suc id) row e = rise_at rows r.1 id row e

pub admitted_kept : (t : Table) → AreRead t → AreRising t → (c : Posed) → IsKept (admitted t c)
admitted_kept t read r c = go (aim_at t c) refl
  where
    row : (target : ℕ) (o : Option TypeRow) → slice_get t target ≡ o → IsKept (set_of t target c.asked.test)
    row target None e = rw e tt
    row target (Some x) e = rw e (set_kept t target x.kind c.asked.test read.few (read.kinds target x e) (rise_at t r target x e))

    go : (o : Option Aim) → aim_at t c ≡ o → IsKept (admitted t c)
    go None e = rw e tt
    go (Some aim) e = rw e (row aim.target.0 (slice_get t aim.target.0) refl)

-- ---- what is left, with some numbers

-- nothing is judged, or there are numbers
abbrev pub IsGood : Option (List Span) → Type 0
IsGood None = Unit {0}
IsGood (Some s) = Rises s × (s ≡ [] → ⊥)

some_good : (s : List Span) → Rises s → IsGood (some_of s)
some_good [] r = tt
some_good (x ∷ s) r = (r, λ e. absurd cc)

by_good : (a s : Option (List Span)) → IsGood a → IsKept s → IsGood (left_by a s)
by_good None s g k = tt
by_good (Some a) None g k = tt
by_good (Some a) (Some s) g k = some_good (met a s) (met_rises a s g.0 k)

some_is : (s : List Span) → (s ≡ [] → ⊥) → some_of s ≡ Some s
some_is [] h = absurd (h refl)
some_is (x ∷ s) h = refl

by_all : (a : Option (List Span)) → IsGood a → left_by a (Some all_numbers) ≡ a
by_all None g = refl
by_all (Some a) g = ap some_of (met-all a g.0) ∙ some_is a g.1

by_some : (a s : List Span) → Rises a → left_by (Some a) (some_of s) ≡ some_of (met a s)
by_some a [] r = sym (ap some_of (met-none a r))
by_some a (x ∷ s) r = refl

some_by : (s c : List Span) → left_by (some_of s) (Some c) ≡ some_of (met s c)
some_by [] c = refl
some_by (x ∷ s) c = refl

by_none : (a : Option (List Span)) → left_by a None ≡ None
by_none None = refl
by_none (Some a) = refl

by_assoc : (a b c : Option (List Span)) → IsGood a → IsGood b → IsKept c → left_by (left_by a b) c ≡ left_by a (left_by b c)
by_assoc None b c g h k = refl
by_assoc (Some a) None c g h k = refl
by_assoc (Some a) (Some b) None g h k = by_none (some_of (met a b))
by_assoc (Some a) (Some b) (Some c) g h k = some_by (met a b) c ∙ ap some_of (met-assoc a b c g.0 h.0 k) ∙ sym (by_some a (met b c) g.0)

all_good : IsGood (Some all_numbers)
all_good = (all_rise, λ e. absurd cc)

module _ (t : Table) (kept : (c : Posed) → IsKept (admitted t c)) (q : List ℕ) where
  behind_good : (a : Option (List Span)) (c : Posed) → IsGood a → IsGood (left_behind t q a c)
  behind_good a c g = go (same c.asked.path q) refl
    where
      go : (b : Bool) → same c.asked.path q ≡ b → IsGood (left_behind t q a c)
      go true e = rw e (by_good a (admitted t c) g (kept c))
      go false e = rw e g

  after_good : (a : Option (List Span)) (cs : List Posed) → IsGood a → IsGood (left_after t q a cs)
  after_good a [] g = g
  after_good a (c ∷ cs) g = after_good (left_behind t q a c) cs (behind_good a c g)

  after_both : (a : Option (List Span)) (cs ds : List Posed) → left_after t q a (cs ++ ds) ≡ left_after t q (left_after t q a cs) ds
  after_both a [] ds = refl
  after_both a (c ∷ cs) ds = after_both (left_behind t q a c) cs ds

  behind_split : (a b : Option (List Span)) (c : Posed) → IsGood a → IsGood b → left_behind t q (left_by a b) c ≡ left_by a (left_behind t q b c)
  behind_split a b c g h = go (same c.asked.path q) refl
    where
      go : (x : Bool) → same c.asked.path q ≡ x → left_behind t q (left_by a b) c ≡ left_by a (left_behind t q b c)
      go true e = rw e (by_assoc a b (admitted t c) g h (kept c))
      go false e = rw e refl

  after_split : (a b : Option (List Span)) (cs : List Posed) → IsGood a → IsGood b → left_after t q (left_by a b) cs ≡ left_by a (left_after t q b cs)
  after_split a b [] g h = refl
  after_split a b (c ∷ cs) g h = ap (λ x. left_after t q x cs) (behind_split a b c g h) ∙ after_split a (left_behind t q b c) cs g (behind_good b c h)

  -- what two lists leave one after the other is what both of them leave
  pub joined : (cs ds : List Posed) → left_on t q (cs ++ ds) ≡ left_by (left_on t q cs) (left_on t q ds)
  joined cs ds =
      let g = after_good (Some all_numbers) cs all_good in
      after_both (Some all_numbers) cs ds ∙ ap (λ a. left_after t q a ds) (sym (by_all (left_on t q cs) g)) ∙ after_split (left_on t q cs) (Some all_numbers) ds g all_good

pub after_last : (t : Table) (q : List ℕ) (a : Option (List Span)) (cs : List Posed) (c : Posed) → left_after t q a (cs ++ c ∷ []) ≡ left_behind t q (left_after t q a cs) c
after_last t q a [] c = refl
after_last t q a (d ∷ cs) c = after_last t q (left_behind t q a d) cs c

-- ---- places of paths

-- a name stands at its place
pub place_is : (j : ℕ) (names : List (List ℕ)) (q : List ℕ) (k : ℕ) → place_from j names q ≡ Some k → (m : ℕ) × (k ≡ j + m) × (slice_get names m ≡ Some q)
place_is j [] q k e = absurd cc
place_is j (n ∷ names) q k e = go (same n q) refl (place_is (j + 1) names q k)
  where
    go : (b : Bool) → same n q ≡ b → (place_from (j + 1) names q ≡ Some k → (m : ℕ) × (k ≡ j + 1 + m) × (slice_get names m ≡ Some q)) → (m : ℕ) × (k ≡ j + m) × (slice_get (n ∷ names) m ≡ Some q)
    go true h more = let f : Some j ≡ Some k = rw h at e in let g : j ≡ k = cc in (0, omega arith, ap Some ((bytes_eq-Decides n q).0 h))
    go false h more = let p = more (rw h at e) in let g = p.1 in (suc p.0, omega arith, p.2)

pub place_at : (names : List (List ℕ)) (q : List ℕ) (k : ℕ) → place_among names q ≡ Some k → slice_get names k ≡ Some q
place_at names q k e = let p = place_is 0 names q k e in let g = p.1 in let h : p.0 ≡ k = omega arith in subst (λ m. slice_get names m ≡ Some q) h p.2

-- two names at one place are one
pub one_place : (names : List (List ℕ)) (p q : List ℕ) (k : ℕ) → place_among names p ≡ Some k → place_among names q ≡ Some k → p ≡ q
one_place names p q k e f = let g : Some p ≡ Some q = sym (place_at names p k e) ∙ place_at names q k f in cc

-- a name that is there has a place
pub there : (j : ℕ) (names : List (List ℕ)) (i : ℕ) (q : List ℕ) → slice_get names i ≡ Some q → (k : ℕ) × (place_from j names q ≡ Some k) × (k < j + length names)
there j [] i q e = absurd cc
there j (n ∷ names) i q e = go (same n q) refl i e (λ i. there (j + 1) names i q)
  where
    go : (b : Bool) → same n q ≡ b → (i : ℕ) → slice_get (n ∷ names) i ≡ Some q → ((i : ℕ) → slice_get names i ≡ Some q → (k : ℕ) × (place_from (j + 1) names q ≡ Some k) × (k < j + 1 + length names)) → (k : ℕ) × (place_from j (n ∷ names) q ≡ Some k) × (k < j + length (n ∷ names))
    go true h i e more = (j, rw h refl, omega arith)
    go false h zero e more = let f : n ≡ q = cc in absurd (let g : true ≡ false = sym ((bytes_eq-Decides n q).1 f) ∙ h in cc)
    go false h (suc i) e more = let p = more i e in let lt = p.2 in (p.0, rw h p.1, omega arith)

-- ---- one constraint more

set_there : (xs : List (Option (List Span))) (i : ℕ) (x : Option (List Span)) → i < length xs → slice_get (slice_set xs i x) i ≡ Some x
set_there [] i x lt = absurd (omega arith)
set_there (y ∷ xs) zero x lt = refl
set_there (y ∷ xs) (suc i) x lt = set_there xs i x (omega arith)

set_other : (xs : List (Option (List Span))) (i k : ℕ) (x : Option (List Span)) → (i ≡ k → ⊥) → slice_get (slice_set xs i x) k ≡ slice_get xs k
set_other [] i k x h = refl
set_other (y ∷ xs) zero zero x h = absurd (h refl)
set_other (y ∷ xs) zero (suc k) x h = refl
set_other (y ∷ xs) (suc i) zero x h = refl
set_other (y ∷ xs) (suc i) (suc k) x h = set_other xs i k x (λ e. h (ap suc e))

got : (xs : List (Option (List Span))) (i : ℕ) (d x : Option (List Span)) → slice_get xs i ≡ Some x → get_or xs i d ≡ x
got [] i d x e = absurd cc
got (y ∷ xs) zero d x e = cc
got (y ∷ xs) (suc i) d x e = got xs i d x e

-- what is left behind one more constraint stands at the place of its path
pub put_left : (t : Table) (paths : List (List ℕ)) (before : List Posed) (c : Posed) (old new : List (Option (List Span))) (i : ℕ) (left after : Option (List Span))
    → place_among paths c.asked.path ≡ Some i → i < length old → slice_get old i ≡ Some left → after ≡ left_by left (admitted t c) → new ≡ slice_set old i after → IsLeft t paths before old → IsLeft t paths (before ++ c ∷ []) new
put_left t paths before c old new i left after at lt is by set h q k place = go (same c.asked.path q) refl
  where
    go : (b : Bool) → same c.asked.path q ≡ b → slice_get new k ≡ Some (left_on t q (before ++ c ∷ []))
    go true e =
        let one : c.asked.path ≡ q = (bytes_eq-Decides c.asked.path q).0 e in
        let f : Some i ≡ Some k = sym at ∙ ap (place_among paths) one ∙ place in
        let g : i ≡ k = cc in
        let was : Some left ≡ Some (left_on t q before) = sym is ∙ ap (slice_get old) g ∙ h q k place in
        let left_is : left ≡ left_on t q before = cc in
        ap (slice_get new) (sym g) ∙ ap (λ xs. slice_get xs i) set ∙ set_there old i after lt ∙ ap Some (by ∙ ap (λ a. left_by a (admitted t c)) left_is) ∙ ap Some (sym (after_last t q (Some all_numbers) before c ∙ rw e refl))
    go false e =
        ap (λ xs. slice_get xs k) set ∙ set_other old i k after (λ f. clash (one_place paths c.asked.path q k (at ∙ ap Some f) place)) ∙ h q k place ∙ ap Some (sym (after_last t q (Some all_numbers) before c ∙ rw e refl))
      where
        clash : c.asked.path ≡ q → ⊥
        clash f = let g : true ≡ false = sym ((bytes_eq-Decides c.asked.path q).1 f) ∙ e in cc

pub below_there : (paths : List (List ℕ)) (q : List ℕ) (n at : ℕ) → IsPlaced paths q n → place_among paths q ≡ Some at → at < n
below_there paths q n at p e = let f : Some p.0 ≡ Some at = sym p.1 ∙ e in let g : p.0 ≡ at = cc in let lt = p.2 in omega arith

pub item_there : (xs ys : List (Option (List Span))) (i : ℕ) (d x : Option (List Span)) → ys ≡ xs → i < length xs → x ≡ get_or ys i d → slice_get xs i ≡ Some x
item_there xs ys i d x is lt e = slice_get-get_or xs i d lt ∙ ap Some (sym (e ∙ ap (λ zs. get_or zs i d) is))

-- ---- containers

-- what is left on the path of each of some constraints
pub seeded : (t : Table) (cs : List Posed) (asked : List Asked) (paths : List (List ℕ)) (states : List (Option (List Span))) → paths ≡ map path_of asked → states ≡ map (left_on_path t cs) asked → IsLeft t paths cs states
seeded t cs asked paths states is made q i place = go (slice_get asked i) refl
  where
    named : option_map path_of (slice_get asked i) ≡ Some q
    named = sym (slice_get-map path_of asked i) ∙ ap (λ ns. slice_get ns i) (sym is) ∙ place_at paths q i place

    go : (o : Option Asked) → slice_get asked i ≡ o → slice_get states i ≡ Some (left_on t q cs)
    go None e = absurd (let f : None ≡ Some q = ap (option_map path_of) (sym e) ∙ named in cc)
    go (Some a) e =
        let f : Some (path_of a) ≡ Some q = ap (option_map path_of) (sym e) ∙ named in
        let g : path_of a ≡ q = cc in
        ap (λ s. slice_get s i) made ∙ slice_get-map (left_on_path t cs) asked i ∙ ap (option_map (left_on_path t cs)) e ∙ ap (λ p. Some (left_on t p cs)) g

map_size : {A B : Type 0} (f : A → B) (xs : List A) → length (map f xs) ≡ length xs
map_size f [] = refl
map_size f (x ∷ xs) = omega (arith, map_size f xs)

pub seeds_size : {B : Type 0} (f : Asked → B) (asked : List Asked) (states : List B) → states ≡ map f asked → length states ≡ length asked
seeds_size f asked states e = ap length e ∙ map_size f asked

pub left_of : (t : Table) (lists : Lists) (id : ℕ) (asked : List Asked) (base : Option ℕ) (paths : List (List ℕ)) (old new : List (Option (List Span)))
    → asked ≡ asked_of lists id → base ≡ base_of t id → paths ≡ map path_of asked → old ≡ map every_number_on asked → length new ≡ length old
    → ((before : List Posed) → IsLeft t paths before old → IsLeft t paths (before ++ map (posed_by base) asked) new) → IsLeftOf t lists id (record { paths = paths; states = new })
left_of t lists id asked base paths old new e b is fresh size put = record {
  paths = is ∙ ap (map path_of) e;
  size = size ∙ seeds_size every_number_on asked old fresh ∙ ap length e;
  states = subst (λ cs. IsLeft t paths cs new) (ap (λ x. map (posed_by x) asked) b ∙ ap (map (posed_by (base_of t id))) e) (put [] (seeded t [] asked paths old is fresh));
}

pub lefts_next : (t : Table) (lists : Lists) (lefts new : List Left) (left : Left) (i : ℕ) → new ≡ lefts ++ left ∷ [] → IsLeftOf t lists i left → length lefts ≡ i → ((id : ℕ) (l : Left) → slice_get lefts id ≡ Some l → IsLeftOf t lists id l)
    → (length new ≡ i + 1) × ((id : ℕ) (l : Left) → slice_get new id ≡ Some l → IsLeftOf t lists id l)
lefts_next t lists lefts new left i is here size each = (ap length is ∙ longer lefts ∙ ap (λ n. n + 1) size, λ id l e. at lefts id l (ap (λ xs. slice_get xs id) (sym is) ∙ e) size each)
  where
    longer : (xs : List Left) → length (xs ++ left ∷ []) ≡ length xs + 1
    longer [] = refl
    longer (x ∷ xs) = omega (arith, longer xs)

    at : (xs : List Left) (id : ℕ) (l : Left) → slice_get (xs ++ left ∷ []) id ≡ Some l → length xs ≡ i → ((id : ℕ) (l : Left) → slice_get xs id ≡ Some l → IsLeftOf t lists id l) → IsLeftOf t lists id l
    at xs id l e n each = elim (cases xs id l e) [ inl h ↦ each id l h | inr h ↦ let f : left ≡ l = h.1 in let g : i ≡ id = sym n ∙ sym h.0 in subst (λ x. IsLeftOf t lists id x) f (subst (λ k. IsLeftOf t lists k left) g here) ]
      where
        cases : (xs : List Left) (id : ℕ) (l : Left) → slice_get (xs ++ left ∷ []) id ≡ Some l → (slice_get xs id ≡ Some l) ⊎ ((id ≡ length xs) × (left ≡ l))
        cases [] zero l e = inr (refl, cc)
        cases [] (suc id) l e = absurd cc
        cases (x ∷ xs) zero l e = inl e
        cases (x ∷ xs) (suc id) l e = elim (cases xs id l e) [ inl h ↦ inl h | inr h ↦ inr (ap suc h.0, h.1) ]

-- ---- along a chain

past_lists : (lists : Lists) (lefts : List Left) (id : ℕ) → length lefts ≡ length lists → slice_get lefts id ≡ None → asked_of lists id ≡ []
past_lists [] lefts id n e = refl
past_lists (l ∷ lists) [] id n e = absurd (omega arith)
past_lists (l ∷ lists) (x ∷ lefts) zero n e = absurd cc
past_lists (l ∷ lists) (x ∷ lefts) (suc id) n e = past_lists lists lefts id (omega arith) e

untouched : (t : Table) (q : List ℕ) (base : Option ℕ) (j : ℕ) (asked : List Asked) (a : Option (List Span)) → place_from j (map path_of asked) q ≡ None → left_after t q a (map (posed_by base) asked) ≡ a
untouched t q base j [] a e = refl
untouched t q base j (x ∷ asked) a e = go (same x.path q) refl (untouched t q base (j + 1) asked a)
  where
    go : (b : Bool) → same x.path q ≡ b → (place_from (j + 1) (map path_of asked) q ≡ None → left_after t q a (map (posed_by base) asked) ≡ a) → left_after t q a (map (posed_by base) (x ∷ asked)) ≡ a
    go true h more = absurd (let f : Some j ≡ None = rw h at e in cc)
    go false h more = ap (λ b. left_after t q (if b then left_by a (admitted t (posed_by base x)) else a) (map (posed_by base) asked)) h ∙ more (rw h at e)

pub with_none : (t : Table) (lists : Lists) (lefts : List Left) (id : ℕ) (q : List ℕ) (above : Option (List Span)) → AreAllLeft t lists lefts → None ≡ slice_get lefts id → (cs : List Posed) → above ≡ left_on t q cs → above ≡ left_on t q (cs ++ posed_of t lists id)
with_none t lists lefts id q above all e cs is = is ∙ ap (left_on t q) (sym (append-nil cs) ∙ ap (λ xs. cs ++ map (posed_by (base_of t id)) xs) (sym (past_lists lists lefts id all.size (sym e))))

pub with_other : (t : Table) (lists : Lists) (lefts : List Left) (id : ℕ) (q : List ℕ) (above : Option (List Span)) (left : Left) → AreAllLeft t lists lefts → Some left ≡ slice_get lefts id → None ≡ place_among left.paths q → (cs : List Posed) → above ≡ left_on t q cs → above ≡ left_on t q (cs ++ posed_of t lists id)
with_other t lists lefts id q above left all e none cs is =
    let own = all.each id left (sym e) in
    is ∙ sym (after_append t q (Some all_numbers) cs (posed_of t lists id) ∙ untouched t q (base_of t id) 0 (asked_of lists id) (left_on t q cs) (ap (λ ns. place_among ns q) (sym own.paths) ∙ sym none))
  where
    after_append : (t : Table) (q : List ℕ) (a : Option (List Span)) (cs ds : List Posed) → left_after t q a (cs ++ ds) ≡ left_after t q (left_after t q a cs) ds
    after_append t q a [] ds = refl
    after_append t q a (c ∷ cs) ds = after_append t q (left_behind t q a c) cs ds

pub state_is : (t : Table) (lists : Lists) (lefts : List Left) (id : ℕ) (q : List ℕ) (left : Left) (at : ℕ) → AreAllLeft t lists lefts → Some left ≡ slice_get lefts id → Some at ≡ place_among left.paths q → slice_get left.states at ≡ Some (left_on t q (posed_of t lists id))
state_is t lists lefts id q left at all e place = (all.each id left (sym e)).states q at (sym place)

pub no_state : (t : Table) (lists : Lists) (lefts : List Left) (id : ℕ) (q : List ℕ) (left : Left) (at : ℕ) → AreAllLeft t lists lefts → Some left ≡ slice_get lefts id → Some at ≡ place_among left.paths q → None ≡ slice_get left.states at → ⊥
no_state t lists lefts id q left at all e place none = let f : None ≡ Some (left_on t q (posed_of t lists id)) = none ∙ state_is t lists lefts id q left at all e place in cc

pub state_here : (t : Table) (lists : Lists) (lefts : List Left) (id : ℕ) (q : List ℕ) (left : Left) (at : ℕ) (own : Option (List Span)) → AreAllLeft t lists lefts → Some left ≡ slice_get lefts id → Some at ≡ place_among left.paths q → Some own ≡ slice_get left.states at → own ≡ left_on t q (posed_of t lists id)
state_here t lists lefts id q left at own all e place is = let f : Some own ≡ Some (left_on t q (posed_of t lists id)) = is ∙ state_is t lists lefts id q left at all e place in cc

pub with_own : {E : Type 0} (t : Table) (lists : Lists) (id : ℕ) (q : List ℕ) (above own : Option (List Span)) (r : Result (Option (List Span)) E) → AreRead t → AreRising t → own ≡ left_on t q (posed_of t lists id) → IfOk r (λ l. l ≡ left_by above own)
    → IfOk r (λ l. (cs : List Posed) → above ≡ left_on t q cs → l ≡ left_on t q (cs ++ posed_of t lists id))
with_own t lists id q above own (Ok l) read rise is e = λ cs h. e ∙ ap (λ a. left_by a own) h ∙ ap (left_by (left_on t q cs)) is ∙ sym (joined t (admitted_kept t read rise) q cs (posed_of t lists id))
with_own t lists id q above own (Err x) read rise is e = tt

level_is : (n : ℕ) → 0 < n → n ≡ suc (n - 1)
level_is n h = omega arith

pub along_zero : (t : Table) (lists : Lists) (q : List ℕ) (n id : ℕ) → n ≡ 0 → Some all_numbers ≡ left_on t q (flat_map (posed_of t lists) (chain_within n t id))
unfolding chain_within
along_zero t lists q n id e = rw e refl

chain_last : (t : Table) (lists : Lists) (n id : ℕ) (o : Option ℕ) → 0 < n → base_of t id ≡ o → flat_map (posed_of t lists) (chain_within n t id) ≡ flat_map (posed_of t lists) (chain_before (chain_within (n - 1) t) o) ++ posed_of t lists id
unfolding chain_within
chain_last t lists n id o h e =
    ap (λ m. flat_map (posed_of t lists) (chain_within m t id)) (level_is n h)
    ∙ ap (λ p. flat_map (posed_of t lists) (chain_before (chain_within (n - 1) t) p ++ id ∷ [])) e
    ∙ flat_map-append (posed_of t lists) (chain_before (chain_within (n - 1) t) o) (id ∷ [])
    ∙ ap (λ xs. flat_map (posed_of t lists) (chain_before (chain_within (n - 1) t) o) ++ xs) (append-nil (posed_of t lists id))

pub along : {E : Type 0} (t : Table) (lists : Lists) (q : List ℕ) (n id : ℕ) (o : Option ℕ) (above : Option (List Span)) (r : Result (Option (List Span)) E) → 0 < n → base_of t id ≡ o
    → above ≡ left_on t q (flat_map (posed_of t lists) (chain_before (chain_within (n - 1) t) o))
    → IfOk r (λ l. (cs : List Posed) → above ≡ left_on t q cs → l ≡ left_on t q (cs ++ posed_of t lists id))
    → IfOk r (λ l. l ≡ left_on t q (flat_map (posed_of t lists) (chain_within n t id)))
along t lists q n id o above (Ok l) h e is put = put (flat_map (posed_of t lists) (chain_before (chain_within (n - 1) t) o)) is ∙ ap (left_on t q) (sym (chain_last t lists n id o h e))
along t lists q n id o above (Err x) h e is put = tt

pub least_of : {E : Type 0} (t : Table) (lists : Lists) (id : ℕ) (asked : List Asked) (base : Option ℕ) (paths : List (List ℕ)) (states : List (Option (List Span))) (r : Result (Option Refusal) E)
    → asked ≡ asked_of lists id → base ≡ base_of t id → paths ≡ map path_of asked → states ≡ map (left_on_path t (posed_over t lists base)) asked
    → IfOk r (λ f. (before : List Posed) → IsLeft t paths before states → f ≡ least (empties_after t before (map (posed_by base) asked))) → IfOk r (λ f. f ≡ least (empties_of t lists id))
least_of t lists id asked base paths states (Ok f) e b is made judged =
    judged (posed_over t lists base) (seeded t (posed_over t lists base) asked paths states is made) ∙ ap (λ x. least (empties_after t (posed_over t lists x) (map (posed_by x) asked))) b ∙ ap (λ xs. least (empties_after t (posed_over t lists (base_of t id)) (map (posed_by (base_of t id)) xs))) e
least_of t lists id asked base paths states (Err x) e b is made judged = tt

pub rise_next : (rows : List TypeRow) (i : ℕ) (x : TypeRow) → i < length rows → x ≡ get_or rows i x → RiseIn x.kind → (AreRising (drop i rows) → AreRising rows) → AreRising (drop (i + 1) rows) → AreRising rows
rise_next rows i x lt at here all h = all (subst AreRising {x = x ∷ drop (i + 1) rows} (sym (drop-cons rows i x lt ∙ rw (add-one, ← at) refl)) (here, h))
