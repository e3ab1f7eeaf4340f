-- Least sizes, computed for all types at once.
use Rattle.std.proofs.Common.{◌≡◌, ℕ, zero, suc, ◌+◌, ◌<◌, ◌≤◌, min, Bool, true, false, cond, List, [], ◌∷◌, ◌++◌, map, filter, length, take, reverse, sum_by, replicate, slice_get, slice_index, get_or, Some, refl, sym, ap, ap₂, ◌∙◌, arith, inl, inr}
use Rattle.std.specs.List.{flat_map, range_with_len}
use mathlib.Core.Path.{fun_ext}
use Rattle.std.proofs.lemmas.List.{map-append, reverse-append, get_or_past}
use Rattle.std.proofs.lemmas.List.Elements.{filter-append}
use Rattle.std.proofs.lemmas.List.Sums.{sum_by-append, sum_by-cons}
use Rattle.std.proofs.lemmas.List.FromFn.{map-range_with_len_more, get_or-map-range_with_len, length-map-range_with_len}
use Rattle.std.proofs.lemmas.Option.{slice_get_past}
use Rattle.std.proofs.lemmas.Bool.{cases_lt}
use Rattle.eds_base.specs.declared.ids.TypeId.{TypeId}
use Rattle.eds_base.specs.declared.spans.Span.{Span}
use Rattle.eds_types.specs.declared.row.TypeRow.{TypeRow}
use Rattle.eds_types.specs.declared.row.Part.{Part}
use Rattle.eds_types.specs.Rows.{Table, id_of, numbers, chain, list_has, derived, is_concrete, entries_of, trailers_of, Placed, placed_from, placed_entries, placed_trailers}
use Rattle.eds_types.specs.LeastSize.{no_size, capped, least_of, least_number, size_in, size_by, least_part, least_own, least_sequence, least_family, least_row, least_within, least_size, chain_size, family_size, lowered, next_sizes}

-- ---- lists over the first numbers

range_more : (a n : ℕ) → range_with_len a (suc n) ≡ range_with_len a n ++ (a + n) ∷ []
range_more a zero = ap (λ x. x ∷ []) (omega arith)
range_more a (suc n) = ap (λ xs. a ∷ xs) (range_more (a + 1) n ∙ ap (λ x. range_with_len (a + 1) n ++ x ∷ []) (omega arith))

-- a list that goes on with the next number
pub range_put : (f : ℕ → ℕ) (n x : ℕ) (xs ys : List ℕ) → xs ≡ map f (range_with_len 0 n) → ys ≡ xs ++ x ∷ [] → x ≡ f n → ys ≡ map f (range_with_len 0 (n + 1))
range_put f n x xs ys e k h = k ∙ ap₂ (λ a b. a ++ b ∷ []) e h ∙ sym (map-range_with_len_more f 0 n n (omega arith))

-- ---- least and capped sizes

least_of-le : (ns : List ℕ) → least_of ns ≤ no_size
least_of-le [] = omega arith
least_of-le (n ∷ ns) = omega (arith, least_of-le ns)

pub least_number-le : (spans : List Span) → least_number spans ≤ no_size
least_number-le [] = omega arith
least_number-le (s ∷ spans) = omega (arith, least_number-le spans)

least_of-append : (ms : List ℕ) (n : ℕ) → n ≤ no_size → least_of (ms ++ n ∷ []) ≡ min (least_of ms) n
least_of-append [] n h = omega arith
least_of-append (m ∷ ms) n h = omega (arith, least_of-append ms n h)

least_of-capped : {A : Type 0} (f : A → ℕ) (xs : List A) → least_of (map (λ x. capped (f x)) xs) ≡ least_of (map f xs)
least_of-capped f [] = refl
least_of-capped f (x ∷ xs) = omega (arith, least_of-capped f xs, least_of-le (map f xs))

capped_sum : {A : Type 0} (f g : A → ℕ) → ((x : A) → f x ≡ capped (g x)) → (xs : List A) → capped (sum_by f xs) ≡ capped (sum_by g xs)
capped_sum f g e [] = refl
capped_sum f g e (x ∷ xs) = omega (arith, e x, capped_sum f g e xs, sum_by-cons f x xs, sum_by-cons g x xs)

-- ---- families

pub numbers_back : (xs : List ℕ) → map (λ (y : TypeId). y.0) (map id_of xs) ≡ xs
numbers_back [] = refl
numbers_back (x ∷ xs) = ap (λ ys. x ∷ ys) (numbers_back xs)

-- the concrete containers at or under a type, of the first n types
abbrev pub picked : Table → ℕ → ℕ → List ℕ
picked t id n = filter (is_concrete t) (filter (λ k. list_has (chain t k) id) (range_with_len 0 n))

pub one_picked : (t : Table) (id n : ℕ) (c h : Bool) → is_concrete t n ≡ c → list_has (chain t n) id ≡ h → filter (is_concrete t) (filter (λ k. list_has (chain t k) id) (n ∷ [])) ≡ cond h (cond c (n ∷ []) []) []
one_picked t id n c true e k = ap (λ b. filter (is_concrete t) (cond b (n ∷ []) [])) k ∙ ap (λ b. cond b (n ∷ []) []) e
one_picked t id n c false e k = ap (λ b. filter (is_concrete t) (cond b (n ∷ []) [])) k

pub more_picked : (t : Table) (id n m : ℕ) → m ≡ n + 1 → picked t id m ≡ picked t id n ++ filter (is_concrete t) (filter (λ k. list_has (chain t k) id) (n ∷ []))
more_picked t id n m up =
    let up' : m ≡ suc n = omega arith in
    let last : 0 + n ≡ n = omega arith in
    let e : range_with_len 0 m ≡ range_with_len 0 n ++ n ∷ [] = ap (range_with_len 0) up' ∙ range_more 0 n ∙ ap (λ x. range_with_len 0 n ++ x ∷ []) last in
    ap (λ xs. filter (is_concrete t) (filter (λ k. list_has (chain t k) id) xs)) e
    ∙ ap (filter (is_concrete t)) (filter-append (λ k. list_has (chain t k) id) (range_with_len 0 n) (n ∷ []))
    ∙ filter-append (is_concrete t) (filter (λ k. list_has (chain t k) id) (range_with_len 0 n)) (filter (λ k. list_has (chain t k) id) (n ∷ []))

abbrev size : Table → List ℕ → ℕ → ℕ
size t own k = chain_size own (chain t k)

pub append_none : (xs : List ℕ) → xs ++ [] ≡ xs
append_none [] = refl
append_none (x ∷ xs) = ap (λ ys. x ∷ ys) (append_none xs)

pub family_skips : (t : Table) (own : List ℕ) (n m id : ℕ) → m ≡ n + 1 → is_concrete t n ≡ false → family_size t own m id ≡ family_size t own n id
family_skips t own n m id up e = go (list_has (chain t n) id) refl
  where
    go : (h : Bool) → list_has (chain t n) id ≡ h → family_size t own m id ≡ family_size t own n id
    go true k = ap (λ xs. least_of (map (λ k. chain_size own (chain t k)) xs)) (more_picked t id n m up ∙ ap (λ xs. picked t id n ++ xs) (one_picked t id n false true e k) ∙ append_none (picked t id n))
    go false k = ap (λ xs. least_of (map (λ k. chain_size own (chain t k)) xs)) (more_picked t id n m up ∙ ap (λ xs. picked t id n ++ xs) (one_picked t id n false false e k) ∙ append_none (picked t id n))

pub family_takes : (t : Table) (own : List ℕ) (n m id x old : ℕ) (ids : List TypeId) → m ≡ n + 1 → is_concrete t n ≡ true → ids ≡ map id_of (chain t n) → x ≡ chain_size own (chain t n) → old ≡ family_size t own n id → lowered x ids id old ≡ family_size t own m id
family_takes t own n m id x old ids up e w s o = go (list_has (chain t n) id) refl
  where
    start : lowered x ids id old ≡ cond (list_has (chain t n) id) (min (family_size t own n id) (size t own n)) (family_size t own n id)
    start = ap (λ ys. cond (list_has (map (λ (y : TypeId). y.0) ys) id) (min old x) old) w ∙ ap (λ ys. cond (list_has ys id) (min old x) old) (numbers_back (chain t n)) ∙ ap₂ (λ a b. cond (list_has (chain t n) id) (min a b) a) o s

    small : size t own n ≤ no_size
    small = omega arith

    go : (h : Bool) → list_has (chain t n) id ≡ h → lowered x ids id old ≡ family_size t own m id
    go true k =
        start ∙ ap (λ b. cond b (min (family_size t own n id) (size t own n)) (family_size t own n id)) k
        ∙ sym (ap (λ xs. least_of (map (size t own) xs)) (more_picked t id n m up ∙ ap (λ xs. picked t id n ++ xs) (one_picked t id n true true e k)) ∙ ap least_of (map-append (size t own) (picked t id n) (n ∷ [])) ∙ least_of-append (map (size t own) (picked t id n)) (size t own n) small)
    go false k =
        start ∙ ap (λ b. cond b (min (family_size t own n id) (size t own n)) (family_size t own n id)) k
        ∙ sym (ap (λ xs. least_of (map (size t own) xs)) (more_picked t id n m up ∙ ap (λ xs. picked t id n ++ xs) (one_picked t id n true false e k) ∙ append_none (picked t id n)))

-- the sizes of families, of the first n types
abbrev pub FamiliesSoFar : Table → List ℕ → ℕ → List ℕ → Type 0
FamiliesSoFar t own n sizes = (length sizes ≡ length t) × ((id : ℕ) → id < length t → slice_index sizes id ≡ family_size t own n id)

pub families_skip : (t : Table) (own : List ℕ) (n m : ℕ) (sizes : List ℕ) → m ≡ n + 1 → is_concrete t n ≡ false → FamiliesSoFar t own n sizes → FamiliesSoFar t own m sizes
families_skip t own n m sizes up e h = (h.0, λ id lt. h.1 id lt ∙ sym (family_skips t own n m id up e))

numbers_sum : (own : List ℕ) (xs : List ℕ) → sum_by (λ (y : TypeId). slice_index own y.0) (map id_of xs) ≡ sum_by (λ y. slice_index own y) xs
numbers_sum own [] = refl
numbers_sum own (x ∷ xs) = sum_by-cons (λ (y : TypeId). slice_index own y.0) (id_of x) (map id_of xs) ∙ ap (λ n. slice_index own x + n) (numbers_sum own xs) ∙ sym (sum_by-cons (λ y. slice_index own y) x xs)

pub families_take : (t : Table) (own : List ℕ) (n m x : ℕ) (sizes old new : List ℕ) (ids again : List TypeId) → m ≡ n + 1 → is_concrete t n ≡ true → ids ≡ map id_of (chain t n) → again ≡ map id_of (chain t n) → x ≡ capped (sum_by (λ (y : TypeId). slice_index own y.0) again)
    → old ≡ sizes → length new ≡ length old → ((id : ℕ) → id < length old → slice_index new id ≡ lowered x ids id (slice_index old id)) → FamiliesSoFar t own n sizes → FamiliesSoFar t own m new
families_take t own n m x sizes old new ids again up e w v s o l k h =
    let len : length old ≡ length t = ap length o ∙ h.0 in
    let size : x ≡ chain_size own (chain t n) = s ∙ ap capped (ap (sum_by (λ (y : TypeId). slice_index own y.0)) v ∙ numbers_sum own (chain t n)) in
    (l ∙ len, λ id lt. k id (omega arith) ∙ family_takes t own n m id x (slice_index old id) ids up e w size (ap (λ xs. slice_index xs id) o ∙ h.1 id lt))

-- what a vector holds, of which all items were written
pub take_all_written : {A : Type 0} (n : ℕ) (new old : List A) → length new ≡ n → take n (new ++ old) ≡ new
take_all_written {A} n new old e = ap (λ m. take m (new ++ old)) (sym e) ∙ go new
  where
    go : (xs : List A) → take (length xs) (xs ++ old) ≡ xs
    go [] = refl
    go (x ∷ xs) = ap (λ ys. x ∷ ys) (go xs)

-- ---- the parts of a chain

module _ (t : Table) (least : ℕ → ℕ) where
  placed_sum : (y i : ℕ) (ps : List Part) → sum_by (λ (p : Placed). least_part t least p.part) (placed_from y i ps) ≡ sum_by (least_part t least) ps
  placed_sum y i [] = refl
  placed_sum y i (p ∷ ps) =
      sum_by-cons (λ (p : Placed). least_part t least p.part) (record { container = y; place = i; part = p }) (placed_from y (i + 1) ps)
      ∙ ap (λ n. least_part t least p + n) (placed_sum y (i + 1) ps) ∙ sym (sum_by-cons (least_part t least) p ps)

  flat_sum : (h : ℕ → List Placed) (o : ℕ → ℕ) → ((y : ℕ) → sum_by (λ (p : Placed). least_part t least p.part) (h y) ≡ o y) → (xs : List ℕ) → sum_by (λ (p : Placed). least_part t least p.part) (flat_map h xs) ≡ sum_by o xs
  flat_sum h o e [] = refl
  flat_sum h o e (x ∷ xs) = sum_by-append (λ (p : Placed). least_part t least p.part) (h x) (flat_map h xs) ∙ ap₂ (λ a b. a + b) (e x) (flat_sum h o e xs) ∙ sym (sum_by-cons o x xs)

  reverse_sum : (o : ℕ → ℕ) (xs : List ℕ) → sum_by o (reverse xs) ≡ sum_by o xs
  reverse_sum o [] = refl
  reverse_sum o (x ∷ xs) = ap (sum_by o) (reverse-append (x ∷ []) xs) ∙ sum_by-append o (reverse xs) (x ∷ []) ∙ omega (arith, reverse_sum o xs, sum_by-cons o x xs, sum_by-cons o x [])

  both_sum : (f g : ℕ → ℕ) (xs : List ℕ) → sum_by f xs + sum_by g xs ≡ sum_by (λ y. f y + g y) xs
  both_sum f g [] = refl
  both_sum f g (x ∷ xs) = omega (arith, both_sum f g xs, sum_by-cons f x xs, sum_by-cons g x xs, sum_by-cons (λ y. f y + g y) x xs)

  pub sequence_sum : (k : ℕ) → least_sequence t least k ≡ sum_by (least_own t least) (chain t k)
  sequence_sum k =
      sum_by-append (λ (p : Placed). least_part t least p.part) (flat_map (placed_entries t) (chain t k)) (flat_map (placed_trailers t) (reverse (chain t k)))
      ∙ ap₂ (λ a b. a + b)
      (flat_sum (placed_entries t) (λ y. sum_by (least_part t least) (entries_of t y)) (λ y. placed_sum y 0 (entries_of t y)) (chain t k))
      (flat_sum (placed_trailers t) (λ y. sum_by (least_part t least) (trailers_of t y)) (λ y. placed_sum y (length (entries_of t y)) (trailers_of t y)) (reverse (chain t k)) ∙ reverse_sum (λ y. sum_by (least_part t least) (trailers_of t y)) (chain t k))
      ∙ both_sum (λ y. sum_by (least_part t least) (entries_of t y)) (λ y. sum_by (least_part t least) (trailers_of t y)) (chain t k)

-- ---- lists of all types

-- a list over the first numbers is its function, where that is the default past the end
at_numbers : (f : ℕ → ℕ) (n d i : ℕ) → (n ≤ i → f i ≡ d) → get_or (map f (range_with_len 0 n)) i d ≡ f i
at_numbers f n d i past = elim (cases_lt i n) [
  | inl lt ↦ get_or-map-range_with_len f 0 n i i d lt (omega arith)
  | inr ge ↦ get_or_past (map f (range_with_len 0 n)) i d (omega (arith, length-map-range_with_len f 0 n)) ∙ sym (past ge)
]

own_past : (t : Table) (least : ℕ → ℕ) (i : ℕ) → length t ≤ i → capped (least_own t least i) ≡ 0
own_past t least i ge = rw (slice_get_past t i ge) refl

family_is : (t : Table) (sizes own : List ℕ) (id : ℕ) → own ≡ map (λ y. capped (least_own t (size_in sizes) y)) (numbers t) → family_size t own (length t) id ≡ least_family t (size_in sizes) id
family_is t sizes own id e =
    ap (λ f. least_of (map f (filter (is_concrete t) (derived t id)))) (fun_ext chain_is) ∙ least_of-capped (least_sequence t (size_in sizes)) (filter (is_concrete t) (derived t id))
  where
    own_is : (y : ℕ) → slice_index own y ≡ capped (least_own t (size_in sizes) y)
    own_is y = ap (λ xs. slice_index xs y) e ∙ at_numbers (λ y. capped (least_own t (size_in sizes) y)) (length t) 0 y (own_past t (size_in sizes) y)

    chain_is : (k : ℕ) → chain_size own (chain t k) ≡ capped (least_sequence t (size_in sizes) k)
    chain_is k = capped_sum (λ y. slice_index own y) (least_own t (size_in sizes)) own_is (chain t k) ∙ ap capped (sym (sequence_sum t (size_in sizes) k))

pub row_size : (t : Table) (sizes own : List ℕ) (id x family : ℕ) (row : TypeRow) → own ≡ map (λ y. capped (least_own t (size_in sizes) y)) (numbers t) → family ≡ family_size t own (length t) id → slice_get t id ≡ Some row → x ≡ capped (size_by (size_in sizes) row.kind family) → x ≡ least_row t (size_in sizes) id (slice_get t id)
row_size t sizes own id x family row e f r k =
    k ∙ ap (λ n. capped (size_by (size_in sizes) row.kind n)) (f ∙ family_is t sizes own id e) ∙ ap (least_row t (size_in sizes) id) (sym r)

-- ---- one level after the other

within_past : (c : ℕ) (t : Table) (id : ℕ) → length t ≤ id → least_within c t id ≡ no_size
unfolding least_within
within_past zero t id ge = refl
within_past (suc c) t id ge = ap (least_row t (least_within c t) id) (slice_get_past t id ge)

pub sizes_go_on : (t : Table) (c d : ℕ) (sizes next : List ℕ) → d ≡ c + 1 → sizes ≡ map (least_within c t) (numbers t) → next ≡ next_sizes t sizes → next ≡ map (least_within d t) (numbers t)
unfolding least_within
sizes_go_on t c d sizes next up e k =
    let n : d ≡ suc c = omega arith in
    k ∙ ap (λ f. map (λ id. least_row t f id (slice_get t id)) (numbers t)) (fun_ext same) ∙ ap (λ m. map (least_within m t) (numbers t)) (sym n)
  where
    same : (id : ℕ) → size_in sizes id ≡ least_within c t id
    same id = ap (λ xs. size_in xs id) e ∙ at_numbers (least_within c t) (length t) no_size id (within_past c t id)

none_yet : (t : Table) (a n : ℕ) → replicate n no_size ≡ map (least_within 0 t) (range_with_len a n)
unfolding least_within
none_yet t a zero = refl
none_yet t a (suc n) = ap (λ xs. no_size ∷ xs) (none_yet t (a + 1) n)

pub sizes_begin : (t : Table) → replicate (length t) no_size ≡ map (least_within 0 t) (numbers t)
sizes_begin t = none_yet t 0 (length t)

-- the size of a list of all types' least sizes
pub size_at : (t : Table) (sizes : List ℕ) (id : ℕ) → sizes ≡ map (least_size t) (numbers t) → size_in sizes id ≡ least_size t id
size_at t sizes id e = ap (λ xs. size_in xs id) e ∙ at_numbers (least_size t) (length t) no_size id (within_past 32 t id)
