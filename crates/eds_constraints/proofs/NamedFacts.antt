-- The names of rows, and where the parts stand that have them.
use Rattle.std.proofs.Common.{◌≡◌, ℕ, zero, suc, ◌+◌, ◌-◌, ◌<◌, ◌≤◌, Bool, true, false, List, [], ◌∷◌, map, length, reverse, Option, Some, None, refl, sym, ap, subst, ◌∙◌, arith}
use Rattle.std.specs.Prelude.{◌&&◌, nat_le, option_map, slice_get}
use Rattle.std.specs.List.{list_all}
use Rattle.std.proofs.lemmas.Option.{slice_get-map}
use Rattle.eds_base.specs.declared.ids.TypeId.{TypeId}
use Rattle.eds_names.specs.Positions.{place_among}
use Rattle.eds_types.specs.declared.row.TypeRow.{TypeRow}
use Rattle.eds_types.specs.declared.row.Kind.{Kind}
use Rattle.eds_types.specs.declared.row.Kind.TheVariants as kind
use Rattle.eds_types.specs.Rows.{Table, id_of, address, or_else, base_of, container_by, entries_in, trailers_in, entries_of, trailers_of, placed_entries, placed_trailers, chain_before, chain_within, chain}
use Rattle.eds_constraints.specs.Paths.{called, place_called, first_called}
use Rattle.eds_constraints.specs.Named.{names_of_entries, names_of_trailers, has_few_parts, have_few_parts}
use Rattle.eds_constraints.specs.ConstrainedRows.{AreRead, IsReadKind}
use Rattle.eds_constraints.proofs.Called.{own_entries, own_trailers, position_below, entries_along, trailers_along, entries-none, entries-root, entries-up, trailers-none, trailers-up, both-sequences}

-- ---- few parts

and_parts : (a b : Bool) → (a && b) ≡ true → (a ≡ true) × (b ≡ true)
and_parts true b h = (refl, h)
and_parts false b h = cc

all_there : (p : TypeRow → Bool) (rows : List TypeRow) → list_all p rows ≡ true → (k : ℕ) (row : TypeRow) → slice_get rows k ≡ Some row → p row ≡ true
all_there p [] h k row e = absurd cc
all_there p (r ∷ rows) h zero row e = let is : r ≡ row = cc in subst (λ x. p x ≡ true) is (and_parts (p r) (list_all p rows) h).0
all_there p (r ∷ rows) h (suc k) row e = all_there p rows (and_parts (p r) (list_all p rows) h).1 k row e

few_by : (a b : ℕ) → nat_le a 32767 && nat_le b 32767 ≡ true → (a ≤ 32767) × (b ≤ 32767)
few_by a b h = let p = and_parts (nat_le a 32767) (nat_le b 32767) h in (below a p.0, below b p.1)
  where
    below : (n : ℕ) → nat_le n 32767 ≡ true → n ≤ 32767
    below n e = grind arith

pub few_own : (t : Table) → have_few_parts t ≡ true → (id : ℕ) → (length (entries_of t id) ≤ 32767) × (length (trailers_of t id) ≤ 32767)
few_own t h id = go (slice_get t id) refl
  where
    go : (o : Option TypeRow) → slice_get t id ≡ o → (length (entries_of t id) ≤ 32767) × (length (trailers_of t id) ≤ 32767)
    go None e = rw e (grind arith, grind arith)
    go (Some row) e = rw e (few_by (length (entries_in (container_by row.kind))) (length (trailers_in (container_by row.kind))) (all_there has_few_parts t h id row e))

few_row : (row : TypeRow) → IsReadKind row.kind → has_few_parts row ≡ true
few_row row k = go row.kind k
  where
    both : (a b : ℕ) → a ≤ 32767 → b ≤ 32767 → nat_le a 32767 && nat_le b 32767 ≡ true
    both a b h k = grind arith

    go : (k : Kind) → IsReadKind k → nat_le (length (entries_in (container_by k))) 32767 && nat_le (length (trailers_in (container_by k))) 32767 ≡ true
    go (kind.Int form spans) h = refl
    go (kind.Enum form listing) h = refl
    go (kind.Bool form) h = refl
    go (kind.Str form) h = refl
    go (kind.Bin n free) h = refl
    go (kind.Arr item n) h = refl
    go (kind.Con c) h = both (length c.entries) (length c.trailers) h.0 h.1

both_true : (a b : Bool) → a ≡ true → b ≡ true → (a && b) ≡ true
both_true a b h k = rw (h, k) refl

few_all : (rows : List TypeRow) → ((id : ℕ) (row : TypeRow) → slice_get rows id ≡ Some row → IsReadKind row.kind) → have_few_parts rows ≡ true
few_all [] h = refl
few_all (r ∷ rows) h = both_true (has_few_parts r) (have_few_parts rows) (few_row r (h 0 r refl)) (few_all rows (λ id row e. h (suc id) row e))

pub few_read : (t : Table) → AreRead t → have_few_parts t ≡ true
few_read t r = few_all t r.kinds

-- ---- names of a row

pub past_entries : (t : Table) (id : ℕ) (lists : List (List (List ℕ))) → lists ≡ map names_of_entries t → None ≡ slice_get lists id → entries_of t id ≡ []
past_entries t id lists is e = go (slice_get t id) refl
  where
    go : (o : Option TypeRow) → slice_get t id ≡ o → entries_of t id ≡ []
    go None h = rw h refl
    go (Some row) h = absurd (let f : None ≡ Some (names_of_entries row) = e ∙ ap (λ l. slice_get l id) is ∙ slice_get-map names_of_entries t id ∙ ap (option_map names_of_entries) h in cc)

pub past_trailers : (t : Table) (id : ℕ) (lists : List (List (List ℕ))) → lists ≡ map names_of_trailers t → None ≡ slice_get lists id → trailers_of t id ≡ []
past_trailers t id lists is e = go (slice_get t id) refl
  where
    go : (o : Option TypeRow) → slice_get t id ≡ o → trailers_of t id ≡ []
    go None h = rw h refl
    go (Some row) h = absurd (let f : None ≡ Some (names_of_trailers row) = e ∙ ap (λ l. slice_get l id) is ∙ slice_get-map names_of_trailers t id ∙ ap (option_map names_of_trailers) h in cc)

pub entry_names_are : (t : Table) (id : ℕ) (lists : List (List (List ℕ))) (names : List (List ℕ)) → lists ≡ map names_of_entries t → Some names ≡ slice_get lists id → names ≡ map called (entries_of t id)
entry_names_are t id lists names is e = go (slice_get t id) refl
  where
    go : (o : Option TypeRow) → slice_get t id ≡ o → names ≡ map called (entries_of t id)
    go None h = absurd (let f : Some names ≡ None = e ∙ ap (λ l. slice_get l id) is ∙ slice_get-map names_of_entries t id ∙ ap (option_map names_of_entries) h in cc)
    go (Some row) h = rw h (let f : Some names ≡ Some (names_of_entries row) = e ∙ ap (λ l. slice_get l id) is ∙ slice_get-map names_of_entries t id ∙ ap (option_map names_of_entries) h in cc)

pub trailer_names_are : (t : Table) (id : ℕ) (lists : List (List (List ℕ))) (names : List (List ℕ)) → lists ≡ map names_of_trailers t → Some names ≡ slice_get lists id → names ≡ map called (trailers_of t id)
trailer_names_are t id lists names is e = go (slice_get t id) refl
  where
    go : (o : Option TypeRow) → slice_get t id ≡ o → names ≡ map called (trailers_of t id)
    go None h = absurd (let f : Some names ≡ None = e ∙ ap (λ l. slice_get l id) is ∙ slice_get-map names_of_trailers t id ∙ ap (option_map names_of_trailers) h in cc)
    go (Some row) h = rw h (let f : Some names ≡ Some (names_of_trailers row) = e ∙ ap (λ l. slice_get l id) is ∙ slice_get-map names_of_trailers t id ∙ ap (option_map names_of_trailers) h in cc)

-- ---- own parts

pub no_entry : (t : Table) (name : List ℕ) (id : ℕ) → entries_of t id ≡ [] → None ≡ place_called t name (map address (placed_entries t id))
no_entry t name id e = sym (own_entries t name id ∙ ap (λ ps. option_map {U = TypeId × ℕ} (λ k. (id_of id, k)) (place_among (map called ps) name)) e)

pub no_trailer : (t : Table) (name : List ℕ) (id : ℕ) → trailers_of t id ≡ [] → None ≡ place_called t name (map address (placed_trailers t id))
no_trailer t name id e = sym (own_trailers t name id ∙ ap (λ ps. option_map {U = TypeId × ℕ} (λ k. (id_of id, length (entries_of t id) + k)) (place_among (map called ps) name)) e)

pub entry_by : (t : Table) (name : List ℕ) (id : ℕ) (names : List (List ℕ)) (o : Option ℕ) → names ≡ map called (entries_of t id) → o ≡ place_among names name → option_map {U = TypeId × ℕ} (λ k. (id_of id, k)) o ≡ place_called t name (map address (placed_entries t id))
entry_by t name id names o is e = ap (option_map {U = TypeId × ℕ} (λ k. (id_of id, k))) (e ∙ ap (λ ns. place_among ns name) is) ∙ sym (own_entries t name id)

pub trailer_by : (t : Table) (name : List ℕ) (id : ℕ) (names : List (List ℕ)) (o : Option ℕ) → names ≡ map called (trailers_of t id) → o ≡ place_among names name → option_map {U = TypeId × ℕ} (λ k. (id_of id, length (entries_of t id) + k)) o ≡ place_called t name (map address (placed_trailers t id))
trailer_by t name id names o is e = ap (option_map {U = TypeId × ℕ} (λ k. (id_of id, length (entries_of t id) + k))) (e ∙ ap (λ ns. place_among ns name) is) ∙ sym (own_trailers t name id)

map_length : {A B : Type 0} (f : A → B) (xs : List A) → length (map f xs) ≡ length xs
map_length f [] = refl
map_length f (x ∷ xs) = omega (arith, map_length f xs)

pub entry_fits : (t : Table) → have_few_parts t ≡ true → (name : List ℕ) (id : ℕ) (names : List (List ℕ)) (k : ℕ) → names ≡ map called (entries_of t id) → Some k ≡ place_among names name → k < 32767
entry_fits t few name id names k is e =
    let b = position_below t name 0 names k (sym e) in
    let m : length names ≡ length (entries_of t id) = ap length is ∙ map_length called (entries_of t id) in
    let f = (few_own t few id).0 in
    omega arith

pub trailer_fits : (t : Table) → have_few_parts t ≡ true → (name : List ℕ) (id : ℕ) (names : List (List ℕ)) (k : ℕ) → names ≡ map called (trailers_of t id) → Some k ≡ place_among names name → length (entries_of t id) + k < 65534
trailer_fits t few name id names k is e =
    let b = position_below t name 0 names k (sym e) in
    let m : length names ≡ length (trailers_of t id) = ap length is ∙ map_length called (trailers_of t id) in
    let f = few_own t few id in
    let f0 = f.0 in
    let f1 = f.1 in
    omega arith

-- ---- chains

number_is : (n : ℕ) → 0 < n → n ≡ suc (n - 1)
number_is n h = omega arith

pub entry_zero : (t : Table) (name : List ℕ) (n id : ℕ) → n ≡ 0 → None ≡ entries_along t name (chain_within n t id)
entry_zero t name n id e = rw e (sym (entries-none t name id))

pub entry_root : (t : Table) (name : List ℕ) (n id : ℕ) → 0 < n → base_of t id ≡ None → (r : Option (TypeId × ℕ)) → r ≡ place_called t name (map address (placed_entries t id)) → r ≡ entries_along t name (chain_within n t id)
entry_root t name n id h e r is = is ∙ sym (ap (λ m. entries_along t name (chain_within m t id)) (number_is n h) ∙ entries-root t name (n - 1) id e)

pub entry_above : (t : Table) (name : List ℕ) (n id base : ℕ) → 0 < n → base_of t id ≡ Some base → (p : TypeId × ℕ) → Some p ≡ entries_along t name (chain_within (n - 1) t base) → Some p ≡ entries_along t name (chain_within n t id)
entry_above t name n id base h e p is = ap (λ o. or_else o (place_called t name (map address (placed_entries t id)))) is ∙ sym (ap (λ m. entries_along t name (chain_within m t id)) (number_is n h) ∙ entries-up t name (n - 1) id base e)

pub entry_own : (t : Table) (name : List ℕ) (n id base : ℕ) → 0 < n → base_of t id ≡ Some base → None ≡ entries_along t name (chain_within (n - 1) t base) → (r : Option (TypeId × ℕ)) → r ≡ place_called t name (map address (placed_entries t id)) → r ≡ entries_along t name (chain_within n t id)
entry_own t name n id base h e none r is = is ∙ ap (λ o. or_else o (place_called t name (map address (placed_entries t id)))) none ∙ sym (ap (λ m. entries_along t name (chain_within m t id)) (number_is n h) ∙ entries-up t name (n - 1) id base e)

pub trailer_zero : (t : Table) (name : List ℕ) (n id : ℕ) → n ≡ 0 → None ≡ trailers_along t name (reverse (chain_within n t id))
trailer_zero t name n id e = rw e (sym (trailers-none t name id))

pub trailer_own : (t : Table) (name : List ℕ) (n id : ℕ) → 0 < n → (p : TypeId × ℕ) → Some p ≡ place_called t name (map address (placed_trailers t id)) → Some p ≡ trailers_along t name (reverse (chain_within n t id))
trailer_own t name n id h p is = ap (λ o. or_else o (trailers_along t name (reverse (chain_before (chain_within (n - 1) t) (base_of t id))))) is ∙ sym (ap (λ m. trailers_along t name (reverse (chain_within m t id))) (number_is n h) ∙ trailers-up t name (n - 1) id (base_of t id) refl)

pub trailer_root : (t : Table) (name : List ℕ) (n id : ℕ) → 0 < n → base_of t id ≡ None → None ≡ place_called t name (map address (placed_trailers t id)) → None ≡ trailers_along t name (reverse (chain_within n t id))
trailer_root t name n id h e none = ap (λ o. or_else o None) none ∙ sym (ap (λ m. trailers_along t name (reverse (chain_within m t id))) (number_is n h) ∙ trailers-up t name (n - 1) id None e)

pub trailer_above : (t : Table) (name : List ℕ) (n id base : ℕ) → 0 < n → base_of t id ≡ Some base → None ≡ place_called t name (map address (placed_trailers t id)) → (r : Option (TypeId × ℕ)) → r ≡ trailers_along t name (reverse (chain_within (n - 1) t base)) → r ≡ trailers_along t name (reverse (chain_within n t id))
trailer_above t name n id base h e none r is = is ∙ ap (λ o. or_else o (trailers_along t name (reverse (chain_within (n - 1) t base)))) none ∙ sym (ap (λ m. trailers_along t name (reverse (chain_within m t id))) (number_is n h) ∙ trailers-up t name (n - 1) id (Some base) e)

pub first_entry : (t : Table) (name : List ℕ) (id : ℕ) (p : TypeId × ℕ) → Some p ≡ entries_along t name (chain t id) → Some p ≡ first_called t id name
first_entry t name id p e = ap (λ o. or_else o (trailers_along t name (reverse (chain t id)))) e ∙ sym (both-sequences t name id)

pub first_trailer : (t : Table) (name : List ℕ) (id : ℕ) (r : Option (TypeId × ℕ)) → None ≡ entries_along t name (chain t id) → r ≡ trailers_along t name (reverse (chain t id)) → r ≡ first_called t id name
first_trailer t name id r none e = e ∙ ap (λ o. or_else o (trailers_along t name (reverse (chain t id)))) none ∙ sym (both-sequences t name id)
