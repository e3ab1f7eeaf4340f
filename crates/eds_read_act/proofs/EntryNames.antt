-- The first part of a name along a chain, as an index finds it.
use Rattle.std.proofs.Common.{◌≡◌, ℕ, zero, suc, ◌+◌, ◌-◌, ◌<◌, ◌≤◌, Bool, true, false, List, [], ◌∷◌, ◌++◌, map, length, reverse, Option, Some, None, refl, sym, ap, ◌∙◌, arith, append_assoc, append-nil, take, drop, get_or, drop-cons}
use Rattle.std.specs.Prelude.{if◌then◌else◌, option_map, slice_get}
use Rattle.std.specs.List.{flat_map, range_with_len}
use Rattle.std.proofs.lemmas.List.{reverse-append, take-append-drop, length-take-le}
use Rattle.std.proofs.Math.Seq.{take-length}
use Rattle.std.proofs.Math.ListN.{drop_of_length-le}
use Rattle.std.proofs.lemmas.Option.{slice_get-map}
use Rattle.eds_base.specs.Reading.{◌>>=◌, same}
use Rattle.eds_base.specs.declared.ids.TypeId.{TypeId}
use Rattle.eds_names.specs.Positions.{place_among}
use Rattle.eds_types.specs.declared.row.Part.{Part}
use Rattle.eds_types.specs.declared.row.Part.TheVariants as part
use Rattle.eds_types.specs.declared.row.TypeRow.{TypeRow}
use Rattle.eds_types.specs.Rows.{Table, id_of, address, container_in, entries_in, trailers_in, entries_of, trailers_of, placed_from, placed_entries, placed_trailers, entry_places, trailer_places, chain, sequence, numbers, or_else}
use Rattle.eds_types.specs.Fields.{part_at}
use Rattle.eds_types.proofs.Places.{sequence_is}
use Rattle.eds_read_act.specs.declared.entry_names.OwnNames.{OwnNames}
use Rattle.eds_read_act.specs.Naming.{has_name, entry_at, entry_among, entry_named}
use Rattle.eds_read_act.specs.FirstPlaces.{first_place, first_named}
use Rattle.eds_read_act.specs.EntryNames.{name_of, with_name, named_from, index_from, place_in, index_of, index_of_all}
use Rattle.eds_read_act.proofs.Numbering.{place-shift, one-further}

-- ---- the ends of lists

-- the first, and those behind it
cut-first : {A : Type 0} (xs : List A) (d : A) → 1 ≤ length xs → get_or xs 0 d ∷ take (length xs - 1) (drop 1 xs) ≡ xs
cut-first [] d h = absurd (omega arith)
cut-first (x ∷ xs) d h = let n : length (x ∷ xs) - 1 ≡ length xs = omega arith in rw n (ap (λ ys. x ∷ ys) (take-length xs))

-- those before the last, and the last
cut-last : {A : Type 0} (xs : List A) (d : A) → 1 ≤ length xs → take (length xs - 1) xs ++ get_or xs (length xs - 1) d ∷ [] ≡ xs
cut-last xs d h =
    let opened : drop (length xs - 1) xs ≡ get_or xs (length xs - 1) d ∷ [] =
    drop-cons xs (length xs - 1) d (omega arith) ∙ ap (λ ys. get_or xs (length xs - 1) d ∷ ys) (drop_of_length-le xs {i = suc (length xs - 1)} (omega arith)) in
    sym (ap (λ ys. take (length xs - 1) xs ++ ys) opened) ∙ take-append-drop (length xs - 1) xs

pub one-fewer : {A : Type 0} (xs : List A) → length xs ≤ 16 → length (take (length xs - 1) xs) ≤ 16
one-fewer xs h = let n = length-take-le (length xs - 1) xs (omega arith) in omega arith

-- ---- names in an index

-- the place of the first of some names with places
abbrev place_by : List (List ℕ × ℕ) → List ℕ → Option ℕ
place_by [] q = None
place_by (n ∷ ns) q = if same n.0 q then Some n.1 else place_by ns q

place-found : (ns : List (List ℕ × ℕ)) (q : List ℕ) → (place_among (map (λ (n : List ℕ × ℕ). n.0) ns) q >>= slice_get (map (λ (n : List ℕ × ℕ). n.1) ns)) ≡ place_by ns q
place-found [] q = refl
place-found (n ∷ ns) q = go (same n.0 q) refl (place-found ns q)
  where
    go : (b : Bool) → same n.0 q ≡ b → (place_among (map (λ (m : List ℕ × ℕ). m.0) ns) q >>= slice_get (map (λ (m : List ℕ × ℕ). m.1) ns)) ≡ place_by ns q
        → (place_among (map (λ (m : List ℕ × ℕ). m.0) (n ∷ ns)) q >>= slice_get (map (λ (m : List ℕ × ℕ). m.1) (n ∷ ns))) ≡ place_by (n ∷ ns) q
    go true e others = rw e refl
    go false e others =
        rw e
        (ap (λ o. o >>= λ k. slice_get (n.1 ∷ map (λ (m : List ℕ × ℕ). m.1) ns) k) (place-shift 0 (map (λ (m : List ℕ × ℕ). m.0) ns) q)
        ∙ one-further n.1 (map (λ (m : List ℕ × ℕ). m.1) ns) (place_among (map (λ (m : List ℕ × ℕ). m.0) ns) q) ∙ others)

-- whether one that may have a name has this one
abbrev named_so : Option (List ℕ) → List ℕ → Bool
named_so None q = false
named_so (Some own) q = same own q

has-name : (q : List ℕ) (p : Part) → has_name q (Some p) ≡ named_so (name_of p) q
has-name q (part.Plain own id) = refl
has-name q (part.Fixed None id v) = refl
has-name q (part.Fixed (Some own) id v) = refl
has-name q (part.Pad n) = refl
has-name q (part.List own id y i) = refl
has-name q (part.Length own id c0 c1) = refl
has-name q (part.Check own id k) = refl

-- a part more, at the front
place-before : (own : Option (List ℕ)) (i : ℕ) (ns : List (List ℕ × ℕ)) (q : List ℕ) → place_by (with_name own i ns) q ≡ (if named_so own q then Some i else place_by ns q)
place-before None i ns q = refl
place-before (Some own) i ns q = refl

module _ (t : Table) (q : List ℕ) where
  pub first-both : (xs ys : List (TypeId × ℕ)) → first_place t q (xs ++ ys) ≡ or_else (first_place t q xs) (first_place t q ys)
  first-both [] ys = refl
  first-both (x ∷ xs) ys = go (has_name q (part_at t x)) refl (first-both xs ys)
    where
      go : (b : Bool) → has_name q (part_at t x) ≡ b → first_place t q (xs ++ ys) ≡ or_else (first_place t q xs) (first_place t q ys) → first_place t q (x ∷ xs ++ ys) ≡ or_else (first_place t q (x ∷ xs)) (first_place t q ys)
      go true e more = rw e refl
      go false e more = rw e more

  -- ---- own parts

  at-length : (before : List Part) (p : Part) (rest : List Part) → slice_get (before ++ p ∷ rest) (length before) ≡ Some p
  at-length [] p rest = refl
  at-length (x ∷ before) p rest = at-length before p rest

  longer : (before : List Part) (p : Part) → length before + 1 ≡ length (before ++ p ∷ [])
  longer [] p = refl
  longer (x ∷ before) p = omega (arith, longer before p)

  -- one part more
  put : (y i : ℕ) (p : Part) (ps : List Part) → part_at t (id_of y, i) ≡ Some p
      → first_place t q (map address (placed_from y (i + 1) ps)) ≡ option_map {U = TypeId × ℕ} (λ k. (id_of y, k)) (place_by (named_from (i + 1) ps) q)
      → first_place t q (map address (placed_from y i (p ∷ ps))) ≡ option_map {U = TypeId × ℕ} (λ k. (id_of y, k)) (place_by (named_from i (p ∷ ps)) q)
  put y i p ps here more = ap (λ o. if has_name q o then Some (id_of y, i) else first_place t q (map address (placed_from y (i + 1) ps))) here
      ∙ ap (λ b. if b then Some (id_of y, i) else first_place t q (map address (placed_from y (i + 1) ps))) (has-name q p)
      ∙ go (named_so (name_of p) q)
      ∙ sym (ap (option_map {U = TypeId × ℕ} (λ k. (id_of y, k))) (place-before (name_of p) i (named_from (i + 1) ps) q))
    where
      go : (b : Bool) → (if b then Some (id_of y, i) else first_place t q (map address (placed_from y (i + 1) ps))) ≡ option_map {U = TypeId × ℕ} (λ k. (id_of y, k)) (if b then Some i else place_by (named_from (i + 1) ps) q)
      go true = refl
      go false = more

  -- parts that stand among those of a container, behind some and before others
  placed : (y : ℕ) (before ps after : List Part) → entries_of t y ++ trailers_of t y ≡ before ++ (ps ++ after)
      → first_place t q (map address (placed_from y (length before) ps)) ≡ option_map {U = TypeId × ℕ} (λ k. (id_of y, k)) (place_by (named_from (length before) ps) q)
  placed y before [] after e = refl
  placed y before (p ∷ ps) after e =
      put y (length before) p ps (ap (λ xs. slice_get xs (length before)) e ∙ at-length before p (ps ++ after))
      (rw (longer before p) (placed y (before ++ p ∷ []) ps after (e ∙ sym (append_assoc before (p ∷ []) (ps ++ after)))))

  -- the place that an index of these parts gives
  by-index : (i y : ℕ) (ps : List Part) → option_map {U = TypeId × ℕ} (λ k. (id_of y, k)) (place_in (index_from i ps) q) ≡ option_map {U = TypeId × ℕ} (λ k. (id_of y, k)) (place_by (named_from i ps) q)
  by-index i y ps = ap (option_map {U = TypeId × ℕ} (λ k. (id_of y, k))) (place-found (named_from i ps) q)

  pub own-entries : (y : ℕ) → option_map {U = TypeId × ℕ} (λ k. (id_of y, k)) (place_in ((index_of t y).entries) q) ≡ first_place t q (map address (placed_entries t y))
  own-entries y = by-index 0 y (entries_of t y) ∙ sym (placed y [] (entries_of t y) (trailers_of t y) refl)

  pub own-trailers : (y : ℕ) → option_map {U = TypeId × ℕ} (λ k. (id_of y, k)) (place_in ((index_of t y).trailers) q) ≡ first_place t q (map address (placed_trailers t y))
  own-trailers y = by-index (length (entries_of t y)) y (trailers_of t y) ∙ sym (placed y (entries_of t y) (trailers_of t y) [] (ap (λ ps. entries_of t y ++ ps) (sym (append-nil (trailers_of t y)))))

  -- ---- a chain

  first-next : (f : TypeId → List (TypeId × ℕ)) (id : TypeId) (ids : List TypeId) → first_place t q (flat_map f (id ∷ ids)) ≡ or_else (first_place t q (f id)) (first_place t q (flat_map f ids))
  first-next f id ids = first-both (f id) (flat_map f ids)

  first-last : (f : TypeId → List (TypeId × ℕ)) (ids : List TypeId) (id : TypeId) → first_place t q (flat_map f (reverse (ids ++ id ∷ []))) ≡ or_else (first_place t q (f id)) (first_place t q (flat_map f (reverse ids)))
  first-last f ids id = ap (λ xs. first_place t q (flat_map f xs)) (reverse-append ids (id ∷ [])) ∙ first-next f id (reverse ids)

  -- it is at the first of some containers, or else at one behind it
  pub at-first : (f : TypeId → List (TypeId × ℕ)) (ids : List TypeId) (d : TypeId) (whole : Option (TypeId × ℕ)) (p : TypeId × ℕ) → 1 ≤ length ids → first_place t q (flat_map f ids) ≡ whole → Some p ≡ first_place t q (f (get_or ids 0 d)) → Some p ≡ whole
  at-first f ids d whole p h e is =
      ap (λ o. or_else o (first_place t q (flat_map f (take (length ids - 1) (drop 1 ids))))) is ∙ sym (first-next f (get_or ids 0 d) (take (length ids - 1) (drop 1 ids)))
      ∙ ap (λ xs. first_place t q (flat_map f xs)) (cut-first ids d h) ∙ e

  pub behind-first : (f : TypeId → List (TypeId × ℕ)) (ids : List TypeId) (d : TypeId) (whole : Option (TypeId × ℕ)) → 1 ≤ length ids → first_place t q (flat_map f ids) ≡ whole → None ≡ first_place t q (f (get_or ids 0 d)) → first_place t q (flat_map f (take (length ids - 1) (drop 1 ids))) ≡ whole
  behind-first f ids d whole h e none =
      ap (λ o. or_else o (first_place t q (flat_map f (take (length ids - 1) (drop 1 ids))))) none ∙ sym (first-next f (get_or ids 0 d) (take (length ids - 1) (drop 1 ids)))
      ∙ ap (λ xs. first_place t q (flat_map f xs)) (cut-first ids d h) ∙ e

  -- it is at the last of some containers, or else at one before it
  pub at-last : (f : TypeId → List (TypeId × ℕ)) (ids : List TypeId) (d : TypeId) (whole : Option (TypeId × ℕ)) (p : TypeId × ℕ) → 1 ≤ length ids → first_place t q (flat_map f (reverse ids)) ≡ whole → Some p ≡ first_place t q (f (get_or ids (length ids - 1) d)) → Some p ≡ whole
  at-last f ids d whole p h e is =
      ap (λ o. or_else o (first_place t q (flat_map f (reverse (take (length ids - 1) ids))))) is ∙ sym (first-last f (take (length ids - 1) ids) (get_or ids (length ids - 1) d))
      ∙ ap (λ xs. first_place t q (flat_map f (reverse xs))) (cut-last ids d h) ∙ e

  pub before-last : (f : TypeId → List (TypeId × ℕ)) (ids : List TypeId) (d : TypeId) (whole : Option (TypeId × ℕ)) → 1 ≤ length ids → first_place t q (flat_map f (reverse ids)) ≡ whole → None ≡ first_place t q (f (get_or ids (length ids - 1) d)) → first_place t q (flat_map f (reverse (take (length ids - 1) ids))) ≡ whole
  before-last f ids d whole h e none =
      ap (λ o. or_else o (first_place t q (flat_map f (reverse (take (length ids - 1) ids))))) none ∙ sym (first-last f (take (length ids - 1) ids) (get_or ids (length ids - 1) d))
      ∙ ap (λ xs. first_place t q (flat_map f (reverse xs))) (cut-last ids d h) ∙ e

  -- ---- a sequence

  in-sequence : (id : TypeId) (ids : List TypeId) → ids ≡ map id_of (chain t id.0) → first_named t id q ≡ or_else (first_place t q (flat_map (entry_places t) ids)) (first_place t q (flat_map (trailer_places t) (reverse ids)))
  in-sequence id ids e = ap (first_place t q) (sym (sequence_is t id.0 ids e)) ∙ first-both (flat_map (entry_places t) ids) (flat_map (trailer_places t) (reverse ids))

  pub among-entries : (id : TypeId) (ids : List TypeId) (p : TypeId × ℕ) → ids ≡ map id_of (chain t id.0) → Some p ≡ first_place t q (flat_map (entry_places t) ids) → Some p ≡ first_named t id q
  among-entries id ids p e is = ap (λ o. or_else o (first_place t q (flat_map (trailer_places t) (reverse ids)))) is ∙ sym (in-sequence id ids e)

  pub among-trailers : (id : TypeId) (ids again : List TypeId) (o : Option (TypeId × ℕ)) → ids ≡ map id_of (chain t id.0) → again ≡ map id_of (chain t id.0) → None ≡ first_place t q (flat_map (entry_places t) ids) → o ≡ first_place t q (flat_map (trailer_places t) (reverse again)) → o ≡ first_named t id q
  among-trailers id ids again o e f none is =
      is ∙ ap (λ ys. first_place t q (flat_map (trailer_places t) (reverse ys))) (f ∙ sym e)
      ∙ ap (λ o. or_else o (first_place t q (flat_map (trailer_places t) (reverse ids)))) none ∙ sym (in-sequence id ids e)

  -- the entry of a name stands at the first place of the name
  entry-first : (ps : List (TypeId × ℕ)) → (first_place t q ps >>= entry_at t) ≡ entry_among t q ps
  entry-first [] = refl
  entry-first (p ∷ ps) = go (has_name q (part_at t p)) refl (entry-first ps)
    where
      go : (b : Bool) → has_name q (part_at t p) ≡ b → (first_place t q ps >>= entry_at t) ≡ entry_among t q ps → (first_place t q (p ∷ ps) >>= entry_at t) ≡ entry_among t q (p ∷ ps)
      go true e more = rw e refl
      go false e more = rw e more

  pub entry-named : (id : TypeId) → (first_named t id q >>= entry_at t) ≡ entry_named t id q
  entry-named id = entry-first (map address (sequence t id.0))

-- ---- types

-- the number of a row, where it is there
numbered-row : (a k j : ℕ) (t : Table) → a + k ≡ j → slice_get (range_with_len a (length t)) k ≡ option_map {U = ℕ} (λ row. j) (slice_get t k)
numbered-row a k j [] e = refl
numbered-row a zero j (row ∷ t) e = let same-number : a ≡ j = omega (arith, e) in ap Some same-number
numbered-row a (suc k) j (row ∷ t) e = numbered-row (a + 1) k j t (omega (arith, e))

index-row : (t : Table) (k : ℕ) → slice_get (index_of_all t) k ≡ option_map {U = OwnNames} (λ row. index_of t k) (slice_get t k)
index-row t k = slice_get-map (index_of t) (numbers t) k ∙ ap (option_map (index_of t)) (numbered-row 0 k k t (omega arith)) ∙ there (slice_get t k)
  where
    there : (o : Option TypeRow) → option_map (index_of t) (option_map {U = ℕ} (λ row. k) o) ≡ option_map {U = OwnNames} (λ row. index_of t k) o
    there None = refl
    there (Some row) = refl

module _ (t : Table) (own : List OwnNames) (is : own ≡ index_of_all t) where
  at-row : (k : ℕ) → slice_get own k ≡ option_map {U = OwnNames} (λ row. index_of t k) (slice_get t k)
  at-row k = ap (λ l. slice_get l k) is ∙ index-row t k

  own-is : (k : ℕ) (one : OwnNames) → Some one ≡ slice_get own k → one ≡ index_of t k
  own-is k one e = go (slice_get t k) refl
    where
      go : (o : Option TypeRow) → slice_get t k ≡ o → one ≡ index_of t k
      go None h = absurd (let f : Some one ≡ None = e ∙ at-row k ∙ ap (option_map {U = OwnNames} (λ row. index_of t k)) h in cc)
      go (Some row) h = let f : Some one ≡ Some (index_of t k) = e ∙ at-row k ∙ ap (option_map {U = OwnNames} (λ row. index_of t k)) h in cc

  no-row : (k : ℕ) → None ≡ slice_get own k → slice_get t k ≡ None
  no-row k e = go (slice_get t k) refl
    where
      go : (o : Option TypeRow) → slice_get t k ≡ o → slice_get t k ≡ None
      go None h = h
      go (Some row) h = absurd (let f : None ≡ Some (index_of t k) = e ∙ at-row k ∙ ap (option_map {U = OwnNames} (λ row. index_of t k)) h in cc)

  pub no-entry : (q : List ℕ) (id : TypeId) → None ≡ slice_get own id.0 → None ≡ first_place t q (entry_places t id)
  no-entry q id e = sym (ap (λ row. first_place t q (map address (placed_from id.0 0 (entries_in (container_in row))))) (no-row id.0 e))

  pub no-trailer : (q : List ℕ) (id : TypeId) → None ≡ slice_get own id.0 → None ≡ first_place t q (trailer_places t id)
  no-trailer q id e = sym (ap (λ row. first_place t q (map address (placed_from id.0 (length (entries_of t id.0)) (trailers_in (container_in row))))) (no-row id.0 e))

  pub entry-by : (q : List ℕ) (id : TypeId) (one : OwnNames) (o : Option ℕ) → Some one ≡ slice_get own id.0 → o ≡ place_in one.entries q → option_map {U = TypeId × ℕ} (λ k. (id, k)) o ≡ first_place t q (entry_places t id)
  entry-by q id one o e at = ap (option_map {U = TypeId × ℕ} (λ k. (id, k))) (at ∙ ap (λ (x : OwnNames). place_in x.entries q) (own-is id.0 one e)) ∙ own-entries t q id.0

  pub trailer-by : (q : List ℕ) (id : TypeId) (one : OwnNames) (o : Option ℕ) → Some one ≡ slice_get own id.0 → o ≡ place_in one.trailers q → option_map {U = TypeId × ℕ} (λ k. (id, k)) o ≡ first_place t q (trailer_places t id)
  trailer-by q id one o e at = ap (option_map {U = TypeId × ℕ} (λ k. (id, k))) (at ∙ ap (λ (x : OwnNames). place_in x.trailers q) (own-is id.0 one e)) ∙ own-trailers t q id.0

-- ---- one type after the other

pub index-next : (t : Table) (old new whole : List OwnNames) (k : ℕ) → k < length t → new ≡ old ++ index_of t k ∷ [] → old ++ map (index_of t) (range_with_len k (length t - k)) ≡ whole → new ++ map (index_of t) (range_with_len (k + 1) (length t - (k + 1))) ≡ whole
index-next t old new whole k h e is =
    let step : length t - k ≡ suc (length t - (k + 1)) = omega arith in
    rw e (append_assoc old (index_of t k ∷ []) (map (index_of t) (range_with_len (k + 1) (length t - (k + 1)))) ∙ ap (λ m. old ++ map (index_of t) (range_with_len k m)) (sym step) ∙ is)
