-- Values of a container that are looked up by their parts.
use Rattle.std.proofs.Common.{◌≡◌, ℕ, ◌+◌, ◌<◌, ◌≤◌, Bool, true, false, List, [], ◌∷◌, ◌++◌, ◌==◌, ◌&&◌, ◌-◌, length, drop, map, reverse, get_or, Ok, refl, sym, ap, subst, ◌∙◌, append_assoc, arith}
use Rattle.std.specs.Prelude.{slice_get, if◌then◌else◌}
use Rattle.std.specs.List.{AllByRecursion, flat_map}
use Rattle.std.proofs.lemmas.List.{drop_more, reverse-append}
use Rattle.std.proofs.lemmas.Bool.{eq-eqb, false_from_ne_true, eqb-true, and_from, and_parts}
use Rattle.eds_base.specs.declared.ids.TypeId.{TypeId}
use Rattle.eds_types.specs.declared.row.Part.{Part}
use Rattle.eds_types.specs.declared.value.Value.TheVariants as value
use Rattle.eds_types.specs.Fields.{Field, has_value, paired}
use Rattle.eds_types.specs.Packing.{valued}
use Rattle.eds_types.specs.Plain.{Plain}
use Rattle.eds_types.specs.Rows.{Table, Placed, chain, entries_of, trailers_of, id_of, placed_from, placed_entries, placed_trailers, sequence}
use Rattle.eds_types.specs.Rules.{KeepsRules}
use Rattle.eds_types.proofs.AllOf.{All-back}
use Rattle.eds_types.proofs.DistinctParts.{Apart, Pairwise, sequence_apart}
use Rattle.eds_types.proofs.RuleFacts.{table_of}
use Rattle.eds_types.specs.Seeking.{seek, nth, entries_in_turn, trailers_in_turn}
use Rattle.eds_types.proofs.FieldsOf.{found}
use Rattle.eds_types.proofs.Seeking.{along, by_number}
use Rattle.eds_pack.specs.Seeking.{AreNext, values_in}

-- ---- one run of parts

pub valued_is : (y i : ℕ) (ps : List Part) → valued (placed_from y i ps) ≡ values_in ps
valued_is y i [] = refl
valued_is y i (p ∷ ps) = ap (λ n. (if has_value p then 1 else 0) + n) (valued_is y (i + 1) ps)

pub values_more : (xs ys : List Part) → values_in (xs ++ ys) ≡ values_in xs + values_in ys
values_more [] ys = omega arith
values_more (x ∷ xs) ys = let h = values_more xs ys in let n : ℕ = if has_value x then 1 else 0 in ap (λ m. n + m) h ∙ omega arith

-- the values of the parts from one on
pub values_left : (ps : List Part) (i : ℕ) (p : Part) → i < length ps → p ≡ get_or ps i p → values_in (drop i ps) ≡ values_in (p ∷ []) + values_in (drop (i + 1) ps)
values_left ps i p lt e = ap values_in (drop_more ps i p lt ∙ ap (λ (q : Part). q ∷ drop (i + 1) ps) (sym e)) ∙ values_more (p ∷ []) (drop (i + 1) ps)

-- no more values than parts
pub values_few : (ps : List Part) → values_in ps ≤ length ps
values_few [] = omega arith
values_few (p ∷ ps) = go (has_value p) (values_few ps)
  where
    go : (b : Bool) → values_in ps ≤ length ps → (if b then 1 else 0) + values_in ps ≤ length (p ∷ ps)
    go true h = omega (arith, h)
    go false h = omega (arith, h)

pub one_value : (p : Part) → values_in (p ∷ []) ≤ 1
one_value p = go (has_value p)
  where
    go : (b : Bool) → (if b then 1 else 0) + 0 ≤ 1
    go true = omega arith
    go false = omega arith

-- ---- how many values there are

pub valued_both : (xs ys : List Placed) → valued (xs ++ ys) ≡ valued xs + valued ys
valued_both [] ys = omega arith
valued_both (x ∷ xs) ys = let h = valued_both xs ys in let n : ℕ = if has_value x.part then 1 else 0 in ap (λ m. n + m) h ∙ omega arith

flat_both : (f : ℕ → List Placed) (xs ys : List ℕ) → flat_map f (xs ++ ys) ≡ flat_map f xs ++ flat_map f ys
flat_both f [] ys = refl
flat_both f (x ∷ xs) ys = ap (λ b. f x ++ b) (flat_both f xs ys) ∙ sym (append_assoc (f x) (flat_map f xs) (flat_map f ys))

valued_turned : (f : ℕ → List Placed) (xs : List ℕ) → valued (flat_map f (reverse xs)) ≡ valued (flat_map f xs)
valued_turned f [] = refl
valued_turned f (x ∷ xs) =
    ap (λ ys. valued (flat_map f ys)) (reverse-append (x ∷ []) xs) ∙ ap valued (flat_both f (reverse xs) (x ∷ [])) ∙ valued_both (flat_map f (reverse xs)) (flat_map f (x ∷ []))
    ∙ (let h = valued_turned f xs in let a = valued_both (f x) [] in let b = valued_both (f x) (flat_map f xs) in omega arith)

pub counted_values : (t : Table) (k : ℕ) (ids : List TypeId) → ids ≡ map id_of (chain t k) → valued (entries_in_turn t ids) + valued (trailers_in_turn t ids) ≡ valued (sequence t k)
counted_values t k ids e =
    let ks = chain t k in
    let a : valued (entries_in_turn t ids) ≡ valued (flat_map (placed_entries t) ks) = ap (λ xs. valued (entries_in_turn t xs)) e ∙ ap valued (by_number (placed_entries t) ks) in
    let b : valued (trailers_in_turn t ids) ≡ valued (flat_map (placed_trailers t) ks) = ap (λ xs. valued (trailers_in_turn t xs)) e ∙ ap valued (by_number (placed_trailers t) ks) in
    let c = valued_turned (placed_trailers t) ks in
    let d = valued_both (flat_map (placed_entries t) ks) (flat_map (placed_trailers t) (reverse ks)) in
    omega arith

-- the parts of the container at a place, and those of the containers behind it
pub counted_rest : (t : Table) (ids : List TypeId) (i : ℕ) (d : TypeId) → i < length ids
    → valued (entries_in_turn t (drop i ids)) + valued (trailers_in_turn t (drop i ids)) ≡ values_in (entries_of t (get_or ids i d).0) + values_in (trailers_of t (get_or ids i d).0) + (valued (entries_in_turn t (drop (i + 1) ids)) + valued (trailers_in_turn t (drop (i + 1) ids)))
counted_rest t ids i d lt =
    let here = (get_or ids i d).0 in
    let a = ap valued (along (λ (id : TypeId). placed_entries t id.0) ids i d lt) ∙ valued_both (placed_entries t here) (entries_in_turn t (drop (i + 1) ids)) in
    let b = ap valued (along (λ (id : TypeId). placed_trailers t id.0) ids i d lt) ∙ valued_both (placed_trailers t here) (trailers_in_turn t (drop (i + 1) ids)) in
    let c = valued_is here 0 (entries_of t here) in
    let e = valued_is here (length (entries_of t here)) (trailers_of t here) in
    omega arith

-- ---- parts one after another

seek_past : (y i : ℕ) (done rest : List Placed) (n : ℕ) → AllByRecursion (λ (q : Placed). (q.container ≡ y) × (q.place ≡ i) → ⊥) done → seek (done ++ rest) n y i ≡ seek rest (n + valued done) y i
seek_past y i [] rest n h = ap (λ m. seek rest m y i) (omega arith)
seek_past y i (q ∷ done) rest n h = go (has_value q.part) (q.container == y && q.place == i) other (seek_past y i done rest n h.1) (seek_past y i done rest (n + 1) h.1)
  where
    other : (q.container == y && q.place == i) ≡ false
    other = false_from_ne_true (q.container == y && q.place == i) (λ e. let a = and_parts (q.container == y) (q.place == i) e in h.0 (eqb-true q.container y a.0, eqb-true q.place i a.1))

    go : (b c : Bool) → c ≡ false → seek (done ++ rest) n y i ≡ seek rest (n + valued done) y i → seek (done ++ rest) (n + 1) y i ≡ seek rest (n + 1 + valued done) y i
        → (if b then (if c then Ok n else seek (done ++ rest) (n + 1) y i) else seek (done ++ rest) n y i) ≡ seek rest (n + ((if b then 1 else 0) + valued done)) y i
    go true true e g h = absurd cc
    go true false e g h = h ∙ ap (λ m. seek rest m y i) (omega arith)
    go false c e g h = g ∙ ap (λ m. seek rest m y i) (omega arith)

seek_here : (p : Placed) (ps : List Placed) (n : ℕ) → has_value p.part ≡ true → seek (p ∷ ps) n p.container p.place ≡ Ok n
seek_here p ps n h = go (has_value p.part) h (p.container == p.container && p.place == p.place) (and_from (p.container == p.container) (p.place == p.place) (eq-eqb p.container p.container refl) (eq-eqb p.place p.place refl))
  where
    go : (b : Bool) → b ≡ true → (c : Bool) → c ≡ true → (if b then (if c then Ok n else seek ps (n + 1) p.container p.place) else seek ps n p.container p.place) ≡ Ok n
    go true e true q = refl
    go true e false q = absurd cc
    go false e c q = absurd cc

apart_before : (done : List Placed) (p : Placed) (ps : List Placed) → Pairwise Apart (done ++ p ∷ ps) → AllByRecursion (λ (q : Placed). Apart q p) done
apart_before [] p ps h = tt
apart_before (q ∷ done) p ps h = ((All-back (Apart q) done (p ∷ ps) h.0).0, apart_before done p ps h.1)

module _ (t : Table) (rules : KeepsRules t) (k : ℕ) (f : List Plain) where
  next_from : (done ps : List Placed) (used : ℕ) → used ≡ valued done → sequence t k ≡ done ++ ps → AreNext (paired (sequence t k) f) f used ps
  next_from done [] used count is = tt
  next_from done (p ∷ ps) used count is = (
    (λ h.
        (found p.container p.place (sequence t k) f 0 f refl
        ∙ ap (λ qs. nth f (seek qs 0 p.container p.place)) is
        ∙ ap (nth f) (seek_past p.container p.place done (p ∷ ps) 0 (apart_before done p ps (subst (Pairwise Apart) is (sequence_apart t (table_of t rules) k))) ∙ seek_here p ps (0 + valued done) h)
        ∙ ap (slice_get f) (omega (arith, count)))),
    next_from (done ++ p ∷ []) ps (used + values_in (p.part ∷ [])) (omega (arith, count, valued_both done (p ∷ []))) (is ∙ sym (append_assoc done (p ∷ []) ps)),
  )

  -- the values of all parts of a container are the next ones, one after the other
  pub all_next : AreNext (paired (sequence t k) f) f 0 (sequence t k)
  all_next = next_from [] (sequence t k) 0 refl refl

module _ (fs : List Field) (f : List Plain) where
  pub next_front : (ps qs : List Placed) (used : ℕ) → AreNext fs f used (ps ++ qs) → AreNext fs f used ps
  next_front [] qs used h = tt
  next_front (p ∷ ps) qs used h = (h.0, next_front ps qs (used + values_in (p.part ∷ [])) h.1)

  pub next_back : (ps qs : List Placed) (used : ℕ) → AreNext fs f used (ps ++ qs) → AreNext fs f (used + valued ps) qs
  next_back [] qs used h = subst (λ n. AreNext fs f n qs) (omega arith) h
  next_back (p ∷ ps) qs used h = subst (λ n. AreNext fs f n qs) (omega arith) (next_back ps qs (used + values_in (p.part ∷ [])) h.1)
