-- Looking for a length entry, and for a candidate.
use Rattle.std.proofs.Common.{◌≡◌, ℕ, ◌<◌, Bool, true, false, cond, List, [], ◌∷◌, ◌++◌, length, get_or, take, drop, map, reverse, Option, Some, None, Err, refl, sym, ap, ◌∙◌, arith, ◌+◌, ◌-◌}
use Rattle.std.specs.Prelude.{◌&&◌}
use Rattle.std.specs.List.{flat_map, list_all}
use Rattle.std.proofs.Math.Bool.{and-true}
use Rattle.std.proofs.Math.Seq.{take-append_seam}
use Rattle.std.proofs.lemmas.Grind.{flat_map-append}
use Rattle.std.proofs.lemmas.List.{drop_more, length-append, length-map, take-map}
use Rattle.std.proofs.lemmas.List.Folds.{list_all-append}
use Rattle.eds_base.specs.declared.ids.TypeId.{TypeId}
use Rattle.eds_base.specs.declared.fault.Step.{Step}
use Rattle.eds_base.specs.declared.fault.Reason.TheVariants.{Constraint as Fails}
use Rattle.eds_types.specs.declared.row.Constraint.{Constraint}
use Rattle.eds_types.specs.Failing.{fault_at, path_steps}
use Rattle.eds_types.specs.Fields.{Field, constraints_along}
use Rattle.eds_types.specs.Families.{first_of}
use Rattle.eds_types.specs.Reading.{holds, check_all}
use Rattle.eds_types.specs.Rows.{Table, Placed, id_of, base_of, constraints_of, chain, chain_before, chain_within, sequence, numbers_of, placed_entries, placed_trailers, or_else}
use Rattle.eds_types.specs.Seeking.{entries_in_turn, trailers_in_turn}
use Rattle.eds_types.proofs.Candidates.{numbers_are}
use Rattle.eds_types.proofs.Seeking.{entries_are, trailers_are}
use Rattle.eds_unpack.specs.Seeking.{if_length, length_among}

or_assoc : (a b c : Option Step) → or_else (or_else a b) c ≡ or_else a (or_else b c)
or_assoc None b c = refl
or_assoc (Some x) b c = refl

among_append : (ps qs : List Placed) → length_among (ps ++ qs) ≡ or_else (length_among ps) (length_among qs)
among_append [] qs = refl
among_append (p ∷ ps) qs = ap (or_else (if_length p.part p)) (among_append ps qs) ∙ sym (or_assoc (if_length p.part p) (length_among ps) (length_among qs))

pub among_found : (ps qs : List Placed) (s : Step) (total : Option Step) → Some s ≡ length_among ps → length_among (ps ++ qs) ≡ total → Some s ≡ total
among_found ps qs s total h k = ap (λ o. or_else o (length_among qs)) h ∙ sym (among_append ps qs) ∙ k

pub among_passed : (ps qs : List Placed) (total : Option Step) → None ≡ length_among ps → length_among (ps ++ qs) ≡ total → length_among qs ≡ total
among_passed ps qs total h k = ap (λ o. or_else o (length_among qs)) h ∙ sym (among_append ps qs) ∙ k

pub among_entries : (t : Table) (k : ℕ) (s : Step) (ids : List TypeId) → ids ≡ map id_of (chain t k) → Some s ≡ length_among (entries_in_turn t ids) → Some s ≡ length_among (sequence t k)
among_entries t k s ids e h = among_found (flat_map (placed_entries t) (chain t k)) (flat_map (placed_trailers t) (reverse (chain t k))) s _ (h ∙ ap length_among (entries_are t k ids e)) refl

pub among_trailers : (t : Table) (k : ℕ) (r : Option Step) (ids again : List TypeId) → ids ≡ map id_of (chain t k) → again ≡ map id_of (chain t k) → None ≡ length_among (entries_in_turn t ids) → r ≡ length_among (trailers_in_turn t (reverse again)) → r ≡ length_among (sequence t k)
among_trailers t k r ids again e f h g = g ∙ ap length_among (trailers_are t k again f) ∙ among_passed (flat_map (placed_entries t) (chain t k)) (flat_map (placed_trailers t) (reverse (chain t k))) _ (h ∙ ap length_among (entries_are t k ids e)) refl

-- ---- candidates

pub none_first : (p : ℕ → Bool) (ids : List TypeId) → length ids ≡ 0 → None ≡ first_of p (numbers_of ids)
unfolding first_of
none_first p [] n = refl
none_first p (id ∷ ids) n = absurd (omega arith)

-- ---- constraints

pub check_fails : (t : Table) (c : Constraint) (cs : List Constraint) (fs : List Field) → false ≡ holds t fs c → check_all t (c ∷ cs) fs ≡ Err (fault_at Fails (path_steps c.path))
unfolding check_all
check_fails t c cs fs h = ap (λ b. cond b (check_all t cs fs) (Err (fault_at Fails (path_steps c.path)))) (sym h)

pub check_goes : (t : Table) (c : Constraint) (cs : List Constraint) (fs : List Field) → true ≡ holds t fs c → check_all t (c ∷ cs) fs ≡ check_all t cs fs
unfolding check_all
check_goes t c cs fs h = ap (λ b. cond b (check_all t cs fs) (Err (fault_at Fails (path_steps c.path)))) (sym h)

pub check_later : (t : Table) (cs : List Constraint) (i : ℕ) (d : Constraint) (fs : List Field) → i < length cs → true ≡ holds t fs (get_or cs i d) → check_all t (drop i cs) fs ≡ check_all t (drop (i + 1) cs) fs
check_later t cs i d fs lt h = ap (λ xs. check_all t xs fs) (drop_more cs i d lt) ∙ check_goes t (get_or cs i d) (drop (i + 1) cs) fs h

-- ---- bases

-- the numbers before the last one
before_last : (xs : List ℕ) (u : ℕ) (ids : List TypeId) → ids ≡ map id_of (xs ++ u ∷ []) → numbers_of (take (length ids - 1) ids) ≡ xs
before_last xs u ids e =
    let all : numbers_of ids ≡ xs ++ u ∷ [] = numbers_are ids (xs ++ u ∷ []) e in
    let many : length ids - 1 ≡ length xs = omega (arith, ap length e, length-map (xs ++ u ∷ []) id_of, length-append xs (u ∷ [])) in
    sym (take-map (λ (id : TypeId). id.0) (length ids - 1) ids) ∙ ap (take (length ids - 1)) all ∙ ap (λ n. take n (xs ++ u ∷ [])) many ∙ take-append_seam xs (u ∷ [])

-- what a chain asks is met where the bases ask nothing else, once what the last one asks is met
pub bases_left : (t : Table) (m : Constraint → Bool) (u : ℕ) (ids : List TypeId) → ids ≡ map id_of (chain t u) → list_all m (constraints_of t u) ≡ true → list_all m (flat_map (constraints_of t) (numbers_of (take (length ids - 1) ids))) ≡ list_all m (constraints_along t u)
unfolding chain_within
bases_left t m u ids e own =
    ap (λ ys. list_all m (flat_map (constraints_of t) ys)) (before_last front u ids e)
    ∙ sym (and-true (list_all m (flat_map (constraints_of t) front)))
    ∙ ap (λ b. list_all m (flat_map (constraints_of t) front) && (b && true)) (sym own)
    ∙ sym split
  where
    front : List ℕ
    front = chain_before (chain_within 15 t) (base_of t u)

    split : list_all m (constraints_along t u) ≡ (list_all m (flat_map (constraints_of t) front) && (list_all m (constraints_of t u) && true))
    split = ap (list_all m) (flat_map-append (constraints_of t) front (u ∷ [])) ∙ list_all-append m (flat_map (constraints_of t) front) (constraints_of t u ++ []) ∙ ap (λ b. list_all m (flat_map (constraints_of t) front) && b) (list_all-append m (constraints_of t u) [])
