-- Looking for a length entry, and for a candidate.
use Rattle.std.proofs.Common.{◌≡◌, ℕ, List, [], ◌∷◌, ◌++◌, map, reverse, Option, Some, None, refl, sym, ap, ◌∙◌}
use Rattle.std.specs.List.{flat_map}
use Rattle.eds_base.specs.declared.ids.TypeId.{TypeId}
use Rattle.eds_pack.specs.declared.length.LengthEntry.{LengthEntry}
use Rattle.eds_types.specs.Seeking.{entries_in_turn, trailers_in_turn}
use Rattle.eds_types.proofs.Seeking.{entries_are, trailers_are}
use Rattle.eds_pack.specs.Lengths.{if_length, length_among}
use Rattle.eds_types.specs.Rows.{Table, Placed, id_of, chain, sequence, placed_entries, placed_trailers, or_else}

or_assoc : (a b c : Option LengthEntry) → or_else (or_else a b) c ≡ or_else a (or_else b c)
or_assoc None b c = refl
or_assoc (Some x) b c = refl

among_append : (ps qs : List Placed) → length_among (ps ++ qs) ≡ or_else (length_among ps) (length_among qs)
among_append [] qs = refl
among_append (p ∷ ps) qs = ap (or_else (if_length p.part p)) (among_append ps qs) ∙ sym (or_assoc (if_length p.part p) (length_among ps) (length_among qs))

pub among_found : (ps qs : List Placed) (e : LengthEntry) (total : Option LengthEntry) → Some e ≡ length_among ps → length_among (ps ++ qs) ≡ total → Some e ≡ total
among_found ps qs e total h k = ap (λ o. or_else o (length_among qs)) h ∙ sym (among_append ps qs) ∙ k

pub among_passed : (ps qs : List Placed) (total : Option LengthEntry) → None ≡ length_among ps → length_among (ps ++ qs) ≡ total → length_among qs ≡ total
among_passed ps qs total h k = ap (λ o. or_else o (length_among qs)) h ∙ sym (among_append ps qs) ∙ k

pub among_entries : (t : Table) (k : ℕ) (e : LengthEntry) (ids : List TypeId) → ids ≡ map id_of (chain t k) → Some e ≡ length_among (entries_in_turn t ids) → Some e ≡ length_among (sequence t k)
among_entries t k e ids is h = among_found (flat_map (placed_entries t) (chain t k)) (flat_map (placed_trailers t) (reverse (chain t k))) e _ (h ∙ ap length_among (entries_are t k ids is)) refl

pub among_trailers : (t : Table) (k : ℕ) (r : Option LengthEntry) (ids again : List TypeId) → ids ≡ map id_of (chain t k) → again ≡ map id_of (chain t k) → None ≡ length_among (entries_in_turn t ids) → r ≡ length_among (trailers_in_turn t (reverse again)) → r ≡ length_among (sequence t k)
among_trailers t k r ids again e f h g = g ∙ ap length_among (trailers_are t k again f) ∙ among_passed (flat_map (placed_entries t) (chain t k)) (flat_map (placed_trailers t) (reverse (chain t k))) _ (h ∙ ap length_among (entries_are t k ids e)) refl
