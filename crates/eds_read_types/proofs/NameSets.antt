-- Names that are put among others.
use Rattle.std.proofs.Common.{◌≡◌, ℕ, Bool, true, false, cond, ◌||◌, List, [], ◌∷◌, ◌++◌, map, Option, String, string_bytes, Global, refl, sym, ap, ◌∙◌, append_assoc, append-nil}
use Rattle.std.specs.BTreeSet.{BTreeSet, UpdatesBy}
use Rattle.std.specs.Cmp.Lexicographic.{slice_cmp}
use Rattle.std.specs.List.{filter_map, list_any}
use Rattle.std.specs.Ordering.{is_eq, nat_cmp}
use Rattle.std.specs.String.{string_cmp}
use Rattle.std.proofs.lemmas.Cmp.{nat_list_eq_equiv}
use Rattle.std.proofs.lemmas.Map.Text.{is_eq-slice_cmp, btree_set_updates_text}
use Rattle.std.proofs.lemmas.List.Elements.{filter_map-append}
use Rattle.std.proofs.lemmas.List.Folds.{list_any-append}
use Rattle.eds_base.specs.Reading.{same}
use Rattle.eds_names.specs.Repeats.{is_among}
use Rattle.eds_names.proofs.RepeatsLemmas.{SameNames}
use Rattle.eds_types.specs.declared.row.Part.{Part}
use Rattle.eds_types.specs.declared.row.Container.{Container}
use Rattle.eds_types.specs.Rows.{entries_in, trailers_in}
use Rattle.eds_types.specs.Rules.{name_of}
use Rattle.eds_read_types.specs.DuplicateEntry.{names_in}

-- what was to come first is there, and what comes after it is to come
pub moved : (first next old now whole : List (List ℕ)) → SameNames now (first ++ old) → SameNames ((first ++ next) ++ old) whole → SameNames (next ++ now) whole
moved first next old now whole put all q =
    list_any-append (same q) next now ∙ ap (λ b. is_among next q || b) (put q ∙ list_any-append (same q) first old) ∙ turned (is_among next q) (is_among first q) (is_among old q) ∙ ap (λ b. b || is_among old q) (sym (list_any-append (same q) first next)) ∙ sym (list_any-append (same q) (first ++ next) old) ∙ all q
  where
    turned : (a b c : Bool) → (a || (b || c)) ≡ ((b || a) || c)
    turned true true c = refl
    turned true false c = refl
    turned false true c = refl
    turned false false c = refl

-- the same of the name of one part more
pub moved_part : (p : Part) (ps : List Part) (old now whole : List (List ℕ)) → SameNames now (filter_map name_of (p ∷ []) ++ old) → SameNames (filter_map name_of (p ∷ ps) ++ old) whole → SameNames (filter_map name_of ps ++ now) whole
moved_part p ps old now whole put all = moved (filter_map name_of (p ∷ [])) (filter_map name_of ps) old now whole put (λ q. ap (λ xs. is_among (xs ++ old) q) (sym (filter_map-append name_of (p ∷ []) ps)) ∙ all q)

-- ---- the names of a container

pub both_lists : (c : Option Container) (entries trailers : List Part) (old between now : List (List ℕ)) → entries ≡ entries_in c → trailers ≡ trailers_in c → SameNames between (filter_map name_of trailers ++ old) → SameNames now (filter_map name_of entries ++ between) → SameNames now (names_in c ++ old)
both_lists c entries trailers old between now e t first then_put q =
    then_put q ∙ list_any-append (same q) (filter_map name_of entries) between ∙ ap (λ b. is_among (filter_map name_of entries) q || b) (first q) ∙ sym (list_any-append (same q) (filter_map name_of entries) (filter_map name_of trailers ++ old))
    ∙ ap (λ xs. is_among xs q) (sym (append_assoc (filter_map name_of entries) (filter_map name_of trailers) old) ∙ ap (λ xs. xs ++ old) (sym (filter_map-append name_of entries trailers))) ∙ rw (e, t) refl

-- the same from none on
pub all_names : (c : Option Container) (entries trailers : List Part) (old between now : List (List ℕ)) → old ≡ [] → entries ≡ entries_in c → trailers ≡ trailers_in c → SameNames between (filter_map name_of trailers ++ old) → SameNames now (filter_map name_of entries ++ between) → SameNames now (names_in c)
all_names c entries trailers old between now none e t first then_put q = both_lists c entries trailers old between now e t first then_put q ∙ ap (λ xs. is_among (names_in c ++ xs) q) none ∙ ap (λ xs. is_among xs q) (append-nil (names_in c))

-- ---- names in order

-- a name is among those of a set where it is found in their order
pub among_ordered : (keys : List (String Global)) (q : List ℕ) → is_among (map string_bytes keys) q ≡ list_any (λ k. is_eq (slice_cmp nat_cmp q (string_bytes k))) keys
among_ordered [] q = refl
among_ordered (k ∷ ks) q = rw (is_eq-slice_cmp q (string_bytes k), among_ordered ks q) refl

-- a name more
pub name_put : (old new : BTreeSet (String Global)) (k : String Global) (name : List ℕ) → string_bytes k ≡ name → UpdatesBy string_cmp (λ x. slice_cmp nat_cmp (string_bytes k) (string_bytes x)) old new true → SameNames (map string_bytes new.keys) (name ∷ map string_bytes old.keys)
name_put old new k name is h q =
    among_ordered new.keys q ∙ btree_set_updates_text (string_bytes k) old new true h q ∙ ap (λ b. cond (same (string_bytes k) q) true b) (sym (among_ordered old.keys q)) ∙ turned (same (string_bytes k) q) refl ∙ ap (λ n. same q n || is_among (map string_bytes old.keys) q) is
  where
    turned : (b : Bool) → same (string_bytes k) q ≡ b → cond b true (is_among (map string_bytes old.keys) q) ≡ (same q (string_bytes k) || is_among (map string_bytes old.keys) q)
    turned true e = rw (nat_list_eq_equiv.symm q (string_bytes k) ∙ e) refl
    turned false e = rw (nat_list_eq_equiv.symm q (string_bytes k) ∙ e) refl
