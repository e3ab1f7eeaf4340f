-- The places of parts, in the order of their bits.
use Rattle.std.proofs.Common.{◌≡◌, ℕ, ◌≤◌, List, [], ◌∷◌, ◌++◌, map, length, reverse, Option, Some, None, slice_get, refl, sym, ap, ap₂, ◌∙◌, lit≤}
use Rattle.std.specs.List.{flat_map}
use Rattle.std.proofs.lemmas.List.{map-append}
use Rattle.eds_base.specs.declared.ids.TypeId.{TypeId}
use Rattle.eds_types.specs.declared.row.TypeRow.{TypeRow}
use Rattle.eds_types.specs.declared.row.Kind.{Kind}
use Rattle.eds_types.specs.declared.row.Kind.TheVariants as kind
use Rattle.eds_types.specs.Rules.{KeepsRules, KindKeeps}
use Rattle.eds_types.specs.Rows.{Table, id_of, Placed, address, chain, placed_entries, placed_trailers, container_by, container_in, entries_in, trailers_in, entries_of, trailers_of, entry_places, trailer_places, sequence}
use Rattle.eds_types.proofs.Seeking.{reverse_map}

-- ---- a container has few parts

few_by : (k : Kind) → KindKeeps k → (length (entries_in (container_by k)) ≤ 32767) × (length (trailers_in (container_by k)) ≤ 32767)
few_by (kind.Int form spans) h = (lit≤ tt, lit≤ tt)
few_by (kind.Enum form listing) h = (lit≤ tt, lit≤ tt)
few_by (kind.Bool form) h = (lit≤ tt, lit≤ tt)
few_by (kind.Str form) h = (lit≤ tt, lit≤ tt)
few_by (kind.Bin n free) h = (lit≤ tt, lit≤ tt)
few_by (kind.Arr item n) h = (lit≤ tt, lit≤ tt)
few_by (kind.Con c) h = h

few_in : (t : Table) → KeepsRules t → (id : ℕ) (row : Option TypeRow) → slice_get t id ≡ row → (length (entries_in (container_in row)) ≤ 32767) × (length (trailers_in (container_in row)) ≤ 32767)
few_in t h id None e = (lit≤ tt, lit≤ tt)
few_in t h id (Some row) e = few_by row.kind (h.kinds id row e)

pub few_entries : (t : Table) (id : ℕ) → KeepsRules t → length (entries_of t id) ≤ 32767
few_entries t id h = (few_in t h id (slice_get t id) refl).0

pub few_trailers : (t : Table) (id : ℕ) → KeepsRules t → length (trailers_of t id) ≤ 32767
few_trailers t id h = (few_in t h id (slice_get t id) refl).1

-- ---- a sequence

by_number : {A : Type 0} (f : ℕ → List A) (g : TypeId → List A) → ((id : TypeId) → g id ≡ f id.0) → (xs : List ℕ) → flat_map g (map id_of xs) ≡ flat_map f xs
by_number f g e [] = refl
by_number f g e (x ∷ xs) = ap₂ (λ a b. a ++ b) (e (id_of x)) (by_number f g e xs)

map_flat : (f : ℕ → List Placed) (xs : List ℕ) → flat_map (λ x. map address (f x)) xs ≡ map address (flat_map f xs)
map_flat f [] = refl
map_flat f (x ∷ xs) = ap (λ ys. map address (f x) ++ ys) (map_flat f xs) ∙ sym (map-append address (f x) (flat_map f xs))

-- the places of the entries of a chain and then those of its trailers, from the last up, are those of the sequence
pub sequence_is : (t : Table) (k : ℕ) (ids : List TypeId) → ids ≡ map id_of (chain t k) → flat_map (entry_places t) ids ++ flat_map (trailer_places t) (reverse ids) ≡ map address (sequence t k)
sequence_is t k ids e =
    rw (e, reverse_map (chain t k))
    (ap₂ (λ a b. a ++ b) (by_number (λ y. map address (placed_entries t y)) (entry_places t) (λ id. refl) (chain t k) ∙ map_flat (placed_entries t) (chain t k))
    (by_number (λ y. map address (placed_trailers t y)) (trailer_places t) (λ id. refl) (reverse (chain t k)) ∙ map_flat (placed_trailers t) (reverse (chain t k)))
    ∙ sym (map-append address (flat_map (placed_entries t) (chain t k)) (flat_map (placed_trailers t) (reverse (chain t k)))))

-- the same of a list to which both were put
pub sequence_put : (t : Table) (k : ℕ) (ids again : List TypeId) (old one two : List (TypeId × ℕ)) → old ≡ [] → ids ≡ map id_of (chain t k) → again ≡ map id_of (chain t k) → one ≡ old ++ flat_map (entry_places t) ids → two ≡ one ++ flat_map (trailer_places t) (reverse again) → two ≡ map address (sequence t k)
sequence_put t k ids again old one two n a b e f =
    f ∙ ap₂ (λ x y. x ++ flat_map (trailer_places t) (reverse y)) (e ∙ ap (λ x. x ++ flat_map (entry_places t) ids) n) (b ∙ sym a) ∙ sequence_is t k ids a
