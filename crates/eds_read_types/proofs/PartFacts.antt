-- Parts of containers one by one.
use Rattle.std.proofs.Common.{◌≡◌, ℕ, zero, suc, ◌+◌, ◌<◌, List, [], ◌∷◌, map, length, slice_get, option_map, Option, Some, None, refl, sym, ap, ◌∙◌, arith}
use Rattle.std.specs.List.{AllByRecursion}
use Rattle.std.proofs.lemmas.Option.{slice_get-map}
use Rattle.eds_base.specs.declared.ids.Place.{Place}
use Rattle.eds_tree.specs.declared.tree.Node.{Node}
use Rattle.eds_names.specs.LookUp.{Names}
use Rattle.eds_types.specs.declared.row.Part.{Part}
use Rattle.eds_types.specs.Rows.{container_of, Placed, placed_from}
use Rattle.eds_type_rows.specs.Places.{type_places}
use Rattle.eds_type_rows.specs.Entries.{own_parts_at}
use Rattle.eds_type_rows.specs.TableRows.{table_rows}
use Rattle.eds_read_types.specs.Parts.{PartJudgement, parts_in, judged_part, judged_part_by, judged_parts, at_parts}
use Rattle.eds_read_types.proofs.ChainFacts.{over-none}

-- an item that a list is made of
pub mapped_there : {A B : Type 0} (f : A → B) (xs : List A) (k : ℕ) (y : B) → slice_get (map f xs) k ≡ Some y → (x : A) × (slice_get xs k ≡ Some x) × (f x ≡ y)
mapped_there {A} {B} f xs k y e = go (slice_get xs k) refl (sym (slice_get-map f xs k) ∙ e)
  where
    go : (o : Option A) → slice_get xs k ≡ o → option_map f o ≡ Some y → (x : A) × (slice_get xs k ≡ Some x) × (f x ≡ y)
    go None q h = absurd cc
    go (Some x) q h = (x, q, cc)

-- what holds of each part at its position holds of all
pub placed_all : (P : Placed → Type 0) (y i : ℕ) (ps : List Part) → ((k : ℕ) (p : Part) → slice_get ps k ≡ Some p → (n : ℕ) → k + i ≡ n → P (record { container = y; place = n; part = p })) → AllByRecursion P (placed_from y i ps)
placed_all P y i [] h = tt
placed_all P y i (p ∷ ps) h = (h 0 p refl i (omega arith), placed_all P y (i + 1) ps (λ k q e n s. h (suc k) q e n (omega (arith, s))))

pub all_mapped : {A B : Type 0} (f : A → B) (P : B → Type 0) (xs : List A) → ((k : ℕ) (x : A) → slice_get xs k ≡ Some x → P (f x)) → AllByRecursion P (map f xs)
all_mapped f P [] h = tt
all_mapped f P (x ∷ xs) h = (h 0 x refl, all_mapped f P xs (λ k y e. h (suc k) y e))

pub no_item : {A : Type 0} (xs : List A) (k : ℕ) → k < length xs → slice_get xs k ≡ None → ⊥
no_item [] k lt e = absurd (omega (arith, lt))
no_item (x ∷ xs) zero lt e = cc
no_item (x ∷ xs) (suc k) lt e = no_item xs k (omega (arith, lt)) e

-- a rule on parts that is broken nowhere, at one part
pub part_none : (judge : PartJudgement) (trees : List (List Node)) (names : Names) → at_parts judge trees names ≡ [] → (id : ℕ) (at : Place) → slice_get (type_places names) id ≡ Some at
    → (k : ℕ) (p : Part) → slice_get (parts_in (container_of (table_rows trees names) id)) k ≡ Some p → (q : Place) → slice_get (own_parts_at trees at) k ≡ Some q
    → judge (table_rows trees names) (record { container = id; place = k; part = p }) q ≡ []
part_none judge trees names h id at there k p e q f =
    let here = over-none (judged_parts judge trees (table_rows trees names)) 0 (type_places names) h id at there id (omega arith) in
    let one = over-none (judged_part judge (table_rows trees names) id) 0 (own_parts_at trees at) here k q f k (omega arith) in
    sym (ap (judged_part_by judge (table_rows trees names) id k q) e) ∙ one
