-- Looking for an entry, list after list.
use Rattle.std.proofs.Common.{◌≡◌, ℕ, suc, ◌+◌, ◌-◌, ◌<◌, List, [], ◌∷◌, ◌++◌, Bool, true, false, ◌==◌, ◌&&◌, length, map, drop, take, get_or, reverse, Result, Ok, Err, refl, sym, ap, ◌∙◌, arith}
use Rattle.std.specs.Prelude.{if◌then◌else◌}
use Rattle.std.specs.List.{flat_map}
use Rattle.std.proofs.Math.Seq.{drop-cons}
use Rattle.std.proofs.lemmas.List.{reverse-append}
use Rattle.eds_base.specs.declared.ids.TypeId.{TypeId}
use Rattle.std.proofs.lemmas.List.{map-append}
use Rattle.std.proofs.Math.Seq.{take-suc, take-length}
use Rattle.eds_types.specs.Rows.{Table, Placed, placed_entries, placed_trailers, chain, sequence, id_of}
use Rattle.eds_types.specs.Seeking.{entries_in_turn, trailers_in_turn}
use Rattle.eds_types.specs.Fields.{has_value}
use Rattle.eds_types.specs.Seeking.{seek}

module _ (y i : ℕ) where
  -- what comes after the lists that were passed
  abbrev pub on : Result ℕ ℕ → (ℕ → Result ℕ ℕ) → Result ℕ ℕ
  on (Ok m) next = Ok m
  on (Err m) next = next m

  pub seek-append : (ps qs : List Placed) (n : ℕ) → seek (ps ++ qs) n y i ≡ on (seek ps n y i) (λ m. seek qs m y i)
  seek-append [] qs n = refl
  seek-append (p ∷ ps) qs n = go (has_value p.part) (p.container == y && p.place == i) (seek-append ps qs n) (seek-append ps qs (n + 1))
    where
      go : (b d : Bool) → seek (ps ++ qs) n y i ≡ on (seek ps n y i) (λ m. seek qs m y i) → seek (ps ++ qs) (n + 1) y i ≡ on (seek ps (n + 1) y i) (λ m. seek qs m y i)
          → (if b then (if d then Ok n else seek (ps ++ qs) (n + 1) y i) else seek (ps ++ qs) n y i) ≡ on (if b then (if d then Ok n else seek ps (n + 1) y i) else seek ps n y i) (λ m. seek qs m y i)
      go true true h k = refl
      go true false h k = k
      go false true h k = h
      go false false h k = h

  pub found : (ps qs : List Placed) (n m : ℕ) (total : Result ℕ ℕ) → Ok m ≡ seek ps n y i → seek (ps ++ qs) n y i ≡ total → Ok m ≡ total
  found ps qs n m total h inv = ap (λ r. on r (λ k. seek qs k y i)) h ∙ sym (seek-append ps qs n) ∙ inv

  pub passed : (ps qs : List Placed) (n m : ℕ) (total : Result ℕ ℕ) → Err m ≡ seek ps n y i → seek (ps ++ qs) n y i ≡ total → seek qs m y i ≡ total
  passed ps qs n m total h inv = ap (λ r. on r (λ k. seek qs k y i)) h ∙ sym (seek-append ps qs n) ∙ inv

pub along : (f : TypeId → List Placed) (ids : List TypeId) (i : ℕ) (d : TypeId) → i < length ids → flat_map f (drop i ids) ≡ f (get_or ids i d) ++ flat_map f (drop (i + 1) ids)
along f ids i d lt = let k : suc i ≡ i + 1 = omega arith in ap (flat_map f) (drop-cons ids i d lt ∙ ap (λ m. get_or ids i d ∷ drop m ids) k)

pub along_last : (f : TypeId → List Placed) (front : List TypeId) (d : TypeId) → flat_map f (reverse (front ++ d ∷ [])) ≡ f d ++ flat_map f (reverse front)
along_last f front d = ap (flat_map f) (reverse-append front (d ∷ []))

-- ---- a sequence

pub by_number : (f : ℕ → List Placed) (xs : List ℕ) → flat_map (λ (id : TypeId). f id.0) (map id_of xs) ≡ flat_map f xs
by_number f [] = refl
by_number f (x ∷ xs) = ap (λ b. f x ++ b) (by_number f xs)

pub reverse_map : (xs : List ℕ) → reverse (map id_of xs) ≡ map id_of (reverse xs)
reverse_map [] = refl
reverse_map (x ∷ xs) = reverse-append (id_of x ∷ []) (map id_of xs) ∙ ap (λ ys. ys ++ id_of x ∷ []) (reverse_map xs) ∙ sym (map-append id_of (reverse xs) (x ∷ [])) ∙ ap (map id_of) (sym (reverse-append (x ∷ []) xs))

pub entries_are : (t : Table) (k : ℕ) (ids : List TypeId) → ids ≡ map id_of (chain t k) → entries_in_turn t ids ≡ flat_map (placed_entries t) (chain t k)
entries_are t k ids e = ap (entries_in_turn t) e ∙ by_number (placed_entries t) (chain t k)

pub trailers_are : (t : Table) (k : ℕ) (ids : List TypeId) → ids ≡ map id_of (chain t k) → trailers_in_turn t (reverse ids) ≡ flat_map (placed_trailers t) (reverse (chain t k))
trailers_are t k ids e = ap (λ xs. trailers_in_turn t (reverse xs)) e ∙ ap (trailers_in_turn t) (reverse_map (chain t k)) ∙ by_number (placed_trailers t) (reverse (chain t k))

pub in_entries : (t : Table) (k y i m : ℕ) (ids : List TypeId) → ids ≡ map id_of (chain t k) → Ok m ≡ seek (entries_in_turn t ids) 0 y i → Ok m ≡ seek (sequence t k) 0 y i
in_entries t k y i m ids e h = found y i (flat_map (placed_entries t) (chain t k)) (flat_map (placed_trailers t) (reverse (chain t k))) 0 m _ (h ∙ ap (λ ps. seek ps 0 y i) (entries_are t k ids e)) refl

pub in_trailers : (t : Table) (k y i m : ℕ) (r : Result ℕ ℕ) (ids again : List TypeId) → ids ≡ map id_of (chain t k) → again ≡ map id_of (chain t k) → Err m ≡ seek (entries_in_turn t ids) 0 y i → r ≡ seek (trailers_in_turn t (reverse again)) m y i → r ≡ seek (sequence t k) 0 y i
in_trailers t k y i m r ids again e f h g = g ∙ ap (λ ps. seek ps m y i) (trailers_are t k again f) ∙ passed y i (flat_map (placed_entries t) (chain t k)) (flat_map (placed_trailers t) (reverse (chain t k))) 0 m _ (h ∙ ap (λ ps. seek ps 0 y i) (entries_are t k ids e)) refl

-- the last of a list
pub last_of : (f : TypeId → List Placed) (xs : List TypeId) (d : TypeId) → 0 < length xs → flat_map f (reverse xs) ≡ f (get_or xs (length xs - 1) d) ++ flat_map f (reverse (take (length xs - 1) xs))
last_of f xs d lt =
    let k : suc (length xs - 1) ≡ length xs = omega arith in
    ap (λ ys. flat_map f (reverse ys)) (sym (ap (λ n. take n xs) k ∙ take-length xs) ∙ take-suc xs (length xs - 1) d (omega arith)) ∙ along_last f (take (length xs - 1) xs) (get_or xs (length xs - 1) d)
