-- What holds of each item of a list, and how many items pass a test.
use Rattle.std.proofs.Common.{◌≡◌, ℕ, ◌+◌, Bool, true, false, List, [], ◌∷◌, ◌++◌, Some, slice_get, take, count_by, ap, ◌∙◌}
use Rattle.std.specs.List.{All}
use Rattle.std.proofs.lemmas.List.Elements.{All-push}
use Rattle.std.proofs.lemmas.List.Sums.{count_by_more_yes, count_by_more_no}
use Rattle.std.proofs.lemmas.Option.{slice_get_within, get_or_from_slice_get}

-- holds still where an item of which it holds is put last
pub all_pushed : {X : Type 0} (P : X → Type 0) (xs : List X) (x : X) → All P xs → P x → All P (xs ++ x ∷ [])
all_pushed P xs x h k = All-push P xs x h k

-- one more of the first items, where the next one passes
pub counted_more : {X : Type 0} (p : X → Bool) (xs : List X) (i : ℕ) (x : X) → slice_get xs i ≡ Some x → p x ≡ true → count_by p (take (i + 1) xs) ≡ count_by p (take i xs) + 1
counted_more p xs i x e passes = count_by_more_yes p xs i x (slice_get_within xs i x e) (ap p (get_or_from_slice_get xs i x x e) ∙ passes)

-- as many as before, where it doesn't
pub counted_as_before : {X : Type 0} (p : X → Bool) (xs : List X) (i : ℕ) (x : X) → slice_get xs i ≡ Some x → p x ≡ false → count_by p (take (i + 1) xs) ≡ count_by p (take i xs)
counted_as_before p xs i x e fails = count_by_more_no p xs i x (slice_get_within xs i x e) (ap p (get_or_from_slice_get xs i x x e) ∙ fails)
