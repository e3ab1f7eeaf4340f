-- The least break, one constraint and one container at a time.
use Rattle.std.proofs.Common.{◌≡◌, ℕ, suc, ◌+◌, ◌-◌, ◌<◌, List, map, drop, get_or, length, Option, refl, sym, ap, ◌∙◌, arith, drop-cons, add-one}
use Rattle.std.specs.List.{flat_map, range_with_len}
use Rattle.eds_base.specs.declared.refusal.Refusal.{Refusal}
use Rattle.eds_base.specs.Refusals.{first_of, least}
use Rattle.eds_base.proofs.LeastLaws.{least-append, first_assoc}

-- `found` stands for what came before, `x` is the element at i
pub least-next_mapped : {X Y : Type 0} (f : Y → List Refusal) (g : X → Y) (xs : List X) (i : ℕ) (x : X) (found here next : Option Refusal) (whole : Option Refusal)
    → i < length xs → here ≡ least (f (g (get_or xs i x))) → next ≡ first_of found here → first_of found (least (flat_map f (map g (drop i xs)))) ≡ whole
    → first_of next (least (flat_map f (map g (drop (i + 1) xs)))) ≡ whole
least-next_mapped f g xs i x found here next whole lt h n e =
    let this : least (flat_map f (map g (drop i xs))) ≡ first_of here (least (flat_map f (map g (drop (i + 1) xs)))) =
    ap (λ ys. least (flat_map f (map g ys))) (drop-cons xs i x lt) ∙ least-append (f (g (get_or xs i x))) _ ∙ rw (add-one, ← h) refl in
    rw n (first_assoc found here (least (flat_map f (map g (drop (i + 1) xs)))) ∙ ap (first_of found) (sym this) ∙ e)

-- the same over numbers
pub least-next_number : (f : ℕ → List Refusal) (i n : ℕ) (found here next : Option Refusal) (whole : Option Refusal)
    → i < n → here ≡ least (f i) → next ≡ first_of found here → first_of found (least (flat_map f (range_with_len i (n - i)))) ≡ whole
    → first_of next (least (flat_map f (range_with_len (i + 1) (n - (i + 1))))) ≡ whole
least-next_number f i n found here next whole lt h m e =
    let step : n - i ≡ suc (n - (i + 1)) = omega arith in
    let this : least (flat_map f (range_with_len i (n - i))) ≡ first_of here (least (flat_map f (range_with_len (i + 1) (n - (i + 1))))) =
    ap (λ k. least (flat_map f (range_with_len i k))) step ∙ least-append (f i) (flat_map f (range_with_len (i + 1) (n - (i + 1)))) ∙ rw (← h) refl in
    rw m (first_assoc found here (least (flat_map f (range_with_len (i + 1) (n - (i + 1))))) ∙ ap (first_of found) (sym this) ∙ e)
