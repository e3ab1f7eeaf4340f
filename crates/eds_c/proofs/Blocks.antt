-- Things that stand in a block one after another.
use Rattle.std.proofs.Common.{◌≡◌, ◌<◌, ◌≤◌, ℕ, zero, suc, List, [], ◌∷◌, ◌++◌, length, Option, Some, None, refl, sym, ap, ◌∙◌, arith, append-nil, append_assoc}
use Rattle.std.specs.Option.{option_map}
use Rattle.eds_base.specs.Reading.{◌>>=◌}
use Rattle.eds_c.specs.Blocks.{Got, many}

-- these things are done, and the rest of the block is not
pub record Goes {A : Type 0} (first : List ℕ → Option (Got A)) (block : List ℕ) (done : List A) (rest : List ℕ) : Type 0 where
  pub left : ℕ
  pub within : length rest ≤ left
  pub same : many first (length block) block ≡ option_map (λ items. done ++ items) (many first left rest)

none_more : {A : Type 0} (r : Option (List A)) → r ≡ option_map (λ items. [] ++ items) r
none_more None = refl
none_more (Some items) = refl

one_more : {A : Type 0} (done : List A) (item : A) (r : Option (List A))
    → option_map (λ items. done ++ items) (option_map (λ items. item ∷ items) r) ≡ option_map (λ items. (done ++ item ∷ []) ++ items) r
one_more done item None = refl
one_more done item (Some items) = ap Some (sym (append_assoc done (item ∷ []) items))

pub goes-start : {A : Type 0} (first : List ℕ → Option (Got A)) (block : List ℕ) → Goes first block [] block
goes-start first block = record { left = length block; within = omega arith; same = none_more (many first (length block) block) }

-- one thing more
more : {A : Type 0} (first : List ℕ → Option (Got A)) (left : ℕ) (rest : List ℕ) (got : Got A) → length rest ≤ left → first rest ≡ Some got → length got.rest < length rest
    → (m : ℕ) × (length got.rest ≤ m) × (many first left rest ≡ option_map (λ items. got.item ∷ items) (many first m got.rest))
more first left [] got within is shorter = absurd (omega (arith, shorter))
more first zero (x ∷ xs) got within is shorter = absurd (omega (arith, within))
more first (suc left) (x ∷ xs) got within is shorter = (left, omega (arith, within, shorter), rw is refl)

pub goes-on : {A : Type 0} (first : List ℕ → Option (Got A)) (block : List ℕ) (done : List A) (rest : List ℕ) (got : Got A)
    → Goes first block done rest → first rest ≡ Some got → length got.rest < length rest → Goes first block (done ++ got.item ∷ []) got.rest
goes-on first block done rest got goes is shorter =
    let next = more first goes.left rest got goes.within is shorter in
    record {
      left = next.0;
      within = next.1;
      same = goes.same ∙ ap (λ r. option_map (λ items. done ++ items) r) next.2 ∙ one_more done got.item (many first next.0 got.rest);
    }

no_thing : {A : Type 0} (first : List ℕ → Option (Got A)) (left x : ℕ) (xs : List ℕ) → first (x ∷ xs) ≡ None → many first left (x ∷ xs) ≡ None
no_thing first zero x xs is = refl
no_thing first (suc left) x xs is = rw is refl

no_more : {A : Type 0} (first : List ℕ → Option (Got A)) (left : ℕ) → many first left [] ≡ Some []
no_more first zero = refl
no_more first (suc left) = refl

-- no thing stands there
pub goes-off : {A : Type 0} (first : List ℕ → Option (Got A)) (block : List ℕ) (done : List A) (rest : List ℕ)
    → Goes first block done rest → (length rest ≡ 0 → ⊥) → first rest ≡ None → many first (length block) block ≡ None
goes-off first block done [] goes some is = absurd (some refl)
goes-off first block done (x ∷ xs) goes some is = goes.same ∙ ap (λ r. option_map (λ items. done ++ items) r) (no_thing first goes.left x xs is)

-- nothing is left
pub goes-end : {A : Type 0} (first : List ℕ → Option (Got A)) (block : List ℕ) (done : List A) (rest : List ℕ)
    → Goes first block done rest → length rest ≡ 0 → many first (length block) block ≡ Some done
goes-end first block done [] goes none = goes.same ∙ ap (λ r. option_map (λ items. done ++ items) r) (no_more first goes.left) ∙ ap Some (append-nil done)
goes-end first block done (x ∷ xs) goes none = absurd (omega (arith, none))
