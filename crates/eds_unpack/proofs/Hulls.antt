-- Hulls of the numbers that the members of a family allow, and stretches made of them.
use Rattle.std.proofs.Common.{◌≡◌, ℕ, zero, suc, ◌+◌, ◌<◌, ◌≤◌, ℤ, pos, ◌+ℤ◌, ◌≤ℤ◌, List, [], ◌∷◌, ◌++◌, length, get_or, drop, refl, sym, ap, subst, append-nil, append_assoc, arith, inl, inr}
use Rattle.std.specs.List.{AllByRecursion, flat_map}
use Rattle.std.specs.Int.{int_max, int_min}
use Rattle.std.proofs.lemmas.Int.{ints, clamps}
use Rattle.std.proofs.lemmas.List.{drop_all, drop_more}
use mir.Syntax.{w128}
use mir.Val.{SFits, to_z, of_z}
use Rattle.eds_base.specs.declared.ids.TypeId.{TypeId}
use Rattle.eds_base.specs.declared.spans.Span.{Span}
use Rattle.eds_base.specs.Spans.{IsWithin, RisesFrom}
use Rattle.eds_bits.specs.Lists.{Has}
use Rattle.eds_types.specs.Rows.{numbers_of}
use Rattle.eds_types.proofs.AllOf.{All-front, All-back}
use Rattle.eds_unpack.specs.declared.selector.Hull.{Hull}
use Rattle.eds_unpack.specs.Selectors.{Keeps, members_of}

-- ---- the ends of a set

above_floor : (f : ℤ) (xs : List Span) (n : ℤ) → RisesFrom f xs → IsWithin xs n → f ≤ℤ n
above_floor f [] n r h = absurd h
above_floor f (s ∷ rest) n r (inl h) = omega (arith, ints)
above_floor f (s ∷ rest) n r (inr h) = let e = above_floor (s.high +ℤ pos 2) rest n r.3 h in omega (arith, ints)

-- no number lies below the first interval
pub above_first : (f : ℤ) (xs : List Span) (d : Span) (n : ℤ) → 1 ≤ length xs → RisesFrom f xs → IsWithin xs n → (get_or xs 0 d).low ≤ℤ n
above_first f [] d n some r h = absurd h
above_first f (s ∷ rest) d n some r (inl h) = h.0
above_first f (s ∷ rest) d n some r (inr h) = let e = above_floor (s.high +ℤ pos 2) rest n r.3 h in omega (arith, ints)

at_floor : (f : ℤ) (xs : List Span) (k : ℕ) (d : Span) → k < length xs → RisesFrom f xs → f ≤ℤ (get_or xs k d).high
at_floor f [] k d lt r = absurd (omega (arith, lt))
at_floor f (s ∷ rest) zero d lt r = omega (arith, ints)
at_floor f (s ∷ rest) (suc k) d lt r = let e = at_floor (s.high +ℤ pos 2) rest k d (omega (arith, lt)) r.3 in omega (arith, ints)

-- nor above the last one
pub below_last : (f : ℤ) (xs : List Span) (k : ℕ) (d : Span) (n : ℤ) → k + 1 ≡ length xs → RisesFrom f xs → IsWithin xs n → n ≤ℤ (get_or xs k d).high
below_last f [] k d n last r h = absurd h
below_last f (s ∷ rest) zero d n last r (inl h) = h.1
below_last f (s ∷ []) zero d n last r (inr h) = absurd h
below_last f (s ∷ y ∷ rest) zero d n last r (inr h) = absurd (omega (arith, last))
below_last f (s ∷ rest) (suc k) d n last r (inl h) = let e = at_floor (s.high +ℤ pos 2) rest k d (omega (arith, last)) r.3 in omega (arith, ints)
below_last f (s ∷ rest) (suc k) d n last r (inr h) = below_last (s.high +ℤ pos 2) rest k d n (omega (arith, last)) r.3 h

-- ---- the greater and the lesser of two numbers

pub greater_reached : (a b m n : ℤ) → SFits w128 a → SFits w128 b → m ≡ int_max (to_z w128 (of_z w128 a)) (to_z w128 (of_z w128 b)) → a ≤ℤ n → b ≤ℤ n → to_z w128 (of_z w128 m) ≤ℤ n
greater_reached a b m n f g e h k = omega (arith, ints, clamps)

pub lesser_reached : (a b m n : ℤ) → SFits w128 a → SFits w128 b → m ≡ int_min (to_z w128 (of_z w128 a)) (to_z w128 (of_z w128 b)) → n ≤ℤ a → n ≤ℤ b → n ≤ℤ to_z w128 (of_z w128 m)
lesser_reached a b m n f g e h k = omega (arith, ints, clamps)

-- ---- containers in turn

-- what holds of all that some types have holds of what one of them has
pub theirs_at : {A : Type 0} (P : A → Type 0) (f : ℕ → List A) (ids : List TypeId) (i : ℕ) (d : TypeId) → i < length ids → AllByRecursion P (flat_map f (numbers_of ids)) → AllByRecursion P (f (get_or ids i d).0)
theirs_at P f [] i d lt h = absurd (omega (arith, lt))
theirs_at P f (id ∷ ids) zero d lt h = All-front P (f id.0) (flat_map f (numbers_of ids)) h
theirs_at P f (id ∷ ids) (suc i) d lt h = theirs_at P f ids i d (omega (arith, lt)) (All-back P (f id.0) (flat_map f (numbers_of ids)) h)

-- what is at a place of a list stands in it
pub stands_at : {A : Type 0} (xs : List A) (i : ℕ) (d : A) → i < length xs → Has xs (get_or xs i d)
stands_at [] i d lt = absurd (omega (arith, lt))
stands_at (x ∷ xs) zero d lt = record { before = []; after = xs; is = refl }
stands_at (x ∷ xs) (suc i) d lt =
    let h = stands_at xs i d (omega (arith, lt)) in
    record { before = x ∷ h.before; after = h.after; is = ap (λ ys. x ∷ ys) h.is }

-- ---- what is left of the members

-- those that are kept behind a place, so that all are that are kept
abbrev pub KeepsBehind : (TypeId → Type 0) → List Hull → ℕ → List TypeId → Type 0
KeepsBehind P hulls i left = (rest : List TypeId) → Keeps P (members_of (drop i hulls)) rest → Keeps P (members_of hulls) (left ++ rest)

-- one more is kept
pub one_kept : (P : TypeId → Type 0) (hulls : List Hull) (i : ℕ) (d : Hull) (left : List TypeId) → i < length hulls → KeepsBehind P hulls i left → KeepsBehind P hulls (i + 1) (left ++ (get_or hulls i d).member ∷ [])
one_kept P hulls i d left lt k rest h =
    let id = (get_or hulls i d).member in
    let here : Keeps P (members_of (drop i hulls)) (id ∷ rest) = subst (λ hs. Keeps P (members_of hs) (id ∷ rest)) (sym (drop_more hulls i d lt)) (inl (rest, refl, h)) in
    subst (Keeps P (members_of hulls)) (sym (append_assoc left (id ∷ []) rest)) (k (id ∷ rest) here)

-- one more is passed over
pub one_passed : (P : TypeId → Type 0) (hulls : List Hull) (i : ℕ) (d : Hull) (left : List TypeId) → i < length hulls → (P (get_or hulls i d).member → ⊥) → KeepsBehind P hulls i left → KeepsBehind P hulls (i + 1) left
one_passed P hulls i d left lt never k rest h = k rest (subst (λ hs. Keeps P (members_of hs) rest) (sym (drop_more hulls i d lt)) (inr (never, h)))

-- where all were looked at
pub all_kept : (P : TypeId → Type 0) (hulls : List Hull) (i : ℕ) (left : List TypeId) → length hulls ≤ i → KeepsBehind P hulls i left → Keeps P (members_of hulls) left
all_kept P hulls i left end k = subst (Keeps P (members_of hulls)) (append-nil left) (k [] (subst (λ hs. Keeps P (members_of hs) []) (sym (drop_all i hulls end)) refl))
