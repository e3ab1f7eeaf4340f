-- Sets of whole numbers, as intervals: what one more interval does to them, and a walk over two of them.
use Rattle.std.proofs.Common.{◌≡◌, true, false, ℕ, zero, suc, ◌+◌, ◌<◌, ◌≤◌, ℤ, pos, ◌+ℤ◌, ◌≤ℤ◌, ◌<ℤ◌, ◌⊎◌, inl, inr, List, [], ◌∷◌, ◌++◌, length, get_or, take, drop, ◌-◌, add-one, length-drop, length-take, refl, ap, arith}
use Rattle.std.proofs.Math.ListN.{set}
use Rattle.std.specs.Int.Signed.{≤ℤ_refl}
use Rattle.std.proofs.lemmas.Int.{ints, clamps, by_lt_z}
use Rattle.std.specs.Int.{int_max, int_min}
use lib.Signed.{lt_z, le_z}
use Rattle.std.proofs.lemmas.List.{take_all}
use mir.Syntax.{w128}
use mir.Val.{SFits, to_z, of_z}
use Rattle.eds_base.specs.declared.spans.Span.{Span}
use Rattle.eds_base.specs.Spans.{Lies, IsWithin, RisesFrom, Rises, Takes, bottom, top}

-- ---- the intervals from a floor on

pub rises_lower : (f g : ℤ) (xs : List Span) → f ≤ℤ g → RisesFrom g xs → RisesFrom f xs
rises_lower f g [] h r = tt
rises_lower f g (s ∷ rest) h r = (omega (arith, ints), r.1, r.2, r.3)

pub rises_tail : (f : ℤ) (s : Span) (rest : List Span) → RisesFrom f (s ∷ rest) → RisesFrom f rest
rises_tail f s rest r = rises_lower f (s.high +ℤ pos 2) rest (omega (arith, ints)) r.3

-- no number lies below the floor
pub within_floor : (f : ℤ) (xs : List Span) (n : ℤ) → RisesFrom f xs → IsWithin xs n → f ≤ℤ n
within_floor f [] n r h = absurd h
within_floor f (s ∷ rest) n r (inl h) = omega (arith, ints)
within_floor f (s ∷ rest) n r (inr h) = let e = within_floor (s.high +ℤ pos 2) rest n r.3 h in omega (arith, ints)

-- nor above the greatest number
pub within_top : (f : ℤ) (xs : List Span) (n : ℤ) → RisesFrom f xs → IsWithin xs n → n ≤ℤ top
within_top f [] n r h = absurd h
within_top f (s ∷ rest) n r (inl h) = omega (arith, ints)
within_top f (s ∷ rest) n r (inr h) = within_top (s.high +ℤ pos 2) rest n r.3 h

-- the least number is the first interval's
pub first_low : (f : ℤ) (s : Span) (rest : List Span) (n : ℤ) → RisesFrom f (s ∷ rest) → IsWithin (s ∷ rest) n → s.low ≤ℤ n
first_low f s rest n r (inl h) = h.0
first_low f s rest n r (inr h) = let e = within_floor (s.high +ℤ pos 2) rest n r.3 h in omega (arith, ints)

-- the later intervals lie above the first
pub after_first : (f : ℤ) (s : Span) (rest : List Span) (n : ℤ) → RisesFrom f (s ∷ rest) → IsWithin rest n → s.high <ℤ n
after_first f s rest n r h = let e = within_floor (s.high +ℤ pos 2) rest n r.3 h in omega (arith, ints)

-- ---- one more interval

pub within-append : (xs : List Span) (s : Span) (n : ℤ) → IsWithin xs n → IsWithin (xs ++ s ∷ []) n
within-append [] s n h = absurd h
within-append (x ∷ rest) s n (inl h) = inl h
within-append (x ∷ rest) s n (inr h) = inr (within-append rest s n h)

pub within-append_last : (xs : List Span) (s : Span) (n : ℤ) → Lies s n → IsWithin (xs ++ s ∷ []) n
within-append_last [] s n h = inl h
within-append_last (x ∷ rest) s n h = inr (within-append_last rest s n h)

pub append-within : (xs : List Span) (s : Span) (n : ℤ) → IsWithin (xs ++ s ∷ []) n → IsWithin xs n ⊎ Lies s n
append-within [] s n (inl h) = inr h
append-within [] s n (inr h) = absurd h
append-within (x ∷ rest) s n (inl h) = inl (inl h)
append-within (x ∷ rest) s n (inr h) = elim (append-within rest s n h) [ inl a ↦ inl (inr a) | inr b ↦ inr b ]

-- the last interval doesn't end right before the number
abbrev pub EndsApart : List Span → ℤ → Type 0
EndsApart xs low = (k : ℕ) (d : Span) → length xs ≡ suc k → ((get_or xs k d).high +ℤ pos 1) ≡ low → ⊥

-- a number above another, and not right above it
apart_by : (a b : ℤ) → a <ℤ b → ((a +ℤ pos 1) ≡ b → ⊥) → (a +ℤ pos 2) ≤ℤ b
apart_by a b h k = omega (arith, ints)

pub rises-append : (f : ℤ) (xs : List Span) (s : Span) → RisesFrom f xs → ((n : ℤ) → IsWithin xs n → n <ℤ s.low) → EndsApart xs s.low → f ≤ℤ s.low → s.low ≤ℤ s.high → s.high ≤ℤ top → RisesFrom f (xs ++ s ∷ [])
rises-append f [] s r above apart low some high = (low, some, high, tt)
rises-append f (x ∷ []) s r above apart low some high =
    let e = above x.high (inl (r.1, ≤ℤ_refl x.high)) in
    let differ : (x.high +ℤ pos 1) ≡ s.low → ⊥ = apart zero x refl in
    (r.0, r.1, r.2, (apart_by x.high s.low e differ, some, high, tt))
rises-append f (x ∷ y ∷ rest) s r above apart low some high =
    let e = above y.high (inr (inl (r.3.1, ≤ℤ_refl y.high))) in
    let deeper = rises-append (x.high +ℤ pos 2) (y ∷ rest) s r.3 (λ n h. above n (inr h)) (λ k d h. apart (suc k) d (ap suc h)) (omega (arith, ints)) some high in
    (r.0, r.1, r.2, deeper)

-- ---- the last interval made longer

-- the intervals, whose last x, at place k, now ends at the number
abbrev pub longer : List Span → ℕ → Span → ℤ → List Span
longer xs k x high = set xs k record { low = x.low; high = high }

pub longer_rises : (f : ℤ) (xs : List Span) (k : ℕ) (x : Span) (high : ℤ) → length xs ≡ suc k → x ≡ get_or xs k x → RisesFrom f xs → x.high ≤ℤ high → high ≤ℤ top → RisesFrom f (longer xs k x high)
longer_rises f [] k x high len is r up below = absurd (omega (arith, len))
longer_rises f (s ∷ []) zero x high len is r up below =
    let low : x.low ≡ s.low = ap (λ (v : Span). v.low) is in
    let end : x.high ≡ s.high = ap (λ (v : Span). v.high) is in
    (omega (arith, ints), omega (arith, ints), below, tt)
longer_rises f (s ∷ []) (suc k) x high len is r up below = absurd (omega (arith, len))
longer_rises f (s ∷ y ∷ rest) zero x high len is r up below = absurd (omega (arith, len))
longer_rises f (s ∷ y ∷ rest) (suc k) x high len is r up below = (r.0, r.1, r.2, longer_rises (s.high +ℤ pos 2) (y ∷ rest) k x high (omega (arith, len)) is r.3 up below)

-- its numbers: those that were there
pub within-longer : (f : ℤ) (xs : List Span) (k : ℕ) (x : Span) (high n : ℤ) → length xs ≡ suc k → x ≡ get_or xs k x → x.high ≤ℤ high → IsWithin xs n → IsWithin (longer xs k x high) n
within-longer f [] k x high n len is up h = absurd h
within-longer f (s ∷ []) zero x high n len is up (inl h) =
    let low : x.low ≡ s.low = ap (λ (v : Span). v.low) is in
    let end : x.high ≡ s.high = ap (λ (v : Span). v.high) is in
    inl (omega (arith, ints), omega (arith, ints))
within-longer f (s ∷ []) zero x high n len is up (inr h) = absurd h
within-longer f (s ∷ []) (suc k) x high n len is up h = absurd (omega (arith, len))
within-longer f (s ∷ y ∷ rest) zero x high n len is up h = absurd (omega (arith, len))
within-longer f (s ∷ y ∷ rest) (suc k) x high n len is up (inl h) = inl h
within-longer f (s ∷ y ∷ rest) (suc k) x high n len is up (inr h) = inr (within-longer (s.high +ℤ pos 2) (y ∷ rest) k x high n (omega (arith, len)) is up h)

-- and those up to the new end
pub within-longer_last : (xs : List Span) (k : ℕ) (x : Span) (high n : ℤ) → length xs ≡ suc k → x.low ≤ℤ n → n ≤ℤ high → IsWithin (longer xs k x high) n
within-longer_last [] k x high n len low up = absurd (omega (arith, len))
within-longer_last (s ∷ rest) zero x high n len low up = inl (low, up)
within-longer_last (s ∷ rest) (suc k) x high n len low up = inr (within-longer_last rest k x high n (omega (arith, len)) low up)

-- and no others
pub longer-within : (xs : List Span) (k : ℕ) (x : Span) (high n : ℤ) → length xs ≡ suc k → x ≡ get_or xs k x → IsWithin (longer xs k x high) n → IsWithin xs n ⊎ ((x.high <ℤ n) × (n ≤ℤ high))
longer-within [] k x high n len is h = absurd (omega (arith, len))
longer-within (s ∷ rest) zero x high n len is (inl h) =
    let low : x.low ≡ s.low = ap (λ (v : Span). v.low) is in
    let end : x.high ≡ s.high = ap (λ (v : Span). v.high) is in
    by_lt_z x.high n (λ over. inr (over, h.1)) (λ under. inl (inl (omega (arith, ints), omega (arith, ints))))
longer-within (s ∷ rest) zero x high n len is (inr h) = inl (inr h)
longer-within (s ∷ rest) (suc k) x high n len is (inl h) = inl (inl h)
longer-within (s ∷ rest) (suc k) x high n len is (inr h) = elim (longer-within rest k x high n (omega (arith, len)) is h) [ inl a ↦ inl (inr a) | inr b ↦ inr b ]

-- the last interval holds its end
pub last_within : (f : ℤ) (xs : List Span) (k : ℕ) (x : Span) → length xs ≡ suc k → x ≡ get_or xs k x → RisesFrom f xs → IsWithin xs x.high
last_within f [] k x len is r = absurd (omega (arith, len))
last_within f (s ∷ rest) zero x len is r =
    let end : x.high ≡ s.high = ap (λ (v : Span). v.high) is in
    inl (omega (arith, ints), omega (arith, ints))
last_within f (s ∷ rest) (suc k) x len is r = inr (last_within (s.high +ℤ pos 2) rest k x (omega (arith, len)) is r.3)

pub last_low : (f : ℤ) (xs : List Span) (k : ℕ) (x : Span) → length xs ≡ suc k → x ≡ get_or xs k x → RisesFrom f xs → x.low ≤ℤ x.high
last_low f [] k x len is r = absurd (omega (arith, len))
last_low f (s ∷ rest) zero x len is r =
    let low : x.low ≡ s.low = ap (λ (v : Span). v.low) is in
    let end : x.high ≡ s.high = ap (λ (v : Span). v.high) is in
    omega (arith, ints)
last_low f (s ∷ rest) (suc k) x len is r = last_low (s.high +ℤ pos 2) rest k x (omega (arith, len)) is r.3

-- ---- a walk over two sets

-- what is left of two sets, where the numbers before it that both have are those of the third
pub record Walks (mine yours both ours theirs : List Span) : Type 0 where
  pub ours_rise : Rises ours
  pub theirs_rise : Rises theirs
  pub ours_in : (n : ℤ) → IsWithin ours n → IsWithin mine n
  pub theirs_in : (n : ℤ) → IsWithin theirs n → IsWithin yours n
  pub both_in : (n : ℤ) → IsWithin both n → IsWithin mine n × IsWithin yours n
  pub below : (n m : ℤ) → IsWithin both n → IsWithin ours m → IsWithin theirs m → n <ℤ m
  pub all : (n : ℤ) → IsWithin mine n → IsWithin yours n → IsWithin both n ⊎ (IsWithin ours n × IsWithin theirs n)

pub walk_start : (mine yours : List Span) → Rises mine → Rises yours → Walks mine yours [] mine yours
walk_start mine yours r q = record {
  ours_rise = r;
  theirs_rise = q;
  ours_in = λ n h. h;
  theirs_in = λ n h. h;
  both_in = λ n h. absurd h;
  below = λ n m h a b. absurd h;
  all = λ n a b. inr (a, b);
}

-- past the first interval of ours, where it ends first
pub walk_ours : (mine yours both more : List Span) (s t : Span) (ours theirs : List Span) → Walks mine yours both (s ∷ ours) (t ∷ theirs) → s.high ≤ℤ t.high → Takes s t both more → Walks mine yours more ours (t ∷ theirs)
walk_ours mine yours both more s t ours theirs w first takes = record {
  ours_rise = rises_tail bottom s ours w.ours_rise;
  theirs_rise = w.theirs_rise;
  ours_in = λ n h. w.ours_in n (inr h);
  theirs_in = w.theirs_in;
  both_in = λ n h. elim (takes.no_others n h) [ inl a ↦ w.both_in n a | inr b ↦ (w.ours_in n (inl b.0), w.theirs_in n (inl b.1)) ];
  below = λ n m h a b. elim (takes.no_others n h) [
    | inl c ↦ w.below n m c (inr a) b
    | inr d ↦ let e = after_first bottom s ours m w.ours_rise a in omega (arith, ints)
  ];
  all = λ n a b. elim (w.all n a b) [
    | inl c ↦ inl (takes.kept n c)
    | inr d ↦ in_ours n d.0 d.1
  ];
}
  where
    in_theirs : (n : ℤ) → Lies s n → IsWithin (t ∷ theirs) n → IsWithin more n ⊎ (IsWithin ours n × IsWithin (t ∷ theirs) n)
    in_theirs n a (inl b) = inl (takes.added n a b)
    in_theirs n a (inr b) = let e = after_first bottom t theirs n w.theirs_rise b in absurd (omega (arith, ints))

    in_ours : (n : ℤ) → IsWithin (s ∷ ours) n → IsWithin (t ∷ theirs) n → IsWithin more n ⊎ (IsWithin ours n × IsWithin (t ∷ theirs) n)
    in_ours n (inl a) b = in_theirs n a b
    in_ours n (inr a) b = inr (a, b)

-- past the first interval of theirs, where it ends first
pub walk_theirs : (mine yours both more : List Span) (s t : Span) (ours theirs : List Span) → Walks mine yours both (s ∷ ours) (t ∷ theirs) → t.high ≤ℤ s.high → Takes s t both more → Walks mine yours more (s ∷ ours) theirs
walk_theirs mine yours both more s t ours theirs w first takes = record {
  ours_rise = w.ours_rise;
  theirs_rise = rises_tail bottom t theirs w.theirs_rise;
  ours_in = w.ours_in;
  theirs_in = λ n h. w.theirs_in n (inr h);
  both_in = λ n h. elim (takes.no_others n h) [ inl a ↦ w.both_in n a | inr b ↦ (w.ours_in n (inl b.0), w.theirs_in n (inl b.1)) ];
  below = λ n m h a b. elim (takes.no_others n h) [
    | inl c ↦ w.below n m c a (inr b)
    | inr d ↦ let e = after_first bottom t theirs m w.theirs_rise b in omega (arith, ints)
  ];
  all = λ n a b. elim (w.all n a b) [
    | inl c ↦ inl (takes.kept n c)
    | inr d ↦ in_theirs n d.0 d.1
  ];
}
  where
    in_ours : (n : ℤ) → IsWithin (s ∷ ours) n → Lies t n → IsWithin more n ⊎ (IsWithin (s ∷ ours) n × IsWithin theirs n)
    in_ours n (inl a) b = inl (takes.added n a b)
    in_ours n (inr a) b = let e = after_first bottom s ours n w.ours_rise a in absurd (omega (arith, ints))

    in_theirs : (n : ℤ) → IsWithin (s ∷ ours) n → IsWithin (t ∷ theirs) n → IsWithin more n ⊎ (IsWithin (s ∷ ours) n × IsWithin theirs n)
    in_theirs n a (inl b) = in_ours n a b
    in_theirs n a (inr b) = inr (a, b)

-- two intervals with no number in common bring nothing
pub takes_nothing : (s t : Span) (both : List Span) → ((n : ℤ) → Lies s n → Lies t n → ⊥) → Takes s t both both
takes_nothing s t both none = record {
  kept = λ n h. h;
  added = λ n a b. absurd (none n a b);
  no_others = λ n h. inl h;
}

-- ---- numbers of 128 bits

-- one more than the end is the number, as the code tests it
pub follows_by_test : (a b : ℤ) → bottom ≤ℤ a → a ≤ℤ top → SFits w128 b → of_z w128 (to_z w128 (of_z w128 a) +ℤ pos 1) ≡ of_z w128 b → (a +ℤ pos 1) ≡ b
follows_by_test a b low high fits test = omega (arith, ints)

pub test_by_follows : (a b : ℤ) → bottom ≤ℤ a → a ≤ℤ top → (a +ℤ pos 1) ≡ b → of_z w128 (to_z w128 (of_z w128 a) +ℤ pos 1) ≡ of_z w128 b
test_by_follows a b low high e = let f : (to_z w128 (of_z w128 a) +ℤ pos 1) ≡ b = omega (arith, ints) in ap (of_z w128) f

-- ---- the walk over slices

-- the rest of a slice after its first item
pub after_one : (xs : List Span) → take (length xs - 1) (drop 1 xs) ≡ drop 1 xs
after_one [] = refl
after_one (x ∷ xs) = take_all (length (x ∷ xs) - 1) xs (omega arith)

pub walk_on_ours : (mine yours both more ours theirs : List Span) (d e : Span) → Walks mine yours both ours theirs → 1 ≤ length ours → 1 ≤ length theirs → (get_or ours 0 d).high ≤ℤ (get_or theirs 0 e).high → Takes (get_or ours 0 d) (get_or theirs 0 e) both more → Walks mine yours more (take (length ours - 1) (drop 1 ours)) theirs
walk_on_ours mine yours both more [] theirs d e w some others first takes = absurd (omega arith)
walk_on_ours mine yours both more (s ∷ ours) [] d e w some others first takes = absurd (omega arith)
walk_on_ours mine yours both more (s ∷ ours) (t ∷ theirs) d e w some others first takes = rw (after_one (s ∷ ours)) (walk_ours mine yours both more s t ours theirs w first takes)

pub walk_on_theirs : (mine yours both more ours theirs : List Span) (d e : Span) → Walks mine yours both ours theirs → 1 ≤ length ours → 1 ≤ length theirs → (get_or theirs 0 e).high ≤ℤ (get_or ours 0 d).high → Takes (get_or ours 0 d) (get_or theirs 0 e) both more → Walks mine yours more ours (take (length theirs - 1) (drop 1 theirs))
walk_on_theirs mine yours both more [] theirs d e w some others first takes = absurd (omega arith)
walk_on_theirs mine yours both more (s ∷ ours) [] d e w some others first takes = absurd (omega arith)
walk_on_theirs mine yours both more (s ∷ ours) (t ∷ theirs) d e w some others first takes = rw (after_one (t ∷ theirs)) (walk_theirs mine yours both more s t ours theirs w first takes)

-- the first intervals' common numbers are common to both sets, and none is less
pub first_in_both : (mine yours both ours theirs : List Span) (d e : Span) (n : ℤ) → Walks mine yours both ours theirs → 1 ≤ length ours → 1 ≤ length theirs → Lies (get_or ours 0 d) n → Lies (get_or theirs 0 e) n → IsWithin mine n × IsWithin yours n
first_in_both mine yours both [] theirs d e n w some others a b = absurd (omega arith)
first_in_both mine yours both (s ∷ ours) [] d e n w some others a b = absurd (omega arith)
first_in_both mine yours both (s ∷ ours) (t ∷ theirs) d e n w some others a b = (w.ours_in n (inl a), w.theirs_in n (inl b))

pub none_before : (mine yours ours theirs : List Span) (d e : Span) (n : ℤ) → Walks mine yours [] ours theirs → 1 ≤ length ours → 1 ≤ length theirs → IsWithin mine n → IsWithin yours n → ((get_or ours 0 d).low ≤ℤ n) × ((get_or theirs 0 e).low ≤ℤ n)
none_before mine yours [] theirs d e n w some others a b = absurd (omega arith)
none_before mine yours (s ∷ ours) [] d e n w some others a b = absurd (omega arith)
none_before mine yours (s ∷ ours) (t ∷ theirs) d e n w some others a b = elim (w.all n a b) [ inl h ↦ absurd h | inr h ↦ (first_low bottom s ours n w.ours_rise h.0, first_low bottom t theirs n w.theirs_rise h.1) ]

-- ---- comparisons as the code makes them

pub le_by_lt_test : (a b : ℤ) → SFits w128 a → SFits w128 b → lt_z (to_z w128 (of_z w128 a)) (to_z w128 (of_z w128 b)) ≡ true → a ≤ℤ b
le_by_lt_test a b f g test = grind (arith, ints)

pub ge_by_lt_test : (a b : ℤ) → SFits w128 a → SFits w128 b → lt_z (to_z w128 (of_z w128 a)) (to_z w128 (of_z w128 b)) ≡ false → b ≤ℤ a
ge_by_lt_test a b f g test = grind (arith, ints)

pub le_by_le_test : (a b : ℤ) → SFits w128 a → SFits w128 b → le_z (to_z w128 (of_z w128 a)) (to_z w128 (of_z w128 b)) ≡ true → a ≤ℤ b
le_by_le_test a b f g test = grind (arith, ints)

pub gt_by_le_test : (a b : ℤ) → SFits w128 a → SFits w128 b → le_z (to_z w128 (of_z w128 a)) (to_z w128 (of_z w128 b)) ≡ false → b <ℤ a
gt_by_le_test a b f g test = grind (arith, ints)

-- the greater of two numbers, as the code takes it, is at most a third one exactly where both are
pub max_bounds : (a b m : ℤ) → SFits w128 a → SFits w128 b → m ≡ int_max (to_z w128 (of_z w128 a)) (to_z w128 (of_z w128 b)) → (a ≤ℤ m) × (b ≤ℤ m) × ((n : ℤ) → a ≤ℤ n → b ≤ℤ n → m ≤ℤ n) × SFits w128 m
max_bounds a b m f g e = (omega (arith, ints, clamps), omega (arith, ints, clamps), λ n h k. omega (arith, ints, clamps), omega (arith, ints, clamps))

pub min_bounds : (a b m : ℤ) → SFits w128 a → SFits w128 b → m ≡ int_min (to_z w128 (of_z w128 a)) (to_z w128 (of_z w128 b)) → (m ≤ℤ a) × (m ≤ℤ b) × ((n : ℤ) → n ≤ℤ a → n ≤ℤ b → n ≤ℤ m) × SFits w128 m
min_bounds a b m f g e = (omega (arith, ints, clamps), omega (arith, ints, clamps), λ n h k. omega (arith, ints, clamps), omega (arith, ints, clamps))

-- where one of the intervals ends before the greater of their lows, they have no number in common
pub apart_takes : (s t : Span) (low : ℤ) (both : List Span) → ((n : ℤ) → s.low ≤ℤ n → t.low ≤ℤ n → low ≤ℤ n) → (s.high <ℤ low) ⊎ (t.high <ℤ low) → Takes s t both both
apart_takes s t low both least (inl before) = takes_nothing s t both (λ n a b. let from = least n a.0 b.0 in omega (arith, ints))
apart_takes s t low both least (inr before) = takes_nothing s t both (λ n a b. let from = least n a.0 b.0 in omega (arith, ints))

-- ---- a search by halves

-- an interval's end is in the set
pub at_within : (f : ℤ) (xs : List Span) (k : ℕ) (d : Span) → RisesFrom f xs → k < length xs → IsWithin xs (get_or xs k d).high
at_within f [] k d r h = absurd (omega (arith, h))
at_within f (s ∷ xs) zero d r h = inl (r.1, ≤ℤ_refl s.high)
at_within f (s ∷ xs) (suc k) d r h = inr (at_within (s.high +ℤ pos 2) xs k d r.3 (omega (arith, h)))

pub rises-take : (f : ℤ) (xs : List Span) (k : ℕ) → RisesFrom f xs → RisesFrom f (take k xs)
rises-take f [] zero r = tt
rises-take f [] (suc k) r = tt
rises-take f (s ∷ xs) zero r = tt
rises-take f (s ∷ xs) (suc k) r = (r.0, r.1, r.2, rises-take (s.high +ℤ pos 2) xs k r.3)

pub rises-drop : (f : ℤ) (xs : List Span) (k : ℕ) → RisesFrom f xs → RisesFrom f (drop k xs)
rises-drop f [] zero r = tt
rises-drop f [] (suc k) r = tt
rises-drop f (s ∷ xs) zero r = r
rises-drop f (s ∷ xs) (suc k) r = rises-drop f xs k (rises_tail f s xs r)

pub take-within : (xs : List Span) (k : ℕ) (n : ℤ) → IsWithin (take k xs) n → IsWithin xs n
take-within [] zero n h = h
take-within [] (suc k) n h = h
take-within (s ∷ xs) zero n h = absurd h
take-within (s ∷ xs) (suc k) n (inl h) = inl h
take-within (s ∷ xs) (suc k) n (inr h) = inr (take-within xs k n h)

pub drop-within : (xs : List Span) (k : ℕ) (n : ℤ) → IsWithin (drop k xs) n → IsWithin xs n
drop-within [] zero n h = h
drop-within [] (suc k) n h = h
drop-within (s ∷ xs) zero n h = h
drop-within (s ∷ xs) (suc k) n h = inr (drop-within xs k n h)

-- a number below an interval is in one before it, if in any
pub lower_half : (f : ℤ) (xs : List Span) (k : ℕ) (d : Span) (n : ℤ) → RisesFrom f xs → k < length xs → n <ℤ (get_or xs k d).low → IsWithin xs n → IsWithin (take k xs) n
lower_half f [] k d n r len low h = absurd h
lower_half f (s ∷ xs) zero d n r len low h = let e = first_low f s xs n r h in absurd (omega (arith, ints))
lower_half f (s ∷ xs) (suc k) d n r len low (inl h) = inl h
lower_half f (s ∷ xs) (suc k) d n r len low (inr h) = inr (lower_half (s.high +ℤ pos 2) xs k d n r.3 (omega (arith, len)) low h)

-- a number above an interval is in one after it, if in any
pub upper_half : (f : ℤ) (xs : List Span) (k : ℕ) (d : Span) (n : ℤ) → RisesFrom f xs → k < length xs → (get_or xs k d).high <ℤ n → IsWithin xs n → IsWithin (drop (suc k) xs) n
upper_half f [] k d n r len high h = absurd h
upper_half f (s ∷ xs) zero d n r len high (inl h) = absurd (omega (arith, ints))
upper_half f (s ∷ xs) zero d n r len high (inr h) = h
upper_half f (s ∷ xs) (suc k) d n r len high (inl h) =
    let e = after_first f s xs (get_or xs k d).high r (at_within (s.high +ℤ pos 2) xs k d r.3 (omega (arith, len))) in
    absurd (omega (arith, ints))
upper_half f (s ∷ xs) (suc k) d n r len high (inr h) = upper_half (s.high +ℤ pos 2) xs k d n r.3 (omega (arith, len)) high h

-- the numbers of an interval are in the set
pub in_middle : (xs : List Span) (k : ℕ) (d : Span) (n : ℤ) → k < length xs → Lies (get_or xs k d) n → IsWithin xs n
in_middle [] k d n len h = absurd (omega (arith, len))
in_middle (s ∷ xs) zero d n len h = inl h
in_middle (s ∷ xs) (suc k) d n len h = inr (in_middle xs k d n (omega (arith, len)) h)

-- what is left of a set rises, and has a number exactly where the set has it
pub record Narrows (set left : List Span) (n : ℤ) : Type 0 where
  pub fewer : length left ≤ length set
  pub rises : Rises left
  pub into : IsWithin left n → IsWithin set n
  pub onto : IsWithin set n → IsWithin left n

pub narrows_low : (set left : List Span) (k : ℕ) (d : Span) (n : ℤ) → Narrows set left n → k < length left → n <ℤ (get_or left k d).low → Narrows set (take k left) n
narrows_low set left k d n w len low = record {
  fewer = omega (arith, w.fewer, length-take k left);
  rises = rises-take bottom left k w.rises;
  into = λ h. w.into (take-within left k n h);
  onto = λ h. lower_half bottom left k d n w.rises len low (w.onto h);
}

pub narrows_high : (set left : List Span) (k : ℕ) (d : Span) (n : ℤ) → Narrows set left n → k < length left → (get_or left k d).high <ℤ n → Narrows set (take (length left - (k + 1)) (drop (k + 1) left)) n
narrows_high set left k d n w len high = rw (add-one, take_all (length left - suc k) (drop (suc k) left) (omega (arith, length-drop (suc k) left))) record {
  fewer = omega (arith, w.fewer, length-drop (suc k) left);
  rises = rises-drop bottom left (suc k) w.rises;
  into = λ h. w.into (drop-within left (suc k) n h);
  onto = λ h. upper_half bottom left k d n w.rises len high (w.onto h);
}

pub lt_by_lt_test : (a b : ℤ) → SFits w128 a → SFits w128 b → lt_z (to_z w128 (of_z w128 a)) (to_z w128 (of_z w128 b)) ≡ true → a <ℤ b
lt_by_lt_test a b f g test = grind (arith, ints)
