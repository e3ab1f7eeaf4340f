-- The least numbers of the sets of two containers are the least that all their constraints have.
use Rattle.std.proofs.Common.{◌≡◌, ◌∙◌, ℤ, ◌≤ℤ◌, List, [], ◌∷◌, ◌++◌, Option, Some, None, refl, sym, ap, subst, arith, inl, inr}
use Rattle.std.specs.Prelude.{IfSome, IfNone}
use Rattle.std.proofs.lemmas.Int.{ints}
use Rattle.eds_base.specs.declared.spans.Span.{Span}
use Rattle.eds_base.specs.Spans.{IsWithin}
use Rattle.eds_types.specs.declared.row.Constraint.{Constraint}
use Rattle.eds_types.specs.declared.sets.PathSet.{PathSet}
use Rattle.eds_types.specs.Rows.{Table}
use Rattle.eds_types.specs.Overlap.{IsSolution, IsConstrained}
use Rattle.eds_types.proofs.AllOf.{All-both, All-front, All-back, All-at}
use Rattle.eds_overlap.specs.Common.{least_of_sets, least_of_both}
use Rattle.eds_overlap.specs.LeastNumbers.{least_in_all, least_on}
use Rattle.eds_overlap.specs.Pairs.{Steps, IsSolved, AreSets, IsWithinOn, set_on}
use Rattle.eds_overlap.proofs.LeastInAll.{InAll, all_none, all_found, on_none as unsolved, on_found as solved}
use Rattle.eds_overlap.proofs.Meeting.{one_either, on_found, within_other, other_within, swap}
use Rattle.eds_overlap.proofs.Solutions.{on_none}

-- ---- numbers in two sets

-- the number is in each of the two sets that is there, and one is there
abbrev pub IsWithinBoth : Option (List Span) → Option (List Span) → ℤ → Type 0
IsWithinBoth None None n = ⊥
IsWithinBoth None (Some theirs) n = IsWithin theirs n
IsWithinBoth (Some ours) None n = IsWithin ours n
IsWithinBoth (Some ours) (Some theirs) n = IsWithin ours n × IsWithin theirs n

-- the number is in the set on the path in each of the lists that has one
abbrev pub IsInBoth : List PathSet → List PathSet → Steps → ℤ → Type 0
IsInBoth ours theirs path n = IsWithinBoth (set_on ours path) (set_on theirs path) n

-- ---- the least number of some sets

-- it is the least number of some kind, or there is none
pub record IsLeastOf (P : ℤ → Type 0) (o : Option ℤ) : Type 0 where
  pub is : IfSome o P
  pub least : IfSome o (λ n. (m : ℤ) → P m → n ≤ℤ m)
  pub none : IfNone o ((m : ℤ) → P m → ⊥)

-- there is only one
pub one_least : (P Q : ℤ → Type 0) (o p : Option ℤ) → IsLeastOf P o → IsLeastOf Q p → ((n : ℤ) → P n → Q n) → ((n : ℤ) → Q n → P n) → o ≡ p
one_least P Q None None h k to from = refl
one_least P Q None (Some m) h k to from = absurd (h.none m (from m k.is))
one_least P Q (Some n) None h k to from = absurd (k.none n (to n h.is))
one_least P Q (Some n) (Some m) h k to from =
    let below : n ≤ℤ m = h.least m (from m k.is) in
    let above : m ≤ℤ n = k.least n (to n h.is) in
    let same : n ≡ m = omega (arith, ints) in
    ap Some same

pub all_least : (set : List Span) (sets : List (List Span)) → IsLeastOf (InAll (set ∷ sets)) (least_in_all (set ∷ sets))
all_least set sets = go (least_in_all (set ∷ sets)) refl
  where
    go : (o : Option ℤ) → least_in_all (set ∷ sets) ≡ o → IsLeastOf (InAll (set ∷ sets)) o
    go None e = record { is = tt; least = tt; none = all_none set sets e }
    go (Some n) e = let f = all_found set sets n e in record { is = f.0; least = f.1; none = tt }

weaker : (o : Option ℤ) (P Q : ℤ → Type 0) → IsLeastOf P o → ((n : ℤ) → P n → Q n) → ((n : ℤ) → Q n → P n) → IsLeastOf Q o
weaker None P Q h to from = record { is = tt; least = tt; none = λ m q. h.none m (from m q) }
weaker (Some n) P Q h to from = record { is = to n h.is; least = λ m q. h.least m (from m q); none = tt }

pub both_least : (a b : Option (List Span)) → IsLeastOf (IsWithinBoth a b) (least_of_sets a b)
both_least None None = record { is = tt; least = tt; none = λ m h. h }
both_least None (Some theirs) = weaker (least_in_all (theirs ∷ [])) (InAll (theirs ∷ [])) (IsWithinBoth None (Some theirs)) (all_least theirs []) (λ n h. h.0) (λ n h. (h, tt))
both_least (Some ours) None = weaker (least_in_all (ours ∷ [])) (InAll (ours ∷ [])) (IsWithinBoth (Some ours) None) (all_least ours []) (λ n h. h.0) (λ n h. (h, tt))
both_least (Some ours) (Some theirs) = weaker (least_in_all (ours ∷ theirs ∷ [])) (InAll (ours ∷ theirs ∷ [])) (IsWithinBoth (Some ours) (Some theirs)) (all_least ours (theirs ∷ [])) (λ n h. (h.0, (h.1).0)) (λ n h. (h.0, (h.1, tt)))

-- ---- what the code finds of two sets

two_least : (set other : List Span) (o : Option ℤ) → IfSome o (λ n. IsWithin set n × IsWithin other n) → IfSome o (λ n. (m : ℤ) → IsWithin set m → IsWithin other m → n ≤ℤ m) → IfNone o ((m : ℤ) → IsWithin set m → IsWithin other m → ⊥)
    → IsLeastOf (λ n. IsWithin set n × IsWithin other n) o
two_least set other None is least none = record { is = tt; least = tt; none = λ m w. none m w.0 w.1 }
two_least set other (Some n) is least none = record { is = is; least = λ m w. least m w.0 w.1; none = tt }

pub by_two : (ours theirs : List PathSet) (path : Steps) (set other : List Span) (o : Option ℤ) → Some set ≡ set_on ours path → Some other ≡ set_on theirs path
    → IfSome o (λ n. IsWithin set n × IsWithin other n) → IfSome o (λ n. (m : ℤ) → IsWithin set m → IsWithin other m → n ≤ℤ m) → IfNone o ((m : ℤ) → IsWithin set m → IsWithin other m → ⊥) → o ≡ least_of_both ours theirs path
by_two ours theirs path set other o e f is least none =
    one_least (λ n. IsWithin set n × IsWithin other n) (IsWithinBoth (Some set) (Some other)) o (least_of_sets (Some set) (Some other)) (two_least set other o is least none) (both_least (Some set) (Some other)) (λ n h. h) (λ n h. h)
    ∙ ap (λ a. least_of_sets a (Some other)) e ∙ ap (least_of_sets (set_on ours path)) f

pub by_first : (ours theirs : List PathSet) (path : Steps) (set : List Span) (o : Option ℤ) → Some set ≡ set_on ours path → None ≡ set_on theirs path
    → IfSome o (λ n. IsWithin set n × IsWithin set n) → IfSome o (λ n. (m : ℤ) → IsWithin set m → IsWithin set m → n ≤ℤ m) → IfNone o ((m : ℤ) → IsWithin set m → IsWithin set m → ⊥) → o ≡ least_of_both ours theirs path
by_first ours theirs path set o e f is least none =
    one_least (λ n. IsWithin set n × IsWithin set n) (IsWithinBoth (Some set) None) o (least_of_sets (Some set) None) (two_least set set o is least none) (both_least (Some set) None) (λ n h. h.0) (λ n h. (h, h))
    ∙ ap (λ a. least_of_sets a None) e ∙ ap (least_of_sets (set_on ours path)) f

pub by_second : (ours theirs : List PathSet) (path : Steps) (set : List Span) (o : Option ℤ) → None ≡ set_on ours path → Some set ≡ set_on theirs path
    → IfSome o (λ n. IsWithin set n × IsWithin set n) → IfSome o (λ n. (m : ℤ) → IsWithin set m → IsWithin set m → n ≤ℤ m) → IfNone o ((m : ℤ) → IsWithin set m → IsWithin set m → ⊥) → o ≡ least_of_both ours theirs path
by_second ours theirs path set o e f is least none =
    one_least (λ n. IsWithin set n × IsWithin set n) (IsWithinBoth None (Some set)) o (least_of_sets None (Some set)) (two_least set set o is least none) (both_least None (Some set)) (λ n h. h.0) (λ n h. (h, h))
    ∙ ap (λ a. least_of_sets a (Some set)) e ∙ ap (least_of_sets (set_on ours path)) f

pub on_least : (t : Table) (cs : List Constraint) (path : Steps) → IsLeastOf (IsSolution t cs path) (least_on t cs path)
on_least t cs path = go (least_on t cs path) refl
  where
    go : (o : Option ℤ) → least_on t cs path ≡ o → IsLeastOf (IsSolution t cs path) o
    go None e = record { is = tt; least = tt; none = unsolved t cs path e }
    go (Some n) e = let f = solved t cs path n e in record { is = f.0; least = f.1; none = tt }

module _ (t : Table) (cs ds : List Constraint) (ours theirs : List PathSet) (are : AreSets t cs ours) (others : AreSets t ds theirs) where
  -- a number of one list's set, and of the other's where it has one, is a solution
  solves_one : (bs es : List Constraint) (some rest : List PathSet) → AreSets t bs some → AreSets t es rest → (path : Steps) (set : List Span) → set_on some path ≡ Some set → (n : ℤ) → IsWithin set n → IsWithinOn (set_on rest path) n
      → IsSolution t (bs ++ es) path n
  solves_one bs es some rest sets further path set e n w other =
      let k = on_found some path set e in
      let solved = All-at (IsSolved t bs) some k.0 k.1 sets.each in
      let sol = subst (λ p. IsSolution t bs p n) k.2 (solved.solves n (subst (λ s. IsWithin s n) (sym k.3) w)) in
      record { domain = sol.domain; constraints = All-both (λ c. c.path ≡ path → IsWithin c.set n) bs es sol.constraints (within_other t es rest path n further (set_on rest path) refl other) }

  pub from_both : (path : Steps) (n : ℤ) → IsInBoth ours theirs path n → IsSolution t (cs ++ ds) path n
  from_both path n w = go (set_on ours path) refl (set_on theirs path) refl w
    where
      go : (a : Option (List Span)) → set_on ours path ≡ a → (b : Option (List Span)) → set_on theirs path ≡ b → IsWithinBoth a b n → IsSolution t (cs ++ ds) path n
      go None e None f w = absurd w
      go None e (Some set) f w = swap t ds cs path n (solves_one ds cs theirs ours others are path set f n w (subst (λ o. IsWithinOn o n) (sym e) tt))
      go (Some set) e None f w = solves_one cs ds ours theirs are others path set e n w (subst (λ o. IsWithinOn o n) (sym f) tt)
      go (Some set) e (Some other) f w = solves_one cs ds ours theirs are others path set e n w.0 (subst (λ o. IsWithinOn o n) (sym f) w.1)

  pub to_both : (path : Steps) (n : ℤ) → IsConstrained (cs ++ ds) path → IsSolution t (cs ++ ds) path n → IsInBoth ours theirs path n
  to_both path n con s = go (set_on ours path) refl (set_on theirs path) refl
    where
      first : (a : Option (List Span)) → set_on ours path ≡ a → IsWithinOn a n
      first = other_within t cs ours path n are s.domain (All-front (λ c. c.path ≡ path → IsWithin c.set n) cs ds s.constraints)

      second : (b : Option (List Span)) → set_on theirs path ≡ b → IsWithinOn b n
      second = other_within t ds theirs path n others s.domain (All-back (λ c. c.path ≡ path → IsWithin c.set n) cs ds s.constraints)

      go : (a : Option (List Span)) → set_on ours path ≡ a → (b : Option (List Span)) → set_on theirs path ≡ b → IsWithinBoth a b n
      go None e None f = elim (one_either (λ (c : Constraint). c.path ≡ path) cs ds con) [ inl k ↦ absurd (on_none ours path e (are.all path k)) | inr k ↦ absurd (on_none theirs path f (others.all path k)) ]
      go None e (Some other) f = second (Some other) f
      go (Some set) e None f = first (Some set) e
      go (Some set) e (Some other) f = (first (Some set) e, second (Some other) f)

  -- on a path that some constraint is on, the sets leave the least number that all constraints leave
  pub same_least : (path : Steps) → IsConstrained (cs ++ ds) path → least_of_both ours theirs path ≡ least_on t (cs ++ ds) path
  same_least path con = one_least (IsInBoth ours theirs path) (IsSolution t (cs ++ ds) path) _ _ (both_least (set_on ours path) (set_on theirs path)) (on_least t (cs ++ ds) path) (from_both path) (λ n s. to_both path n con s)
