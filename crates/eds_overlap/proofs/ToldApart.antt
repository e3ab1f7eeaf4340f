-- Containers whose sets hold a path to different numbers don't overlap.
use Rattle.std.proofs.Common.{◌≡◌, ℕ, ℤ, ◌≤ℤ◌, Bool, true, false, cond, List, [], ◌∷◌, ◌++◌, Option, Some, None, refl, sym, ap, subst, ◌∙◌, append_assoc, arith, inl, inr}
use Rattle.std.specs.Prelude.{◌≢◌, ◌⊎◌, is_some}
use Rattle.std.specs.Ordering.{int_eq}
use Rattle.std.specs.List.{flat_map}
use Rattle.std.proofs.lemmas.Bool.{both_ways}
use Rattle.std.proofs.lemmas.Bool.Decides.{Decides-int_eq}
use Rattle.std.proofs.lemmas.Int.{ints}
use Rattle.std.proofs.lemmas.List.{append_cancel_left}
use Rattle.eds_base.specs.declared.spans.Span.{Span}
use Rattle.eds_base.specs.Spans.{IsWithin}
use Rattle.eds_bits.specs.Lists.{Has, HasOne}
use Rattle.eds_types.specs.declared.row.Constraint.{Constraint}
use Rattle.eds_types.specs.declared.sets.PathSet.{PathSet}
use Rattle.eds_types.specs.Fields.{StartsInEntries, constraints_along}
use Rattle.eds_types.specs.Overlap.{IsConstrained, Overlapping}
use Rattle.eds_types.specs.Rows.{Table, base_of, constraints_of, chain}
use Rattle.eds_types.specs.Rules.{KeepsRules, ConstraintKeeps}
use Rattle.eds_types.proofs.AllOf.{All-at}
use Rattle.eds_types.proofs.ChainLaws.{chain_step, under_is}
use Rattle.eds_types.proofs.RuleFacts.{table_of}
use Rattle.eds_overlap.specs.Index.{lone, lone_by, lone_on, before, marks_on}
use Rattle.eds_overlap.specs.Pairs.{Steps, AreSets, IsSolved, set_on}
use Rattle.eds_overlap.proofs.CommonNumbers.{to_both, IsWithinBoth}
use Rattle.eds_overlap.proofs.Meeting.{has_of_one, on_found, one_either}
use Rattle.eds_overlap.proofs.Solutions.{one_later}

-- ---- lone numbers

lone_is : (set : List Span) (n k : ℤ) → lone set ≡ Some n → IsWithin set k → k ≡ n
lone_is [] n k e w = absurd cc
lone_is (s ∷ []) n k e w = go (int_eq s.low s.high) refl e w
  where
    go : (b : Bool) → int_eq s.low s.high ≡ b → cond b (Some s.low) None ≡ Some n → IsWithin (s ∷ []) k → k ≡ n
    go true h e (inl l) =
        let same : s.low ≡ s.high = (Decides-int_eq s.low s.high).0 h in
        let at : s.low ≡ n = cc in
        let low : s.low ≤ℤ k = l.0 in
        let high : k ≤ℤ s.high = l.1 in
        omega (arith, ints)
    go true h e (inr l) = absurd l
    go false h e w = absurd cc
lone_is (s ∷ r ∷ set) n k e w = absurd cc

-- two lists of sets hold a path to different numbers
pub record Parts (ours theirs : List PathSet) : Type 0 where
  path : Steps
  one : ℤ
  other : ℤ
  ours_is : lone_on ours path ≡ Some one
  theirs_is : lone_on theirs path ≡ Some other
  differ : one ≢ other

first_of : (o : Option ℤ) (p : Option (List ℤ)) (ns : List ℤ) → before o p ≡ Some ns → (n : ℤ) × (more : List ℤ) × (o ≡ Some n) × (p ≡ Some more) × (ns ≡ n ∷ more)
first_of None p ns e = absurd cc
first_of (Some n) None ns e = absurd cc
first_of (Some n) (Some more) ns e = let q : ns ≡ n ∷ more = cc in (n, more, refl, refl, q)

parts_here : (s : PathSet) (model ours theirs : List PathSet) (ns ms more others : List ℤ) (n m : ℤ) → ((xs ys : List ℤ) → marks_on model ours ≡ Some xs → marks_on model theirs ≡ Some ys → xs ≢ ys → Parts ours theirs)
    → lone_on ours s.path ≡ Some n → lone_on theirs s.path ≡ Some m → marks_on model ours ≡ Some more → marks_on model theirs ≡ Some others → ns ≡ n ∷ more → ms ≡ m ∷ others → ns ≢ ms → Parts ours theirs
parts_here s model ours theirs ns ms more others n m ih x y u v i j ne = go (int_eq n m) refl
  where
    go : (b : Bool) → int_eq n m ≡ b → Parts ours theirs
    go true h = let same : n ≡ m = (Decides-int_eq n m).0 h in ih more others u v (λ q. ne (i ∙ ap (λ z. z ∷ more) same ∙ ap (λ r. m ∷ r) q ∙ sym j))
    go false h = record { path = s.path; one = n; other = m; ours_is = x; theirs_is = y; differ = λ q. both_ways (int_eq n m) h ((Decides-int_eq n m).1 q) }

pub parts_of : (model ours theirs : List PathSet) (ns ms : List ℤ) → marks_on model ours ≡ Some ns → marks_on model theirs ≡ Some ms → ns ≢ ms → Parts ours theirs
parts_of [] ours theirs ns ms e f ne = absurd (ne cc)
parts_of (s ∷ model) ours theirs ns ms e f ne = go (is_some (lone s.set)) e f (parts_of model ours theirs)
  where
    go : (b : Bool) → cond b (before (lone_on ours s.path) (marks_on model ours)) (marks_on model ours) ≡ Some ns → cond b (before (lone_on theirs s.path) (marks_on model theirs)) (marks_on model theirs) ≡ Some ms
        → ((xs ys : List ℤ) → marks_on model ours ≡ Some xs → marks_on model theirs ≡ Some ys → xs ≢ ys → Parts ours theirs) → Parts ours theirs
    go false e f ih = ih ns ms e f ne
    go true e f ih =
        let a = first_of (lone_on ours s.path) (marks_on model ours) ns e in
        let b = first_of (lone_on theirs s.path) (marks_on model theirs) ms f in
        parts_here s model ours theirs ns ms a.1 b.1 a.0 b.0 ih a.2 b.2 a.3 b.3 a.4 b.4 ne

some_set : (o : Option (List Span)) (n : ℤ) → lone_by o ≡ Some n → (set : List Span) × (o ≡ Some set) × (lone set ≡ Some n)
some_set None n e = absurd cc
some_set (Some set) n e = (set, refl, e)

-- ---- a path of both starts above their choice

one_flat : (f : ℕ → List Constraint) (P : Constraint → Type 0) (ys : List ℕ) → HasOne P (flat_map f ys) → (y : ℕ) × Has ys y × HasOne P (f y)
one_flat f P [] h = absurd h
one_flat f P (y ∷ ys) h = elim (one_either P (f y) (flat_map f ys) h) [
  | inl k ↦ (y, record { before = []; after = ys; is = refl }, k)
  | inr k ↦ (let r = one_flat f P ys k in (r.0, record { before = y ∷ (r.1).before; after = (r.1).after; is = ap (λ zs. y ∷ zs) (r.1).is }, r.2))
]

apart_at : (a b c d : List ℕ) (z o : ℕ) → a ++ z ∷ b ≡ c ++ o ∷ d → Has c z ⊎ ((ws : List ℕ) × (a ++ z ∷ [] ≡ c ++ o ∷ ws))
apart_at [] b [] d z o e = let q : z ≡ o = cc in inr ([], ap (λ y. y ∷ []) q)
apart_at (w ∷ a) b [] d z o e = let q : w ≡ o = cc in inr (a ++ z ∷ [], ap (λ y. y ∷ (a ++ z ∷ [])) q)
apart_at [] b (y ∷ c) d z o e = let q : y ≡ z = cc in inl (record { before = []; after = c; is = ap (λ x. x ∷ c) q })
apart_at (w ∷ a) b (y ∷ c) d z o e =
    let q : w ≡ y = cc in
    let r : a ++ z ∷ b ≡ c ++ o ∷ d = cc in
    elim (apart_at a b c d z o r) [
      | inl h ↦ inl (record { before = y ∷ h.before; after = h.after; is = ap (λ x. y ∷ x) h.is })
      | inr h ↦ inr (h.0, ap (λ x. x ∷ (a ++ z ∷ [])) q ∙ ap (λ x. y ∷ x) h.1)
    ]

heads_same : (c d e : List ℕ) (o q : ℕ) → c ++ o ∷ d ≡ c ++ q ∷ e → o ≡ q
heads_same c d e o q h = let k : (o ∷ d) ≡ (q ∷ e) = append_cancel_left c (o ∷ d) (q ∷ e) h in cc

module _ (t : Table) (keeps : KeepsRules t) where
  up_to : (k y base z : ℕ) → Has (chain t k) y → base_of t y ≡ Some base → Has (chain t base) z → Has (chain t k) z
  up_to k y base z has e h =
      let goes : chain t k ≡ chain t y ++ has.after = (under_is t (table_of t keeps) y k has.before has.after has.is).1 in
      let own : chain t y ≡ chain t base ++ y ∷ [] = chain_step t (table_of t keeps) y (Some base) e in
      record {
        before = h.before;
        after = h.after ++ y ∷ has.after;
        is = goes ∙ ap (λ c. c ++ has.after) own ∙ append_assoc (chain t base) (y ∷ []) has.after ∙ ap (λ c. c ++ y ∷ has.after) h.is ∙ append_assoc h.before (z ∷ h.after) (y ∷ has.after);
      }

  starts_along : (k : ℕ) (path : Steps) → IsConstrained (constraints_along t k) path → StartsInEntries t k path
  starts_along k path h = let y = one_flat (constraints_of t) (λ c. c.path ≡ path) (chain t k) h in by_base y.0 y.1 y.2 (base_of t y.0) refl
    where
      up : (y base : ℕ) → Has (chain t k) y → base_of t y ≡ Some base → (p : Steps) → StartsInEntries t base p → StartsInEntries t k p
      up y base has e [] s = s
      up y base has e (p ∷ ps) s = (up_to k y base (p.0).0 has e s.0, s.1)

      by_base : (y : ℕ) → Has (chain t k) y → HasOne (λ c. c.path ≡ path) (constraints_of t y) → (o : Option ℕ) → base_of t y ≡ o → StartsInEntries t k path
      by_base y has one None e = absurd (subst (HasOne (λ c. c.path ≡ path)) (keeps.root_constraints y e) one)
      by_base y has one (Some base) e =
          let c = has_of_one (λ (c : Constraint). c.path ≡ path) (constraints_of t y) one in
          let rule = All-at (ConstraintKeeps t base y) (constraints_of t y) c.0 c.1 (keeps.constraints y base e) in
          up y base has e path (subst (StartsInEntries t base) c.2 rule.starts)

  starts_below : (Used : ℕ → Type 0) (x k l : ℕ) (path : Steps) → Overlapping t Used x k l → StartsInEntries t k path → StartsInEntries t l path → StartsInEntries t x path
  starts_below Used x k l [] o s r = s
  starts_below Used x k l (p ∷ path) o s r = (both (apart_at s.0.before s.0.after (chain t x) (o.to_first).0 z o.one (sym s.0.is ∙ (o.to_first).1)) (apart_at r.0.before r.0.after (chain t x) (o.to_second).0 z o.other (sym r.0.is ∙ (o.to_second).1)), s.1)
    where
      z : ℕ
      z = (p.0).0

      both : Has (chain t x) z ⊎ ((ws : List ℕ) × (s.0.before ++ z ∷ [] ≡ chain t x ++ o.one ∷ ws)) → Has (chain t x) z ⊎ ((ws : List ℕ) × (r.0.before ++ z ∷ [] ≡ chain t x ++ o.other ∷ ws)) → Has (chain t x) z
      both (inl h) second = h
      both (inr h) (inl g) = g
      both (inr h) (inr g) =
          let own : chain t z ≡ s.0.before ++ z ∷ [] = (under_is t (table_of t keeps) z k s.0.before s.0.after s.0.is).0 in
          let same : chain t z ≡ r.0.before ++ z ∷ [] = (under_is t (table_of t keeps) z l r.0.before r.0.after r.0.is).0 in
          absurd (o.differ (heads_same (chain t x) h.0 g.0 o.one o.other (sym h.1 ∙ sym own ∙ same ∙ g.1)))

  pub parts_apart : (Used : ℕ → Type 0) (k l : ℕ) (ours theirs : List PathSet) → AreSets t (constraints_along t k) ours → AreSets t (constraints_along t l) theirs → Parts ours theirs → (x : ℕ) → Overlapping t Used x k l → ⊥
  parts_apart Used k l ours theirs are others p x o =
      let a = some_set (set_on ours p.path) p.one p.ours_is in
      let b = some_set (set_on theirs p.path) p.other p.theirs_is in
      let first = on_constraint (constraints_along t k) ours are a.0 a.1 in
      let second = on_constraint (constraints_along t l) theirs others b.0 b.1 in
      let con = one_later (λ (c : Constraint). c.path ≡ p.path) (constraints_along t k) (constraints_along t l) first in
      let found = o.common p.path (starts_below Used x k l p.path o (starts_along k p.path first) (starts_along l p.path second)) con in
      let w = to_both t (constraints_along t k) (constraints_along t l) ours theirs are others p.path found.0 con found.1 in
      let v = subst (λ c. IsWithinBoth (Some a.0) c found.0) b.1 (subst (λ c. IsWithinBoth c (set_on theirs p.path) found.0) a.1 w) in
      p.differ (sym (lone_is a.0 p.one found.0 a.2 v.0) ∙ lone_is b.0 p.other found.0 b.2 v.1)
    where
      on_constraint : (cs : List Constraint) (sets : List PathSet) → AreSets t cs sets → (set : List Span) → set_on sets p.path ≡ Some set → IsConstrained cs p.path
      on_constraint cs sets own set e = let s = on_found sets p.path set e in subst (IsConstrained cs) s.2 (All-at (IsSolved t cs) sets s.0 s.1 own.each).constrained
