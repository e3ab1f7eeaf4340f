-- The common numbers that are gathered path by path are those that are worked out.
use Rattle.std.proofs.Common.{◌≡◌, ℕ, ◌<◌, ◌+◌, length, get_or, drop, Bool, true, false, cond, List, [], ◌∷◌, ◌++◌, map, Option, Some, None, refl, sym, ap, subst, ◌∙◌, append_assoc, append-nil, inl, inr}
use Rattle.std.specs.Prelude.{ℤ, filter, flat_map, fold, not, ◌⊎◌}
use Rattle.std.specs.List.{AllByRecursion}
use Rattle.std.proofs.lemmas.Bool.{both_ways}
use Rattle.std.proofs.lemmas.Grind.{flat_map-append}
use Rattle.std.proofs.lemmas.List.{drop_more}
use Rattle.std.proofs.lemmas.List.Elements.{filter-append}
use Rattle.eds_base.specs.declared.ids.TypeId.{TypeId}
use Rattle.eds_bits.specs.Lists.{HasOne}
use Rattle.eds_types.specs.declared.row.Constraint.{Constraint}
use Rattle.eds_types.specs.declared.sets.PathSet.{PathSet}
use Rattle.eds_types.specs.Fields.{constraints_along}
use Rattle.eds_types.specs.Overlap.{IsConstrained}
use Rattle.eds_types.specs.Reading.{starts_above}
use Rattle.eds_types.specs.Rows.{Table, constraints_of}
use Rattle.eds_overlap.specs.declared.common.Common.{Common}
use Rattle.eds_overlap.specs.Common.{IsOn, is_on, each_once, numbered, put_in_order, sorted_by_text, put_found, with_path, with_paths, least_of_both, constraints_of_both, common_of}
use Rattle.eds_overlap.specs.LeastNumbers.{least_on}
use Rattle.eds_overlap.specs.Pairs.{Steps, AreSets, constraints_among, same_path}
use Rattle.eds_overlap.proofs.CommonNumbers.{same_least}
use Rattle.eds_overlap.proofs.Gathering.{is_on-one, one-is_on, sorted_to, sorted_new}
use Rattle.eds_overlap.proofs.Meeting.{one_before}
use Rattle.eds_overlap.proofs.Solutions.{same_is, same_not}

pub fold-append : {A B : Type 0} (f : B → A → B) (b : B) (xs ys : List A) → fold f b (xs ++ ys) ≡ fold f (fold f b xs) ys
fold-append f b [] ys = refl
fold-append f b (x ∷ xs) ys = fold-append f (f b x) xs ys

-- ---- paths, each once

abbrev pub Among : List Steps → Steps → Type 0
Among paths p = HasOne (λ q. q ≡ p) paths

-- a path stands among some, or it doesn't
pub either_way : (paths : List Steps) (p : Steps) → Among paths p ⊎ (Among paths p → ⊥)
either_way [] p = inr (λ h. h)
either_way (q ∷ paths) p = go (same_path q p) refl (either_way paths p)
  where
    go : (b : Bool) → same_path q p ≡ b → Among paths p ⊎ (Among paths p → ⊥) → Among (q ∷ paths) p ⊎ (Among (q ∷ paths) p → ⊥)
    go true e ih = inl (inl (same_is q p e))
    go false e (inl h) = inl (inr h)
    go false e (inr h) = inr (λ k. elim k [ inl m ↦ same_not q p e m | inr m ↦ h m ])

abbrev others : Steps → List Steps → List Steps
others p paths = filter (λ q. not (same_path p q)) paths

-- a further path that is not among them stands last
pub once_new : (paths : List Steps) (p : Steps) → (Among paths p → ⊥) → each_once (paths ++ p ∷ []) ≡ each_once paths ++ p ∷ []
once_new [] p new = refl
once_new (q ∷ paths) p new =
    ap (λ ps. q ∷ others q ps) (once_new paths p (λ h. new (inr h)))
    ∙ ap (λ ps. q ∷ ps) (filter-append (λ r. not (same_path q r)) (each_once paths) (p ∷ []) ∙ go (same_path q p) refl)
  where
    go : (b : Bool) → same_path q p ≡ b → others q (each_once paths) ++ cond (not b) (p ∷ []) [] ≡ others q (each_once paths) ++ p ∷ []
    go true e = absurd (new (inl (same_is q p e)))
    go false e = refl

-- one that is among them changes nothing
pub once_old : (paths : List Steps) (p : Steps) → Among paths p → each_once (paths ++ p ∷ []) ≡ each_once paths
once_old [] p h = absurd h
once_old (q ∷ paths) p h = elim (either_way paths p) [ inl k ↦ ap (λ ps. q ∷ others q ps) (once_old paths p k) | inr k ↦ first k h ]
  where
    dropped : (b : Bool) → same_path q p ≡ b → q ≡ p → others q (each_once paths) ++ cond (not b) (p ∷ []) [] ≡ others q (each_once paths)
    dropped true e m = append-nil (others q (each_once paths))
    dropped false e m = absurd (same_not q p e m)

    first : (Among paths p → ⊥) → Among (q ∷ paths) p → each_once ((q ∷ paths) ++ p ∷ []) ≡ each_once (q ∷ paths)
    first k (inl m) =
        ap (λ ps. q ∷ others q ps) (once_new paths p k)
        ∙ ap (λ ps. q ∷ ps) (filter-append (λ r. not (same_path q r)) (each_once paths) (p ∷ []) ∙ dropped (same_path q p) refl m)
    first k (inr m) = absurd (k m)

-- what stands in a part of a list
pub from_part : (test : Steps → Bool) (paths : List Steps) (p : Steps) → Among (filter test paths) p → Among paths p × (test p ≡ true)
from_part test [] p h = absurd h
from_part test (q ∷ paths) p h = go (test q) refl h (from_part test paths p)
  where
    go : (b : Bool) → test q ≡ b → Among (cond b (q ∷ filter test paths) (filter test paths)) p → (Among (filter test paths) p → Among paths p × (test p ≡ true)) → Among (q ∷ paths) p × (test p ≡ true)
    go true e (inl k) ih = (inl k, ap test (sym k) ∙ e)
    go true e (inr k) ih = let r = ih k in (inr r.0, r.1)
    go false e k ih = let r = ih k in (inr r.0, r.1)

pub in_part : (test : Steps → Bool) (paths : List Steps) (p : Steps) → Among paths p → test p ≡ true → Among (filter test paths) p
in_part test [] p h e = absurd h
in_part test (q ∷ paths) p h e = go (test q) refl h (λ k. in_part test paths p k e)
  where
    go : (b : Bool) → test q ≡ b → Among (q ∷ paths) p → (Among paths p → Among (filter test paths) p) → Among (cond b (q ∷ filter test paths) (filter test paths)) p
    go true f (inl k) ih = inl k
    go true f (inr k) ih = inr (ih k)
    go false f (inl k) ih = absurd (both_ways (test q) f (ap test k ∙ e))
    go false f (inr k) ih = ih k

pub once_from : (paths : List Steps) (p : Steps) → Among (each_once paths) p → Among paths p
once_from [] p h = h
once_from (q ∷ paths) p (inl h) = inl h
once_from (q ∷ paths) p (inr h) = inr (once_from paths p (from_part (λ r. not (same_path q r)) (each_once paths) p h).0)

pub once_in : (paths : List Steps) (p : Steps) → Among paths p → Among (each_once paths) p
once_in [] p h = h
once_in (q ∷ paths) p h = go (same_path q p) refl h (once_in paths p)
  where
    go : (b : Bool) → same_path q p ≡ b → Among (q ∷ paths) p → (Among paths p → Among (each_once paths) p) → Among (each_once (q ∷ paths)) p
    go true e k ih = inl (same_is q p e)
    go false e (inl k) ih = inl k
    go false e (inr k) ih = inr (in_part (λ r. not (same_path q r)) (each_once paths) p (ih k) (ap not e))

-- ---- the numbers on some paths

module _ (t : Table) (x : ℕ) (least : Steps → Option ℤ) where
  -- the numbers on those paths that start above the choice at x
  abbrev pub numbers_on : List Steps → List Common
  numbers_on paths = flat_map (λ p. numbered p (least p)) (filter (starts_above t x) paths)

  pub on_judged : (paths : List Steps) (p : Steps) → IsOn (flat_map (λ q. numbered q (least q)) paths) p → Among paths p
  on_judged [] p h = absurd h
  on_judged (q ∷ paths) p h = go (least q) h (on_judged paths p)
    where
      go : (o : Option ℤ) → IsOn (numbered q o ++ flat_map (λ r. numbered r (least r)) paths) p → (IsOn (flat_map (λ r. numbered r (least r)) paths) p → Among paths p) → Among (q ∷ paths) p
      go None k ih = inr (ih k)
      go (Some n) (inl k) ih = inl k
      go (Some n) (inr k) ih = inr (ih k)

  pub judged_on : (paths : List Steps) (p : Steps) (n : ℤ) → Among paths p → least p ≡ Some n → IsOn (flat_map (λ q. numbered q (least q)) paths) p
  judged_on [] p n h e = absurd h
  judged_on (q ∷ paths) p n (inl h) e = subst (λ o. IsOn (numbered q o ++ flat_map (λ r. numbered r (least r)) paths) p) (sym (ap least h ∙ e)) (inl h)
  judged_on (q ∷ paths) p n (inr h) e = one_before (λ (c : Common). c.path ≡ p) (numbered q (least q)) (flat_map (λ r. numbered r (least r)) paths) (judged_on paths p n h e)

  -- ---- one path after another

  abbrev gathered : List Steps → List Common
  gathered paths = sorted_by_text t (numbers_on (each_once paths))

  gathered_on : (paths : List Steps) (p : Steps) → IsOn (gathered paths) p → Among paths p
  gathered_on paths p h =
      elim (sorted_to t [] (numbers_on (each_once paths)) p h) [
        | inl k ↦ absurd k
        | inr k ↦ once_from paths p (from_part (starts_above t x) (each_once paths) p (on_judged (filter (starts_above t x) (each_once paths)) p k)).0
      ]

  on_gathered : (paths : List Steps) (p : Steps) (n : ℤ) → Among paths p → starts_above t x p ≡ true → least p ≡ Some n → IsOn (gathered paths) p
  on_gathered paths p n h st e =
      sorted_new t [] (numbers_on (each_once paths)) p (judged_on (filter (starts_above t x) (each_once paths)) p n (in_part (starts_above t x) (each_once paths) p (once_in paths p h) st) e)

  -- numbers of one path more
  numbers_more : (paths : List Steps) (p : Steps) → numbers_on (paths ++ p ∷ []) ≡ numbers_on paths ++ numbers_on (p ∷ [])
  numbers_more paths p = ap (flat_map (λ q. numbered q (least q))) (filter-append (starts_above t x) paths (p ∷ [])) ∙ flat_map-append (λ q. numbered q (least q)) (filter (starts_above t x) paths) (filter (starts_above t x) (p ∷ []))

  further : (paths : List Steps) (p : Steps) → (Among paths p → ⊥) → gathered (paths ++ p ∷ []) ≡ fold (put_in_order t) (gathered paths) (numbers_on (p ∷ []))
  further paths p new = ap (λ ps. sorted_by_text t (numbers_on ps)) (once_new paths p new) ∙ ap (sorted_by_text t) (numbers_more (each_once paths) p) ∙ fold-append (put_in_order t) [] (numbers_on (each_once paths)) (numbers_on (p ∷ []))

  repeated : (paths : List Steps) (p : Steps) → Among paths p → gathered (paths ++ p ∷ []) ≡ gathered paths
  repeated paths p h = ap (λ ps. sorted_by_text t (numbers_on ps)) (once_old paths p h)

  one_more : (paths : List Steps) (p : Steps) → with_path t x least (gathered paths) p ≡ gathered (paths ++ p ∷ [])
  one_more paths p = elim (either_way paths p) [ inl h ↦ old h (starts_above t x p) refl ∙ sym (repeated paths p h) | inr h ↦ fresh h (starts_above t x p) refl ∙ sym (further paths p h) ]
    where
      none : (o : Option ℤ) → least p ≡ o → Among paths p → starts_above t x p ≡ true → is_on (gathered paths) p ≡ false → put_found t (gathered paths) p o ≡ gathered paths
      none None e h st off = refl
      none (Some n) e h st off = absurd (both_ways (is_on (gathered paths) p) off (one-is_on (gathered paths) p (on_gathered paths p n h st e)))

      there : (b : Bool) → is_on (gathered paths) p ≡ b → Among paths p → starts_above t x p ≡ true → cond b (gathered paths) (put_found t (gathered paths) p (least p)) ≡ gathered paths
      there true e h st = refl
      there false e h st = none (least p) refl h st e

      old : Among paths p → (b : Bool) → starts_above t x p ≡ b → cond b (cond (is_on (gathered paths) p) (gathered paths) (put_found t (gathered paths) p (least p))) (gathered paths) ≡ gathered paths
      old h true st = there (is_on (gathered paths) p) refl h st
      old h false st = refl

      put : (o : Option ℤ) → put_found t (gathered paths) p o ≡ fold (put_in_order t) (gathered paths) (numbered p o ++ [])
      put None = refl
      put (Some n) = refl

      off : (Among paths p → ⊥) → (b : Bool) → is_on (gathered paths) p ≡ b → cond b (gathered paths) (put_found t (gathered paths) p (least p)) ≡ fold (put_in_order t) (gathered paths) (numbered p (least p) ++ [])
      off new true e = absurd (new (gathered_on paths p (is_on-one (gathered paths) p e)))
      off new false e = put (least p)

      fresh : (Among paths p → ⊥) → (b : Bool) → starts_above t x p ≡ b
          → cond b (cond (is_on (gathered paths) p) (gathered paths) (put_found t (gathered paths) p (least p))) (gathered paths)
          ≡ fold (put_in_order t) (gathered paths) (flat_map (λ q. numbered q (least q)) (cond b (p ∷ []) []))
      fresh new true st = off new (is_on (gathered paths) p) refl
      fresh new false st = refl

  gathered_all : (done : List Steps) (cs : List Constraint) → with_paths t x least (gathered done) cs ≡ gathered (done ++ map (λ (c : Constraint). c.path) cs)
  gathered_all done [] = ap gathered (sym (append-nil done))
  gathered_all done (c ∷ cs) =
      ap (λ common. with_paths t x least common cs) (one_more done c.path)
      ∙ gathered_all (done ++ c.path ∷ []) cs
      ∙ ap gathered (append_assoc done (c.path ∷ []) (map (λ (d : Constraint). d.path) cs))

-- ---- the constraints of some types

-- those of one type more
pub among_next : (t : Table) (x : ℕ) (least : Steps → Option ℤ) (ids : List TypeId) (i : ℕ) (d : TypeId) (own : List Constraint) (mid new whole : List Common) → i < length ids → own ≡ constraints_of t (get_or ids i d).0 → new ≡ with_paths t x least mid own
    → with_paths t x least mid (constraints_among t (drop i ids)) ≡ whole → with_paths t x least new (constraints_among t (drop (i + 1) ids)) ≡ whole
among_next t x least ids i d own mid new whole l is added all =
    let left : List Constraint = constraints_among t (drop (i + 1) ids) in
    ap (λ common. with_paths t x least common left) (added ∙ ap (with_paths t x least mid) is)
    ∙ sym (fold-append (λ old (c : Constraint). with_path t x least old c.path) mid (constraints_of t (get_or ids i d).0) left)
    ∙ ap (λ rest. with_paths t x least mid (constraints_among t rest)) (sym (drop_more ids i d l))
    ∙ all

-- ---- by the sets of two containers

same_by : (t : Table) (x : ℕ) (f g : Steps → Option ℤ) (old : List Common) (cs : List Constraint) → AllByRecursion (λ c. f c.path ≡ g c.path) cs → with_paths t x f old cs ≡ with_paths t x g old cs
same_by t x f g old [] h = refl
same_by t x f g old (c ∷ cs) h =
    ap (λ common. with_paths t x f common cs) (ap (λ o. cond (starts_above t x c.path) (cond (is_on old c.path) old (put_found t old c.path o)) old) h.0)
    ∙ same_by t x f g (with_path t x g old c.path) cs h.1

each_constrained : (P : Steps → Type 0) (all : List Constraint) → ((path : Steps) → IsConstrained all path → P path) → (done cs : List Constraint) → all ≡ done ++ cs → AllByRecursion (λ c. P c.path) cs
each_constrained P all h done [] e = tt
each_constrained P all h done (c ∷ cs) e = (
  h c.path (subst (λ xs. IsConstrained xs c.path) (sym e) (one_before (λ (d : Constraint). d.path ≡ c.path) done (c ∷ cs) (inl refl))),
  each_constrained P all h (done ++ c ∷ []) cs (e ∙ sym (append_assoc done (c ∷ []) cs)),
)

pub common_found : (t : Table) (x k l : ℕ) (ours theirs : List PathSet) → AreSets t (constraints_along t k) ours → AreSets t (constraints_along t l) theirs
    → with_paths t x (least_of_both ours theirs) (with_paths t x (least_of_both ours theirs) [] (constraints_along t k)) (constraints_along t l) ≡ common_of t x k l
common_found t x k l ours theirs are others =
    let both : List Constraint = constraints_of_both t k l in
    sym (fold-append (λ old (c : Constraint). with_path t x (least_of_both ours theirs) old c.path) [] (constraints_along t k) (constraints_along t l))
    ∙ same_by t x (least_of_both ours theirs) (least_on t both) [] both
    (each_constrained (λ path. least_of_both ours theirs path ≡ least_on t both path) both (same_least t (constraints_along t k) (constraints_along t l) ours theirs are others) [] both refl)
    ∙ gathered_all t x (least_on t both) [] both
