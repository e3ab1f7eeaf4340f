-- The slots of paths, and what they say of fields.
use Rattle.std.proofs.Common.{◌≡◌, ℕ, ◌<◌, ◌≤◌, ℤ, Bool, true, false, List, [], ◌∷◌, length, get_or, drop, Option, Some, None, Ok, Err, ◌⊎◌, inl, inr, refl, sym, ap, subst, ◌∙◌, eq-eqb, ◌+◌}
use Rattle.std.proofs.lemmas.Bool.{eqb-true}
use Rattle.std.proofs.lemmas.List.{drop_all, drop_more}
use Rattle.std.proofs.lemmas.Option.{slice_get_within}
use Rattle.std.specs.Prelude.{slice_get, unwrap_or, ◌==◌}
use Rattle.std.specs.List.{AllByRecursion}
use Rattle.eds_base.specs.declared.ids.TypeId.{TypeId}
use Rattle.eds_base.specs.declared.fault.Reason.TheVariants.{Constraint as Fails}
use Rattle.eds_bits.specs.Lists.{HasOne}
use Rattle.eds_types.specs.declared.row.Constraint.{Constraint}
use Rattle.eds_types.specs.Fields.{Field, number_on}
use Rattle.eds_types.specs.Failing.{fault_at, path_steps}
use Rattle.eds_types.specs.Reading.{number_within, holds, check_all}
use Rattle.eds_types.specs.Rows.{Table, id_of}
use Rattle.eds_unpack.proofs.Listing.{check_fails}
use Rattle.eds_unpack.specs.Index.{Among, BeginsIn}
use Rattle.eds_overlap.specs.Pairs.{Steps}
use Rattle.eds_unpack.specs.Noted.{IsNoted, IsNotedFor}

-- ---- one slot

-- what was found for a path is what stands in one of its slots
abbrev pub IsFound : List Steps → List (Option ℤ) → Steps → Option ℤ → Type 0
IsFound paths ns path o = Among paths path → (h : ℕ) × (slice_get paths h ≡ Some path) × (o ≡ unwrap_or (slice_get ns h) None)

-- it is the number that the fields have
pub found_number : (t : Table) (paths : List Steps) (ns : List (Option ℤ)) (fs : List Field) (path : Steps) (o : Option ℤ) → IsFound paths ns path o → Among paths path → IsNoted t paths ns fs path → o ≡ number_on t fs path
found_number t paths ns fs path o found among noted = let f = found among in f.2 ∙ ap (λ x. unwrap_or x None) (noted f.0 f.1)

-- so that it tells whether a constraint holds
pub found_holds : (t : Table) (paths : List Steps) (ns : List (Option ℤ)) (fs : List Field) (c : Constraint) (o : Option ℤ) → IsFound paths ns c.path o → IsNotedFor t paths ns fs c → number_within c.set o ≡ holds t fs c
found_holds t paths ns fs c o found noted = ap (number_within c.set) (found_number t paths ns fs c.path o found noted.0 noted.1)

-- ---- the slots of one field

-- of the paths that begin in the part at place i of the container y, those whose positions aren't left have their numbers
pub record AreNoted (paths : List Steps) (y : TypeId) (i : ℕ) (number : Option ℤ) (old new : List (Option ℤ)) (left : List ℕ) : Type 0 where
  pub long : length new ≡ length old
  pub own : AllByRecursion (BeginsIn paths y) left
  pub others : (g : ℕ) (p : TypeId × ℕ) (path : Steps) → slice_get paths g ≡ Some (p ∷ path) → ((p.0).0 ≡ y.0 → p.1 ≡ i → ⊥) → slice_get new g ≡ slice_get old g
  pub last : (g : ℕ) (p : TypeId × ℕ) → slice_get paths g ≡ Some (p ∷ []) → (p.0).0 ≡ y.0 → p.1 ≡ i → HasOne (λ n. n ≡ g) left ⊎ (slice_get new g ≡ Some number)
  pub longer : (g : ℕ) (p q : TypeId × ℕ) (path : Steps) → slice_get paths g ≡ Some (p ∷ q ∷ path) → (p.0).0 ≡ y.0 → p.1 ≡ i → ((q.0).0 ≡ y.0 → ⊥) → Among paths (q ∷ path) → HasOne (λ n. n ≡ g) left ⊎ ((h : ℕ) × (slice_get paths h ≡ Some (q ∷ path)) × (slice_get new g ≡ slice_get old h))

-- one path is noted
pub record IsPathNoted (paths : List Steps) (at i : ℕ) (number : Option ℤ) (old new : List (Option ℤ)) : Type 0 where
  pub long : length new ≡ length old
  pub others : (g : ℕ) → (g ≡ at → ⊥) → slice_get new g ≡ slice_get old g
  pub elsewhere : (p : TypeId × ℕ) (path : Steps) → slice_get paths at ≡ Some (p ∷ path) → (p.1 ≡ i → ⊥) → new ≡ old
  pub last : (p : TypeId × ℕ) → slice_get paths at ≡ Some (p ∷ []) → p.1 ≡ i → slice_get new at ≡ Some number
  pub longer : (p q : TypeId × ℕ) (path : Steps) → slice_get paths at ≡ Some (p ∷ q ∷ path) → p.1 ≡ i → Among paths (q ∷ path) → (h : ℕ) × (slice_get paths h ≡ Some (q ∷ path)) × (slice_get new at ≡ slice_get old h)

same_or_not : (m n : ℕ) → (m ≡ n) ⊎ (m ≡ n → ⊥)
same_or_not m n = go (m == n) refl
  where
    go : (b : Bool) → (m == n) ≡ b → (m ≡ n) ⊎ (m ≡ n → ⊥)
    go true e = inl (eqb-true m n e)
    go false e = inr (λ h. let k : (m == n) ≡ true = eq-eqb m n h in absurd cc)

-- a path that begins in the container y, with y as its first container
first_is : (y : TypeId) (p : TypeId × ℕ) → (p.0).0 ≡ y.0 → p ≡ (y, p.1)
first_is y p e = ap (λ n. (id_of n, p.1)) e

module _ (paths : List Steps) (y : TypeId) (i : ℕ) (number : Option ℤ) (old : List (Option ℤ)) where
  pub none_noted : (left : List ℕ) → AllByRecursion (BeginsIn paths y) left → ((at place : ℕ) (rest : Steps) → slice_get paths at ≡ Some ((y, place) ∷ rest) → HasOne (λ n. n ≡ at) left) → AreNoted paths y i number old old left
  none_noted left own complete = record {
    long = refl;
    own = own;
    others = λ g p path e n. refl;
    last = λ g p e a b. inl (complete g p.1 [] (e ∙ ap (λ r. Some (r ∷ [])) (first_is y p a)));
    longer = λ g p q path e a b n among. inl (complete g p.1 (q ∷ path) (e ∙ ap (λ r. Some (r ∷ q ∷ path)) (first_is y p a)));
  }

  -- the slots of one path more
  pub one_noted : (now new : List (Option ℤ)) (at : ℕ) (left : List ℕ) → AreNoted paths y i number old now (at ∷ left) → IsPathNoted paths at i number now new → AreNoted paths y i number old new left
  one_noted now new at left so step = record {
    long = step.long ∙ so.long;
    own = so.own.1;
    others = others;
    last = last;
    longer = longer;
  }
    where
      others : (g : ℕ) (p : TypeId × ℕ) (path : Steps) → slice_get paths g ≡ Some (p ∷ path) → ((p.0).0 ≡ y.0 → p.1 ≡ i → ⊥) → slice_get new g ≡ slice_get old g
      others g p path e n = go (same_or_not g at)
        where
          here : g ≡ at → slice_get new g ≡ slice_get old g
          here k =
              let own = so.own.0 in
              let f : slice_get paths at ≡ Some (p ∷ path) = ap (slice_get paths) (sym k) ∙ e in
              let begins : (p.0).0 ≡ y.0 = let b : Some (p ∷ path) ≡ Some ((y, own.0) ∷ own.1) = sym f ∙ own.2 in cc in
              ap (λ ns. slice_get ns g) (step.elsewhere p path f (n begins)) ∙ so.others g p path e n

          go : (g ≡ at) ⊎ (g ≡ at → ⊥) → slice_get new g ≡ slice_get old g
          go (inl k) = here k
          go (inr k) = step.others g k ∙ so.others g p path e n

      last : (g : ℕ) (p : TypeId × ℕ) → slice_get paths g ≡ Some (p ∷ []) → (p.0).0 ≡ y.0 → p.1 ≡ i → HasOne (λ n. n ≡ g) left ⊎ (slice_get new g ≡ Some number)
      last g p e a b = go (same_or_not g at)
        where
          later : (g ≡ at → ⊥) → HasOne (λ n. n ≡ g) (at ∷ left) ⊎ (slice_get now g ≡ Some number) → HasOne (λ n. n ≡ g) left ⊎ (slice_get new g ≡ Some number)
          later k (inl (inl h)) = absurd (k (sym h))
          later k (inl (inr h)) = inl h
          later k (inr h) = inr (step.others g k ∙ h)

          go : (g ≡ at) ⊎ (g ≡ at → ⊥) → HasOne (λ n. n ≡ g) left ⊎ (slice_get new g ≡ Some number)
          go (inl k) = inr (ap (slice_get new) k ∙ step.last p (ap (slice_get paths) (sym k) ∙ e) b)
          go (inr k) = later k (so.last g p e a b)

      longer : (g : ℕ) (p q : TypeId × ℕ) (path : Steps) → slice_get paths g ≡ Some (p ∷ q ∷ path) → (p.0).0 ≡ y.0 → p.1 ≡ i → ((q.0).0 ≡ y.0 → ⊥) → Among paths (q ∷ path) → HasOne (λ n. n ≡ g) left ⊎ ((h : ℕ) × (slice_get paths h ≡ Some (q ∷ path)) × (slice_get new g ≡ slice_get old h))
      longer g p q path e a b n among = go (same_or_not g at)
        where
          here : g ≡ at → (h : ℕ) × (slice_get paths h ≡ Some (q ∷ path)) × (slice_get new g ≡ slice_get old h)
          here k =
              let tail = step.longer p q path (ap (slice_get paths) (sym k) ∙ e) b among in
              (tail.0, tail.1, ap (slice_get new) k ∙ tail.2 ∙ so.others tail.0 q path tail.1 (λ m r. n m))

          later : (g ≡ at → ⊥) → HasOne (λ n. n ≡ g) (at ∷ left) ⊎ ((h : ℕ) × (slice_get paths h ≡ Some (q ∷ path)) × (slice_get now g ≡ slice_get old h)) → HasOne (λ n. n ≡ g) left ⊎ ((h : ℕ) × (slice_get paths h ≡ Some (q ∷ path)) × (slice_get new g ≡ slice_get old h))
          later k (inl (inl h)) = absurd (k (sym h))
          later k (inl (inr h)) = inl h
          later k (inr h) = inr (h.0, h.1, step.others g k ∙ h.2)

          go : (g ≡ at) ⊎ (g ≡ at → ⊥) → HasOne (λ n. n ≡ g) left ⊎ ((h : ℕ) × (slice_get paths h ≡ Some (q ∷ path)) × (slice_get new g ≡ slice_get old h))
          go (inl k) = inr (here k)
          go (inr k) = later k (so.longer g p q path e a b n among)

  pub first_noted : (now new : List (Option ℤ)) (left : List ℕ) (k : ℕ) → k < length left → AreNoted paths y i number old now (drop k left) → IsPathNoted paths (get_or left k 0) i number now new → AreNoted paths y i number old new (drop (k + 1) left)
  first_noted now new left k lt so step = one_noted now new (get_or left k 0) (drop (k + 1) left) (subst (AreNoted paths y i number old now) (drop_more left k 0 lt) so) step

  -- the path of the first position that is left is there
  pub first_is_there : (now : List (Option ℤ)) (left : List ℕ) (k : ℕ) → k < length left → AreNoted paths y i number old now (drop k left) → get_or left k 0 < length paths
  first_is_there now left k lt so = let first = subst (AreNoted paths y i number old now) (drop_more left k 0 lt) so in slice_get_within paths (get_or left k 0) _ (first.own.0).2

  -- where none is left, all have their numbers
  none_left : {A : Type 0} (g : ℕ) (left : List ℕ) (k : ℕ) → length left ≤ k → HasOne (λ n. n ≡ g) (drop k left) ⊎ A → A
  none_left g left k past (inl h) = absurd (subst (HasOne (λ n. n ≡ g)) (drop_all k left past) h)
  none_left g left k past (inr h) = h

  pub last_noted : (new : List (Option ℤ)) (left : List ℕ) (k : ℕ) → length left ≤ k → AreNoted paths y i number old new (drop k left) → (g : ℕ) (p : TypeId × ℕ) → slice_get paths g ≡ Some (p ∷ []) → (p.0).0 ≡ y.0 → p.1 ≡ i → slice_get new g ≡ Some number
  last_noted new left k past so g p e a b = none_left g left k past (so.last g p e a b)

  pub longer_noted : (new : List (Option ℤ)) (left : List ℕ) (k : ℕ) → length left ≤ k → AreNoted paths y i number old new (drop k left) → (g : ℕ) (p q : TypeId × ℕ) (path : Steps) → slice_get paths g ≡ Some (p ∷ q ∷ path) → (p.0).0 ≡ y.0 → p.1 ≡ i → ((q.0).0 ≡ y.0 → ⊥) → Among paths (q ∷ path) → (h : ℕ) × (slice_get paths h ≡ Some (q ∷ path)) × (slice_get new g ≡ slice_get old h)
  longer_noted new left k past so g p q path e a b n among = none_left g left k past (so.longer g p q path e a b n among)

-- ---- constraints in turn

pub check_stops : (t : Table) (cs : List Constraint) (i : ℕ) (d : Constraint) (fs : List Field) → i < length cs → false ≡ holds t fs (get_or cs i d) → check_all t (drop i cs) fs ≡ Err (fault_at Fails (path_steps (get_or cs i d).path))
check_stops t cs i d fs lt h = ap (λ xs. check_all t xs fs) (drop_more cs i d lt) ∙ check_fails t (get_or cs i d) (drop (i + 1) cs) fs h

pub check_ends : (t : Table) (cs : List Constraint) (i : ℕ) (fs : List Field) → length cs ≤ i → check_all t (drop i cs) fs ≡ Ok tt
unfolding check_all
check_ends t cs i fs past = ap (λ xs. check_all t xs fs) (drop_all i cs past)
