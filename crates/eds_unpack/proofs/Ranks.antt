-- How deep the types of a container's parts are nested, and how long the paths of its constraints are.
use Rattle.std.proofs.Common.{◌≡◌, ℕ, zero, suc, ◌+◌, ◌<◌, ◌≤◌, Bool, true, false, cond, List, [], ◌∷◌, ◌++◌, length, get_or, map, Option, Some, None, refl, sym, ap, subst, ◌∙◌, arith}
use Rattle.std.specs.Prelude.{slice_get, unwrap_or}
use Rattle.std.specs.List.{AllByRecursion}
use Rattle.eds_base.specs.declared.ids.TypeId.{TypeId}
use Rattle.eds_bits.specs.Lists.{Has}
use Rattle.eds_types.specs.declared.row.TypeRow.{TypeRow}
use Rattle.eds_types.specs.declared.row.Kind.TheVariants as kind
use Rattle.eds_types.specs.declared.row.Part.{Part}
use Rattle.eds_types.specs.declared.row.Part.TheVariants as part
use Rattle.eds_types.specs.declared.row.Constraint.{Constraint}
use Rattle.eds_types.specs.Fields.{Field, type_by, StartsInEntries}
use Rattle.eds_types.specs.Reading.{stay, nowhere, under, next, next_of, candidate_under}
use Rattle.eds_types.specs.Rows.{Table, id_of, base_of, chain, chain_within, chain_before, is_concrete, entries_of, trailers_of, constraints_of, Placed, placed_from, placed_entries, placed_trailers, own_parts}
use Rattle.eds_types.specs.Rules.{KeepsRules, IsNested, ItemsNest, PartKeeps, ConstraintKeeps, Follows}
use Rattle.eds_types.proofs.AllOf.{All-weaker, All-both, All-front, All-back, All-at, All-pair}
use Rattle.eds_types.proofs.ChainLaws.{child_of}
use Rattle.eds_types.proofs.ReadingTests.{found_is}
use Rattle.eds_types.proofs.RuleFacts.{table_of}
use Rattle.eds_base.specs.declared.fault.Step.{Step}
use Rattle.eds_types.specs.Failing.{path_steps}
use Rattle.eds_types.specs.Choices.{IsNear}
use Rattle.eds_unpack.specs.Entries.{IsLow, IsInner, LengthIsRead, PartIsRead}

get_past : {A : Type 0} (xs : List A) (y : A) (ys : List A) → slice_get (xs ++ y ∷ ys) (length xs) ≡ Some y
get_past [] y ys = refl
get_past (x ∷ xs) y ys = get_past xs y ys

at_place : {A : Type 0} (P : A → Type 0) (xs : List A) (i : ℕ) (x : A) → AllByRecursion P xs → slice_get xs i ≡ Some x → P x
at_place P [] i x h e = absurd cc
at_place P (y ∷ ys) zero x h e = let q : y ≡ x = cc in subst P q h.0
at_place P (y ∷ ys) (suc i) x h e = at_place P ys i x h.1 e

unplaced : (P : Part → Type 0) (y i : ℕ) (ps : List Part) → AllByRecursion (λ (p : Placed). P p.part) (placed_from y i ps) → AllByRecursion P ps
unplaced P y i [] h = tt
unplaced P y i (p ∷ ps) h = (h.0, unplaced P y (i + 1) ps h.1)

-- what holds of all holds of the one at a place
pub all_at : {A : Type 0} (P : A → Type 0) (xs : List A) (i : ℕ) (d : A) → i < length xs → AllByRecursion P xs → P (get_or xs i d)
all_at P [] i d lt h = absurd (omega arith)
all_at P (x ∷ xs) zero d lt h = h.0
all_at P (x ∷ xs) (suc i) d lt h = all_at P xs i d (omega arith) h.1

pub near_at : (n : ℕ) (cs : List Constraint) (i : ℕ) (d : Constraint) → i < length cs → AllByRecursion (IsNear n) cs → length (get_or cs i d).path ≤ n
near_at n = all_at (IsNear n)

pub steps_length : (path : List (TypeId × ℕ)) (old : List Step) → length (path_steps path ++ old) ≡ length path + length old
steps_length [] old = omega arith
steps_length (p ∷ path) old = let h = steps_length path old in omega (arith, h)

length_read : (t : Table) (p : Placed) (q : Part) → PartKeeps t p q → LengthIsRead t q
length_read t p (part.Plain name id) h = tt
length_read t p (part.Fixed name id v) h = tt
length_read t p (part.Pad n) h = tt
length_read t p (part.List name id y i) h = tt
length_read t p (part.Length name id c0 c1) h = h
length_read t p (part.Check name id k) h = tt

module _ (t : Table) (rules : KeepsRules t) where
  -- the types of a chain have one rank
  ranks_before : (n k : ℕ) (o : Option ℕ) → base_of t k ≡ o → ((base : ℕ) → AllByRecursion (λ y. rules.rank y ≡ rules.rank base) (chain_within n t base)) → AllByRecursion (λ y. rules.rank y ≡ rules.rank k) (chain_before (chain_within n t) o)
  ranks_before n k None e ih = tt
  ranks_before n k (Some base) e ih = let r = rules.base_rank k base e in All-weaker (λ y. rules.rank y ≡ rules.rank base) (λ y. rules.rank y ≡ rules.rank k) (λ y q. q ∙ sym r) (chain_within n t base) (ih base)

  ranks : (n k : ℕ) → AllByRecursion (λ y. rules.rank y ≡ rules.rank k) (chain_within n t k)
  unfolding chain_within
  ranks zero k = tt
  ranks (suc n) k = All-both (λ y. rules.rank y ≡ rules.rank k) (chain_before (chain_within n t) (base_of t k)) (k ∷ []) (ranks_before n k (base_of t k) refl (ranks n)) (refl, tt)

  rank_in : (k y : ℕ) → Has (chain t k) y → rules.rank y ≡ rules.rank k
  rank_in k y h = All-at (λ z. rules.rank z ≡ rules.rank k) (chain t k) y h (ranks 16 k)

  -- ---- parts

  module _ (n y : ℕ) (low : rules.rank y < n + 1) where
    own_read : AllByRecursion (λ (p : Placed). PartIsRead t n p.part) (own_parts t y)
    own_read = All-weaker (λ (p : Placed). ((id : ℕ) → type_by (Some p.part) ≡ Some id → IsNested t rules.rank y id) × PartKeeps t p p.part) (λ (p : Placed). PartIsRead t n p.part)
        (λ p h. record { inner = λ id e. (let k = h.0 id e in let less = k.1 in record { there = k.0; low = record { rules = rules; low = omega arith } }); length = length_read t p p.part h.1 }) (own_parts t y)
        (All-pair (λ (p : Placed). (id : ℕ) → type_by (Some p.part) ≡ Some id → IsNested t rules.rank y id) (λ (p : Placed). PartKeeps t p p.part) (own_parts t y) (rules.parts_nest y) (rules.parts y))

    pub entries_are_read : AllByRecursion (PartIsRead t n) (entries_of t y)
    entries_are_read = unplaced (PartIsRead t n) y 0 (entries_of t y) (All-front (λ (p : Placed). PartIsRead t n p.part) (placed_entries t y) (placed_trailers t y) own_read)

    pub trailers_are_read : AllByRecursion (PartIsRead t n) (trailers_of t y)
    trailers_are_read = unplaced (PartIsRead t n) y (length (entries_of t y)) (trailers_of t y) (All-back (λ (p : Placed). PartIsRead t n p.part) (placed_entries t y) (placed_trailers t y) own_read)

    pub item_is_read : (row : TypeRow) (item : TypeId) (count : ℕ) → slice_get t y ≡ Some row → row.kind ≡ kind.Arr item count → IsInner t n item.0
    item_is_read row item count e f =
        let h = subst (ItemsNest t rules.rank y) f (rules.items_nest y row e) in
        let less = (h.0).1 in
        record { there = (h.0).0; low = record { rules = rules; low = omega arith } }

  -- ---- the paths of constraints

  parts_lower : (y : ℕ) → AllByRecursion (λ (p : Part). (id : ℕ) → type_by (Some p) ≡ Some id → IsNested t rules.rank y id) (entries_of t y ++ trailers_of t y)
  parts_lower y =
      All-both (λ (p : Part). (id : ℕ) → type_by (Some p) ≡ Some id → IsNested t rules.rank y id) (entries_of t y) (trailers_of t y)
      (unplaced (λ (p : Part). (id : ℕ) → type_by (Some p) ≡ Some id → IsNested t rules.rank y id) y 0 (entries_of t y) (All-front (λ (p : Placed). (id : ℕ) → type_by (Some p.part) ≡ Some id → IsNested t rules.rank y id) (placed_entries t y) (placed_trailers t y) (rules.parts_nest y)))
      (unplaced (λ (p : Part). (id : ℕ) → type_by (Some p) ≡ Some id → IsNested t rules.rank y id) y (length (entries_of t y)) (trailers_of t y) (All-back (λ (p : Placed). (id : ℕ) → type_by (Some p.part) ≡ Some id → IsNested t rules.rank y id) (placed_entries t y) (placed_trailers t y) (rules.parts_nest y)))

  path_low : (p : TypeId × ℕ) (path : List (TypeId × ℕ)) → Follows t (p ∷ path) → length (p ∷ path) ≤ suc (rules.rank (p.0).0)
  path_low p [] h = omega arith
  path_low p (q ∷ path) h =
      let part = part.Plain h.0 h.1 in
      let less = (at_place (λ (p : Part). (id : ℕ) → type_by (Some p) ≡ Some id → IsNested t rules.rank (p-of) id) (entries_of t (p.0).0 ++ trailers_of t (p.0).0) p.1 part (parts_lower (p.0).0) h.2 (h.1).0 refl).1 in
      let same = rank_in (h.1).0 (q.0).0 h.4 in
      let rest = path_low q path h.5 in
      omega arith
    where
      p-of : ℕ
      p-of = (p.0).0

  constraint_near : (n base y : ℕ) (c : Constraint) → base_of t y ≡ Some base → rules.rank y < n + 1 → ConstraintKeeps t base y c → IsNear (n + 1) c
  constraint_near n base y c e low k = go c.path k.starts k.follows
    where
      go : (path : List (TypeId × ℕ)) → StartsInEntries t base path → Follows t path → length path ≤ n + 1
      go [] s f = absurd s
      go (p ∷ path) s f =
          let first = rank_in base (p.0).0 s.0 in
          let same = rules.base_rank y base e in
          let most = path_low p path f in
          omega arith

  pub constraints_near : (n y : ℕ) → rules.rank y < n + 1 → AllByRecursion (IsNear (n + 1)) (constraints_of t y)
  constraints_near n y low = go (base_of t y) refl
    where
      go : (o : Option ℕ) → base_of t y ≡ o → AllByRecursion (IsNear (n + 1)) (constraints_of t y)
      go None e = subst (AllByRecursion (IsNear (n + 1))) (sym (rules.root_constraints y e)) tt
      go (Some base) e = All-weaker (ConstraintKeeps t base y) (IsNear (n + 1)) (λ c k. constraint_near n base y c e low k) (constraints_of t y) (rules.constraints y base e)

  -- ---- chains

  chain_low : (n : ℕ) (xs : List ℕ) (k : ℕ) → rules.rank k < n → AllByRecursion (λ y. rules.rank y ≡ rules.rank k) xs → AllByRecursion (λ (id : TypeId). IsLow t n id.0) (map id_of xs)
  chain_low n [] k low h = tt
  chain_low n (x ∷ xs) k low h = let same = h.0 in (record { rules = rules; low = omega arith }, chain_low n xs k low h.1)

  pub chain_is_low : (n k : ℕ) (ids : List TypeId) → rules.rank k < n → ids ≡ map id_of (chain t k) → AllByRecursion (λ (id : TypeId). IsLow t n id.0) ids
  chain_is_low n k ids low e = subst (AllByRecursion (λ (id : TypeId). IsLow t n id.0)) (sym e) (chain_low n (chain t k) k low (ranks 16 k))

  -- a container that is chosen under another one
  pub child_is_low : (n x z : ℕ) (fs : List Field) → rules.rank x < n → under z ≡ next t x fs → IsLow t n z
  child_is_low n x z fs low e = go (candidate_under t x fs) refl e
    where
      here : (b : Bool) → under z ≡ cond b stay nowhere → ⊥
      here true e = cc
      here false e = cc

      go : (o : Option ℕ) → candidate_under t x fs ≡ o → under z ≡ next_of t x o → IsLow t n z
      go None f e = absurd (here (is_concrete t x) e)
      go (Some l) f e =
          let found = found_is t x fs l f in
          let has = (found.1).under in
          let child = child_of t (table_of t rules) x l has.before has.after has.is found.0 in
          let gets : slice_get (chain t l) (length (chain t x)) ≡ Some child.0 = ap (λ ys. slice_get ys (length (chain t x))) child.2 ∙ get_past (chain t x) child.0 child.1 in
          let is : under z ≡ under child.0 = e ∙ ap (λ o. under (unwrap_or o 0)) gets in
          let same : z ≡ child.0 = cc in
          let one = rank_in l child.0 (record { before = chain t x; after = child.1; is = child.2 }) in
          let other = rank_in l x has in
          record { rules = rules; low = rw same (omega arith) }
