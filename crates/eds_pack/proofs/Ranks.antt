-- How deep the types of a container's parts are nested, and how long the paths of its constraints are.
use Rattle.std.proofs.Common.{◌≡◌, ℕ, zero, suc, ◌+◌, ◌-◌, ◌<◌, ◌≤◌, true, List, [], ◌∷◌, ◌++◌, length, get_or, map, Option, Some, None, refl, sym, subst, ◌∙◌, arith}
use Rattle.std.specs.Prelude.{slice_get}
use Rattle.std.specs.List.{AllByRecursion}
use Rattle.eds_base.specs.declared.fault.Step.{Step}
use Rattle.eds_base.specs.declared.ids.TypeId.{TypeId}
use Rattle.eds_bits.specs.Lists.{Has}
use Rattle.eds_types.specs.declared.row.Part.{Part}
use Rattle.eds_types.specs.declared.row.Part.TheVariants as part
use Rattle.eds_types.specs.declared.row.Constraint.{Constraint}
use Rattle.eds_types.specs.Failing.{path_steps}
use Rattle.eds_types.specs.Fields.{type_by, StartsInEntries}
use Rattle.eds_types.specs.Rows.{Table, id_of, base_of, chain, chain_within, chain_before, entries_of, trailers_of, constraints_of, list_has, Placed, placed_from, placed_entries, placed_trailers}
use Rattle.eds_types.specs.Rules.{KeepsRules, IsNested, ConstraintKeeps, Follows, PartKeeps}
use Rattle.eds_types.proofs.AllOf.{All-weaker, All-both, All-front, All-back, All-at}
use Rattle.eds_types.proofs.ReadingTests.{has_from}
use Rattle.eds_types.specs.Choices.{IsNear}
use Rattle.eds_pack.specs.Nesting.{IsLow, PartNests}

at_place : {A : Type 0} (P : A → Type 0) (xs : List A) (i : ℕ) (x : A) → AllByRecursion P xs → slice_get xs i ≡ Some x → P x
at_place P [] i x h e = absurd cc
at_place P (y ∷ ys) zero x h e = let q : y ≡ x = cc in subst P q h.0
at_place P (y ∷ ys) (suc i) x h e = at_place P ys i x h.1 e

unplaced : (P : Part → Type 0) (y i : ℕ) (ps : List Part) → AllByRecursion (λ (p : Placed). P p.part) (placed_from y i ps) → AllByRecursion P ps
unplaced P y i [] h = tt
unplaced P y i (p ∷ ps) h = (h.0, unplaced P y (i + 1) ps h.1)

pub near_at : (n : ℕ) (cs : List Constraint) (i : ℕ) (d : Constraint) → i < length cs → AllByRecursion (IsNear n) cs → length (get_or cs i d).path ≤ n
near_at n [] i d lt h = absurd (omega arith)
near_at n (c ∷ cs) zero d lt h = h.0
near_at n (c ∷ cs) (suc i) d lt h = near_at n cs i d (omega arith) h.1

pub steps_length : (path : List (TypeId × ℕ)) (old : List Step) → length (path_steps path ++ old) ≡ length path + length old
steps_length [] old = omega arith
steps_length (p ∷ path) old = let h = steps_length path old in omega (arith, h)

module _ (t : Table) (rules : KeepsRules t) where
  -- the types of a chain have one rank
  ranks_before : (n k : ℕ) (o : Option ℕ) → base_of t k ≡ o → ((base : ℕ) → AllByRecursion (λ y. rules.rank y ≡ rules.rank base) (chain_within n t base)) → AllByRecursion (λ y. rules.rank y ≡ rules.rank k) (chain_before (chain_within n t) o)
  ranks_before n k None e ih = tt
  ranks_before n k (Some base) e ih = let r = rules.base_rank k base e in All-weaker (λ y. rules.rank y ≡ rules.rank base) (λ y. rules.rank y ≡ rules.rank k) (λ y q. q ∙ sym r) (chain_within n t base) (ih base)

  ranks : (n k : ℕ) → AllByRecursion (λ y. rules.rank y ≡ rules.rank k) (chain_within n t k)
  unfolding chain_within
  ranks zero k = tt
  ranks (suc n) k = All-both (λ y. rules.rank y ≡ rules.rank k) (chain_before (chain_within n t) (base_of t k)) (k ∷ []) (ranks_before n k (base_of t k) refl (ranks n)) (refl, tt)

  rank_in : (k y : ℕ) → Has (chain t k) y → rules.rank y ≡ rules.rank k
  rank_in k y h = All-at (λ z. rules.rank z ≡ rules.rank k) (chain t k) y h (ranks 16 k)

  -- ---- the paths of constraints

  pub parts_lower : (y : ℕ) → AllByRecursion (λ (p : Part). (id : ℕ) → type_by (Some p) ≡ Some id → IsNested t rules.rank y id) (entries_of t y ++ trailers_of t y)
  parts_lower y =
      All-both (λ (p : Part). (id : ℕ) → type_by (Some p) ≡ Some id → IsNested t rules.rank y id) (entries_of t y) (trailers_of t y)
      (unplaced (λ (p : Part). (id : ℕ) → type_by (Some p) ≡ Some id → IsNested t rules.rank y id) y 0 (entries_of t y) (All-front (λ (p : Placed). (id : ℕ) → type_by (Some p.part) ≡ Some id → IsNested t rules.rank y id) (placed_entries t y) (placed_trailers t y) (rules.parts_nest y)))
      (unplaced (λ (p : Part). (id : ℕ) → type_by (Some p) ≡ Some id → IsNested t rules.rank y id) y (length (entries_of t y)) (trailers_of t y) (All-back (λ (p : Placed). (id : ℕ) → type_by (Some p.part) ≡ Some id → IsNested t rules.rank y id) (placed_entries t y) (placed_trailers t y) (rules.parts_nest y)))

  path_low : (p : TypeId × ℕ) (path : List (TypeId × ℕ)) → Follows t (p ∷ path) → length (p ∷ path) ≤ suc (rules.rank (p.0).0)
  path_low p [] h = omega arith
  path_low p (q ∷ path) h =
      let part = part.Plain h.0 h.1 in
      let less = (at_place (λ (p : Part). (id : ℕ) → type_by (Some p) ≡ Some id → IsNested t rules.rank (p-of) id) (entries_of t (p.0).0 ++ trailers_of t (p.0).0) p.1 part (parts_lower (p.0).0) h.2 (h.1).0 refl).1 in
      let same = rank_in (h.1).0 (q.0).0 h.4 in
      let rest = path_low q path h.5 in
      omega arith
    where
      p-of : ℕ
      p-of = (p.0).0

  constraint_near : (n base y : ℕ) (c : Constraint) → base_of t y ≡ Some base → rules.rank y < n + 1 → ConstraintKeeps t base y c → IsNear (n + 1) c
  constraint_near n base y c e low k = go c.path k.starts k.follows
    where
      go : (path : List (TypeId × ℕ)) → StartsInEntries t base path → Follows t path → length path ≤ n + 1
      go [] s f = absurd s
      go (p ∷ path) s f =
          let first = rank_in base (p.0).0 s.0 in
          let same = rules.base_rank y base e in
          let most = path_low p path f in
          omega arith

  pub constraints_near : (n y : ℕ) → rules.rank y < n + 1 → AllByRecursion (IsNear (n + 1)) (constraints_of t y)
  constraints_near n y low = go (base_of t y) refl
    where
      go : (o : Option ℕ) → base_of t y ≡ o → AllByRecursion (IsNear (n + 1)) (constraints_of t y)
      go None e = subst (AllByRecursion (IsNear (n + 1))) (sym (rules.root_constraints y e)) tt
      go (Some base) e = All-weaker (ConstraintKeeps t base y) (IsNear (n + 1)) (λ c k. constraint_near n base y c e low k) (constraints_of t y) (rules.constraints y base e)

pub nearer : (n m : ℕ) (cs : List Constraint) → n ≤ m → AllByRecursion (IsNear n) cs → AllByRecursion (IsNear m) cs
nearer n m cs le h = All-weaker (IsNear n) (IsNear m) (λ c k. omega (arith, k, le)) cs h

-- ---- chains

pub has_low : (t : Table) (n id k : ℕ) → IsLow t n id → Has (chain t k) id → IsLow t n k
has_low t n id k low has r = let same = rank_in t r k id has in let less = low r in omega arith

-- a container under a type is as low
pub under_low : (t : Table) (n id k : ℕ) → IsLow t n id → list_has (chain t k) id ≡ true → IsLow t n k
under_low t n id k low has r = let same = rank_in t r k id (has_from (chain t k) id has) in let less = low r in omega arith

pub chain_low : (t : Table) (n k : ℕ) → IsLow t n k → AllByRecursion (IsLow t n) (chain t k)
chain_low t n k low = go (chain t k) (λ r. ranks t r 16 k)
  where
    go : (xs : List ℕ) → ((r : KeepsRules t) → AllByRecursion (λ y. r.rank y ≡ r.rank k) xs) → AllByRecursion (IsLow t n) xs
    go [] h = tt
    go (x ∷ xs) h = ((λ r. (let same = (h r).0 in let less = low r in omega arith)), go xs (λ r. (h r).1))

pub chain_is_low : (t : Table) (n k : ℕ) (ids : List TypeId) → IsLow t n k → ids ≡ map id_of (chain t k) → AllByRecursion (λ (id : TypeId). IsLow t n id.0) ids
chain_is_low t n k ids low e = subst (AllByRecursion (λ (id : TypeId). IsLow t n id.0)) (sym e) (go (chain t k) (chain_low t n k low))
  where
    go : (xs : List ℕ) → AllByRecursion (IsLow t n) xs → AllByRecursion (λ (id : TypeId). IsLow t n id.0) (map id_of xs)
    go [] h = tt
    go (x ∷ xs) h = (h.0, go xs h.1)

-- ---- parts

nested_part : (t : Table) (n : ℕ) (q : Placed) (p : Part) → PartKeeps t q p → ((x : ℕ) → type_by (Some p) ≡ Some x → (x < length t) × IsLow t n x) → PartNests t n p
nested_part t n q (part.Plain name id) keep h = let l = h id.0 refl in record { known = l.0; rank = l.1 }
nested_part t n q (part.Fixed name id v) keep h = let l = h id.0 refl in record { known = l.0; rank = l.1 }
nested_part t n q (part.Pad m) keep h = tt
nested_part t n q (part.List name id y i) keep h = let l = h id.0 refl in record { known = l.0; rank = l.1 }
nested_part t n q (part.Length name id c0 c1) keep h = let l = h id.0 refl in (record { known = l.0; rank = l.1 }, keep.1)
nested_part t n q (part.Check name id k) keep h = let l = h id.0 refl in record { known = l.0; rank = l.1 }

module _ (t : Table) (rules : KeepsRules t) (n y : ℕ) (low : IsLow t (n + 1) y) where
  nest : (i : ℕ) (ps : List Part) → AllByRecursion (λ (p : Placed). PartKeeps t p p.part) (placed_from y i ps) → ((r : KeepsRules t) → AllByRecursion (λ (p : Placed). (x : ℕ) → type_by (Some p.part) ≡ Some x → IsNested t r.rank y x) (placed_from y i ps)) → AllByRecursion (PartNests t n) ps
  nest i [] k g = tt
  nest i (p ∷ ps) k g = (
    nested_part t n (record { container = y; place = i; part = p }) p k.0 (λ x e. (((g rules).0 x e).0, λ r. (let less = ((g r).0 x e).1 in let top = low r in omega arith))),
    nest (i + 1) ps k.1 (λ r. (g r).1),
  )

  pub entries_nest : AllByRecursion (PartNests t n) (entries_of t y)
  entries_nest = nest 0 (entries_of t y) (All-front (λ (p : Placed). PartKeeps t p p.part) (placed_entries t y) (placed_trailers t y) (rules.parts y)) (λ r. All-front (λ (p : Placed). (x : ℕ) → type_by (Some p.part) ≡ Some x → IsNested t r.rank y x) (placed_entries t y) (placed_trailers t y) (r.parts_nest y))

  pub trailers_nest : AllByRecursion (PartNests t n) (trailers_of t y)
  trailers_nest = nest (length (entries_of t y)) (trailers_of t y) (All-back (λ (p : Placed). PartKeeps t p p.part) (placed_entries t y) (placed_trailers t y) (rules.parts y)) (λ r. All-back (λ (p : Placed). (x : ℕ) → type_by (Some p.part) ≡ Some x → IsNested t r.rank y x) (placed_entries t y) (placed_trailers t y) (r.parts_nest y))
