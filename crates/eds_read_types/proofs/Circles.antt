-- All bases of a type are among as many as there are types, a type that is its own base is refused as such, and where none is
-- each chain has an end.
use Rattle.std.proofs.Common.{◌≡◌, ℕ, zero, suc, ◌<◌, ◌≤◌, Bool, true, false, ◌==◌, ◌||◌, List, [], ◌∷◌, length, slice_get, Option, Some, None, refl, sym, ap, subst, ◌∙◌, arith}
use Rattle.std.specs.Prelude.{eqb}
use Rattle.std.specs.List.{AllByRecursion, IsDistinct, list_any}
use Rattle.std.proofs.lemmas.Bool.{eqb-true, eq-eqb}
use Rattle.std.proofs.lemmas.Option.{slice_get_within}
use Rattle.std.proofs.lemmas.Map.Steps.{length-le_from_distinct_below}
use Rattle.eds_base.specs.Reading.{◌>>=◌}
use Rattle.eds_base.specs.declared.ids.Place.{Place}
use Rattle.eds_base.specs.declared.ids.TypeId.{TypeId}
use Rattle.eds_base.specs.declared.rule.Rule.TheVariants.{BaseCycle}
use Rattle.eds_read_types.specs.Breaks.{broken}
use Rattle.eds_tree.specs.declared.tree.Node.{Node}
use Rattle.eds_types.specs.Rows.{Table}
use Rattle.eds_graph.specs.Ways.{is_endless}
use Rattle.eds_type_rows.specs.Bases.{base_at, bases_within, all_bases, is_in_cycle}
use Rattle.eds_read_types.specs.Nesting.{course_of}
use Rattle.eds_read_types.specs.BaseCycle.{cycle_at}
use Rattle.eds_read_types.specs.LimitChain.{is_long, chain_at}
use Rattle.eds_read_types.proofs.ChainFacts.{bases_none, bases_step, bases_stay, no_bases}

or_true : (b : Bool) → (b || true) ≡ true
or_true true = refl
or_true false = refl

apart_from : (x : ℕ) (ys : List ℕ) → list_any (eqb x) ys ≡ false → AllByRecursion (λ y. eqb x y ≡ false) ys
apart_from x [] h = tt
apart_from x (y ∷ ys) h = go (apart_from x ys) (eqb x y) refl h
  where
    go : (list_any (eqb x) ys ≡ false → AllByRecursion (λ y. eqb x y ≡ false) ys) → (b : Bool) → eqb x y ≡ b → (b || list_any (eqb x) ys) ≡ false → AllByRecursion (λ y. eqb x y ≡ false) (y ∷ ys)
    go rest true e k = absurd cc
    go rest false e k = (e, rest k)

module _ (bases : List (Option TypeId)) where
  -- from one type bases lead to another, over these types
  abbrev Leads : ℕ → List ℕ → ℕ → Type 0
  Leads x [] z = x ≡ z
  Leads x (y ∷ ys) z = (x ≡ y) × (b : TypeId) × (base_at bases x ≡ Some b) × Leads b.0 ys z

  record IsLed (x z : ℕ) : Type 0 where
    first : ℕ
    rest : List ℕ
    leads : Leads x (first ∷ rest) z

  -- the same, where no type stands twice on the way
  record IsWay (x z : ℕ) : Type 0 where
    first : ℕ
    rest : List ℕ
    leads : Leads x (first ∷ rest) z
    apart : IsDistinct eqb (first ∷ rest)

  -- the part of a way that begins at a type on it
  cut : (q x : ℕ) (ys : List ℕ) (z : ℕ) → Leads x ys z → IsDistinct eqb ys → list_any (eqb q) ys ≡ true → IsWay q z
  unfolding IsDistinct
  cut q x [] z l d h = absurd cc
  cut q x (y ∷ ys) z l d h = go (cut q (l.1).0 ys z l.3 d.1) (eqb q y) refl h
    where
      go : (list_any (eqb q) ys ≡ true → IsWay q z) → (b : Bool) → eqb q y ≡ b → (b || list_any (eqb q) ys) ≡ true → IsWay q z
      go rest true e k = record { first = y; rest = ys; leads = subst (λ v. Leads v (y ∷ ys) z) (l.0 ∙ sym (eqb-true q y e)) l; apart = d }
      go rest false e k = rest k

  way : (x y : ℕ) (ys : List ℕ) (z : ℕ) → Leads x (y ∷ ys) z → IsWay x z
  unfolding IsDistinct
  way x y [] z l = record { first = y; rest = []; leads = l; apart = (tt, tt) }
  way x y (w ∷ ws) z l = go (way (l.1).0 w ws z l.3)
    where
      at : (v : IsWay (l.1).0 z) (b : Bool) → list_any (eqb x) (v.first ∷ v.rest) ≡ b → IsWay x z
      at v true e = cut x (l.1).0 (v.first ∷ v.rest) z v.leads v.apart e
      at v false e = record { first = x; rest = v.first ∷ v.rest; leads = (refl, l.1, l.2, v.leads); apart = (apart_from x (v.first ∷ v.rest) e, v.apart) }

      go : IsWay (l.1).0 z → IsWay x z
      go v = at v (list_any (eqb x) (v.first ∷ v.rest)) refl

  has_base : (x : ℕ) (b : TypeId) → base_at bases x ≡ Some b → x < length bases
  has_base x b h = go (slice_get bases x) refl h
    where
      go : (o : Option (Option TypeId)) → slice_get bases x ≡ o → (o >>= λ base. base) ≡ Some b → x < length bases
      go None e k = absurd cc
      go (Some base) e k = slice_get_within bases x base e

  -- each type on the way is there
  there : (x : ℕ) (ys : List ℕ) (z : ℕ) → Leads x ys z → (q : ℕ) → list_any (eqb q) ys ≡ true → q < length bases
  there x [] z l q h = absurd cc
  there x (y ∷ ys) z l q h = go (there (l.1).0 ys z l.3 q) (eqb q y) refl h
    where
      go : (list_any (eqb q) ys ≡ true → q < length bases) → (b : Bool) → eqb q y ≡ b → (b || list_any (eqb q) ys) ≡ true → q < length bases
      go rest true e k = subst (λ v. v < length bases) (l.0 ∙ sym (eqb-true q y e)) (has_base x l.1 l.2)
      go rest false e k = rest k

  short : (x z : ℕ) (w : IsWay x z) → length (w.first ∷ w.rest) ≤ length bases
  short x z w = length-le_from_distinct_below (w.first ∷ w.rest) (length bases) w.apart (there x (w.first ∷ w.rest) z w.leads)

  -- where bases lead is among so many bases as there are steps
  among : (n x y : ℕ) (ys : List ℕ) (z : ℕ) → Leads x (y ∷ ys) z → length (y ∷ ys) ≤ n → list_any (λ base. base == z) (bases_within n bases x) ≡ true
  among zero x y ys z l h = absurd (omega (arith, h))
  among (suc n) x y [] z l h = ap (list_any (λ base. base == z)) (bases_step bases n x l.1 l.2) ∙ rw (eq-eqb (l.1).0 z l.3) refl
  among (suc n) x y (w ∷ ws) z l h = ap (list_any (λ base. base == z)) (bases_step bases n x l.1 l.2) ∙ rw (among n (l.1).0 w ws z l.3 (omega (arith, h))) (or_true ((l.1).0 == z))

  led : (n x z : ℕ) → list_any (λ base. base == z) (bases_within n bases x) ≡ true → IsLed x z
  led zero x z h = let no : false ≡ true = sym (ap (list_any (λ base. base == z)) (bases_none bases x)) ∙ h in absurd cc
  led (suc n) x z h = go (led n) (base_at bases x) refl
    where
      at : (b : TypeId) → base_at bases x ≡ Some b → ((x z : ℕ) → list_any (λ base. base == z) (bases_within n bases x) ≡ true → IsLed x z) → (here : Bool) → (b.0 == z) ≡ here → (here || list_any (λ base. base == z) (bases_within n bases b.0)) ≡ true → IsLed x z
      at b e up true q k = record { first = x; rest = []; leads = (refl, b, e, eqb-true b.0 z q) }
      at b e up false q k = let r = up b.0 z k in record { first = x; rest = r.first ∷ r.rest; leads = (refl, b, e, r.leads) }

      go : ((x z : ℕ) → list_any (λ base. base == z) (bases_within n bases x) ≡ true → IsLed x z) → (o : Option TypeId) → base_at bases x ≡ o → IsLed x z
      go up None e = let no : false ≡ true = sym (ap (list_any (λ base. base == z)) (no_bases bases (suc n) x e)) ∙ h in absurd cc
      go up (Some b) e = at b e up (b.0 == z) refl (sym (ap (list_any (λ base. base == z)) (bases_step bases n x b e)) ∙ h)

  -- however far the bases of a type are followed
  pub all_found : (id other n : ℕ) → list_any (λ base. base == other) (bases_within n bases id) ≡ true → list_any (λ base. base == other) (all_bases bases id) ≡ true
  all_found id other n h =
      let l = led n id other h in
      let w = way id l.first l.rest other l.leads in
      among (length bases) id w.first w.rest other w.leads (short id other w)

-- ---- chains that end

-- how many bases a type has, where its chain has an end
abbrev pub depth : List (Option TypeId) → ℕ → ℕ
depth bases id = length (bases_within (suc (length bases)) bases id)

turned : (x : ℕ) (ys : List ℕ) → list_any (eqb x) ys ≡ true → list_any (λ y. y == x) ys ≡ true
turned x [] h = absurd cc
turned x (y ∷ ys) h = go (turned x ys) (eqb x y) refl h
  where
    go : (list_any (eqb x) ys ≡ true → list_any (λ y. y == x) ys ≡ true) → (b : Bool) → eqb x y ≡ b → (b || list_any (eqb x) ys) ≡ true → list_any (λ y. y == x) (y ∷ ys) ≡ true
    go rest true e k = rw (eq-eqb y x (sym (eqb-true x y e))) refl
    go rest false e k = rw (rest k) (or_true (y == x))

module _ (bases : List (Option TypeId)) (apart : (id : ℕ) → is_in_cycle bases id ≡ false) (within : (id : ℕ) (base : TypeId) → base_at bases id ≡ Some base → base.0 < length bases) where
  -- no type is found among its bases
  never : (x n : ℕ) → list_any (eqb x) (bases_within n bases x) ≡ false
  never x n = go (list_any (eqb x) (bases_within n bases x)) refl
    where
      go : (b : Bool) → list_any (eqb x) (bases_within n bases x) ≡ b → list_any (eqb x) (bases_within n bases x) ≡ false
      go true e = let both : true ≡ false = sym (all_found bases x x n (turned x (bases_within n bases x) e)) ∙ apart x in absurd cc
      go false e = e

  -- no base stands twice among those of a type
  differing : (n id : ℕ) → IsDistinct eqb (bases_within n bases id)
  unfolding IsDistinct
  differing zero id = subst (IsDistinct eqb) (sym (bases_none bases id)) tt
  differing (suc n) id = go (base_at bases id) refl (differing n)
    where
      go : (o : Option TypeId) → base_at bases id ≡ o → ((id : ℕ) → IsDistinct eqb (bases_within n bases id)) → IsDistinct eqb (bases_within (suc n) bases id)
      go None e up = subst (IsDistinct eqb) (sym (no_bases bases (suc n) id e)) tt
      go (Some base) e up = subst (IsDistinct eqb) (sym (bases_step bases n id base e)) (apart_from base.0 (bases_within n bases base.0) (never base.0 n), up base.0)

  all_there : (n id q : ℕ) → list_any (eqb q) (bases_within n bases id) ≡ true → q < length bases
  all_there zero id q h = let no : false ≡ true = sym (ap (list_any (eqb q)) (bases_none bases id)) ∙ h in absurd cc
  all_there (suc n) id q h = go (base_at bases id) refl (all_there n)
    where
      at : (base : TypeId) → base_at bases id ≡ Some base → ((id q : ℕ) → list_any (eqb q) (bases_within n bases id) ≡ true → q < length bases) → (b : Bool) → eqb q base.0 ≡ b → (b || list_any (eqb q) (bases_within n bases base.0)) ≡ true → q < length bases
      at base e up true f k = subst (λ m. m < length bases) (sym (eqb-true q base.0 f)) (within id base e)
      at base e up false f k = up base.0 q k

      go : (o : Option TypeId) → base_at bases id ≡ o → ((id q : ℕ) → list_any (eqb q) (bases_within n bases id) ≡ true → q < length bases) → q < length bases
      go None e up = let no : false ≡ true = sym (ap (list_any (eqb q)) (no_bases bases (suc n) id e)) ∙ h in absurd cc
      go (Some base) e up = at base e up (eqb q base.0) refl (sym (ap (list_any (eqb q)) (bases_step bases n id base e)) ∙ h)

  -- a type has no more bases than there are types
  few_found : (n id : ℕ) → length (bases_within n bases id) ≤ length bases
  few_found n id = length-le_from_distinct_below (bases_within n bases id) (length bases) (differing n id) (all_there n id)

  -- the base has one base less
  pub less_deep : (id : ℕ) (base : TypeId) → base_at bases id ≡ Some base → depth bases id ≡ suc (depth bases base.0)
  less_deep id base e =
      let most = few_found (suc (length bases)) id in
      let whole = ap length (bases_step bases (length bases) id base e) in
      let stays = ap length (bases_stay bases (length bases) base.0 (omega (arith, most, whole))) in
      whole ∙ ap suc (sym stays)

-- ---- the rules

pub circle_refused : (bases : List (Option TypeId)) (id : ℕ) (at : Place) → is_in_cycle bases id ≡ true → cycle_at bases id at ≡ broken BaseCycle at ∷ []
circle_refused bases id at h = rw h refl

pub no_long_chain : (trees : List (List Node)) (t : Table) (id : ℕ) (at : Place) → is_endless (course_of t id) ≡ true → chain_at trees t id at ≡ []
no_long_chain trees t id at h = go (is_long t id) (is_endless (course_of t id)) refl refl h
  where
    go : (long met : Bool) → is_long t id ≡ long → is_endless (course_of t id) ≡ met → met ≡ true → chain_at trees t id at ≡ []
    go true true e f k = rw (e, f) refl
    go false true e f k = rw e refl
    go long false e f k = absurd cc
