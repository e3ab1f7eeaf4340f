-- The default of an entry that constraints name: that of the least number which they have in common.
use Rattle.std.proofs.Common.{◌≡◌, ℕ, zero, suc, ℤ, pos, nat_abs, List, [], ◌∷◌, map, Bool, cond, Option, Some, None, inl, inr, refl, sym, ap, subst, ◌∙◌, arith, true, false, Result, Ok, Err}
use Rattle.std.specs.Prelude.{slice_get, IsTrue, IfOk, IfSome}
use Rattle.std.proofs.lemmas.Int.{ints}
use Rattle.eds_base.specs.declared.ids.TypeId.{TypeId}
use Rattle.eds_base.specs.declared.spans.Span.{Span}
use Rattle.eds_base.specs.Spans.{IsWithin}
use Rattle.eds_bits.specs.Bits.{Bits}
use Rattle.eds_bits.specs.Lists.{Has, HasOne}
use Rattle.eds_bits.specs.Style.{canonical}
use Rattle.eds_base.specs.Reading.{same as same_text}
use Rattle.eds_types.proofs.SameValues.{same_text-is, text_same}
use Rattle.eds_types.proofs.LeastBound.{there}
use Rattle.eds_types.specs.declared.row.Constraint.{Constraint}
use Rattle.eds_types.specs.declared.row.Container.{Container}
use Rattle.eds_types.specs.declared.row.Kind.{Kind}
use Rattle.eds_types.specs.declared.row.Kind.TheVariants as kind
use Rattle.eds_types.specs.declared.row.TypeRow.{TypeRow}
use Rattle.eds_types.specs.Domains.{InDomainOf, InDomainOfRow, InDomainOfType}
use Rattle.eds_types.specs.Fields.{IsAtOrUnder, listed, type_on}
use Rattle.eds_types.specs.Overlap.{IsConstrained, IsSolution}
use Rattle.eds_types.specs.Plain.{Plain, fields, plains_of}
use Rattle.eds_types.specs.Rows.{Table, Placed, address, chain_within, chain_before, base_of, container_by, container_in, concrete_in, is_concrete}
use Rattle.eds_types.specs.Rules.{AreDistinct}
use Rattle.eds_types.specs.Spelling.{KindSpells, SpellsWithin}
use Rattle.eds_pack.specs.Building.{Asked, AskedOf, Built, HasContainer}
use Rattle.eds_pack.specs.Defaults.{DefaultsWithin, EntryDefaults, IsLeast, KindDefaults, LeastDefaults, StandsFor}
use Rattle.eds_pack.specs.Nesting.{Nests}
use Rattle.eds_pack.proofs.Builds.{built_as}
use Rattle.eds_pack.proofs.Ranks.{has_low}

pub if_ok : {A E : Type 0} (P Q : A → Type 0) → ((x : A) → P x → Q x) → (r : Result A E) → IfOk r P → IfOk r Q
if_ok P Q g (Ok x) h = g x h
if_ok P Q g (Err e) h = tt

pub if_some : {A P : Type 0} (o : Option A) → P → IfSome o (λ v. P)
if_some None p = tt
if_some (Some v) p = p

-- ---- least numbers

pub least_same : (P : ℤ → Type 0) (n m : ℤ) → IsLeast P n → IsLeast P m → n ≡ m
least_same P n m h k = let a = h.least m k.has in let b = k.least n h.has in omega (arith, ints, a, b)

least_as : (P Q : ℤ → Type 0) (n : ℤ) → ((m : ℤ) → P m → Q m) → ((m : ℤ) → Q m → P m) → IsLeast P n → IsLeast Q n
least_as P Q n to from h = record { has = to n h.has; least = λ m q. h.least m (from m q) }

-- ---- entries

module _ (t : Table) (D : ℕ → Plain → Type 0) (S : Plain → Bits → Type 0) (cs : List Constraint) (place : TypeId × ℕ) (p : Placed) (at : address p ≡ place) (id old new : ℕ) (o : Option Plain) where
  same_path : address p ∷ [] ≡ place ∷ []
  same_path = ap (λ q. q ∷ []) at

  -- one that no constraint names
  pub entry_free : Asked cs (place ∷ []) None → Built (D id) S old new o → Built (EntryDefaults t D cs p id) S old new o
  entry_free free h =
      let out : IsConstrained cs (address p ∷ []) → ⊥ = λ k. free (subst (IsConstrained cs) same_path k) in
      built_as (D id) (EntryDefaults t D cs p id) S S old new (λ v d. inr (out, d)) (λ v e. elim e [
        | inl k ↦ absurd (out k.0)
        | inr k ↦ k.1
      ]) (λ v b e s. s) o h

  -- one that some do
  pub entry_asked : (s : List Span) (row : TypeRow) → slice_get t id ≡ Some row → type_on t (place ∷ []) ≡ Some id → Asked cs (place ∷ []) (Some s) → Built (AskedOf t D id row.kind s) S old new o → Built (EntryDefaults t D cs p id) S old new o
  entry_asked s row is leads asked h =
      let named : IsConstrained cs (address p ∷ []) = subst (IsConstrained cs) (sym same_path) asked.0 in
      built_as (AskedOf t D id row.kind s) (EntryDefaults t D cs p id) S S old new (λ v a. inl (named, (row, is, (a.0, to a.0 a.1, a.2)))) (λ v e. elim e [
        | inl k ↦ back v k.1
        | inr k ↦ absurd (k.0 named)
      ]) (λ v b e r. r) o h
    where
      Numbers : ℤ → Type 0
      Numbers m = InDomainOf t id row.kind m × IsWithin s m

      domain_to : (m : ℤ) → InDomainOf t id row.kind m → InDomainOfType t (type_on t (place ∷ [])) m
      domain_to m d = subst (λ x. InDomainOfType t x m) (sym leads) (subst (λ r. InDomainOfRow t id r m) (sym is) d)

      domain_from : (m : ℤ) → InDomainOfType t (type_on t (place ∷ [])) m → InDomainOf t id row.kind m
      domain_from m d = subst (λ r. InDomainOfRow t id r m) is (subst (λ x. InDomainOfType t x m) leads d)

      to : (n : ℤ) → IsLeast Numbers n → IsLeast (IsSolution t cs (address p ∷ [])) n
      to n l = subst (λ path. IsLeast (IsSolution t cs path) n) (sym same_path) (least_as Numbers (IsSolution t cs (place ∷ [])) n (λ m k. record { domain = domain_to m k.0; constraints = (asked.1 m).0 k.1 }) (λ m k. (domain_from m k.domain, (asked.1 m).1 k.constraints)) l)

      from : (n : ℤ) → IsLeast (IsSolution t cs (address p ∷ [])) n → IsLeast Numbers n
      from n l = least_as (IsSolution t cs (place ∷ [])) Numbers n (λ m k. (domain_from m k.domain, (asked.1 m).1 k.constraints)) (λ m k. record { domain = domain_to m k.0; constraints = (asked.1 m).0 k.1 }) (subst (λ path. IsLeast (IsSolution t cs path) n) same_path l)

      back : (v : Plain) → LeastDefaults t D cs p id v → AskedOf t D id row.kind s v
      back v k =
          let z : ◌≡◌ {A = Option TypeRow} (Some k.0) (Some row) = sym k.1 ∙ is in
          let r : k.0 ≡ row = cc in
          (k.2.0, from k.2.0 k.2.1, subst (λ (x : TypeRow). StandsFor t D x.kind k.2.0 v) r k.2.2)

-- ---- labels

has_name : (xs : List (List ℕ × ℤ)) (l : List ℕ) (n : ℤ) → HasOne (λ (e : List ℕ × ℤ). e ≡ (l, n)) xs → Has (map (λ (e : List ℕ × ℤ). e.0) xs) l
has_name [] l n h = absurd h
has_name (x ∷ xs) l n (inl e) = record { before = []; after = map (λ (e : List ℕ × ℤ). e.0) xs; is = ap (λ (y : List ℕ × ℤ). y.0 ∷ map (λ (e : List ℕ × ℤ). e.0) xs) e }
has_name (x ∷ xs) l n (inr h) = let k = has_name xs l n h in record { before = x.0 ∷ k.before; after = k.after; is = ap (λ z. x.0 ∷ z) k.is }

-- a label that is listed with a number has it
pub label_listed : (xs : List (List ℕ × ℤ)) (l : List ℕ) (n : ℤ) → AreDistinct (map (λ (e : List ℕ × ℤ). e.0) xs) → HasOne (λ (e : List ℕ × ℤ). e ≡ (l, n)) xs → listed xs l ≡ Some n
label_listed [] l n d h = absurd h
label_listed (x ∷ xs) l n d (inl e) =
    let same : same_text x.0 l ≡ true = ap (λ (y : List ℕ × ℤ). same_text y.0 l) e ∙ text_same l in
    ap (λ b. cond b (Some x.1) (listed xs l)) same ∙ ap (λ (y : List ℕ × ℤ). Some y.1) e
label_listed (x ∷ xs) l n d (inr h) = go (same_text x.0 l) refl (label_listed xs l n d.1 h)
  where
    go : (b : Bool) → same_text x.0 l ≡ b → listed xs l ≡ Some n → cond b (Some x.1) (listed xs l) ≡ Some n
    go true e ih = absurd (d.0 (subst (Has (map (λ (e : List ℕ × ℤ). e.0) xs)) (sym (same_text-is x.0 l e)) (has_name xs l n h)))
    go false e ih = ih

-- ---- containers

pub under_itself : (t : Table) (k : ℕ) → IsAtOrUnder t k k
unfolding chain_within
under_itself t k = record { before = chain_before (chain_within 15 t) (base_of t k); after = []; is = refl }

record IsContainerRow (t : Table) (k : ℕ) : Type 0 where
  row : TypeRow
  container : Container
  is : slice_get t k ≡ Some row
  kind_is : row.kind ≡ kind.Con container

container_row : (t : Table) (k : ℕ) → IsTrue (is_concrete t k) → IsContainerRow t k
container_row t k h = go (slice_get t k) refl (h)
  where
    by_kind : (row : TypeRow) (x : Kind) → row.kind ≡ x → slice_get t k ≡ Some row → concrete_in (container_by x) ≡ true → IsContainerRow t k
    by_kind row (kind.Int form spans) e is c = absurd cc
    by_kind row (kind.Enum form listing) e is c = absurd cc
    by_kind row (kind.Bool form) e is c = absurd cc
    by_kind row (kind.Str form) e is c = absurd cc
    by_kind row (kind.Bin n free) e is c = absurd cc
    by_kind row (kind.Arr item n) e is c = absurd cc
    by_kind row (kind.Con d) e is c = record { row = row; container = d; is = is; kind_is = e }

    go : (o : Option TypeRow) → slice_get t k ≡ o → concrete_in (container_in o) ≡ true → IsContainerRow t k
    go None e c = absurd cc
    go (Some row) e c = by_kind row row.kind refl e c

-- the default of a container is a value of that container
own_fields : (n : ℕ) (t : Table) (k : ℕ) → IsTrue (is_concrete t k) → (v : Plain) → DefaultsWithin n t k v → (f : List Plain) × (v ≡ fields k (plains_of f))
unfolding DefaultsWithin
own_fields zero t k c v h = absurd h
own_fields (suc n) t k c v h =
    let r = container_row t k c in
    let z : ◌≡◌ {A = Option TypeRow} (Some h.0) (Some r.row) = sym h.1 ∙ r.is in
    let same : h.0 ≡ r.row = cc in
    let d = subst (λ x. KindDefaults t (DefaultsWithin n t) k x v) r.kind_is (subst (λ (x : TypeRow). KindDefaults t (DefaultsWithin n t) k x.kind v) same h.2) in
    (d.1.0, d.1.2)

-- and is spelled as one
spelled_as_own : (n : ℕ) (t : Table) (id k : ℕ) (row : TypeRow) (c : Container) → slice_get t id ≡ Some row → row.kind ≡ kind.Con c → IsTrue (is_concrete t k) → (v : Plain) (b : Bits) → DefaultsWithin n t k v → SpellsWithin n canonical t id v b → SpellsWithin n canonical t k v b
unfolding SpellsWithin
spelled_as_own zero t id k row c is kind_is concrete v b d h = absurd h
spelled_as_own (suc n) t id k row c is kind_is concrete v b d h =
    let z : ◌≡◌ {A = Option TypeRow} (Some h.0) (Some row) = sym h.1 ∙ is in
    let same : h.0 ≡ row = cc in
    let y = subst (λ x. KindSpells canonical t (SpellsWithin n canonical t) id x v b) kind_is (subst (λ (x : TypeRow). KindSpells canonical t (SpellsWithin n canonical t) id x.kind v b) same h.2) in
    let own = own_fields (suc n) t k concrete v d in
    let q : fields y.0 y.1 ≡ fields k (plains_of own.0) = sym y.2 ∙ own.1 in
    let e : y.0 ≡ k = cc in
    let sp = y.3 in
    let r = container_row t k concrete in
    (r.row, r.is, subst (λ x. KindSpells canonical t (SpellsWithin n canonical t) k x v b) (sym r.kind_is) (y.0, y.1, y.2, record { concrete = sp.concrete; under = subst (λ x. IsAtOrUnder t k x) (sym e) (under_itself t k); end = sp.end; parts = sp.parts; values = sp.values; size = sp.size; constraints = sp.constraints; most_derived = sp.most_derived }))

module _ (t : Table) (n id : ℕ) (row : TypeRow) (c : Container) (is : slice_get t id ≡ Some row) (kind_is : row.kind ≡ kind.Con c) (s : List Span) where
  abbrev Asked_here : Plain → Type 0
  Asked_here v = AskedOf t (DefaultsWithin n t) id (kind.Con c) s v

  abbrev Numbers_here : ℤ → Type 0
  Numbers_here m = InDomainOf t id (kind.Con c) m × IsWithin s m

  least_to : (m : ℤ) → IsLeast (HasContainer t id s) m → IsLeast Numbers_here m
  least_to m l = least_as (HasContainer t id s) Numbers_here m (λ x h. ((h.0, h.1, h.2, h.3), h.4)) (λ x h. (h.0.0, h.0.1, h.0.2, h.0.3, h.1)) l

  -- the container with the least number
  record Own (k : ℕ) : Type 0 where
    concrete : IsTrue (is_concrete t k)
    under : IsAtOrUnder t id k

  own_at : (k : ℕ) → IsLeast (HasContainer t id s) (pos k) → Own k
  own_at k l = let h = l.has in let e : k ≡ h.0 = ap nat_abs h.1 in record { concrete = subst (λ x. IsTrue (is_concrete t x)) (sym e) h.2; under = subst (λ x. IsAtOrUnder t id x) (sym e) h.3 }

  pub own_nests : (k : ℕ) → Nests t n id → IsLeast (HasContainer t id s) (pos k) → Nests t n k
  own_nests k nests l = let o = own_at k l in record { known = there t k o.concrete; rank = has_low t n id k nests.rank o.under }

  pub own_built : (k old new : ℕ) (o : Option Plain) → IsLeast (HasContainer t id s) (pos k) → Built (DefaultsWithin n t k) (SpellsWithin n canonical t k) old new o → Built Asked_here (SpellsWithin n canonical t id) old new o
  own_built k old new o l h =
      let own = own_at k l in
      let from : (v : Plain) → Asked_here v → DefaultsWithin n t k v = λ v a. (let e : pos k ≡ a.0 = least_same Numbers_here (pos k) a.0 (least_to (pos k) l) a.1 in let f : k ≡ a.2.0 = ap nat_abs (e ∙ a.2.1) in subst (λ x. DefaultsWithin n t x v) (sym f) a.2.2) in
      built_as (DefaultsWithin n t k) Asked_here (SpellsWithin n canonical t k) (SpellsWithin n canonical t id) old new
      (λ v d. (pos k, least_to (pos k) l, (k, refl, d))) from (λ v b a r. spelled_as_own n t id k row c is kind_is own.concrete v b (from v a) r) o h

  pub own_none : (old : ℕ) → ((m : ℤ) → HasContainer t id s m → ⊥) → Built Asked_here (SpellsWithin n canonical t id) old old None
  own_none old none = λ v b a r. absurd (none a.0 (let h = a.1.has in (h.0.0, h.0.1, h.0.2, h.0.3, h.1)))
