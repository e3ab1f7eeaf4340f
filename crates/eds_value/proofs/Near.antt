-- The path of a wrong shape has at most two steps for each type that is nested: it fits.
use Rattle.std.proofs.Common.{◌≡◌, ℕ, zero, suc, ◌+◌, ◌-◌, ◌*◌, ◌<◌, ◌≤◌, List, [], ◌∷◌, length, Bool, true, false, if◌then◌else◌, Option, Some, None, Ok, Err, refl, subst, arith}
use Rattle.std.specs.Prelude.{slice_get}
use Rattle.std.specs.List.{AllByRecursion, cons_option}
use Rattle.serde_json.specs.Data.{Data, Items, no_items, item}
use Rattle.serde_json.specs.Find.{as_array, get}
use Rattle.eds_base.specs.Answering.{StopsAs, ◌>>=◌, or_stop}
use Rattle.eds_base.specs.declared.fail.Fail.{Fail}
use Rattle.eds_base.specs.declared.fail.Fail.TheVariants.{Named, Memory}
use Rattle.eds_base.specs.declared.fault.Step.{Step}
use Rattle.eds_base.specs.declared.fault.Step.TheVariants as step
use Rattle.eds_types.specs.declared.row.TypeRow.{TypeRow}
use Rattle.eds_types.specs.declared.row.Kind.{Kind}
use Rattle.eds_types.specs.declared.row.Kind.TheVariants as kind
use Rattle.eds_types.specs.declared.row.Part.{Part}
use Rattle.eds_types.specs.declared.row.Part.TheVariants as part
use Rattle.eds_types.specs.Plain.{Plain}
use Rattle.eds_types.specs.Rows.{Table, address, chain, list_has, Placed, sequence}
use Rattle.eds_types.specs.Rules.{KeepsRules}
use Rattle.eds_types.specs.Fields.{IsAtOrUnder, type_by}
use Rattle.eds_types.proofs.Tables.{IsTable, IsItemType}
use Rattle.eds_types.proofs.FieldTypes.{IsPlaced, sequence_placed}
use Rattle.eds_types.proofs.Ranks.{Lower, sequence_lower}
use Rattle.eds_types.proofs.ReadingTests.{has_from}
use Rattle.eds_types.proofs.RuleFacts.{table_of}
use Rattle.eds_value.specs.Entries.{Entry, entry_by, entries_along}
use Rattle.eds_value.specs.Stops.{IfNamed}
use Rattle.eds_value.specs.ValueOfJson.{Shaped, behind, behind_entry, container_for, entry_value, fields_in, value_found, items_by, items_from, items_in, member_value, member_values, or_inside, scalar_by, value_by, value_in_row, value_within}
use Rattle.eds_value.proofs.EntryValues.{entries_among, stands_as}

-- a path has at most so many steps
abbrev pub IsNear : {A : Type 0} → ℕ → Shaped A → Type 0
IsNear n (Ok x) = Unit {0}
IsNear n (Err path) = length path ≤ n

near_bind : {A B : Type 0} (n : ℕ) (r : Shaped A) (f : A → Shaped B) → IsNear n r → ((x : A) → IsNear n (f x)) → IsNear n (r >>= f)
near_bind n (Ok x) f h g = g x
near_bind n (Err path) f h g = h

near_more : {A : Type 0} (n m : ℕ) (r : Shaped A) → n ≤ m → IsNear n r → IsNear m r
near_more n m (Ok x) le h = tt
near_more n m (Err path) le h = omega arith

near_behind : {A : Type 0} (n : ℕ) (s : Step) (r : Shaped A) → IsNear n r → IsNear (n + 1) (behind s r)
near_behind n s (Ok x) h = tt
near_behind n s (Err path) h = omega arith

near_entry : {A : Type 0} (n : ℕ) (s : Option Step) (r : Shaped A) → IsNear n r → IsNear (n + 1) (behind_entry s r)
near_entry n None r h = near_more n (n + 1) r (omega arith) h
near_entry n (Some s) r h = near_behind n s r h

near_or : {A : Type 0} (n : ℕ) (o : Option A) → IsNear n (or_stop [] o)
near_or n None = omega arith
near_or n (Some x) = tt

module _ (t : Table) (inner : ℕ → Data → Shaped Plain) where
  items_near : (n id j : ℕ) (ds : Items) → ((d : Data) → IsNear n (inner id d)) → IsNear (n + 1) (items_from t inner id j ds)
  items_near n id j no_items h = tt
  items_near n id j (item d ds) h =
      near_bind (n + 1) (behind (step.Item j) (inner id d)) _ (near_behind n (step.Item j) (inner id d) (h d)) (λ v. near_bind (n + 1) (items_from t inner id (j + 1) ds) _ (items_near n id (j + 1) ds h) (λ vs. tt))

  array_near : (n id : ℕ) (o : Option Items) → ((d : Data) → IsNear n (inner id d)) → IsNear (n + 1) (items_by t inner id o)
  array_near n id None h = omega arith
  array_near n id (Some ds) h = near_bind (n + 1) (items_from t inner id 0 ds) _ (items_near n id 0 ds h) (λ vs. tt)

  list_near : (n id : ℕ) (b : Bool) (d : Data) → ((d : Data) → IsNear n (inner id d)) → IsNear (n + 1) (if b then items_in t inner id d else inner id d)
  list_near n id true d h = array_near n id (as_array d) h
  list_near n id false d h = near_more n (n + 1) (inner id d) (omega arith) (h d)

  pub entry_near : (n : ℕ) (e : Entry) (d : Data) → ((d : Data) → IsNear n (inner e.id d)) → IsNear (n + 1) (entry_value t inner e d)
  entry_near n e d h = list_near n e.id e.is_list d h

  by_member : (n : ℕ) (e : Entry) (o : Option Data) → ((d : Data) → IsNear n (inner e.id d)) → IsNear (n + 1) (value_found t inner e o)
  by_member n e None h = omega arith
  by_member n e (Some d) h = entry_near n e d h

  members_near : (n : ℕ) (d : Data) (es : List Entry) → AllByRecursion (λ (e : Entry). (d : Data) → IsNear n (inner e.id d)) es → IsNear (n + 1 + 1) (member_values t inner d es)
  members_near n d [] h = tt
  members_near n d (e ∷ es) h =
      near_bind (n + 1 + 1) (member_value t inner d e) _ (near_entry (n + 1) e.step _ (by_member n e (get e.name d) h.0)) (λ v. near_bind (n + 1 + 1) (member_values t inner d es) _ (members_near n d es h.1) (λ vs. tt))

-- ---- what is nested in a container

module _ (t : Table) (is : IsTable t) where
  abbrev Nested : ℕ → Entry → Type 0
  Nested top e = is.rank e.id < is.rank top

  one_nested : (top : ℕ) (p : Placed) (q : Part) (es : List Entry) → ((x : ℕ) → type_by (Some q) ≡ Some x → is.rank x < is.rank top) → AllByRecursion (Nested top) es → AllByRecursion (Nested top) (cons_option (entry_by (address p) (Some q)) es)
  one_nested top p (part.Plain name id) es h r = (h id.0 refl, r)
  one_nested top p (part.Fixed name id v) es h r = r
  one_nested top p (part.Pad n) es h r = r
  one_nested top p (part.List name id y i) es h r = (h id.0 refl, r)
  one_nested top p (part.Length name id c0 c1) es h r = r
  one_nested top p (part.Check name id k) es h r = r

  all_nested : (top : ℕ) (ps : List Placed) → AllByRecursion (IsPlaced t) ps → AllByRecursion (Lower t is top) ps → AllByRecursion (Nested top) (entries_among t ps)
  all_nested top [] pl h = tt
  all_nested top (p ∷ ps) pl h = rw (stands_as t p pl.0) (one_nested top p p.part (entries_among t ps) (λ x e. ((h.0).lower x e).0) (all_nested top ps pl.1 h.1))

  entries_nested : (top k : ℕ) → IsAtOrUnder t top k → AllByRecursion (Nested top) (entries_along t k)
  entries_nested top k under = all_nested top (sequence t k) (sequence_placed t k) (sequence_lower t is top k under)

  -- ---- any type

  abbrev AreNear : (ℕ → Data → Shaped Plain) → Type 0
  AreNear inner = (id : ℕ) (d : Data) → IsNear (2 * is.rank id) (inner id d)

  module _ (inner : ℕ → Data → Shaped Plain) (near : AreNear inner) where
    inner_near : (top : ℕ) (es : List Entry) → AllByRecursion (Nested top) es → AllByRecursion (λ (e : Entry). (d : Data) → IsNear (2 * is.rank top - 2) (inner e.id d)) es
    inner_near top [] h = tt
    inner_near top (e ∷ es) h = ((λ d. let lower = h.0 in near_more (2 * is.rank e.id) (2 * is.rank top - 2) (inner e.id d) (omega arith) (near e.id d)), inner_near top es h.1)

    values_near : (id k : ℕ) (d : Data) → IsAtOrUnder t id k → IsNear (2 * is.rank id) (member_values t inner d (entries_along t k))
    values_near id k d under = go (entries_along t k) (entries_nested id k under)
      where
        go : (es : List Entry) → AllByRecursion (Nested id) es → IsNear (2 * is.rank id) (member_values t inner d es)
        go [] h = tt
        go (e ∷ es) h = let lower = h.0 in near_more (2 * is.rank id - 2 + 1 + 1) (2 * is.rank id) (member_values t inner d (e ∷ es)) (omega arith) (members_near t inner (2 * is.rank id - 2) d (e ∷ es) (inner_near id (e ∷ es) h))

    inside_near : {A : Type 0} (n id k : ℕ) (b : Bool) (r : Shaped A) → list_has (chain t k) id ≡ b → (b ≡ true → IsNear n r) → IsNear n (or_inside t id k r)
    inside_near n id k b (Ok x) e h = tt
    inside_near n id k true (Err path) e h = rw e (h refl)
    inside_near n id k false (Err path) e h = rw e (omega arith)

    fields_near : (id : ℕ) (d : Data) → IsNear (2 * is.rank id) (fields_in t inner id d)
    unfolding fields_in
    fields_near id d =
        near_bind (2 * is.rank id) (or_stop [] (container_for t id d)) _ (near_or (2 * is.rank id) (container_for t id d)) (λ k.
        near_bind (2 * is.rank id) (or_inside t id k (member_values t inner d (entries_along t k))) _
        (inside_near (2 * is.rank id) id k (list_has (chain t k) id) (member_values t inner d (entries_along t k)) refl (λ e. values_near id k d (has_from (chain t k) id e)))
        (λ vs. tt))

    kind_near : (id : ℕ) (row : TypeRow) (k : Kind) (d : Data) → IsItemType t is.rank id k → IsNear (2 * is.rank id) (value_by t inner id k d)
    kind_near id row (kind.Int form spans) d h = near_or (2 * is.rank id) (scalar_by (kind.Int form spans) d)
    kind_near id row (kind.Enum form listing) d h = near_or (2 * is.rank id) (scalar_by (kind.Enum form listing) d)
    kind_near id row (kind.Bool form) d h = near_or (2 * is.rank id) (scalar_by (kind.Bool form) d)
    kind_near id row (kind.Str form) d h = near_or (2 * is.rank id) (scalar_by (kind.Str form) d)
    kind_near id row (kind.Bin n free) d h = near_or (2 * is.rank id) (scalar_by (kind.Bin n free) d)
    kind_near id row (kind.Arr y n) d h =
        let lower = h.0 in near_more (2 * is.rank y.0 + 1) (2 * is.rank id) (items_in t inner y.0 d) (omega arith) (array_near t inner (2 * is.rank y.0) y.0 (as_array d) (near y.0))
    kind_near id row (kind.Con c) d h = fields_near id d

    row_near : (id : ℕ) (o : Option TypeRow) (d : Data) → slice_get t id ≡ o → IsNear (2 * is.rank id) (value_in_row t inner id o d)
    row_near id None d e = omega arith
    row_near id (Some row) d e = kind_near id row row.kind d (is.items id row e)

  within_near : (n : ℕ) → AreNear (value_within n t)
  unfolding value_within
  within_near zero id d = omega arith
  within_near (suc n) id d = row_near (value_within n t) (within_near n) id (slice_get t id) d refl

-- ---- stops

stop_near : (n : ℕ) (r : Shaped Plain) (stop : Fail (List Step)) → n < 64 → IsNear n r → StopsAs stop r → IfNamed (λ path. length path < 64) stop
stop_near n r Memory lt h e = tt
stop_near n (Ok v) (Named path) lt h e = absurd cc
stop_near n (Err other) (Named path) lt h e = let same : other ≡ path = cc in subst (λ (p : List Step). length p < 64) same (omega arith)

-- what stops the reading of a value has room for one more step
pub value_stop : (t : Table) (n id : ℕ) (d : Data) (stop : Fail (List Step)) → KeepsRules t → StopsAs stop (value_within n t id d) → IfNamed (λ path. length path < 64) stop
value_stop t n id d stop rules h =
    let is = table_of t rules in
    let few = is.nested id in
    stop_near (2 * is.rank id) (value_within n t id d) stop (omega arith) (within_near t is n id d) h

-- and so has that of an entry
pub entry_stop : (t : Table) (n : ℕ) (e : Entry) (d : Data) (stop : Fail (List Step)) → KeepsRules t → StopsAs stop (entry_value t (value_within n t) e d) → IfNamed (λ path. length path < 64) stop
entry_stop t n e d stop rules h =
    let is = table_of t rules in
    let few = is.nested e.id in
    stop_near (2 * is.rank e.id + 1) (entry_value t (value_within n t) e d) stop (omega arith) (entry_near t (value_within n t) (2 * is.rank e.id) e d (within_near t is n e.id)) h
