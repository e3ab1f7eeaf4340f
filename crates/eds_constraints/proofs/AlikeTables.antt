-- Tables that differ in the constraints of their containers alone: all else that the rules speak of is the same.
use Rattle.std.proofs.Common.{◌≡◌, ℕ, zero, suc, ◌+◌, ◌<◌, ◌≤◌, ℤ, pos, ◌≤ℤ◌, Bool, true, false, List, [], ◌∷◌, ◌++◌, length, filter, reverse, Option, Some, None, refl, sym, ap, subst, ◌∙◌}
use Rattle.std.specs.Prelude.{cond, option_map, slice_get, IsSome, IfSome, IsTrue}
use Rattle.std.specs.List.{AllByRecursion, flat_map, range_with_len}
use Rattle.eds_base.specs.declared.ids.TypeId.{TypeId}
use Rattle.eds_base.specs.declared.spans.Span.{Span}
use Rattle.eds_base.specs.Spans.{IsWithin}
use Rattle.eds_bits.specs.declared.forms.IntForm.{IntForm}
use Rattle.eds_bits.specs.Lists.{Has, HasOne}
use Rattle.eds_types.specs.declared.row.Constraint.{Constraint}
use Rattle.eds_types.specs.declared.row.Container.{Container}
use Rattle.eds_types.specs.declared.row.Kind.{Kind}
use Rattle.eds_types.specs.declared.row.Kind.TheVariants as kind
use Rattle.eds_types.specs.declared.row.Part.{Part}
use Rattle.eds_types.specs.declared.row.Part.TheVariants as part
use Rattle.eds_types.specs.declared.row.TypeRow.{TypeRow}
use Rattle.eds_types.specs.Domains.{InDomainOf, InDomainOfRow, InDomainOfType, InDomain}
use Rattle.eds_types.specs.Fields.{type_by, part_at, type_on, IsAtOrUnder, StartsInEntries}
use Rattle.eds_types.specs.Plain.{plain}
use Rattle.eds_types.specs.Rows.{Table, base_in, base_of, container_by, container_in, container_of, entries_in, entries_of, trailers_in, trailers_of, concrete_in, is_concrete, chain_before, chain_within, chain, list_has, numbers, derived, Placed, placed_from, placed_entries, placed_trailers, own_parts, sequence}
use Rattle.eds_types.specs.Rules.{IsContainer, HasKind, IsIntBy, IsInt, DerivesFrom, IsHollow, IsNested, ItemsNest, IsValueOf, IsCounted, HoldsCheck, TailKeeps, PartKeeps, is_length, Follows, ComparesWith, IsTypeSet, TargetKeeps}
use Rattle.eds_types.specs.Sizes.{open_by, open_in, open_of, kind_size, row_size, size_within, part_size, trailers_along}
use Rattle.eds_types.proofs.AllOf.{All-weaker}
use Rattle.eds_constraints.specs.ConstrainedRows.{kind_with, row_with}

-- a container, which gets constraints
abbrev pub container_with : List Constraint → Container → Container
container_with cs c = record { hidden = c.hidden; constraints = cs; entries = c.entries; trailers = c.trailers }

-- the rows of the second table are those of the first with some constraints
pub record Alike (t u : Table) : Type 0 where
  pub size : length t ≡ length u
  pub rows : (id : ℕ) → (cs : List Constraint) × (slice_get u id ≡ option_map (row_with cs) (slice_get t id))

-- ---- one row

base_kept : (cs : List Constraint) (o : Option TypeRow) → base_in (option_map (row_with cs) o) ≡ base_in o
base_kept cs None = refl
base_kept cs (Some row) = refl

container_by_kept : (cs : List Constraint) (k : Kind) → container_by (kind_with cs k) ≡ option_map (container_with cs) (container_by k)
container_by_kept cs (kind.Int form spans) = refl
container_by_kept cs (kind.Enum form listing) = refl
container_by_kept cs (kind.Bool form) = refl
container_by_kept cs (kind.Str form) = refl
container_by_kept cs (kind.Bin n free) = refl
container_by_kept cs (kind.Arr item n) = refl
container_by_kept cs (kind.Con c) = refl

container_kept : (cs : List Constraint) (o : Option TypeRow) → container_in (option_map (row_with cs) o) ≡ option_map (container_with cs) (container_in o)
container_kept cs None = refl
container_kept cs (Some row) = container_by_kept cs row.kind

entries_kept : (cs : List Constraint) (o : Option Container) → entries_in (option_map (container_with cs) o) ≡ entries_in o
entries_kept cs None = refl
entries_kept cs (Some c) = refl

trailers_kept : (cs : List Constraint) (o : Option Container) → trailers_in (option_map (container_with cs) o) ≡ trailers_in o
trailers_kept cs None = refl
trailers_kept cs (Some c) = refl

concrete_kept : (cs : List Constraint) (o : Option Container) → concrete_in (option_map (container_with cs) o) ≡ concrete_in o
concrete_kept cs None = refl
concrete_kept cs (Some c) = refl

there_kept : (cs : List Constraint) (o : Option Container) → IsSome o → IsSome (option_map (container_with cs) o)
there_kept cs None h = h
there_kept cs (Some c) h = refl

there_before : (cs : List Constraint) (o : Option Container) → IsSome (option_map (container_with cs) o) → IsSome o
there_before cs None h = h
there_before cs (Some c) h = refl

open_by_kept : (cs : List Constraint) (k : Kind) → open_by (kind_with cs k) ≡ open_by k
open_by_kept cs (kind.Int form spans) = refl
open_by_kept cs (kind.Enum form listing) = refl
open_by_kept cs (kind.Bool form) = refl
open_by_kept cs (kind.Str form) = refl
open_by_kept cs (kind.Bin n free) = refl
open_by_kept cs (kind.Arr item n) = refl
open_by_kept cs (kind.Con c) = refl

open_kept : (cs : List Constraint) (o : Option TypeRow) → open_in (option_map (row_with cs) o) ≡ open_in o
open_kept cs None = refl
open_kept cs (Some row) = open_by_kept cs row.kind

kind_size_kept : (f g : ℕ → Option ℕ) → ((id : ℕ) → f id ≡ g id) → (cs : List Constraint) (k : Kind) → kind_size f (kind_with cs k) ≡ kind_size g k
kind_size_kept f g h cs (kind.Int form spans) = refl
kind_size_kept f g h cs (kind.Enum form listing) = refl
kind_size_kept f g h cs (kind.Bool form) = refl
kind_size_kept f g h cs (kind.Str form) = refl
kind_size_kept f g h cs (kind.Bin n free) = refl
kind_size_kept f g h cs (kind.Arr item n) = ap (option_map _) (h item.0)
kind_size_kept f g h cs (kind.Con c) = refl

row_size_kept : (f g : ℕ → Option ℕ) → ((id : ℕ) → f id ≡ g id) → (cs : List Constraint) (o : Option TypeRow) → row_size f (option_map (row_with cs) o) ≡ row_size g o
row_size_kept f g h cs None = refl
row_size_kept f g h cs (Some row) = kind_size_kept f g h cs row.kind

-- what doesn't ask for the constraints of a container is kept
pub kind_kept : (P : Kind → Type 0) → ((c : Container) (cs : List Constraint) → P (kind.Con c) → P (kind.Con (container_with cs c))) → (cs : List Constraint) (k : Kind) → P k → P (kind_with cs k)
kind_kept P g cs (kind.Int form spans) h = h
kind_kept P g cs (kind.Enum form listing) h = h
kind_kept P g cs (kind.Bool form) h = h
kind_kept P g cs (kind.Str form) h = h
kind_kept P g cs (kind.Bin n free) h = h
kind_kept P g cs (kind.Arr item n) h = h
kind_kept P g cs (kind.Con c) h = g c cs h

pub derives_kept : (cs ds : List Constraint) (k b : Kind) → DerivesFrom k b → DerivesFrom (kind_with cs k) (kind_with ds b)
derives_kept cs ds (kind.Int form spans) b h = kind_kept (IsIntBy _) (λ c cs h. h) ds b h
derives_kept cs ds (kind.Enum form listing) b h = absurd h
derives_kept cs ds (kind.Bool form) b h = absurd h
derives_kept cs ds (kind.Str form) b h = absurd h
derives_kept cs ds (kind.Bin n free) b h = absurd h
derives_kept cs ds (kind.Arr item n) b h = absurd h
derives_kept cs ds (kind.Con c) (kind.Int form spans) h = absurd h
derives_kept cs ds (kind.Con c) (kind.Enum form listing) h = absurd h
derives_kept cs ds (kind.Con c) (kind.Bool form) h = absurd h
derives_kept cs ds (kind.Con c) (kind.Str form) h = absurd h
derives_kept cs ds (kind.Con c) (kind.Bin n free) h = absurd h
derives_kept cs ds (kind.Con c) (kind.Arr item n) h = absurd h
derives_kept cs ds (kind.Con c) (kind.Con d) h = tt

-- ---- lists

flat_same : {A : Type 0} (f g : ℕ → List A) → ((y : ℕ) → f y ≡ g y) → (ys : List ℕ) → flat_map f ys ≡ flat_map g ys
flat_same f g h [] = refl
flat_same f g h (y ∷ ys) = ap (λ xs. xs ++ flat_map f ys) (h y) ∙ ap (λ xs. g y ++ xs) (flat_same f g h ys)

filter_same : (p q : ℕ → Bool) → ((k : ℕ) → p k ≡ q k) → (ks : List ℕ) → filter p ks ≡ filter q ks
filter_same p q h [] = refl
filter_same p q h (k ∷ ks) = ap (λ b. cond b (k ∷ filter p ks) (filter p ks)) (h k) ∙ ap (λ xs. cond (q k) (k ∷ xs) xs) (filter_same p q h ks)

-- ---- what tables say

module _ (t u : Table) (a : Alike t u) where
  pub same_base : (id : ℕ) → base_of u id ≡ base_of t id
  same_base id = ap base_in (a.rows id).1 ∙ base_kept (a.rows id).0 (slice_get t id)

  containers : (id : ℕ) → container_of u id ≡ option_map (container_with (a.rows id).0) (container_of t id)
  containers id = ap container_in (a.rows id).1 ∙ container_kept (a.rows id).0 (slice_get t id)

  pub same_entries : (id : ℕ) → entries_of u id ≡ entries_of t id
  same_entries id = ap entries_in (containers id) ∙ entries_kept (a.rows id).0 (container_of t id)

  pub same_trailers : (id : ℕ) → trailers_of u id ≡ trailers_of t id
  same_trailers id = ap trailers_in (containers id) ∙ trailers_kept (a.rows id).0 (container_of t id)

  pub same_concrete : (id : ℕ) → is_concrete u id ≡ is_concrete t id
  same_concrete id = ap concrete_in (containers id) ∙ concrete_kept (a.rows id).0 (container_of t id)

  pub container_then : (id : ℕ) → IsContainer t id → IsContainer u id
  container_then id h = subst IsSome (sym (containers id)) (there_kept (a.rows id).0 (container_of t id) h)

  pub container_before : (id : ℕ) → IsContainer u id → IsContainer t id
  container_before id h = there_before (a.rows id).0 (container_of t id) (subst IsSome (containers id) h)

  before_same : (n : ℕ) (o : Option ℕ) → ((id : ℕ) → chain_within n u id ≡ chain_within n t id) → chain_before (chain_within n u) o ≡ chain_before (chain_within n t) o
  before_same n None h = refl
  before_same n (Some base) h = h base

  chain_within_same : (n id : ℕ) → chain_within n u id ≡ chain_within n t id
  unfolding chain_within
  chain_within_same zero id = refl
  chain_within_same (suc n) id = ap (λ o. chain_before (chain_within n u) o ++ id ∷ []) (same_base id) ∙ ap (λ c. c ++ id ∷ []) (before_same n (base_of t id) (chain_within_same n))

  pub same_chain : (id : ℕ) → chain u id ≡ chain t id
  same_chain id = chain_within_same 16 id

  pub under_then : (x k : ℕ) → IsAtOrUnder t x k → IsAtOrUnder u x k
  under_then x k h = subst (λ c. Has c x) (sym (same_chain k)) h

  pub under_before : (x k : ℕ) → IsAtOrUnder u x k → IsAtOrUnder t x k
  under_before x k h = subst (λ c. Has c x) (same_chain k) h

  pub same_derived : (id : ℕ) → derived u id ≡ derived t id
  same_derived id = ap (λ n. filter (λ k. list_has (chain u k) id) (range_with_len 0 n)) (sym a.size) ∙ filter_same (λ k. list_has (chain u k) id) (λ k. list_has (chain t k) id) (λ k. ap (λ c. list_has c id) (same_chain k)) (numbers t)

  pub same_placed_entries : (y : ℕ) → placed_entries u y ≡ placed_entries t y
  same_placed_entries y = ap (placed_from y 0) (same_entries y)

  pub same_placed_trailers : (y : ℕ) → placed_trailers u y ≡ placed_trailers t y
  same_placed_trailers y = ap (λ ps. placed_from y (length ps) (trailers_of u y)) (same_entries y) ∙ ap (placed_from y (length (entries_of t y))) (same_trailers y)

  pub same_own_parts : (y : ℕ) → own_parts u y ≡ own_parts t y
  same_own_parts y = ap (λ ps. ps ++ placed_trailers u y) (same_placed_entries y) ∙ ap (λ ps. placed_entries t y ++ ps) (same_placed_trailers y)

  entries_along_same : (k : ℕ) → flat_map (placed_entries u) (chain u k) ≡ flat_map (placed_entries t) (chain t k)
  entries_along_same k = ap (flat_map (placed_entries u)) (same_chain k) ∙ flat_same (placed_entries u) (placed_entries t) same_placed_entries (chain t k)

  trailers_along_same : (k : ℕ) → trailers_along u k ≡ trailers_along t k
  trailers_along_same k = ap (λ c. flat_map (placed_trailers u) (reverse c)) (same_chain k) ∙ flat_same (placed_trailers u) (placed_trailers t) same_placed_trailers (reverse (chain t k))

  pub same_sequence : (k : ℕ) → sequence u k ≡ sequence t k
  same_sequence k = ap (λ ps. ps ++ trailers_along u k) (entries_along_same k) ∙ ap (λ ps. flat_map (placed_entries t) (chain t k) ++ ps) (trailers_along_same k)

  pub same_open : (id : ℕ) → open_of u id ≡ open_of t id
  same_open id = ap open_in (a.rows id).1 ∙ open_kept (a.rows id).0 (slice_get t id)

  size_same : (n id : ℕ) → size_within n u id ≡ size_within n t id
  unfolding size_within
  size_same zero id = refl
  size_same (suc n) id = ap (row_size (size_within n u)) (a.rows id).1 ∙ row_size_kept (size_within n u) (size_within n t) (size_same n) (a.rows id).0 (slice_get t id)

  part_size_same : (p : Part) → part_size u p ≡ part_size t p
  part_size_same (part.Plain name id) = size_same 32 id.0
  part_size_same (part.Fixed name id v) = size_same 32 id.0
  part_size_same (part.Pad n) = refl
  part_size_same (part.List name id y i) = refl
  part_size_same (part.Length name id c0 c1) = size_same 32 id.0
  part_size_same (part.Check name id k) = size_same 32 id.0

  pub same_part : (p : TypeId × ℕ) → part_at u p ≡ part_at t p
  same_part p = ap (λ ps. slice_get (ps ++ trailers_of u (p.0).0) p.1) (same_entries (p.0).0) ∙ ap (λ ps. slice_get (entries_of t (p.0).0 ++ ps) p.1) (same_trailers (p.0).0)

  pub same_type_on : (path : List (TypeId × ℕ)) → type_on u path ≡ type_on t path
  same_type_on [] = refl
  same_type_on (p ∷ []) = ap type_by (same_part p)
  same_type_on (p ∷ q ∷ path) = same_type_on (q ∷ path)

  -- ---- rules

  pub has_kind : (P : Kind → Type 0) → ((cs : List Constraint) (k : Kind) → P k → P (kind_with cs k)) → (id : ℕ) → HasKind t id P → HasKind u id P
  has_kind P g id h = (row_with (a.rows id).0 h.0, (a.rows id).1 ∙ ap (option_map (row_with (a.rows id).0)) h.1, g (a.rows id).0 (h.0).kind h.2)

  int_then : (P : IntForm → List Span → Type 0) (id : ℕ) → IsInt t id P → IsInt u id P
  int_then P id h = has_kind (IsIntBy P) (kind_kept (IsIntBy P) (λ c cs h. h)) id h

  pub hollow_before : (id : ℕ) → IsHollow u id → IsHollow t id
  hollow_before id h = record {
    hollow = h.hollow;
    concrete = subst IsTrue (same_concrete h.hollow) h.concrete;
    under = under_before id h.hollow h.under;
    no_parts = sym (same_sequence h.hollow) ∙ h.no_parts;
    last = λ l c r. h.last l (subst IsTrue (sym (same_concrete l)) c) (under_then h.hollow l r);
  }

  pub nested_then : (rank : ℕ → ℕ) (id inner : ℕ) → IsNested t rank id inner → IsNested u rank id inner
  nested_then rank id inner h = (subst (λ n. inner < n) a.size h.0, h.1)

  pub items_then : (rank : ℕ → ℕ) (id : ℕ) (cs : List Constraint) (k : Kind) → ItemsNest t rank id k → ItemsNest u rank id (kind_with cs k)
  items_then rank id cs (kind.Int form spans) h = tt
  items_then rank id cs (kind.Enum form listing) h = tt
  items_then rank id cs (kind.Bool form) h = tt
  items_then rank id cs (kind.Str form) h = tt
  items_then rank id cs (kind.Bin n free) h = tt
  items_then rank id cs (kind.Arr item n) h = (nested_then rank id item.0 h.0, (λ e. h.1 (hollow_before item.0 e)), same_open item.0 ∙ h.2)
  items_then rank id cs (kind.Con c) h = tt

  counted_then : (p : Placed) (y i : ℕ) → IsCounted t p y i → IsCounted u p y i
  counted_then p y i h = record {
    name = h.name;
    id = h.id;
    before = rw (same_sequence p.container) h.before;
    counts = int_then (λ form spans. (n : ℤ) → IsWithin spans n → pos 0 ≤ℤ n) (h.id).0 h.counts;
  }

  tail_then : (p : Placed) → TailKeeps t p → TailKeeps u p
  tail_then p h = record {
    before = h.before;
    last = same_placed_entries p.container ∙ h.last;
    not_derived = λ k r. h.not_derived k (under_before p.container k r);
    told = subst (HasOne (λ (q : Placed). IsTrue (is_length q.part))) (sym (entries_along_same p.container)) h.told;
    sized = subst (AllByRecursion (λ (q : Placed). IsSome (part_size u q.part))) (sym (trailers_along_same p.container)) (All-weaker (λ (q : Placed). IsSome (part_size t q.part)) (λ (q : Placed). IsSome (part_size u q.part)) (λ q s. subst IsSome (sym (part_size_same q.part)) s) (trailers_along t p.container) h.sized);
  }

  open_then : (p : Placed) (o : Option ℕ) → IfSome o (λ n. TailKeeps t p) → IfSome o (λ n. TailKeeps u p)
  open_then p None h = tt
  open_then p (Some n) h = tail_then p h

  pub part_then : (p : Placed) (q : Part) → PartKeeps t p q → PartKeeps u p q
  part_then p (part.Plain name id) h = ((λ e. h.0 (hollow_before id.0 e)), subst (λ o. IfSome o (λ n. TailKeeps u p)) (sym (same_open id.0)) (open_then p (open_of t id.0) h.1))
  part_then p (part.Fixed name id v) h = (has_kind (λ k. IsValueOf k (plain v)) (kind_kept (λ k. IsValueOf k (plain v)) (λ c cs h. h)) id.0 h.0, same_open id.0 ∙ h.1)
  part_then p (part.Pad n) h = h
  part_then p (part.List name id y i) h = ((λ e. h.0 (hollow_before id.0 e)), same_open id.0 ∙ h.1, counted_then p y.0 i h.2)
  part_then p (part.Length name id c0 c1) h = (int_then (λ form spans. Unit {0}) id.0 h.0, h.1)
  part_then p (part.Check name id k) h = (int_then (HoldsCheck k) id.0 h.0, same_base id.0 ∙ h.1)

  -- ---- constraints

  pub starts_then : (x : ℕ) (path : List (TypeId × ℕ)) → StartsInEntries t x path → StartsInEntries u x path
  starts_then x [] h = h
  starts_then x (p ∷ path) h = (under_then (p.0).0 x h.0, subst (λ ps. p.1 < length ps) (sym (same_entries (p.0).0)) h.1)

  pub follows_then : (path : List (TypeId × ℕ)) → Follows t path → Follows u path
  follows_then [] h = h
  follows_then (p ∷ []) h = (h.0, h.1, same_part p ∙ h.2)
  follows_then (p ∷ q ∷ path) h = (h.0, h.1, same_part p ∙ h.2, container_then (h.1).0 h.3, under_then (q.0).0 (h.1).0 h.4, follows_then (q ∷ path) h.5)

  type_set_then : (target : ℕ) (set : List Span) → IsTypeSet t target set → IsTypeSet u target set
  type_set_then target set h = record {
    kept = h.kept;
    under = under_then target h.kept h.under;
    ids = λ n w. let p = h.ids n w in (p.0, p.1, subst IsTrue (sym (same_concrete p.0)) p.2, under_then h.kept p.0 p.3);
    all = λ k c r. h.all k (subst IsTrue (same_concrete k) c) (under_before h.kept k r);
  }

  pub target_then : (target : ℕ) (on_kind : Bool) (set : List Span) → TargetKeeps t target on_kind set → TargetKeeps u target on_kind set
  target_then target true set h = (container_then target h.0, type_set_then target set h.1)
  target_then target false set h = has_kind (λ k. ComparesWith k set) (kind_kept (λ k. ComparesWith k set) (λ c cs h. h)) target h

  domain_of_then : (id : ℕ) (n : ℤ) (cs : List Constraint) (k : Kind) → InDomainOf t id k n → InDomainOf u id (kind_with cs k) n
  domain_of_then id n cs (kind.Int form spans) h = h
  domain_of_then id n cs (kind.Enum form listing) h = h
  domain_of_then id n cs (kind.Bool form) h = h
  domain_of_then id n cs (kind.Str form) h = h
  domain_of_then id n cs (kind.Bin size free) h = h
  domain_of_then id n cs (kind.Arr item size) h = h
  domain_of_then id n cs (kind.Con c) h = (h.0, h.1, subst IsTrue (sym (same_concrete h.0)) h.2, under_then id h.0 h.3)

  domain_row_then : (id : ℕ) (n : ℤ) (cs : List Constraint) (o : Option TypeRow) → InDomainOfRow t id o n → InDomainOfRow u id (option_map (row_with cs) o) n
  domain_row_then id n cs None h = h
  domain_row_then id n cs (Some row) h = domain_of_then id n cs row.kind h

  domain_type_then : (n : ℤ) (o : Option ℕ) → InDomainOfType t o n → InDomainOfType u o n
  domain_type_then n None h = h
  domain_type_then n (Some id) h = subst (λ o. InDomainOfRow u id o n) (sym (a.rows id).1) (domain_row_then id n (a.rows id).0 (slice_get t id) h)

  pub domain_then : (path : List (TypeId × ℕ)) (n : ℤ) → InDomain t path n → InDomain u path n
  domain_then path n h = subst (λ o. InDomainOfType u o n) (sym (same_type_on path)) (domain_type_then n (type_on t path) h)
