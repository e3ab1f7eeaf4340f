-- Where no two containers overlap under the used types, each type that is reached from one is clear.
use Rattle.std.proofs.Common.{◌≡◌, ℕ, zero, suc, ◌+◌, List, [], ◌∷◌, ◌++◌, length, Option, Some, None, refl, sym, ap, subst, ◌∙◌, inl, inr}
use Rattle.std.specs.Prelude.{slice_get, IsSome, IsTrue, ◌⊎◌}
use Rattle.std.specs.List.{AllByRecursion}
use Rattle.std.proofs.lemmas.List.{append_assoc}
use Rattle.eds_base.specs.declared.ids.TypeId.{TypeId}
use Rattle.eds_bits.specs.Lists.{Has, HasOne}
use Rattle.eds_types.specs.declared.row.TypeRow.{TypeRow}
use Rattle.eds_types.specs.declared.row.Kind.{Kind}
use Rattle.eds_types.specs.declared.row.Kind.TheVariants as kind
use Rattle.eds_types.specs.declared.row.Container.{Container}
use Rattle.eds_types.specs.declared.row.Part.{Part}
use Rattle.eds_types.specs.Fields.{type_by, IsAtOrUnder}
use Rattle.eds_types.specs.Overlap.{Reaches, ReachesByKind, IsClear}
use Rattle.eds_types.specs.Overlap.Reaches.{itself, step}
use Rattle.eds_types.specs.Rows.{Table, Placed, placed_from, entries_in, trailers_in, container_by, container_in, concrete_in, is_concrete, base_of, chain, chain_before, chain_within, own_parts, sequence}
use Rattle.eds_types.specs.Rules.{DerivesFrom, IsContainer, KeepsRules}
use Rattle.eds_types.specs.Sizes.{open_by, open_in, open_of}
use Rattle.eds_types.proofs.AllOf.{All-both}
use Rattle.eds_types.proofs.ChainLaws.{split_last}
use Rattle.eds_types.proofs.RuleFacts.{on_sequence}
use Rattle.eds_overlap.specs.Pairs.{Named}
use Rattle.eds_overlap.specs.Used.{NamesByKind, HasAllNamed, HasNoOverlap, UsedAreClear}

-- ---- containers are no open binaries

no_item : (x : ℕ) (before after : List ℕ) → [] ≡ before ++ x ∷ after → ⊥
no_item x [] after e = cc
no_item x (y ∷ before) after e = cc

in_front : (front : List ℕ) (k x : ℕ) → Has (front ++ k ∷ []) x → Has front x ⊎ (x ≡ k)
in_front front k x h = elim (split_last front k h.before x h.after h.is) [ inl q ↦ inr q.1 | inr q ↦ inl (record { before = h.before; after = q.0; is = q.2 }) ]

container_closed : (o : Option TypeRow) → IsSome (container_in o) → open_in o ≡ None
container_closed None h = absurd cc
container_closed (Some row) h = by_kind row.kind h
  where
    by_kind : (k : Kind) → IsSome (container_by k) → open_by k ≡ None
    by_kind (kind.Int form spans) h = refl
    by_kind (kind.Enum form listing) h = refl
    by_kind (kind.Bool form) h = refl
    by_kind (kind.Str form) h = refl
    by_kind (kind.Bin n free) h = absurd cc
    by_kind (kind.Arr item n) h = refl
    by_kind (kind.Con c) h = refl

concrete_some : (o : Option Container) → IsTrue (concrete_in o) → IsSome o
concrete_some None h = absurd cc
concrete_some (Some c) h = refl

base_kind : (k base : Kind) → IsSome (container_by k) → DerivesFrom k base → IsSome (container_by base)
base_kind (kind.Int form spans) base i d = absurd cc
base_kind (kind.Enum form listing) base i d = absurd cc
base_kind (kind.Bool form) base i d = absurd cc
base_kind (kind.Str form) base i d = absurd cc
base_kind (kind.Bin n free) base i d = absurd cc
base_kind (kind.Arr item n) base i d = absurd cc
base_kind (kind.Con c) (kind.Int form spans) i d = absurd d
base_kind (kind.Con c) (kind.Enum form listing) i d = absurd d
base_kind (kind.Con c) (kind.Bool form) i d = absurd d
base_kind (kind.Con c) (kind.Str form) i d = absurd d
base_kind (kind.Con c) (kind.Bin n free) i d = absurd d
base_kind (kind.Con c) (kind.Arr item n) i d = absurd d
base_kind (kind.Con c) (kind.Con base) i d = refl

module _ (t : Table) (keeps : KeepsRules t) where
  base_container : (k base : ℕ) → base_of t k ≡ Some base → IsContainer t k → IsContainer t base
  base_container k base e i = go (slice_get t k) refl i
    where
      go : (o : Option TypeRow) → slice_get t k ≡ o → IsSome (container_in o) → IsContainer t base
      go None r i = absurd cc
      go (Some row) r i = let h = keeps.bases k base row r e in subst (λ o. IsSome (container_in o)) (sym h.1) (base_kind row.kind (h.0).kind i h.2)

  -- the bases of a container are containers
  up_container : (n k x : ℕ) → Has (chain_within n t k) x → IsContainer t k → IsContainer t x
  unfolding chain_within
  up_container zero k x h i = absurd (no_item x h.before h.after h.is)
  up_container (suc n) k x h i = go (base_of t k) refl h (up_container n)
    where
      go : (o : Option ℕ) → base_of t k ≡ o → Has (chain_before (chain_within n t) o ++ k ∷ []) x → ((k x : ℕ) → Has (chain_within n t k) x → IsContainer t k → IsContainer t x) → IsContainer t x
      go None e h ih = elim (in_front [] k x h) [ inl q ↦ absurd (no_item x q.before q.after q.is) | inr q ↦ subst (IsContainer t) (sym q) i ]
      go (Some base) e h ih = elim (in_front (chain_within n t base) k x h) [ inl q ↦ ih base x q (base_container k base e i) | inr q ↦ subst (IsContainer t) (sym q) i ]

  -- a base of a concrete container's base is no open binary
  base_closed : (x k w z : ℕ) (more : List ℕ) → IsTrue (is_concrete t k) → chain t k ≡ chain t x ++ z ∷ more → IsAtOrUnder t w x → open_of t w ≡ None
  base_closed x k w z more c e h =
      let under : Has (chain t k) w = record { before = h.before; after = h.after ++ z ∷ more; is = e ∙ ap (λ xs. xs ++ z ∷ more) h.is ∙ append_assoc h.before (w ∷ h.after) (z ∷ more) } in
      container_closed (slice_get t w) (up_container 16 k w under (concrete_some (container_in (slice_get t k)) c))

-- ---- what is reached is used

module _ (t : Table) (used : List TypeId) (named : HasAllNamed t used) where
  abbrev IsUsed : ℕ → Type 0
  IsUsed id = open_of t id ≡ None → Named used id

  abbrev PartIsUsed : Placed → Type 0
  PartIsUsed p = (id : ℕ) → type_by (Some p.part) ≡ Some id → IsUsed id

  placed_used : (y i : ℕ) (ps : List Part) → ((id : ℕ) → HasOne (λ p. type_by (Some p) ≡ Some id) ps → IsUsed id) → AllByRecursion PartIsUsed (placed_from y i ps)
  placed_used y i [] h = tt
  placed_used y i (p ∷ ps) h = ((λ id e. h id (inl e)), placed_used y (i + 1) ps (λ id o. h id (inr o)))

  one_front : (Q : Part → Type 0) (ps qs : List Part) → HasOne Q ps → HasOne Q (ps ++ qs)
  one_front Q [] qs h = absurd h
  one_front Q (p ∷ ps) qs (inl h) = inl h
  one_front Q (p ∷ ps) qs (inr h) = inr (one_front Q ps qs h)

  one_back : (Q : Part → Type 0) (ps qs : List Part) → HasOne Q qs → HasOne Q (ps ++ qs)
  one_back Q [] qs h = h
  one_back Q (p ∷ ps) qs h = inr (one_back Q ps qs h)

  kind_parts : (y : ℕ) (k : Kind) → ((id : ℕ) → NamesByKind k id → IsUsed id) → AllByRecursion PartIsUsed (placed_from y 0 (entries_in (container_by k)) ++ placed_from y (length (entries_in (container_by k))) (trailers_in (container_by k)))
  kind_parts y (kind.Int form spans) f = tt
  kind_parts y (kind.Enum form listing) f = tt
  kind_parts y (kind.Bool form) f = tt
  kind_parts y (kind.Str form) f = tt
  kind_parts y (kind.Bin n free) f = tt
  kind_parts y (kind.Arr item n) f = tt
  kind_parts y (kind.Con c) f =
      All-both PartIsUsed (placed_from y 0 c.entries) (placed_from y (length c.entries) c.trailers)
      (placed_used y 0 c.entries (λ id h. f id (one_front (λ p. type_by (Some p) ≡ Some id) c.entries c.trailers h)))
      (placed_used y (length c.entries) c.trailers (λ id h. f id (one_back (λ p. type_by (Some p) ≡ Some id) c.entries c.trailers h)))

  own_used : (y : ℕ) → AllByRecursion PartIsUsed (own_parts t y)
  own_used y = go (slice_get t y) refl
    where
      go : (o : Option TypeRow) → slice_get t y ≡ o → AllByRecursion PartIsUsed (placed_from y 0 (entries_in (container_in o)) ++ placed_from y (length (entries_in (container_in o))) (trailers_in (container_in o)))
      go None e = tt
      go (Some row) e = kind_parts y row.kind (λ id h. named y id row e h)

  of_one : (y : ℕ) (ps : List Placed) → HasOne (λ p. type_by (Some p.part) ≡ Some y) ps → AllByRecursion PartIsUsed ps → IsUsed y
  of_one y [] h a = absurd h
  of_one y (p ∷ ps) (inl h) a = a.0 y h
  of_one y (p ∷ ps) (inr h) a = of_one y ps h a.1

  kind_used : (x y : ℕ) (k : Kind) → ((id : ℕ) → NamesByKind k id → IsUsed id) → ReachesByKind t x k y → IsUsed y
  kind_used x y (kind.Int form spans) f r = absurd r
  kind_used x y (kind.Enum form listing) f r = absurd r
  kind_used x y (kind.Bool form) f r = absurd r
  kind_used x y (kind.Str form) f r = absurd r
  kind_used x y (kind.Bin n free) f r = absurd r
  kind_used x y (kind.Arr item n) f r = f y r
  kind_used x y (kind.Con c) f r = of_one y (sequence t r.0) r.2 (on_sequence t PartIsUsed own_used r.0)

  reached_used : {x w : ℕ} → Reaches t x w → IsUsed x → IsUsed w
  reached_used itself u = u
  reached_used {x} {w} (step {y = y} row e r rest) u = reached_used rest (kind_used x y row.kind (λ id h. named x id row e h) r)

  joined : {x y z : ℕ} → Reaches t x y → Reaches t y z → Reaches t x z
  joined itself s = s
  joined (step row e r rest) s = step row e r (joined rest s)

  pub reached_clear : KeepsRules t → HasNoOverlap t used → (u id : ℕ) → Named used u → Reaches t u id → open_of t id ≡ None → IsClear t id
  reached_clear keeps apart u id is r closed = record {
    not_open = closed;
    apart = λ x k l o. apart x k l (record {
      first = o.first;
      second = o.second;
      one = o.one;
      other = o.other;
      differ = o.differ;
      to_first = o.to_first;
      to_second = o.to_second;
      used = (let w = o.used in (w.0, reached_used (joined r w.1) (λ _. is) (base_closed t keeps x k w.0 o.one (o.to_first).0 o.first (o.to_first).1 w.2), w.2));
      common = o.common;
    });
  }

pub used_are_clear : UsedAreClear
used_are_clear t used keeps named apart u id is r closed = reached_clear t used named keeps apart u id is r closed
